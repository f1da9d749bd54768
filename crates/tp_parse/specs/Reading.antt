-- Reading as a function on lists of tokens: a term, its priority and the tokens behind it; or the
-- one stop, that is its cause and the tokens from it on.
use Rattle.std.specs.Prelude.{ℕ, zero, suc, ◌^◌, pos, Bool, true, false, nat_lt, nat_le, ◌&&◌}
use Rattle.std.specs.Prelude.{if◌then◌else◌, List, [], ◌∷◌, length, Option, Some, None, Result, Ok}
use Rattle.std.specs.Prelude.{Err, codes}
use Rattle.tp_terms.specs.Term.{Name}
use Rattle.tp_lex.specs.Tokens.{Lexed, is_end}
use Rattle.tp_lex.specs.declared.token.TokenKind.{TokenKind}
use Rattle.tp_lex.specs.declared.token.TokenKind.TheVariants as kind
use Rattle.tp_parse.specs.Tree.{Tree, Variable, Integer, Atom, Compound, Trees, none, first_of}
use Rattle.tp_parse.specs.Tree.{unary, binary, empty_list, list_cell, integers, minus}
use Rattle.tp_parse.specs.Table.{Op, Table, left_bound, right_bound}
use Rattle.tp_parse.specs.Ahead.{first_kind, after_first, opens_directly, is_integer_directly}
use Rattle.tp_parse.specs.Ahead.{first_value, is_minus, infix_ahead, is_atom_before}
use Rattle.tp_parse.specs.declared.fault.ReadCause.{ReadCause}
use Rattle.tp_parse.specs.declared.fault.ReadCause.TheVariants as cause

-- why reading stops, and the tokens from there on
abbrev pub Stop : Type 0
Stop = ReadCause × List Lexed

abbrev pub Read : Type 0 → Type 0
Read A = Result A Stop

-- a term, its priority and what is left
abbrev pub Term : Type 0
Term = Tree × ℕ × List Lexed

-- the reading of a term one level further in, by its bound
abbrev pub Inner : Type 0
Inner = ℕ → List Lexed → Read Term

infixl 10 ◌>>=◌
abbrev pub ◌>>=◌ : {A B : Type 0} → Read A → (A → Read B) → Read B
(Ok x) >>= f = f x
(Err e) >>= f = Err e

-- ---- closing tokens

abbrev pub closes_by : TokenKind → Option TokenKind → Bool
closes_by kind.Close (Some kind.Close) = true
closes_by kind.CloseList (Some kind.CloseList) = true
closes_by kind.CloseCurly (Some kind.CloseCurly) = true
closes_by closing k = false

-- what is behind the closing token that must stand there
unfoldable pub behind : TokenKind → List Lexed → Read (List Lexed)
behind closing ts =
    if closes_by closing (first_kind ts) then Ok (after_first ts) else Err (cause.Syntax, ts)

-- ---- parentheses, braces, arguments and lists, each from behind the token that opens them

unfoldable pub bracketed : Inner → List Lexed → Read Term
bracketed inner ts = inner 1200 ts >>= λ r. behind kind.Close r.2 >>= λ us. Ok (r.0, 0, us)

unfoldable pub braced : Inner → List Lexed → Read Term
braced inner ts =
    if closes_by kind.CloseCurly (first_kind ts) then Ok (Atom (codes "{}"), 0, after_first ts)
    else (inner 1200 ts >>= λ r.
    behind kind.CloseCurly r.2 >>= λ us. Ok (unary (codes "{}") r.0, 0, us))

abbrev pub after_arg : (List Lexed → Read (Trees × List Lexed)) → ℕ → Tree → List Lexed →
    Option TokenKind → Read (Trees × List Lexed)
after_arg more n t ts (Some kind.Close) = Ok (first_of t none, after_first ts)
after_arg more zero t ts (Some kind.Comma) = Err (cause.Arity, ts)
after_arg more (suc n) t ts (Some kind.Comma) =
    more (after_first ts) >>= λ r. Ok (first_of t r.0, r.1)
after_arg more n t ts k = Err (cause.Syntax, ts)

-- one or more arguments and the parenthesis that closes them, at most so many
unfoldable pub args : Inner → ℕ → List Lexed → Read (Trees × List Lexed)
args inner zero ts = Err (cause.Arity, ts)
args inner (suc n) ts = inner 999 ts >>= λ r. after_arg (args inner n) n r.0 r.2 (first_kind r.2)

-- the tail of a list and the bracket that closes it
abbrev pub tail : Inner → List Lexed → Read (Tree × List Lexed)
tail inner ts = inner 999 ts >>= λ r. behind kind.CloseList r.2 >>= λ us. Ok (r.0, us)

abbrev pub after_element : Inner → (List Lexed → Read (Tree × List Lexed)) → Tree → List Lexed →
    Option TokenKind → Read (Tree × List Lexed)
after_element inner more t ts (Some kind.CloseList) = Ok (list_cell t empty_list, after_first ts)
after_element inner more t ts (Some kind.Comma) =
    more (after_first ts) >>= λ r. Ok (list_cell t r.0, r.1)
after_element inner more t ts (Some kind.Bar) =
    tail inner (after_first ts) >>= λ r. Ok (list_cell t r.0, r.1)
after_element inner more t ts k = Err (cause.Syntax, ts)

-- one or more elements, a tail where a bar stands before it, and the bracket that closes them; each
-- element takes a token, so that the number of tokens bounds them
unfoldable pub elements : Inner → ℕ → List Lexed → Read (Tree × List Lexed)
elements inner zero ts = Err (cause.Syntax, ts)
elements inner (suc n) ts =
    inner 999 ts >>= λ r. after_element inner (elements inner n) r.0 r.2 (first_kind r.2)

unfoldable pub listed : Inner → List Lexed → Read Term
listed inner ts =
    if closes_by kind.CloseList (first_kind ts) then Ok (empty_list, 0, after_first ts)
    else (elements inner (length ts) ts >>= λ r. Ok (r.0, 0, r.1))

-- ---- what begins with a name, from behind it

abbrev pub prefixed_by : Table → Inner → ℕ → Name → List Lexed → Option Op → Read Term
prefixed_by ops inner p f ts None = Ok (Atom f, 0, ts)
prefixed_by ops inner p f ts (Some o) =
    if is_atom_before ops ts then Ok (Atom f, 0, ts)
    else (if nat_le o.0 p then (inner (right_bound o) ts >>= λ r. Ok (unary f r.0, o.0, r.2))
    else Err (cause.Syntax, ts))

-- an atom, or a prefix operator with its operand
unfoldable pub prefixed : Table → Inner → ℕ → Name → List Lexed → Read Term
prefixed ops inner p f ts = prefixed_by ops inner p f ts (ops.prefixes f)

-- a compound, a negative integer, or one of the former
unfoldable pub named : Table → Inner → ℕ → Lexed → List Lexed → Read Term
named ops inner p t ts =
    if opens_directly ts
    then (args inner 255 (after_first ts) >>= λ r. Ok (Compound t.name r.0, 0, r.1))
    else if is_minus t && is_integer_directly ts
    then Ok (Integer (minus (first_value ts)), 0, after_first ts)
    else prefixed ops inner p t.name ts

-- ---- the first part of a term

abbrev pub primary_by : Table → Inner → ℕ → Lexed → List Lexed → TokenKind → Read Term
primary_by ops inner p t ts kind.Integer =
    if nat_lt t.value (2 ^ 63) then Ok (Integer (pos t.value), 0, ts)
    else Err (cause.Number, t ∷ ts)
primary_by ops inner p t ts kind.Variable = Ok (Variable t.name, 0, ts)
primary_by ops inner p t ts kind.Codes = Ok (integers t.name, 0, ts)
primary_by ops inner p t ts kind.Open = bracketed inner ts
primary_by ops inner p t ts kind.OpenList = listed inner ts
primary_by ops inner p t ts kind.OpenCurly = braced inner ts
primary_by ops inner p t ts kind.Name = named ops inner p t ts
primary_by ops inner p t ts kind.Quoted = named ops inner p t ts
primary_by ops inner p t ts k = Err (cause.Syntax, t ∷ ts)

unfoldable pub primary : Table → Inner → ℕ → List Lexed → Read Term
primary ops inner p [] = Err (cause.Syntax, [])
primary ops inner p (t ∷ ts) = primary_by ops inner p t ts t.kind

-- ---- infix parts

-- whether an operator is taken behind a term of priority q
abbrev pub is_taken : Op → ℕ → ℕ → Bool
is_taken o p q = nat_le o.0 p && nat_le q (left_bound o)

abbrev pub infix_part : Inner → (Tree → ℕ → List Lexed → Read Term) → ℕ → Tree → ℕ → List Lexed →
    Option (Name × Op) → Read Term
infix_part inner more p t q ts None = Ok (t, q, ts)
infix_part inner more p t q ts (Some o) =
    if is_taken o.1 p q
    then (inner (right_bound o.1) (after_first ts) >>= λ r. more (binary o.0 t r.0) o.1.0 r.2)
    else Ok (t, q, ts)

-- the infix parts behind a term of priority q; each takes a token, so that the number of tokens
-- bounds them
unfoldable pub infix_parts : Table → Inner → ℕ → ℕ → Tree → ℕ → List Lexed → Read Term
infix_parts ops inner zero p t q ts = Ok (t, q, ts)
infix_parts ops inner (suc n) p t q ts =
    infix_part inner (infix_parts ops inner n p) p t q ts (infix_ahead ops ts)

-- ---- terms

-- a term too deep is to begin; where the tokens have ended, one is wanting all the same
abbrev pub too_deep : List Lexed → Read Term
too_deep [] = Err (cause.Syntax, [])
too_deep (t ∷ ts) = Err (cause.Depth, t ∷ ts)

-- A term with bound p that may have so many levels of depth: a primary, and then zero or more infix
-- parts.
unfoldable pub reading : Table → ℕ → Inner
reading ops zero p ts = too_deep ts
reading ops (suc m) p ts =
    primary ops (reading ops m) p ts >>= λ r.
    infix_parts ops (reading ops m) (length r.2) p r.0 r.1 r.2

-- the most levels of depth of a text
abbrev pub most_levels : ℕ
most_levels = 1000

-- nothing is left
abbrev pub finished : Tree → List Lexed → Read Tree
finished t [] = Ok t
finished t (u ∷ us) = Err (cause.Syntax, u ∷ us)

abbrev pub ends_clause : Tree → List Lexed → Read Tree
ends_clause t [] = Err (cause.Syntax, [])
ends_clause t (e ∷ ts) = if is_end e.kind then finished t ts else Err (cause.Syntax, e ∷ ts)

-- a clause: a term with bound 1200, then End, and nothing more
unfoldable pub clause_reading : Table → List Lexed → Read Tree
clause_reading ops ts = reading ops most_levels 1200 ts >>= λ r. ends_clause r.0 r.2

abbrev pub ends_goal : Tree → List Lexed → Read Tree
ends_goal t [] = Ok t
ends_goal t (e ∷ ts) = if is_end e.kind then finished t ts else Err (cause.Syntax, e ∷ ts)

-- a goal: a term with bound 1200, then an End or none, and nothing more
unfoldable pub goal_reading : Table → List Lexed → Read Tree
goal_reading ops ts = reading ops most_levels 1200 ts >>= λ r. ends_goal r.0 r.2

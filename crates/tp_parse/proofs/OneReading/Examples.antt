-- Lists of tokens and what is read of them, computed.
use Rattle.std.proofs.Common.{◌≡◌, ℕ, zero, suc, Bool, true, false, List, [], ◌∷◌, Ok, Err, refl, pos, negsuc, codes}
use Prim.Native.String.{String}
use Rattle.tp_lex.specs.Tokens.{Lexed}
use Rattle.tp_lex.specs.declared.token.TokenKind.{TokenKind}
use Rattle.tp_lex.specs.declared.token.TokenKind.TheVariants as kind
use Rattle.tp_parse.specs.Tree.{Tree, Integer, Atom, Compound, none, first_of, unary, binary}
use Rattle.tp_parse.specs.Table.{start_table}
use Rattle.tp_parse.specs.Ahead.{infix_ahead, is_atom_before}
use Rattle.tp_parse.specs.Reading.{Read, behind, bracketed, braced, args, elements, listed, prefixed, named, primary, infix_parts, reading, clause_reading, goal_reading}
use Rattle.tp_parse.specs.declared.fault.ReadCause.TheVariants as cause

-- ---- tokens; where nothing else is said, not directly after the one before

abbrev token : TokenKind → List ℕ → ℕ → Bool → Lexed
token k name value direct = record { kind = k; from = 0; to = 0; name = name; value = value; direct = direct }

abbrev name : String → Lexed
name s = token kind.Name (codes s) 0 false

abbrev quoted : String → Lexed
quoted s = token kind.Quoted (codes s) 0 false

abbrev variable : String → Lexed
variable s = token kind.Variable (codes s) 0 false

abbrev number : ℕ → Lexed
number n = token kind.Integer [] n false

-- directly after the token before
abbrev number_there : ℕ → Lexed
number_there n = token kind.Integer [] n true

abbrev mark : TokenKind → Lexed
mark k = token k [] 0 false

-- `(` directly after the token before
abbrev call : Lexed
call = token kind.Open [] 0 true

abbrev open_token : Lexed
open_token = mark kind.Open

abbrev close : Lexed
close = mark kind.Close

abbrev comma : Lexed
comma = mark kind.Comma

abbrev read_goal : List Lexed → Read Tree
read_goal ts = goal_reading start_table ts

abbrev atom : String → Tree
atom s = Atom (codes s)

abbrev op : String → Tree → Tree → Tree
op s x y = binary (codes s) x y

-- whatever unfolds this unfolds all that reading computes with
unfoldable computed : Unit {0}
unfolding start_table infix_ahead is_atom_before behind bracketed braced args elements listed prefixed named primary infix_parts reading clause_reading goal_reading
computed = tt

-- ---- minus

-- - 1
minus_and_one : read_goal (name "-" ∷ number 1 ∷ []) ≡ Ok (unary (codes "-") (Integer (pos 1)))
unfolding computed
minus_and_one = refl

-- -1
minus_one : read_goal (name "-" ∷ number_there 1 ∷ []) ≡ Ok (Integer (negsuc 0))
unfolding computed
minus_one = refl

-- 1 -1
one_minus_one : read_goal (number 1 ∷ name "-" ∷ number_there 1 ∷ []) ≡ Ok (op "-" (Integer (pos 1)) (Integer (pos 1)))
unfolding computed
one_minus_one = refl

-- 1 - -1
one_less_minus_one : read_goal (number 1 ∷ name "-" ∷ name "-" ∷ number_there 1 ∷ []) ≡ Ok (op "-" (Integer (pos 1)) (Integer (negsuc 0)))
unfolding computed
one_less_minus_one = refl

-- '-'1
quoted_minus : read_goal (quoted "-" ∷ number_there 1 ∷ []) ≡ Ok (unary (codes "-") (Integer (pos 1)))
unfolding computed
quoted_minus = refl

-- ---- operators as atoms

-- - = x
minus_equals : read_goal (name "-" ∷ name "=" ∷ name "x" ∷ []) ≡ Ok (op "=" (atom "-") (atom "x"))
unfolding computed
minus_equals = refl

-- f(- , a)
minus_as_argument : read_goal (name "f" ∷ call ∷ name "-" ∷ comma ∷ name "a" ∷ close ∷ []) ≡ Ok (Compound (codes "f") (first_of (atom "-") (first_of (atom "a") none)))
unfolding computed
minus_as_argument = refl

-- f(+)
plus_as_argument : read_goal (name "f" ∷ call ∷ name "+" ∷ close ∷ []) ≡ Ok (unary (codes "f") (atom "+"))
unfolding computed
plus_as_argument = refl

-- \+ (a,b)
not_both : read_goal (name "\\+" ∷ open_token ∷ name "a" ∷ comma ∷ name "b" ∷ close ∷ []) ≡ Ok (unary (codes "\\+") (op "," (atom "a") (atom "b")))
unfolding computed
not_both = refl

-- \+ at the end of a goal, and before its End
operator_at_end : read_goal (name "\\+" ∷ []) ≡ Err (cause.Syntax, [])
unfolding computed
operator_at_end = refl

operator_before_end : read_goal (name "\\+" ∷ mark kind.End ∷ []) ≡ Ok (atom "\\+")
unfolding computed
operator_before_end = refl

-- ---- priorities

-- a = b = c
two_equals : read_goal (name "a" ∷ name "=" ∷ name "b" ∷ name "=" ∷ name "c" ∷ []) ≡ Err (cause.Syntax, name "=" ∷ name "c" ∷ [])
unfolding computed
two_equals = refl

-- [:- a]
operator_above_element : read_goal (mark kind.OpenList ∷ name ":-" ∷ name "a" ∷ mark kind.CloseList ∷ []) ≡ Err (cause.Syntax, name "a" ∷ mark kind.CloseList ∷ [])
unfolding computed
operator_above_element = refl

-- X = \+ a
operator_above_operand : read_goal (variable "X" ∷ name "=" ∷ name "\\+" ∷ name "a" ∷ []) ≡ Err (cause.Syntax, name "a" ∷ [])
unfolding computed
operator_above_operand = refl

-- ---- brackets and ends

-- f(a,
arguments_cut_off : read_goal (name "f" ∷ call ∷ name "a" ∷ comma ∷ []) ≡ Err (cause.Syntax, [])
unfolding computed
arguments_cut_off = refl

-- [](a)
brackets_before_parenthesis : read_goal (mark kind.OpenList ∷ mark kind.CloseList ∷ call ∷ name "a" ∷ close ∷ []) ≡ Err (cause.Syntax, call ∷ name "a" ∷ close ∷ [])
unfolding computed
brackets_before_parenthesis = refl

-- [a|b,c]
comma_behind_tail : read_goal (mark kind.OpenList ∷ name "a" ∷ mark kind.Bar ∷ name "b" ∷ comma ∷ name "c" ∷ mark kind.CloseList ∷ []) ≡ Err (cause.Syntax, comma ∷ name "c" ∷ mark kind.CloseList ∷ [])
unfolding computed
comma_behind_tail = refl

-- a clause without its End
clause_cut_off : clause_reading start_table (name "a" ∷ []) ≡ Err (cause.Syntax, [])
unfolding computed
clause_cut_off = refl

-- ---- limits

-- the integer 9223372036854775808, and the negative one
too_large : read_goal (variable "X" ∷ name "=" ∷ number 9223372036854775808 ∷ []) ≡ Err (cause.Number, number 9223372036854775808 ∷ [])
unfolding computed
too_large = refl

least : read_goal (name "-" ∷ number_there 9223372036854775808 ∷ []) ≡ Ok (Integer (negsuc 9223372036854775807))
unfolding computed
least = refl

-- so many arguments and a closing parenthesis, behind others
more_arguments : ℕ → List Lexed
more_arguments zero = close ∷ []
more_arguments (suc n) = comma ∷ name "a" ∷ more_arguments n

-- so many tokens
repeated : ℕ → Lexed → List Lexed → List Lexed
repeated zero t ts = ts
repeated (suc n) t ts = t ∷ repeated n t ts

is_ok : Read Tree → Bool
is_ok (Ok t) = true
is_ok (Err e) = false

most_arguments : is_ok (read_goal (name "f" ∷ call ∷ name "a" ∷ more_arguments 254)) ≡ true
unfolding computed more_arguments is_ok
most_arguments = refl

too_many_arguments : read_goal (name "f" ∷ call ∷ name "a" ∷ more_arguments 255) ≡ Err (cause.Arity, comma ∷ name "a" ∷ close ∷ [])
unfolding computed more_arguments
too_many_arguments = refl

-- a term in 999 parentheses has depth 1,000
most_levels : is_ok (read_goal (repeated 999 open_token (name "a" ∷ repeated 999 close []))) ≡ true
unfolding computed repeated is_ok
most_levels = refl

too_many_levels : read_goal (repeated 1000 open_token (name "a" ∷ repeated 1000 close [])) ≡ Err (cause.Depth, name "a" ∷ repeated 1000 close [])
unfolding computed repeated
too_many_levels = refl

-- where the tokens have ended there is no depth
ended_too_deep : read_goal (repeated 1000 open_token []) ≡ Err (cause.Syntax, [])
unfolding computed repeated
ended_too_deep = refl

-- The model of a text: its clauses in order and the last table of operators, or the one refusal.
use Rattle.std.specs.Prelude.{ℕ, zero, suc, ◌+◌, List, [], ◌∷◌, Option, Some, None, Result, Ok, Err}
use Rattle.std.specs.Prelude.{codes, if◌then◌else◌}
use Rattle.std.specs.Str.{is_utf8}
use Rattle.std.specs.Str.Lossy.{utf8_valid_len}
use Rattle.tp_terms.specs.Term.{Name, Term, Terms, Var, Int, Atom, Comp, NoMore, More, names_eq}
use Rattle.tp_terms.specs.Term.{count_of}
use Rattle.tp_lex.specs.Next.{next}
use Rattle.tp_lex.specs.declared.token.Token.{Token}
use Rattle.tp_lex.specs.declared.token.LexFault.{LexFault}
use Rattle.tp_parse.specs.Table.{Table, start_table}
use Rattle.tp_parse.specs.Texts as read
use Rattle.tp_parse.specs.Texts.{Found, clause_of, refused_token}
use Rattle.tp_parse.specs.declared.fault.ReadCause.{ReadCause}
use Rattle.tp_parse.specs.declared.fault.ReadCause.TheVariants as reading
use Rattle.tp_meaning.specs.Body.{body}
use Rattle.tp_meaning.specs.Clauses.{Clause, Base}
use Rattle.tp_meaning.specs.Goals.{is_reserved}
use Rattle.tp_clauses.specs.Directives.{directive}
use Rattle.tp_clauses.specs.declared.fault.Cause.{Cause}
use Rattle.tp_clauses.specs.declared.fault.Cause.TheVariants as cause

-- the number of a read term, from 1, the byte and the cause
pub record Refusal : Type 0 where
  pub clause : ℕ
  pub byte : ℕ
  pub cause : Cause

abbrev pub refusal : ℕ → ℕ → Cause → Refusal
refusal clause byte cause = record { clause = clause; byte = byte; cause = cause }

abbrev pub cause_of : ReadCause → Cause
cause_of reading.Token = cause.Token
cause_of reading.Number = cause.Number
cause_of reading.Unfinished = cause.Unfinished
cause_of reading.Syntax = cause.Syntax
cause_of reading.Depth = cause.Depth
cause_of reading.Arity = cause.Arity

abbrev pub refused_read : ℕ → read.Refusal → Refusal
refused_read n r = refusal n r.0 (cause_of r.1)

pub record Model : Type 0 where
  pub clauses : Base
  pub table : Table

-- ---- clauses

abbrev pub headed : Name → Terms → ℕ → Option Term → Result Clause Cause
headed f ts vars b =
    if is_reserved f (count_of ts) then Err cause.Builtin
    else Ok (record { name = f; args = ts; body = b; vars = vars })

-- a clause with a head and a body, where it has one
abbrev pub with_head : Term → ℕ → Option Term → Result Clause Cause
with_head (Var v) vars b = Err cause.Head
with_head (Int z) vars b = Err cause.Head
with_head (Atom a) vars b = headed a NoMore vars b
with_head (Comp f ts) vars b = headed f ts vars b

-- a body is wanted
abbrev pub with_body : Option Term → Result Clause Cause → Result Clause Cause
with_body b (Err c) = Err c
with_body None (Ok c) = Err cause.Body
with_body (Some b) (Ok c) = Ok c

-- a rule by its head and what stands behind `:-`
abbrev pub rule : Term → Term → ℕ → Result Clause Cause
rule head b vars = with_body (body b) (with_head head vars (body b))

-- ---- read terms

-- what a read term is: a directive, with the table after it where it may be given, or a clause or
-- its refusal
pub data Kind : Type 0 where
  Directive : Option Table → Kind
  OfClause : Result Clause Cause → Kind

abbrev pub unary_kind : Table → Name → Term → ℕ → Kind
unary_kind ops f t vars =
    if names_eq f (codes ":-") then Directive (directive t ops)
    else if names_eq f (codes "?-") then Directive None
    else OfClause (with_head (Comp f (More t NoMore)) vars None)

abbrev pub binary_kind : Name → Term → Term → ℕ → Kind
binary_kind f t u vars =
    if names_eq f (codes ":-") then OfClause (rule t u vars)
    else if names_eq f (codes "-->") then OfClause (Err cause.Grammar)
    else OfClause (with_head (Comp f (More t (More u NoMore))) vars None)

abbrev pub kind_of : Table → Term → ℕ → Kind
kind_of ops (Comp f (More t NoMore)) vars = unary_kind ops f t vars
kind_of ops (Comp f (More t (More u NoMore))) vars = binary_kind f t u vars
kind_of ops t vars = OfClause (with_head t vars None)

-- ---- models

abbrev pub with_clause : Clause → Result Model Refusal → Result Model Refusal
with_clause c (Err r) = Err r
with_clause c (Ok m) = Ok (record { clauses = c ∷ m.clauses; table = m.table })

-- what follows a read term: the model of the text from a byte on, with a table
abbrev pub Rest : Type 0
Rest = Table → ℕ → Result Model Refusal

abbrev pub by_kind : Rest → ℕ → Table → Found → Kind → Result Model Refusal
by_kind rest n ops f (Directive None) = Err (refusal n f.from cause.Directive)
by_kind rest n ops f (Directive (Some after)) = rest after f.to
by_kind rest n ops f (OfClause (Err c)) = Err (refusal n f.from c)
by_kind rest n ops f (OfClause (Ok c)) = with_clause c (rest ops f.to)

abbrev pub by_read : Rest → ℕ → Table → Result (Option Found) read.Refusal → Result Model Refusal
by_read rest n ops (Err r) = Err (refused_read n r)
by_read rest n ops (Ok None) = Ok (record { clauses = []; table = ops })
by_read rest n ops (Ok (Some f)) = by_kind rest n ops f (kind_of ops f.term f.vars)

-- no further read term may come
abbrev pub by_token : ℕ → Table → Result (Option Token) LexFault → Result Model Refusal
by_token n ops (Err fault) = Err (refused_read n (refused_token fault))
by_token n ops (Ok None) = Ok (record { clauses = []; table = ops })
by_token n ops (Ok (Some token)) = Err (refusal n token.from cause.Many)

-- The model of the text from a byte on, of which so many read terms may come; the first of them has
-- the number n.
unfoldable pub model_from : ℕ → ℕ → List ℕ → Rest
model_from zero n text ops at = by_token n ops (next text at)
model_from (suc more) n text ops at =
    by_read (model_from more (n + 1) text) n ops (clause_of ops text at)

-- the most read terms of a model, directives counted
unfoldable pub most_terms : ℕ
most_terms = 1000000

abbrev pub refused_bytes : List ℕ → Refusal
refused_bytes bytes = refusal 0 (utf8_valid_len bytes) cause.Utf8

-- the model of a text, which must be UTF-8
unfoldable pub model : List ℕ → Result Model Refusal
model bytes =
    if is_utf8 bytes then model_from most_terms 1 bytes start_table 0
    else Err (refused_bytes bytes)

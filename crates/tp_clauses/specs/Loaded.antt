-- A base that was loaded, against the definition.
use Rattle.std.specs.Prelude.{◌≡◌, ℕ, ◌+◌, ◌≤◌, true, List, length, Some, IfSome, Result, Ok, Err}
use Rattle.std.specs.Result.{is_ok}
use Rattle.tp_terms.specs.Term.{Name}
use Rattle.tp_terms.specs.Shown.{AreNamed}
use Rattle.tp_lex.specs.Next.{next}
use Rattle.tp_parse.specs.Ops.{table_of}
use Rattle.tp_parse.specs.Table.{Table, start_table}
use Rattle.tp_parse.specs.Texts.{Found, clause_of}
use Rattle.tp_meaning.specs.Body.{body}
use Rattle.tp_meaning.specs.Clauses.{Clause}
use Rattle.tp_clauses.specs.Contents.{Contents, base_of}
use Rattle.tp_clauses.specs.Model.{Model, Refusal, Directive, OfClause, kind_of, most_terms}
use Rattle.tp_clauses.specs.declared.fault.LoadFault.{LoadFault}
use Rattle.tp_clauses.specs.declared.fault.LoadFault.TheVariants.{Refused, NoMemory}

-- the base has the model's clauses and its table, under a table of names
pub record Has (names : List Name) (c : Contents) (m : Model) : Type 0 where
  pub clauses : base_of names c ≡ m.clauses
  pub table : table_of c.ops ≡ m.table
  pub named : AreNamed (length names) c.cells

-- what `load` answers, where memory wasn't refused
abbrev pub Tells : List Name → Result Contents LoadFault → Result Model Refusal → Type 0
Tells names (Ok c) r = (m : Model) × (r ≡ Ok m) × Has names c m
Tells names (Err (Refused clause byte cause)) r =
    r ≡ Err (record { clause = clause; byte = byte; cause = cause })
Tells names (Err NoMemory) r = Unit {0}

-- how far the definition comes in a text: to a read term's number, with a table of operators, at a
-- byte
pub data Comes (text : List ℕ) : ℕ → Table → ℕ → Type 0 where
  Begin : Comes text 1 start_table 0
  PastDirective : (n : ℕ) (ops : Table) (at : ℕ) (f : Found) (changed : Table) →
      Comes text n ops at → clause_of ops text at ≡ Ok (Some f) →
      kind_of ops f.term f.vars ≡ Directive (Some changed) → Comes text (n + 1) changed f.to
  PastClause : (n : ℕ) (ops : Table) (at : ℕ) (f : Found) (c : Clause) →
      Comes text n ops at → clause_of ops text at ≡ Ok (Some f) →
      kind_of ops f.term f.vars ≡ OfClause (Ok c) → Comes text (n + 1) ops f.to

-- Memory may be wanted to load a text: the definition comes to a read term that may still come, and
-- isn't refused for the first token there.
pub record AsksMemory (text : List ℕ) : Type 0 where
  pub number : ℕ
  pub ops : Table
  pub at : ℕ
  pub comes : Comes text number ops at
  pub few : number ≤ most_terms
  pub token : is_ok (next text at) ≡ true

-- a clause's body is its own body
abbrev pub HasBody : Clause → Type 0
HasBody c = IfSome c.body (λ b. body b ≡ Some b)

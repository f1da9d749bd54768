-- What is read, against the definition.
use Rattle.std.specs.Prelude.{◌≡◌, ◌≢◌, ℕ, ◌<◌, ◌≤◌, true, List, map, length, slice_get, codes}
use Rattle.std.specs.Prelude.{Option, Some, None, Result, Ok, Err}
use Rattle.std.specs.Str.{IsCharBoundary}
use Rattle.tp_terms.specs.Term.{Name, Term, occurs}
use Rattle.tp_terms.specs.Shown.{shows, AreNamed}
use Rattle.tp_terms.specs.declared.text.Named.{Named}
use Rattle.tp_parse.specs.Numbers.{Numbers}
use Rattle.tp_parse.specs.Texts.{Found, Refusal}
use Rattle.tp_parse.specs.declared.fault.ReadFault.{ReadFault}
use Rattle.tp_parse.specs.declared.fault.ReadFault.TheVariants.{Refused, NoMemory}
use Rattle.tp_parse.specs.declared.read.ReadTerm.{ReadTerm}

abbrev pub named_of : Named → Name × ℕ
named_of n = (n.name, n.number)

-- the term that was read, under a table of names
abbrev pub term_read : List Name → ReadTerm → Term
term_read names t = shows names t.cells.items t.root.at

-- it is this one
pub record Tells (names : List Name) (t : ReadTerm) (f : Found) : Type 0 where
  pub term : term_read names t ≡ f.term
  pub root : t.root.at < length t.cells.items
  pub atoms : AreNamed (length names) t.cells.items
  pub named : map named_of t.named ≡ f.named
  pub vars : t.vars ≡ f.vars
  pub from : t.from ≡ f.from
  pub to : t.to ≡ f.to

-- what `read_clause` answers, where memory wasn't refused
abbrev pub TellsClause : List Name → Result (Option ReadTerm) ReadFault →
    Result (Option Found) Refusal → Type 0
TellsClause names (Ok None) r = r ≡ Ok None
TellsClause names (Ok (Some t)) r = (f : Found) × (r ≡ Ok (Some f)) × Tells names t f
TellsClause names (Err (Refused byte cause)) r = r ≡ Err (byte, cause)
TellsClause names (Err NoMemory) r = Unit {0}

-- what `read_goal` answers
abbrev pub TellsGoal : List Name → Result ReadTerm ReadFault → Result Found Refusal → Type 0
TellsGoal names (Ok t) r = (f : Found) × (r ≡ Ok f) × Tells names t f
TellsGoal names (Err (Refused byte cause)) r = r ≡ Err (byte, cause)
TellsGoal names (Err NoMemory) r = Unit {0}

-- ---- what holds of every term that was read

-- every number is below the count, no name stands twice, and `_` has none
pub record AreWithin (s : Numbers) : Type 0 where
  pub below : (i : ℕ) (n : Name × ℕ) → slice_get s.named i ≡ Some n → n.1 < s.vars
  pub distinct : (i j : ℕ) (n m : Name × ℕ) → slice_get s.named i ≡ Some n →
      slice_get s.named j ≡ Some m → n.0 ≡ m.0 → i ≡ j
  pub named : (i : ℕ) (n : Name × ℕ) → slice_get s.named i ≡ Some n → n.0 ≢ codes "_"

-- and every variable that occurs is below it
pub record IsNumbered (f : Found) : Type 0 where
  pub occurring : (v : ℕ) → occurs v f.term ≡ true → v < f.vars
  pub within : AreWithin (record { named = f.named; vars = f.vars })

-- the term stands behind a byte, and the text may be read on from its end
pub record IsPlaced (text : List ℕ) (at : ℕ) (f : Found) : Type 0 where
  pub begins : at ≤ f.from
  pub ends : f.from < f.to
  pub next_place : IsCharBoundary text f.to

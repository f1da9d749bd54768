-- Terms that were built at the end of a store.
use Rattle.std.specs.Prelude.{◌≡◌, ℕ, ◌+◌, List, length}
use Rattle.tp_terms.specs.Term.{Name, Term}
use Rattle.tp_terms.specs.Shown.{shows, AreNamed}
use Rattle.tp_store.specs.Contents.{Contents, IsStore, Keeps, AddsCells}

-- the last place of the new store shows the term, and what was there stays
pub record Built (names : List Name) (old new : Contents) (at : ℕ) (t : Term) : Type 0 where
  pub adds : AddsCells old new
  pub keeps : Keeps old new
  pub store : IsStore new
  pub named : AreNamed (length names) new.cells
  pub last : at + 1 ≡ length new.cells
  pub shown : shows names new.cells at ≡ t

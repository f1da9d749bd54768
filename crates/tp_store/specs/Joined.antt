-- Goals with further arguments.
use Rattle.std.specs.Prelude.{◌≡◌, ℕ, ◌+◌, ◌<◌, ◌≤◌, Bool, true, false, List, [], length}
use Rattle.tp_terms.specs.declared.cells.Cell.{Cell}
use Rattle.tp_terms.specs.declared.cells.Cell.TheVariants as cell
use Rattle.tp_terms.specs.declared.cells.Ref.{Ref}
use Rattle.tp_terms.specs.Shown.{shows, AreNamed}
use Rattle.tp_terms.specs.Term.{Name, Term, Atom, Comp, count_of, args_of, with_args}
use Rattle.tp_store.specs.declared.join.Parts.{Parts}
use Rattle.tp_store.specs.Contents.{Contents, AddsCells, seen, args_seen}

-- an atom or a compound
abbrev pub is_callable : Term → Bool
is_callable (Atom f) = true
is_callable (Comp f ts) = true
is_callable t = false

-- a place shows an atom or a compound; names are no matter here
abbrev pub IsCallable : Contents → Ref → Type 0
IsCallable c goal = is_callable (seen [] c goal.at) ≡ true

-- the arguments of what a place shows, and so many more, are 255 at most; names are no matter here
abbrev pub HasRoom : Contents → Ref → ℕ → Type 0
HasRoom c goal count = count_of (args_of (seen [] c goal.at)) + count ≤ 255

-- a place shows what the goal's place shows, with the terms of so many adjacent places as further
-- arguments behind its own
abbrev pub ShowsMore : Contents → Contents → Ref → Ref → ℕ → Ref → Type 0
ShowsMore old new goal first count at = (names : List Name) →
    seen names new at.at ≡ with_args (seen names old goal.at) (args_seen names old first.at count)

-- a table of names that has every atom of the old cells has every atom of the new ones
abbrev pub KeepsAtoms : Contents → Contents → Type 0
KeepsAtoms old new = (n : ℕ) → AreNamed n old.cells → AreNamed n new.cells

-- a cell of an atom or a compound
abbrev pub IsGoal : Cell → Type 0
IsGoal (cell.Var number) = ⊥
IsGoal (cell.Int value) = ⊥
IsGoal (cell.Atom name) = Unit {0}
IsGoal (cell.Comp name first count) = Unit {0}

-- the name and the arguments of an atom or a compound, by its place and its cell
abbrev pub AreParts : Ref → Cell → Parts → Type 0
AreParts place (cell.Var number) parts = ⊥
AreParts place (cell.Int value) parts = ⊥
AreParts place (cell.Atom name) parts =
    parts ≡ record { name = name; first = place; count = 0 }
AreParts place (cell.Comp name first count) parts =
    parts ≡ record { name = name; first = first; count = count }

-- so many adjacent places behind the old cells show what as many from a place on show
pub record AddsRow (old new : Contents) (first count : ℕ) : Type 0 where
  pub adds : AddsCells old new
  pub longer : length new.cells ≡ length old.cells + count
  pub same : (names : List Name) (k : ℕ) → k < count →
      shows names new.cells (length old.cells + k) ≡ shows names old.cells (first + k)
  pub named : KeepsAtoms old new

-- Terms that `=..` makes of the elements of a list.
use Rattle.std.specs.Prelude.{◌≡◌, ℕ, ◌+◌, ◌<◌, List, length, map, slice_index_or, Result, Ok, Err}
use Rattle.tp_terms.specs.declared.cells.Ref.{Ref}
use Rattle.tp_terms.specs.Term.{Name, Term, Comp, terms_of}
use Rattle.tp_terms.specs.Shown.{name_at}
use Rattle.tp_meaning.specs.Checks.{Checked, ◌>>=◌, ◌>>◌, bound, name_in, atomic, arity_fits}
use Rattle.tp_meaning.specs.Heap.{Heap, AddsCells, seen}
use Rattle.tp_build.specs.declared.errors.Fault.{Fault}
use Rattle.tp_build.specs.declared.parts.Head.{Head}
use Rattle.tp_build.specs.Errors.{IsFault}
use Rattle.tp_build.specs.Lists.{place_seen}

-- one further place, behind the others, shows the term of a place
pub record ShowsPlace (old new : Heap) (at : ℕ) : Type 0 where
  pub adds : AddsCells old new
  pub one : length new.cells ≡ length old.cells + 1
  pub same : seen new (length old.cells) ≡ seen old at

-- further places show the terms of the first so many places of a list
pub record ShowsRow (old new : Heap) (places : List Ref) (n : ℕ) : Type 0 where
  pub adds : AddsCells old new
  pub count : length new.cells ≡ length old.cells + n
  pub each : (j : ℕ) (d : Ref) → j < n →
      seen new (length old.cells + j) ≡ seen old (slice_index_or places j d).at

-- a place shows the compound of a name and the terms of places
pub record ShowsCompound (old new : Heap) (name : ℕ) (places : List Ref) (at : ℕ) : Type 0 where
  pub adds : AddsCells old new
  pub within : at < length new.cells
  pub compound :
      seen new at ≡ Comp (name_at old.names name) (terms_of (map (place_seen old) places))

-- the checks of an only element
abbrev pub one_checked : Term → Checked (Unit {0})
one_checked e = do
  bound e
  atomic e

-- the checks of a name and a number of arguments
abbrev pub head_checked : Term → ℕ → Checked Name
head_checked e count = do
  bound e
  f ← name_in e
  arity_fits count
  Ok f

-- the head of a compound, or why there is none
abbrev pub IsHead : Heap → ℕ → ℕ → Result Head Fault → Type 0
IsHead h at count (Ok head) =
    (head_checked (seen h at) count ≡ Ok (name_at h.names head.name.at))
    × (head.name.at < length h.names) × (head.count ≡ count)
IsHead h at count (Err f) = IsFault h (head_checked (seen h at) count) f

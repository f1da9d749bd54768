-- Terms in places, as the contracts of `Terms` see them.
use Rattle.std.specs.Prelude.{◌≡◌, ℕ, ◌+◌, ◌<◌, ◌^◌, Bool, List, [], ◌∷◌, ◌++◌, length, slice_get}
use Rattle.std.specs.Prelude.{Some, None, is_some, if◌then◌else◌}
use Rattle.tp_terms.specs.declared.cells.Cell.{Cell}
use Rattle.tp_terms.specs.declared.cells.Cell.TheVariants as cell
use Rattle.tp_terms.specs.Term.{Name, Term}
use Rattle.tp_terms.specs.Names.{IsTable, with_name}
use Rattle.tp_terms.specs.Shown.{shows, shown_from, StandsBefore, AreBuilt, IsNamed, AreNamed}
use Rattle.tp_meaning.specs.Subst.{Subst, IsSubst, apply, bound_to, mgu}
use Rattle.tp_meaning.specs.Copy.{copy_of}
use Rattle.tp_meaning.specs.Trail.{Trail, TrailGrows}

-- The cells by their places, what their variables stand for, the first variable number that is not
-- in use, the table of names, and how the variables were bound, with the log that takes this back.
pub record Heap : Type 0 where
  pub cells : List Cell
  pub subst : Subst
  pub next : ℕ
  pub names : List Name
  pub trail : Trail

-- the term of a place and that of a cell, bindings aside
abbrev pub shown : Heap → ℕ → Term
shown h at = shows h.names h.cells at

abbrev pub cell_shown : Heap → Cell → Term
cell_shown h c = shown_from h.names h.cells c

-- the term of a place and that of a cell, under the substitution
abbrev pub seen : Heap → ℕ → Term
seen h at = apply h.subst (shown h at)

abbrev pub cell_seen : Heap → Cell → Term
cell_seen h c = apply h.subst (cell_shown h c)

-- a variable's number is below this one
abbrev pub IsNumbered : ℕ → Cell → Type 0
IsNumbered next (cell.Var v) = v < next
IsNumbered next (cell.Int value) = Unit {0}
IsNumbered next (cell.Atom name) = Unit {0}
IsNumbered next (cell.Comp name first count) = Unit {0}

-- so is each variable's
abbrev pub AreNumbered : ℕ → List Cell → Type 0
AreNumbered next cells = (at v : ℕ) → slice_get cells at ≡ Some (cell.Var v) → v < next

-- the facts that hold of every heap
pub record IsHeap (h : Heap) : Type 0 where
  pub table : IsTable h.names
  pub built : AreBuilt h.cells
  pub named : AreNamed (length h.names) h.cells
  pub numbered : AreNumbered h.next h.cells
  pub subst : IsSubst h.subst

-- a cell that can be added: its arguments stand, its name is in the table, its variable in use
pub record CanStand (h : Heap) (c : Cell) : Type 0 where
  pub before : StandsBefore (length h.cells) c
  pub named : IsNamed (length h.names) c
  pub numbered : IsNumbered h.next c

-- no variable that is bound
abbrev pub IsUnbound : Subst → Cell → Type 0
IsUnbound s (cell.Var v) = bound_to s v ≡ None
IsUnbound s (cell.Int value) = Unit {0}
IsUnbound s (cell.Atom name) = Unit {0}
IsUnbound s (cell.Comp name first count) = Unit {0}

-- the places of a compound's arguments are numbers of 64 bits
abbrev pub HasPlaces : Cell → Type 0
HasPlaces (cell.Var v) = Unit {0}
HasPlaces (cell.Int value) = Unit {0}
HasPlaces (cell.Atom name) = Unit {0}
HasPlaces (cell.Comp name first count) = first.at + count < 2 ^ 64

-- the cell that a place shows once bindings are followed
pub record IsTop (h : Heap) (at : ℕ) (c : Cell) : Type 0 where
  pub same : cell_seen h c ≡ seen h at
  pub unbound : IsUnbound h.subst c
  pub stands : CanStand h c
  pub places : HasPlaces c

-- a further cell; a further cell with a new variable; one more name, where it is new
abbrev pub with_cell : Heap → Cell → Heap
with_cell h c = record h { cells = h.cells ++ c ∷ [] }

abbrev pub with_fresh : Heap → Heap
with_fresh h = record h { cells = h.cells ++ cell.Var h.next ∷ []; next = h.next + 1 }

abbrev pub with_name_too : Heap → Name → Heap
with_name_too h name = record h { names = with_name h.names name }

-- cells were added, and all else stays
pub record AddsCells (old new : Heap) : Type 0 where
  pub more : List Cell
  pub cells : new.cells ≡ old.cells ++ more
  pub subst : new.subst ≡ old.subst
  pub next : new.next ≡ old.next
  pub names : new.names ≡ old.names
  pub trail : new.trail ≡ old.trail

-- Only cells were added. The cell can be added to the new heap, and its term is this one.
pub record Makes (old new : Heap) (c : Cell) (t : Term) : Type 0 where
  pub adds : AddsCells old new
  pub stands : CanStand new c
  pub term : cell_shown new c ≡ t

-- Cells and bindings may have been added, and the bindings' entries to the log. All else stays.
pub record AddsBindings (old new : Heap) : Type 0 where
  pub more : List Cell
  pub cells : new.cells ≡ old.cells ++ more
  pub next : new.next ≡ old.next
  pub names : new.names ≡ old.names
  pub trail : TrailGrows old.trail new.trail

-- the terms of two places have the most general unifier that the new bindings are, or none
abbrev pub FindsUnifier : Heap → Heap → ℕ → ℕ → Bool → Type 0
FindsUnifier old new a b found =
    mgu old.subst (shown old a) (shown old b) ≡ (if found then Some new.subst else None)

-- whether the terms of two places have a unifier
abbrev pub IsUnifiable : Heap → ℕ → ℕ → Bool → Type 0
IsUnifiable h a b found = found ≡ is_some (mgu h.subst (shown h a) (shown h b))

-- A place of the new heap shows a copy of the term of an old place. Its variables are the next
-- ones, and are in use from now on.
pub record Copies (old new : Heap) (at place : ℕ) : Type 0 where
  pub more : List Cell
  pub cells : new.cells ≡ old.cells ++ more
  pub subst : new.subst ≡ old.subst
  pub next : new.next ≡ old.next + (copy_of old.next (seen old at)).1
  pub names : new.names ≡ old.names
  pub trail : new.trail ≡ old.trail
  pub within : place < length new.cells
  pub copy : seen new place ≡ (copy_of old.next (seen old at)).0

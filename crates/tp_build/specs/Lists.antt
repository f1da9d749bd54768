-- Lists, as goals walk and build them.
use Rattle.std.specs.Prelude.{◌≡◌, ℕ, ◌+◌, ◌<◌, ◌^◌, List, [], ◌∷◌, map, length, All, Ok, Err}
use Rattle.std.specs.Prelude.{codes, if◌then◌else◌}
use Rattle.tp_terms.specs.declared.cells.Ref.{Ref}
use Rattle.tp_terms.specs.declared.cells.Cell.{Cell}
use Rattle.tp_terms.specs.Term.{Term, Terms, Var, Atom, Comp, NoMore, More, names_eq, terms_in}
use Rattle.tp_terms.specs.Term.{list_term}
use Rattle.tp_terms.specs.Term as terms
use Rattle.tp_meaning.specs.Checks.{Checked, unbound, type_error}
use Rattle.tp_meaning.specs.Heap.{Heap, CanStand, AddsCells, seen, cell_seen}
use Rattle.tp_build.specs.declared.lists.End.{End}
use Rattle.tp_build.specs.declared.lists.End.TheVariants as end
use Rattle.tp_build.specs.declared.lists.Link.{Link}
use Rattle.tp_build.specs.declared.lists.Link.TheVariants as link
use Rattle.tp_build.specs.declared.lists.Walked.{Walked}

-- the elements at the front of a term, and how it ends behind them
abbrev pub front : Term → List Term
front (Comp f (More h (More t NoMore))) = if names_eq f (codes ".") then h ∷ front t else []
front t = []

abbrev pub ending : Term → End
ending (Comp f (More h (More t NoMore))) =
    if names_eq f (codes ".") then ending t else end.NoList
ending (Var v) = end.Open
ending (Atom a) = if names_eq a (codes "[]") then end.Closed else end.NoList
ending t = end.NoList

-- a list that ends so is to be one that ends in `[]`
abbrev pub closed_by : Term → End → Checked (Unit {0})
closed_by whole end.Closed = Ok tt
closed_by whole end.Open = Err unbound
closed_by whole end.NoList = Err (type_error "list" whole)

-- A place shows a list cell, whose element stands at this place and whose tail stands behind it; or
-- another term, and then a list ends so.
abbrev pub IsLink : Heap → ℕ → Link → Type 0
IsLink h at (link.Element first) =
    (first.at + 1 < length h.cells) × (first.at + 1 < 2 ^ 64)
    × (seen h at ≡ terms.cell (seen h first.at) (seen h (first.at + 1)))
IsLink h at (link.End e) = (front (seen h at) ≡ []) × (ending (seen h at) ≡ e)

abbrev pub place_seen : Heap → Ref → Term
place_seen h place = seen h place.at

-- each of the places is one of the heap
abbrev pub AreWithin : Heap → List Ref → Type 0
AreWithin h = All (λ place. place.at < length h.cells)

-- the places of a list's elements, and how it ends
pub record IsWalked (h : Heap) (list : ℕ) (w : Walked) : Type 0 where
  pub elements : map (place_seen h) w.elements.items ≡ front (seen h list)
  pub within : AreWithin h w.elements.items
  pub ends : ending (seen h list) ≡ w.end

-- Only cells were added. The cell can be added to the new heap, and this is its term under the
-- substitution.
pub record MakesSeen (old new : Heap) (c : Cell) (t : Term) : Type 0 where
  pub adds : AddsCells old new
  pub stands : CanStand new c
  pub term : cell_seen new c ≡ t

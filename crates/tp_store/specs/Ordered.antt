-- The standard order of what two places show: what is left to compare, and what that tells.
use Rattle.std.specs.Prelude.{◌≡◌, ℕ, ◌<◌, List, [], ◌∷◌, ◌++◌, reverse, Option, Some, None}
use Rattle.std.specs.declared.cmp.Ordering.{Ordering}
use Rattle.std.specs.declared.cmp.Ordering.TheVariants.{Equal}
use Rattle.std.specs.Ordering.{ordering_then, nat_cmp, int_cmp}
use Rattle.tp_terms.specs.declared.cells.Cell.{Cell}
use Rattle.tp_terms.specs.declared.cells.Cell.TheVariants as cell
use Rattle.tp_terms.specs.declared.cells.Ref.{Ref}
use Rattle.tp_terms.specs.Shown.{name_at}
use Rattle.tp_terms.specs.Term.{Name, term_size}
use Rattle.tp_meaning.specs.Order.{name_cmp, term_cmp}
use Rattle.tp_store.specs.declared.join.Parts.{Parts}
use Rattle.tp_store.specs.Contents.{Contents, seen, seen_cell}
use Rattle.tp_store.specs.Work.{ArePairsIn, pairs_size}

-- what two places show is in this order
abbrev pub IsOrder : List Name → Contents → Ref → Ref → Ordering → Type 0
IsOrder names c left right order =
    order ≡ term_cmp (seen names c left.at) (seen names c right.at)

-- the order of the terms of the first pair of places whose terms differ
abbrev pub pairs_cmp : List Name → Contents → List (Ref × Ref) → Ordering
pairs_cmp names c [] = Equal
pairs_cmp names c (p ∷ ps) =
    ordering_then (term_cmp (seen names c p.0.at) (seen names c p.1.at)) (pairs_cmp names c ps)

-- variables come before integers, these before atoms, and these before compounds
abbrev pub kind_of : Cell → ℕ
kind_of (cell.Var v) = 0
kind_of (cell.Int value) = 1
kind_of (cell.Atom name) = 2
kind_of (cell.Comp name first count) = 3

-- the order of two cells, but for compounds, which are in the same place here
abbrev pub cells_cmp : List Name → Cell → Cell → Ordering
cells_cmp names (cell.Var v) (cell.Var w) = nat_cmp v w
cells_cmp names (cell.Int m) (cell.Int n) = int_cmp m n
cells_cmp names (cell.Atom f) (cell.Atom g) = name_cmp (name_at names f.at) (name_at names g.at)
cells_cmp names x y = nat_cmp (kind_of x) (kind_of y)

-- the name and the arguments of a compound
abbrev pub compound_in : Cell → Option Parts
compound_in (cell.Var v) = None
compound_in (cell.Int value) = None
compound_in (cell.Atom name) = None
compound_in (cell.Comp name first count) =
    Some (record { name = name; first = first; count = count })

-- the order of two compounds by their numbers of arguments, and then by their names
abbrev pub heads_cmp : List Name → Parts → Parts → Ordering
heads_cmp names left right = ordering_then (nat_cmp left.count right.count)
    (name_cmp (name_at names left.name.at) (name_at names right.name.at))

-- the two cells are in this order, and where that is the same place, in that of further pairs
pub record Ranks (names : List Name) (c : Contents) (left right : Cell) (old new : List (Ref × Ref))
    (order : Ordering) : Type 0 where
  pub more : List (Ref × Ref)
  pub added : reverse new ≡ more ++ reverse old
  pub places : ArePairsIn c.cells more
  pub smaller : pairs_size c more < term_size (seen_cell [] c left)
  pub same : ordering_then order (pairs_cmp names c more)
      ≡ term_cmp (seen_cell names c left) (seen_cell names c right)

-- The term that each place of some cells shows, under a table of names.
use Rattle.std.specs.Prelude.{◌≡◌, ℕ, zero, suc, ◌+◌, ◌<◌, ◌≤◌, List, [], ◌∷◌, ◌++◌, Some}
use Rattle.std.specs.Prelude.{slice_get, slice_index_or}
use Rattle.tp_terms.specs.declared.cells.Cell.{Cell}
use Rattle.tp_terms.specs.declared.cells.Cell.TheVariants as cell
use Rattle.tp_terms.specs.Term.{Name, Term, Terms, Var, Int, Atom, Comp, NoMore, More}

-- the name at a place of a table, and past its end the empty name
abbrev pub name_at : List Name → ℕ → Name
name_at names at = slice_index_or names at []

-- so many of these terms, from a place on
abbrev pub row_at : List Term → ℕ → ℕ → Terms
row_at ts first zero = NoMore
row_at ts first (suc n) = More (slice_index_or ts first (Atom [])) (row_at ts (suc first) n)

-- the term that a cell shows behind these terms
abbrev pub shown_by : List Name → List Term → Cell → Term
shown_by names ts (cell.Var number) = Var number
shown_by names ts (cell.Int value) = Int value
shown_by names ts (cell.Atom name) = Atom (name_at names name.at)
shown_by names ts (cell.Comp name first count) =
    Comp (name_at names name.at) (row_at ts first.at count)

-- the terms of further cells, behind these terms
unfoldable pub terms_from : List Name → List Term → List Cell → List Term
terms_from names ts [] = ts
terms_from names ts (c ∷ cells) = terms_from names (ts ++ shown_by names ts c ∷ []) cells

-- the term of each place
abbrev pub terms : List Name → List Cell → List Term
terms names cells = terms_from names [] cells

-- the term of a place, and past the end an atom with the empty name
abbrev pub shows : List Name → List Cell → ℕ → Term
shows names cells at = slice_index_or (terms names cells) at (Atom [])

-- a compound has an argument, and all its arguments stand before this place
abbrev pub StandsBefore : ℕ → Cell → Type 0
StandsBefore at (cell.Var number) = Unit {0}
StandsBefore at (cell.Int value) = Unit {0}
StandsBefore at (cell.Atom name) = Unit {0}
StandsBefore at (cell.Comp name first count) = (0 < count) × (first.at + count ≤ at)

-- each cell's arguments stand before it
abbrev pub AreBuilt : List Cell → Type 0
AreBuilt cells = (at : ℕ) (c : Cell) → slice_get cells at ≡ Some c → StandsBefore at c

-- the terms of so many places
abbrev pub args_at : List Name → List Cell → ℕ → ℕ → Terms
args_at names cells first zero = NoMore
args_at names cells first (suc n) =
    More (shows names cells first) (args_at names cells (suc first) n)

-- the term of a cell, by what the places of its arguments show
abbrev pub shown_from : List Name → List Cell → Cell → Term
shown_from names cells (cell.Var number) = Var number
shown_from names cells (cell.Int value) = Int value
shown_from names cells (cell.Atom name) = Atom (name_at names name.at)
shown_from names cells (cell.Comp name first count) =
    Comp (name_at names name.at) (args_at names cells first.at count)

-- the cell's atom is one of so many names
abbrev pub IsNamed : ℕ → Cell → Type 0
IsNamed n (cell.Var number) = Unit {0}
IsNamed n (cell.Int value) = Unit {0}
IsNamed n (cell.Atom name) = name.at < n
IsNamed n (cell.Comp name first count) = name.at < n

-- every atom of these cells is one of so many names
abbrev pub AreNamed : ℕ → List Cell → Type 0
AreNamed n [] = Unit {0}
AreNamed n (c ∷ cells) = IsNamed n c × AreNamed n cells

-- Cells that show the trees that were made, their variables numbered.
use Rattle.std.specs.Prelude.{◌≡◌, ℕ, ◌-◌, ◌<◌, List, [], ◌∷◌, ◌++◌, length, take, drop}
use Rattle.tp_terms.specs.declared.cells.AtomId.{AtomId}
use Rattle.tp_terms.specs.declared.cells.Cell.{Cell}
use Rattle.tp_terms.specs.declared.cells.Cell.TheVariants.{Comp}
use Rattle.tp_terms.specs.Term.{Name, Terms, NoMore, More}
use Rattle.tp_terms.specs.Shown.{shows, shown_from, StandsBefore, AreNamed}
use Rattle.tp_parse.specs.Tree.{Tree, Trees, none, first_of}
use Rattle.tp_parse.specs.Numbers.{Numbers, no_numbers, numbered, all_numbered}
use Rattle.tp_parse.specs.declared.build.Making.{Making}

-- the terms of these cells, by what the places of their arguments show
abbrev pub shown_row : List Name → List Cell → List Cell → Terms
shown_row names cells [] = NoMore
shown_row names cells (c ∷ cs) = More (shown_from names cells c) (shown_row names cells cs)

-- the arguments of these cells stand before a place
abbrev pub AllBefore : ℕ → List Cell → Type 0
AllBefore n [] = Unit {0}
AllBefore n (c ∷ cs) = StandsBefore n c × AllBefore n cs

-- the trees that were made, in their order
abbrev pub upright : List Tree → Trees → Trees
upright [] more = more
upright (t ∷ made) more = upright made (first_of t more)

-- the last cells, not added yet, show the trees with their variables numbered
pub record IsMade (names : List Name) (m : Making) (made : List Tree) : Type 0 where
  pub shown :
      all_numbered (upright made none) no_numbers
      ≡ (shown_row names m.cells.items m.made.items, m.variables)
  pub counted : length m.made.items ≡ length made
  pub stands : AllBefore (length m.cells.items) m.made.items
  pub named : AreNamed (length names) m.cells.items
  pub last_named : AreNamed (length names) m.made.items

-- the place shows the tree with its variables numbered
pub record IsBuilt (names : List Name) (cells : List Cell) (root : ℕ) (numbers : Numbers)
    (tree : Tree) : Type 0 where
  pub term : numbered tree no_numbers ≡ (shows names cells root, numbers)
  pub within : root < length cells
  pub named : AreNamed (length names) cells

-- the last cells, so many, were added side by side, and a compound of them stands in their place
pub record IsGathered (name : AtomId) (count : ℕ) (old new : Making) : Type 0 where
  pub cells :
      new.cells.items ≡ old.cells.items ++ drop (length old.made.items - count) old.made.items
  pub made :
      new.made.items ≡ take (length old.made.items - count) old.made.items
      ++ Comp name (record { at = length old.cells.items }) count ∷ []
  pub variables : new.variables ≡ old.variables

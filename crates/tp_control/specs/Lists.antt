-- Lists of items that share their ends.
use Rattle.std.specs.Prelude.{◌≡◌, ℕ, ◌<◌, List, [], ◌∷◌, ◌++◌, Option, Some, None, slice_get}
use Rattle.std.specs.Prelude.{slice_index_or, IfSome}
use Rattle.tp_terms.specs.declared.world.ItemId.{ItemId}
use Rattle.tp_control.specs.declared.frames.Item.{Item}
use Rattle.tp_control.specs.declared.frames.Frame.{Frame}

-- the list of a place, where there is one
abbrev pub items_at : List (List Item) → Option ItemId → List Item
items_at ls None = []
items_at ls (Some i) = slice_index_or ls i.at []

-- the lists of further frames, behind these lists
unfoldable pub lists_from : List (List Item) → List Frame → List (List Item)
lists_from ls [] = ls
lists_from ls (f ∷ fs) = lists_from (ls ++ (f.item ∷ items_at ls f.next) ∷ []) fs

-- the list of each place
abbrev pub lists : List Frame → List (List Item)
lists fs = lists_from [] fs

-- what is behind an item stands before it
abbrev pub AreLinked : List Frame → Type 0
AreLinked fs = (at : ℕ) (f : Frame) → slice_get fs at ≡ Some f → IfSome f.next (λ i. i.at < at)

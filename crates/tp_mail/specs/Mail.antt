-- Boxes of messages, and what a change of one of them makes of all.
use Rattle.std.specs.Prelude.{◌≡◌, ℕ, zero, suc, ◌<◌, ◌≤◌, List, [], ◌∷◌, length, map, Some}
use Rattle.std.specs.Prelude.{slice_get, slice_index_or}
use Rattle.std.specs.List.{insert, remove}
use Rattle.std.specs.VecDeque.{deque_capacity}
use Rattle.std.specs.Global.{Global}
use Rattle.std.specs.declared.collections.VecDeque.{VecDeque}
use Rattle.tp_terms.specs.declared.cells.Ref.{Ref}

-- one list of messages for each process, the oldest first, and how many messages each has room for
pub record Mail : Type 0 where
  pub boxes : List (List Ref)
  pub rooms : List ℕ

-- the box of a process
abbrev pub box_of : List (List Ref) → ℕ → List Ref
box_of boxes pid = slice_index_or boxes pid []

-- how many messages the box of a process has room for
abbrev pub room_of : List ℕ → ℕ → ℕ
room_of rooms pid = slice_index_or rooms pid 0

-- the boxes with one of them changed
abbrev pub at_box : ℕ → (List Ref → List Ref) → List (List Ref) → List (List Ref)
at_box pid f [] = []
at_box zero f (b ∷ boxes) = f b ∷ boxes
at_box (suc pid) f (b ∷ boxes) = b ∷ at_box pid f boxes

-- two lists of one length, the first at each place at most the second
abbrev pub AllAtMost : List ℕ → List ℕ → Type 0
AllAtMost [] [] = Unit {0}
AllAtMost [] (y ∷ ys) = ⊥
AllAtMost (x ∷ xs) [] = ⊥
AllAtMost (x ∷ xs) (y ∷ ys) = (x ≤ y) × AllAtMost xs ys

-- a message taken out of a box, and that it can be put in again
pub record Receives (pid place : ℕ) (message : Ref) (old new : Mail) : Type 0 where
  pub stood : slice_get (box_of old.boxes pid) place ≡ Some message
  pub taken : new.boxes ≡ at_box pid (λ b. remove b place) old.boxes
  pub inverse : at_box pid (λ b. insert b place message) new.boxes ≡ old.boxes
  pub within : place ≤ length (box_of new.boxes pid)
  pub room : length (box_of new.boxes pid) < room_of new.rooms pid

-- what rings hold, and how many messages each has memory for
abbrev pub boxes_of : List (VecDeque Ref Global) → List (List Ref)
boxes_of = map (λ (d : VecDeque Ref Global). d.items)

abbrev pub rooms_of : List (VecDeque Ref Global) → List ℕ
rooms_of = map (λ (d : VecDeque Ref Global). deque_capacity d)

abbrev pub mail_of : List (VecDeque Ref Global) → Mail
mail_of l = record { boxes = boxes_of l; rooms = rooms_of l }

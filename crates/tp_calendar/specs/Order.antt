-- Entries of a calendar in order of time, then number.
use Rattle.std.specs.Prelude.{◌≡◌, ℕ, Bool, true, false, ◌&&◌, ◌||◌, nat_lt, nat_eq, int_lt}
use Rattle.std.specs.Prelude.{if◌then◌else◌, List, [], ◌∷◌}
use Rattle.std.specs.Ordering.{int_eq}
use Rattle.std.specs.List.{AllByRecursion}
use Rattle.tp_terms.specs.declared.world.Slot.{Slot}

-- the first entry comes before the second
abbrev pub goes_before : Slot → Slot → Bool
goes_before e f = int_lt e.time f.time || (int_eq e.time f.time && nat_lt e.number f.number)

-- two entries have one time and one number
abbrev pub is_beside : Slot → Slot → Bool
is_beside e f = int_eq e.time f.time && nat_eq e.number f.number

-- the entries with one more, at its place
abbrev pub put_slot : Slot → List Slot → List Slot
put_slot e [] = e ∷ []
put_slot e (f ∷ fs) = if goes_before e f then e ∷ f ∷ fs else f ∷ put_slot e fs

-- the entries without the one of this time and number
abbrev pub without_slot : Slot → List Slot → List Slot
without_slot e [] = []
without_slot e (f ∷ fs) = if is_beside e f then fs else f ∷ without_slot e fs

-- no entry has this time and this number
abbrev pub IsFree : Slot → List Slot → Type 0
IsFree e fs = AllByRecursion (λ (f : Slot). is_beside e f ≡ false) fs

-- each entry comes before those that stand behind it
abbrev pub IsOrdered : List Slot → Type 0
IsOrdered [] = Unit {0}
IsOrdered (e ∷ es) = AllByRecursion (λ (f : Slot). goes_before e f ≡ true) es × IsOrdered es

-- the entries of a calendar, in order, and how many it has memory for
pub record Contents : Type 0 where
  pub slots : List Slot
  pub room : ℕ

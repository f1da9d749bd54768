-- What a machine finds in all.
use Rattle.std.specs.Prelude.{ℕ, ◌-◌, Bool, true, false, List, [], ◌∷◌, length}
use Rattle.tp_meaning.specs.Search.{Searched, Outcome, followed_by, goes_on, each, try}
use Rattle.tp_meaning.specs.Machine.{Choice, Machine, closed}

-- one of two, by a test
abbrev pub either_of : {A : Type 0} → Bool → A → A → A
either_of b x y = elim b [ true ↦ x | false ↦ y ]

-- what is found once an outcome of one of a choice's worlds is known
abbrev pub with_rest : {W E : Type 0} → (W → ℕ → ℕ → Outcome W E) → ℕ → ℕ → Outcome W E →
    Choice W → Outcome W E
with_rest f n k r c =
    either_of (goes_on c.stamp r.how)
    (followed_by r (each f c.untried c.stamp (n - r.steps) (k - length r.answers))) r

-- what is found in the end, over all choices, the newest first
abbrev pub over : {W E : Type 0} → (W → ℕ → ℕ → Outcome W E) → ℕ → ℕ → Outcome W E →
    List (Choice W) → Outcome W E
over f n k r [] = r
over f n k r (c ∷ cs) = over f n k (with_rest f n k r c) cs

-- what a machine finds, from a world and its choices on
abbrev pub from_machine : {W E : Type 0} → Searched W E → W → List (Choice W) → ℕ → ℕ → Outcome W E
from_machine x w cs n k = closed (over (try x) n k (try x w n k) cs)

-- what was found so far, and what the machine finds with n more steps
abbrev pub total : {W E : Type 0} → Searched W E → Machine W E → ℕ → ℕ → Outcome W E
total x m n k =
    followed_by m.tally (from_machine x m.world m.choices n (k - length m.tally.answers))

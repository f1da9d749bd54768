-- The choices of a search that stand open, the oldest first.
use Rattle.std.specs.Prelude.{ℕ, ◌-◌, ◌<◌, Bool, nat_lt, List, [], ◌∷◌, length, Option, slice_get}
use Rattle.std.specs.List.{AllByRecursion}
use Rattle.tp_control.specs.declared.choices.Choice.{Choice}

-- the newest choice, where there is one
abbrev pub newest : List Choice → Option Choice
newest cs = slice_get cs (length cs - 1)

-- a choice was made before this stamp
abbrev pub is_before : ℕ → Choice → Bool
is_before stamp c = nat_lt c.stamp stamp

-- each choice has a higher stamp than those that are older
abbrev pub StampsRise : List Choice → Type 0
StampsRise [] = Unit {0}
StampsRise (c ∷ cs) = AllByRecursion (λ (d : Choice). c.stamp < d.stamp) cs × StampsRise cs

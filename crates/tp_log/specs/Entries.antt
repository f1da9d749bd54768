-- The entries of a log, from how it keeps them.
use Rattle.std.specs.Prelude.{ℕ, ◌+◌, List, [], ◌∷◌, ◌++◌, take, drop, map}
use Rattle.tp_log.specs.declared.log.Other.{Other}
use Rattle.tp_log.specs.declared.entry.Entry.{Entry}
use Rattle.tp_log.specs.declared.entry.Entry.TheVariants.{Bind}

-- bindings of these variables, and the other entries, each behind so many bindings since the other
-- one before it
abbrev pub entries : List ℕ → List Other → List Entry
entries numbers [] = map (λ (n : ℕ). Bind n) numbers
entries numbers (o ∷ others) =
    map (λ (n : ℕ). Bind n) (take o.bindings numbers)
    ++ o.entry ∷ entries (drop o.bindings numbers) others

-- how many bindings stand before the last of the other entries
abbrev pub bindings_before : List Other → ℕ
bindings_before [] = 0
bindings_before (o ∷ others) = o.bindings + bindings_before others

-- The bytes that a sink has taken.
use Rattle.std.specs.Prelude.{◌≡◌, ℕ, ◌≤◌, List, ◌++◌, length, take, Option}
use Rattle.std.specs.Option.{option_map}

-- what was taken, with more bytes
abbrev pub added : Option (List ℕ) → List ℕ → Option (List ℕ)
added taken bytes = option_map (λ t. t ++ bytes) taken

-- a prefix of these bytes was added
abbrev pub HasPrefix : Option (List ℕ) → Option (List ℕ) → List ℕ → Type 0
HasPrefix before now bytes = (n : ℕ) × (n ≤ length bytes) × (now ≡ added before (take n bytes))

-- A text that is read whole.
use Rattle.std.specs.Prelude.{◌≡◌, ℕ, ◌<◌, List, length, Option, Some, None, MatchOption}
use Rattle.tp_outside.specs.Files.{Files, held_under}

-- all the bytes that are held under a name
abbrev pub ReadsAll : Option Files → List ℕ → List ℕ → Type 0
ReadsAll None name bytes = Unit {0}
ReadsAll (Some files) name bytes = held_under files name ≡ Some bytes

-- where the files are told, more than so many bytes are held under a name
abbrev pub HoldsMore : Option Files → List ℕ → ℕ → Type 0
HoldsMore None name most = Unit {0}
HoldsMore (Some files) name most =
    MatchOption (held_under files name) ⊥ (λ bytes. most < length bytes)

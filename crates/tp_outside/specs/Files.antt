-- Bytes that are held under names, and what one read shows of them.
use Rattle.std.specs.Prelude.{◌≡◌, ℕ, ◌-◌, ◌≤◌, ◌↔◌, Bool, true, not, ◌&&◌, List, [], ◌∷◌, length}
use Rattle.std.specs.Prelude.{take, drop, Option, Some, None, if◌then◌else◌, MatchOption, IsSome}
use Rattle.std.specs.Str.{bytes_eq}
use Rattle.std.specs.List.{list_any}
use Rattle.tp_outside.specs.Count.{Rose}

-- files, each a name and its bytes
abbrev pub Files : Type 0
Files = List (List ℕ × List ℕ)

-- no name stands twice
abbrev pub has_distinct_names : Files → Bool
has_distinct_names [] = true
has_distinct_names (file ∷ files) =
    not (list_any (λ other. bytes_eq file.0 other.0) files) && has_distinct_names files

-- the bytes that are held under a name
abbrev pub held_under : Files → List ℕ → Option (List ℕ)
held_under [] name = None
held_under (file ∷ files) name = if bytes_eq file.0 name then Some file.1 else held_under files name

-- the first n bytes of the buffer are the n bytes from a place on, and n is 0 only at the end
pub record ShowsBytes (bytes : List ℕ) (at n : ℕ) (buffer : List ℕ) : Type 0 where
  pub shown : take n buffer ≡ take n (drop at bytes)
  pub within : n ≤ length bytes - at
  pub end : (n ≡ 0) ↔ (length bytes ≤ at)

-- what a read that gives n bytes shows; where the files are told, the name is held
abbrev pub ReadGives : Option Files → List ℕ → ℕ → ℕ → List ℕ → Type 0
ReadGives None name at n buffer = Unit {0}
ReadGives (Some files) name at n buffer =
    MatchOption (held_under files name) ⊥ (λ bytes. ShowsBytes bytes at n buffer)

-- a read fails only where the count of faults rose or, where the files are told, the name isn't
-- held; the latter leaves the count
abbrev pub ReadFails : Option Files → List ℕ → ℕ → ℕ → Type 0
ReadFails None name before now = Rose before now
ReadFails (Some files) name before now =
    MatchOption (held_under files name) (now ≡ before) (λ _. Rose before now)

-- the files are told, and the name is held
abbrev pub HoldsName : Option Files → List ℕ → Type 0
HoldsName None name = ⊥
HoldsName (Some files) name = IsSome (held_under files name)

-- Tables of names.
use Rattle.std.specs.Prelude.{◌≡◌, ◌≤◌, ◌^◌, ℕ, true, List, [], ◌∷◌, ◌++◌, Some, length, take, map}
use Rattle.std.specs.Prelude.{fold, slice_get, chars, if◌then◌else◌, string_bytes}
use Rattle.std.specs.List.{list_any}
use Rattle.std.specs.Str.{all_scalars}
use Rattle.std.specs.declared.alloc.Global.{Global}
use Rattle.std.specs.declared.string.String.{String}
use Rattle.tp_terms.specs.Term.{Name, names_eq}
use Rattle.tp_terms.specs.StartNames.{start_names}

-- the names of some texts
abbrev pub names_of : List (String Global) → List Name
names_of = map (λ text. chars (string_bytes text))

-- the table with this name in it: at its end where it wasn't there
abbrev pub with_name : List Name → Name → List Name
with_name names name = names ++ (if list_any (names_eq name) names then [] else name ∷ [])

-- the table with each of these names in it
abbrev pub with_names : List Name → List Name → List Name
with_names names more = fold with_name names more

-- no name stands at two places
abbrev pub AreDistinct : List Name → Type 0
AreDistinct names = (i j : ℕ) (name : Name) →
    slice_get names i ≡ Some name → slice_get names j ≡ Some name → i ≡ j

-- each name is made of characters
abbrev pub AreTexts : List Name → Type 0
AreTexts names = (at : ℕ) (name : Name) → slice_get names at ≡ Some name → all_scalars name ≡ true

-- a table of names: those of the start come first, no name is there twice, and each is made of
-- characters
pub record IsTable (names : List Name) : Type 0 where
  pub begins : take (length start_names) names ≡ start_names
  pub distinct : AreDistinct names
  pub texts : AreTexts names

-- the place of each of these names fits in an atom
abbrev pub HasFew : List (String Global) → Type 0
HasFew names = length names ≤ 2 ^ 32

-- a name is in the table, at this place
abbrev pub StandsAt : List Name → ℕ → Name → Type 0
StandsAt names at name = slice_get names at ≡ Some name

-- the new table is the old one with more names behind it
pub record Grows (old new : List Name) : Type 0 where
  pub more : List Name
  pub added : new ≡ old ++ more

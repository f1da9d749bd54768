-- What variables are bound to, as contracts see it, and as the code keeps it.
use Rattle.std.specs.Prelude.{ℕ, zero, suc, ◌-◌, ◌<◌, ◌≢◌, List, [], ◌∷◌, map, Option, Some, None}
use Rattle.std.specs.Prelude.{slice_index_or}
use Rattle.tp_terms.specs.declared.cells.Ref.{Ref}
use Rattle.tp_terms.specs.Binds.{Bindings}

-- what each variable is bound to, by its number; the bindings in their order, the newest last
pub record Table : Type 0 where
  pub bound : List (Option Ref)
  pub pairs : Bindings

-- the number of the binding at a place
abbrev pub number_at : Bindings → ℕ → ℕ
number_at pairs at = slice_index_or (map (λ (p : ℕ × Ref). p.0) pairs) at 0

-- the place of a link: that place counted from 1, or 0
abbrev pub place_of : ℕ → Option Ref
place_of zero = None
place_of (suc n) = Some (record { at = n })

-- a variable with its link
abbrev pub linked : ℕ → ℕ → ℕ × Ref
linked n link = (n, record { at = link - 1 })

-- the binding of a variable
abbrev pub binding_of : List ℕ → ℕ → ℕ × Ref
binding_of links n = linked n (slice_index_or links n 0)

-- what the links, and the numbers of the bound variables, stand for
abbrev pub table_of : List ℕ → List ℕ → Table
table_of links numbers = record {
  bound = map place_of links;
  pairs = map (binding_of links) numbers;
}

-- the number is none of these
abbrev pub IsApart : ℕ → List ℕ → Type 0
IsApart n [] = Unit {0}
IsApart n (m ∷ ms) = (m ≢ n) × IsApart n ms

-- each of the numbers has a link, and none stands twice
abbrev pub AreLinked : List ℕ → List ℕ → Type 0
AreLinked links [] = Unit {0}
AreLinked links (n ∷ ns) = (0 < slice_index_or links n 0) × IsApart n ns × AreLinked links ns

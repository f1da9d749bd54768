-- Places that are still to be looked at, and what a look at one tells.
use Rattle.std.specs.Prelude.{◌≡◌, ℕ, zero, suc, ◌+◌, ◌<◌, Bool, true, false, nat_eq, ◌||◌, List}
use Rattle.std.specs.Prelude.{[], ◌∷◌, ◌++◌, length, Option, Some, None, ◌≤◌, ◌↔◌}
use Rattle.std.specs.Ordering.{int_eq}
use Rattle.tp_terms.specs.declared.cells.Cell.{Cell}
use Rattle.tp_terms.specs.declared.cells.Cell.TheVariants as cell
use Rattle.tp_terms.specs.declared.cells.Ref.{Ref}
use Rattle.tp_terms.specs.Term.{Name, Term, Var, replaced, occurs, term_size}
use Rattle.tp_terms.specs.Shown.{shows, shown_from}
use Rattle.tp_terms.specs.Binds.{bound_in}
use Rattle.tp_meaning.specs.Subst.{Subst, apply, value_at, bound_to}
use Rattle.tp_store.specs.declared.pairs.Pair.{Pair}
use Rattle.tp_store.specs.declared.pairs.Pair.TheVariants.{Same, Clash, Bind}
pub use Rattle.tp_store.specs.Contents.{IsConstant}
use Rattle.tp_store.specs.Contents.{Contents, Names, subst_of, seen, seen_cell}
use Rattle.tp_store.specs.Chain.{IsEnd, rank}

-- so many adjacent places, and so many adjacent pairs of places
abbrev pub places_from : ℕ → ℕ → List Ref
places_from first zero = []
places_from first (suc n) = record { at = first } ∷ places_from (suc first) n

abbrev pub pairs_from : ℕ → ℕ → ℕ → List (Ref × Ref)
pairs_from left right zero = []
pairs_from left right (suc n) =
    (record { at = left }, record { at = right }) ∷ pairs_from (suc left) (suc right) n

-- all these are places
abbrev pub AreIn : List Cell → List Ref → Type 0
AreIn cells [] = Unit {0}
AreIn cells (r ∷ rs) = (r.at < length cells) × AreIn cells rs

abbrev pub ArePairsIn : List Cell → List (Ref × Ref) → Type 0
ArePairsIn cells [] = Unit {0}
ArePairsIn cells (p ∷ ps) = (p.0.at < length cells) × (p.1.at < length cells) × ArePairsIn cells ps

-- how much is left to look at; names are no matter here
abbrev pub places_size : Contents → List Ref → ℕ
places_size c [] = 0
places_size c (r ∷ rs) = term_size (seen [] c r.at) + places_size c rs

abbrev pub pairs_size : Contents → List (Ref × Ref) → ℕ
pairs_size c [] = 0
pairs_size c (p ∷ ps) = term_size (seen [] c p.0.at) + pairs_size c ps

-- whether the variable occurs in a term of these places
abbrev pub occurs_each : List Name → Contents → ℕ → List Ref → Bool
occurs_each names c v [] = false
occurs_each names c v (r ∷ rs) = occurs v (seen names c r.at) || occurs_each names c v rs

-- f is the substitution s and then f
pub record Extends (s : Subst) (f : ℕ → Term) : Type 0 where
  pub at : (v : ℕ) → f v ≡ replaced f (value_at s v)

-- f makes the two sides of each pair equal
abbrev pub Each : (ℕ → Term) → List Name → List Cell → List (Ref × Ref) → Type 0
Each f names cells [] = Unit {0}
Each f names cells (p ∷ ps) =
    (replaced f (shows names cells p.0.at) ≡ replaced f (shows names cells p.1.at)) ×
    Each f names cells ps

abbrev pub Equal : (ℕ → Term) → List Name → List Cell → Cell → Cell → Type 0
Equal f names cells x y =
    replaced f (shown_from names cells x) ≡ replaced f (shown_from names cells y)

-- whether two cells are the same integer or the same atom
abbrev pub constants_eq : Cell → Cell → Bool
constants_eq (cell.Int m) (cell.Int n) = int_eq m n
constants_eq (cell.Atom m) (cell.Atom n) = nat_eq m.at n.at
constants_eq _ _ = false

-- what stands in a cell stands in these further places
pub record Visits (c : Contents) (v : ℕ) (x : Cell) (old new : List Ref) : Type 0 where
  pub more : List Ref
  pub added : new ≡ old ++ more
  pub places : AreIn c.cells more
  pub smaller : places_size c more < term_size (seen_cell [] c x)
  pub same : (names : List Name) → occurs_each names c v more ≡ occurs v (seen_cell names c x)

abbrev pub VisitStep : Contents → ℕ → Cell → List Ref → List Ref → Bool → Type 0
VisitStep c v x old new true = (names : List Name) → occurs v (seen_cell names c x) ≡ true
VisitStep c v x old new false = Visits c v x old new

-- the two cells are made equal exactly by what makes these further pairs equal
pub record Becomes (c : Contents) (a b : Cell) (old new : List (Ref × Ref)) : Type 0 where
  pub more : List (Ref × Ref)
  pub added : new ≡ old ++ more
  pub places : ArePairsIn c.cells more
  pub smaller : pairs_size c more < term_size (seen_cell [] c a)
  pub same : (names : List Name) (f : ℕ → Term) →
      Equal f names c.cells a b ↔ Each f names c.cells more

-- an unbound variable, and the end of another chain, where a variable is older
pub record MayBind (c : Contents) (v : ℕ) (place : Ref) : Type 0 where
  pub claimed : v < c.vars
  pub unbound : bound_in c.pairs v ≡ None
  pub cell : Cell
  pub end : IsEnd c (record { place = place; cell = cell })
  pub older : rank cell < v + 1

-- the two cells are made equal exactly by what makes this variable and this place equal
pub record AsksFor (c : Contents) (a b : Cell) (v : ℕ) (place : Ref) : Type 0 where
  pub may : MayBind c v place
  pub same : (names : List Name) (f : ℕ → Term) →
      Equal f names c.cells a b ↔ (f v ≡ replaced f (shows names c.cells place.at))

-- what the comparison of two cells tells
abbrev pub CellStep : Contents → Cell → Cell → List (Ref × Ref) → List (Ref × Ref) → Pair → Type 0
CellStep c a b old new Same = Becomes c a b old new
CellStep c a b old new Clash = (new ≡ old) ×
    ((names : List Name) → Names names c.cells → (f : ℕ → Term) → Equal f names c.cells a b → ⊥)
CellStep c a b old new (Bind v place) = (new ≡ old) × AsksFor c a b v place

-- the pairs come down to this binding and further pairs
pub record Reduces (c : Contents) (old new : List (Ref × Ref)) (v : ℕ) (place : Ref) : Type 0 where
  pub may : MayBind c v place
  pub places : ArePairsIn c.cells new
  pub same : (names : List Name) (f : ℕ → Term) → Extends (subst_of names c) f →
      Each f names c.cells old ↔
      ((f v ≡ replaced f (shows names c.cells place.at)) × Each f names c.cells new)

-- what pairs come down to: nothing more, a clash, or a binding
abbrev pub WorkStep : Contents → List (Ref × Ref) → List (Ref × Ref) → Pair → Type 0
WorkStep c old new Same =
    (names : List Name) (f : ℕ → Term) → Extends (subst_of names c) f → Each f names c.cells old
WorkStep c old new Clash = (names : List Name) → Names names c.cells → (f : ℕ → Term) →
    Extends (subst_of names c) f → Each f names c.cells old → ⊥
WorkStep c old new (Bind v place) = Reduces c old new v place

-- no substitution over s makes the two terms equal
abbrev pub NoneSolves : Subst → Term → Term → Type 0
NoneSolves s a b = (f : ℕ → Term) → Extends s f → replaced f a ≡ replaced f b → ⊥

-- u solves the equation of a and b over s, every other solution is u and then itself, what s binds
-- is bound, and a class of unbound variables goes to its least number
pub record IsGeneral (s : Subst) (a b : Term) (u : Subst) : Type 0 where
  pub over : Extends s (value_at u)
  pub same : apply u a ≡ apply u b
  pub general : (f : ℕ → Term) → Extends s f → replaced f a ≡ replaced f b → Extends u f
  pub binds : (v : ℕ) → bound_to u v ≡ None → bound_to s v ≡ None
  pub least : (y v : ℕ) → bound_to s y ≡ None → value_at u y ≡ Var v → v ≤ y

-- how many variables are unbound
abbrev pub unbound_count : List (Option Ref) → ℕ
unbound_count [] = 0
unbound_count (None ∷ os) = unbound_count os + 1
unbound_count (Some place ∷ os) = unbound_count os

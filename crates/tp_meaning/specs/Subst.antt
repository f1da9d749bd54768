-- Substitutions, and the one that solves an equation.
use Rattle.std.specs.Prelude.{◌≡◌, ℕ, zero, suc, ◌+◌, ◌<◌, true, nat_eq, nat_lt, ◌&&◌}
use Rattle.std.specs.Prelude.{if◌then◌else◌, List, [], ◌∷◌, ◌++◌, map, Option, Some, None}
use Rattle.std.specs.List.{AllByRecursion}
use Rattle.tp_terms.specs.Term.{Term, Terms, Var, Int, Atom, Comp, More, replaced, occurs, term_eq}
use Rattle.tp_terms.specs.Term.{names_eq, term_size, count_of}

-- a finite map from variable numbers to terms, in order of the numbers
abbrev pub Subst : Type 0
Subst = List (ℕ × Term)

abbrev pub bound_to : Subst → ℕ → Option Term
bound_to [] v = None
bound_to (e ∷ es) v = if nat_eq e.0 v then Some e.1 else bound_to es v

abbrev pub value_at : Subst → ℕ → Term
value_at [] v = Var v
value_at (e ∷ es) v = if nat_eq e.0 v then e.1 else value_at es v

-- each variable of a term replaced once
abbrev pub apply : Subst → Term → Term
apply s = replaced (value_at s)

-- one variable replaced by a term
abbrev pub for_one : ℕ → Term → ℕ → Term
for_one v t w = if nat_eq v w then t else Var w

-- a new entry in its place
abbrev pub put : ℕ → Term → Subst → Subst
put v t [] = (v, t) ∷ []
put v t (e ∷ es) = if nat_lt v e.0 then (v, t) ∷ e ∷ es else e ∷ put v t es

-- a variable replaced in the whole map, and by one new entry
abbrev pub extended : Subst → ℕ → Term → Subst
extended s v t = put v t (map (λ e. (e.0, replaced (for_one v t) e.1)) s)

-- equations to solve
abbrev pub Equations : Type 0
Equations = List (Term × Term)

abbrev pub pairs_of : Terms → Terms → Equations
pairs_of (More t ts) (More u us) = (t, u) ∷ pairs_of ts us
pairs_of _ _ = []

abbrev pub size_under : Subst → Equations → ℕ
size_under s [] = 0
size_under s (e ∷ es) = term_size (apply s e.0) + size_under s es

-- how to go on after a variable is replaced
abbrev pub Next : Type 0
Next = Equations → Subst → Option Subst

abbrev pub bind : Next → ℕ → Term → Equations → Subst → Option Subst
bind next v t es s = if occurs v t then None else next es (extended s v t)

-- one equation whose sides are seen under the map
abbrev pub solve_pair : Next → Next → Term → Term → Equations → Subst → Option Subst
solve_pair same next (Var v) (Var w) es s =
    if nat_eq v w then same es s else if nat_lt v w then next es (extended s w (Var v))
    else next es (extended s v (Var w))
solve_pair same next (Var v) t es s = bind next v t es s
solve_pair same next t (Var w) es s = bind next w t es s
solve_pair same next (Int m) (Int n) es s = if term_eq (Int m) (Int n) then same es s else None
solve_pair same next (Atom a) (Atom b) es s = if names_eq a b then same es s else None
solve_pair same next (Comp f ts) (Comp g us) es s =
    if names_eq f g && nat_eq (count_of ts) (count_of us) then same (pairs_of ts us ++ es) s
    else None
solve_pair same next _ _ es s = None

-- The equations in order. Where no variable is replaced their size falls.
abbrev pub walk : Next → ℕ → Next
walk next z [] s = Some s
walk next zero (e ∷ es) s = None
walk next (suc z) (e ∷ es) s = solve_pair (walk next z) next (apply s e.0) (apply s e.1) es s

-- at most this many variables are replaced
abbrev pub rounds : ℕ → Next
rounds zero es s = walk (λ es' s'. None) (size_under s es) es s
rounds (suc n) es s = walk (rounds n) (size_under s es) es s

-- The equation of two terms solved under a map, where it can be.
unfoldable pub mgu : Subst → Term → Term → Option Subst
mgu s a b = rounds (term_size (apply s a) + term_size (apply s b)) ((a, b) ∷ []) s

-- each number once, in their order
abbrev pub IsSorted : Subst → Type 0
IsSorted [] = Unit {0}
IsSorted (e ∷ es) = AllByRecursion (λ f. e.0 < f.0) es × IsSorted es

-- no variable that is bound occurs in what a variable stands for
pub record Idem (s : Subst) : Type 0 where
  pub free : (x w : ℕ) → occurs w (value_at s x) ≡ true → bound_to s w ≡ None

-- a finite map, none of its own variables in its range
pub record IsSubst (s : Subst) : Type 0 where
  pub sorted : IsSorted s
  pub idem : Idem s

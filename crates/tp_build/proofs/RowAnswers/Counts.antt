-- How many arguments built-ins have in the table of goals.
use Rattle.std.proofs.Common.{◌≡◌, ℕ, ◌≤◌, nat_le, nat_eq, Bool, true, false, ◌&&◌, List, [], ◌∷◌, Some, refl, subst, arith, if◌then◌else◌}
use Rattle.std.specs.List.{list_all}
use Rattle.std.proofs.lemmas.Bool.{eqb-true}
use Rattle.std.proofs.lemmas.Bool.Decides.{nat_tests}
use Rattle.tp_terms.specs.Term.{Name, names_eq}
use Rattle.tp_meaning.specs.Goals.{GoalRow, goals, has_count, found_in, goal_kind}
use Rattle.tp_meaning.specs.declared.goals.GoalKind.{GoalKind}
use Rattle.tp_meaning.specs.declared.goals.GoalKind.TheVariants as kind
use Rattle.tp_meaning.specs.declared.goals.BuiltId.{BuiltId}
use Rattle.tp_build.specs.Families.{argument_count}

-- a row of a built-in has its number of arguments
abbrev fits : GoalKind → ℕ → ℕ → Bool
fits (kind.BuiltIn id) least most = nat_eq least (argument_count id) && nat_eq most (argument_count id)
fits k least most = true

both : (a b : Bool) → (a && b) ≡ true → (a ≡ true) × (b ≡ true)
both true b e = (refl, e)
both false b e = absurd (cc)

le-of : (a b : ℕ) → nat_le a b ≡ true → a ≤ b
le-of a b e = grind (arith, nat_tests)

count-found : (rs : List GoalRow) (f : Name) (n : ℕ) (id : BuiltId) → list_all (λ r. fits r.kind r.least r.most) rs ≡ true → found_in rs f n ≡ Some (kind.BuiltIn id) → argument_count id ≡ n
count-found [] f n id h e = absurd (cc)
count-found (r ∷ rs) f n id h e = go (names_eq f r.name) (has_count r n) refl e (count-found rs f n id (both _ _ h).1)
  where
    go : (b d : Bool) → has_count r n ≡ d → (if b && d then Some r.kind else found_in rs f n) ≡ Some (kind.BuiltIn id) → (found_in rs f n ≡ Some (kind.BuiltIn id) → argument_count id ≡ n) → argument_count id ≡ n
    go true true ed e' rest =
        let same : r.kind ≡ kind.BuiltIn id = cc in
        let row : fits (kind.BuiltIn id) r.least r.most ≡ true = subst (λ k. fits k r.least r.most ≡ true) same (both _ _ h).0 in
        let ends = both (nat_eq r.least (argument_count id)) (nat_eq r.most (argument_count id)) row in
        let least : r.least ≡ argument_count id = eqb-true r.least (argument_count id) ends.0 in
        let most : r.most ≡ argument_count id = eqb-true r.most (argument_count id) ends.1 in
        let low : r.least ≤ n = le-of r.least n (both (nat_le r.least n) (nat_le n r.most) ed).0 in
        let high : n ≤ r.most = le-of n r.most (both (nat_le r.least n) (nat_le n r.most) ed).1 in
        omega arith
    go true false ed e' rest = rest e'
    go false d ed e' rest = rest e'

all_rows : list_all (λ r. fits r.kind r.least r.most) goals ≡ true
unfolding goals
all_rows = refl

-- A goal that is a built-in has as many arguments as the built-in.
pub count-fits : (f : Name) (n : ℕ) (id : BuiltId) → goal_kind f n ≡ Some (kind.BuiltIn id) → argument_count id ≡ n
unfolding goal_kind
count-fits f n id e = count-found goals f n id all_rows e

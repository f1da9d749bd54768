-- How many arguments the goals of the language have at least.
use Rattle.std.proofs.Common.{◌≡◌, ℕ, ◌≤◌, nat_le, Bool, true, false, ◌&&◌, List, [], ◌∷◌, Some, refl, subst, arith, if◌then◌else◌}
use Rattle.std.specs.List.{list_all}
use Rattle.std.proofs.lemmas.Bool.Decides.{nat_tests}
use Rattle.tp_terms.specs.Term.{Name, names_eq}
use Rattle.tp_meaning.specs.Goals.{GoalKind, GoalRow, goals, has_count, found_in, goal_kind}
use Rattle.tp_meaning.specs.Goals as kind
use Rattle.tp_meaning.specs.declared.goals.ControlGoal.TheVariants as control
use Rattle.tp_meaning.specs.declared.goals.ProcessGoal.TheVariants as process

-- the fewest arguments that a step looks at
abbrev pub fewest : GoalKind → ℕ
fewest (kind.Control control.Conjunction) = 2
fewest (kind.Control control.Disjunction) = 2
fewest (kind.Control control.IfThen) = 2
fewest (kind.Control control.NotProvable) = 1
fewest (kind.Control control.Call) = 1
fewest (kind.Control control.Once) = 1
fewest (kind.Control control.Between) = 3
fewest (kind.Process process.New) = 4
fewest (kind.Process process.Send) = 2
fewest (kind.Process k) = 1
fewest k = 0

both : (a b : Bool) → (a && b) ≡ true → (a ≡ true) × (b ≡ true)
both true b e = (refl, e)
both false b e = absurd (cc)

le-of : (a b : ℕ) → nat_le a b ≡ true → a ≤ b
le-of a b e = grind (arith, nat_tests)

fewest-found : (rs : List GoalRow) (f : Name) (n : ℕ) (k : GoalKind) → list_all (λ r. nat_le (fewest r.kind) r.least) rs ≡ true → found_in rs f n ≡ Some k → fewest k ≤ n
fewest-found [] f n k h e = absurd (cc)
fewest-found (r ∷ rs) f n k h e = go (names_eq f r.name) (has_count r n) refl e (fewest-found rs f n k (both _ _ h).1)
  where
    go : (b d : Bool) → has_count r n ≡ d → (if b && d then Some r.kind else found_in rs f n) ≡ Some k → (found_in rs f n ≡ Some k → fewest k ≤ n) → fewest k ≤ n
    go true true ed e' rest =
        let same : r.kind ≡ k = cc in
        let least = le-of (fewest r.kind) r.least (both _ _ h).0 in
        let fits = le-of r.least n (both _ _ ed).0 in
        subst (λ x. fewest x ≤ n) same (omega arith)
    go true false ed e' rest = rest e'
    go false d ed e' rest = rest e'

all_rows : list_all (λ r. nat_le (fewest r.kind) r.least) goals ≡ true
unfolding goals
all_rows = refl

-- a goal of the language has as many arguments as a step looks at
pub fewest-fits : (f : Name) (n : ℕ) (k : GoalKind) → goal_kind f n ≡ Some k → fewest k ≤ n
unfolding goal_kind
fewest-fits f n k e = fewest-found goals f n k all_rows e

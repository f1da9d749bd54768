-- The search's own equations, without a bound on its depth.
use Rattle.std.specs.Prelude.{◌≡◌, ℕ, suc, ◌-◌, true, false, List, [], ◌∷◌, length, None}
use Rattle.tp_terms.specs.Term.{Term}
use Rattle.tp_meaning.specs.World.{World}
use Rattle.tp_meaning.specs.Search.{DeadCause, Searched, Success, Dead, Raise, Commit, Branch}
use Rattle.tp_meaning.specs.Search.{Fails, Raised, Budget, after, with_step, followed_by, dead_end}
use Rattle.tp_meaning.specs.Search.{answer, capped, goes_on, each, try}

-- The search of w with n steps left and k answers wanted, by what the step of w gives, and the
-- search of worlds in order, made by a Branch at stamp s.
pub record SearchRules {W E : Type 0} (x : Searched W E) : Type 0 where
  pub no_steps : (w : W) (k : ℕ) → try x w 0 k ≡ after 0 Budget
  pub success : (w : W) (n k : ℕ) → x.step w ≡ Success → try x w (suc n) k ≡ answer w k
  pub dead : (w : W) (n k : ℕ) (c : DeadCause) → x.step w ≡ Dead c → try x w (suc n) k ≡ dead_end c
  pub raise : (w : W) (n k : ℕ) (e : E) → x.step w ≡ Raise e →
      try x w (suc n) k ≡ after 1 (Raised e w)
  pub commit : (w : W) (n k c : ℕ) (v : W) → x.step w ≡ Commit c v →
      try x w (suc n) k ≡ capped c (with_step (try x v n k))
  pub branch : (w : W) (n k : ℕ) (v : W) (more : List W) → x.step w ≡ Branch v more →
      try x w (suc n) k ≡ with_step (each (try x) (v ∷ more) (x.stamp w) n k)
  pub each_empty : (s n k : ℕ) → each (try x) [] s n k ≡ after 0 (Fails None)
  pub each_ends : (v : W) (more : List W) (s n k : ℕ) → goes_on s (try x v n k).how ≡ false →
      each (try x) (v ∷ more) s n k ≡ try x v n k
  pub each_goes_on : (v : W) (more : List W) (s n k : ℕ) → goes_on s (try x v n k).how ≡ true →
      each (try x) (v ∷ more) s n k
      ≡ followed_by (try x v n k)
      (each (try x) more s (n - (try x v n k).steps) (k - length (try x v n k).answers))

-- the law of the search, over the worlds that are searched here
abbrev pub SearchHasItsRules : Type 0
SearchHasItsRules = (x : Searched World Term) → SearchRules x

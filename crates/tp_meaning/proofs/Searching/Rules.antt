-- The rules of the search, without its bound.
use Rattle.std.proofs.Common.{◌≡◌, ℕ, zero, suc, ◌-◌, ◌≤◌, true, false, List, [], ◌∷◌, length, refl, ap, ◌∙◌, arith}
use Rattle.tp_meaning.specs.Rules.{SearchRules}
use Rattle.tp_meaning.specs.Search.{Step, Searched, Success, Dead, Raise, Commit, Branch, Budget, Outcome, after, followed_by, with_step, capped, goes_on, each, goes, try_within, try}

-- searches that agree up to n steps agree on lists
each_same : {W E : Type 0} → (f g : W → ℕ → ℕ → Outcome W E) → (ws : List W) → (s n k : ℕ) → ((v : W) → (m j : ℕ) → m ≤ n → f v m j ≡ g v m j) → each f ws s n k ≡ each g ws s n k
each_same f g [] s n k h = refl
each_same f g (v ∷ more) s n k h =
    ap (λ r. elim (goes_on s r.how) [ true ↦ followed_by r (each f more s (n - r.steps) (k - length r.answers)) | false ↦ r ]) (h v n k (omega arith))
    ∙ ap (λ q. elim (goes_on s (g v n k).how) [ true ↦ followed_by (g v n k) q | false ↦ g v n k ])
    (each_same f g more s (n - (g v n k).steps) (k - length (g v n k).answers) (λ u m j le. h u m j (omega arith)))

goes_same : {W E : Type 0} → (f g : W → ℕ → ℕ → Outcome W E) → (x : Searched W E) → (w : W) → (t : Step W E) → (n k : ℕ) → ((v : W) → (m j : ℕ) → m ≤ n → f v m j ≡ g v m j) → goes f x w t n k ≡ goes g x w t n k
goes_same f g x w Success n k h = refl
goes_same f g x w (Dead c) n k h = refl
goes_same f g x w (Raise e) n k h = refl
goes_same f g x w (Commit c v) n k h = ap (λ q. capped c (with_step q)) (h v n k (omega arith))
goes_same f g x w (Branch v more) n k h = ap with_step (each_same f g (v ∷ more) (x.stamp w) n k h)

-- any bound from n on gives the same
bound_free : {W E : Type 0} → (x : Searched W E) → (d e : ℕ) → (w : W) → (n k : ℕ) → n ≤ d → n ≤ e → try_within x d w n k ≡ try_within x e w n k
unfolding try_within
bound_free x d e w zero k h h' = refl
bound_free x zero e w (suc n) k h h' = absurd (omega arith)
bound_free x (suc d) zero w (suc n) k h h' = absurd (omega arith)
bound_free x (suc d) (suc e) w (suc n) k h h' =
    goes_same _ _ x w (x.step w) n k (λ v m j le. bound_free x d e v m j (omega arith) (omega arith))

-- the rules of the search
pub try-zero : {W E : Type 0} → (x : Searched W E) → (w : W) → (k : ℕ) → try x w 0 k ≡ after 0 Budget
unfolding try try_within
try-zero x w k = refl

pub try-suc : {W E : Type 0} → (x : Searched W E) → (w : W) → (n k : ℕ) → try x w (suc n) k ≡ goes (try x) x w (x.step w) n k
unfolding try try_within
try-suc x w n k =
    goes_same _ _ x w (x.step w) n k (λ v m j le. bound_free x n m v m j le (omega arith))

-- the rules of the search, whatever is searched
pub search_rules : {W E : Type 0} → (x : Searched W E) → SearchRules x
search_rules x = record {
  no_steps = λ w k. try-zero x w k;
  success = λ w n k e. try-suc x w n k ∙ ap (λ g. goes (try x) x w g n k) e;
  dead = λ w n k c e. try-suc x w n k ∙ ap (λ g. goes (try x) x w g n k) e;
  raise = λ w n k r e. try-suc x w n k ∙ ap (λ g. goes (try x) x w g n k) e;
  commit = λ w n k c v e. try-suc x w n k ∙ ap (λ g. goes (try x) x w g n k) e;
  branch = λ w n k v more e. try-suc x w n k ∙ ap (λ g. goes (try x) x w g n k) e;
  each_empty = λ s n k. refl;
  each_ends = λ v more s n k e. ap (λ b. elim b [ true ↦ followed_by (try x v n k) (each (try x) more s (n - (try x v n k).steps) (k - length (try x v n k).answers)) | false ↦ try x v n k ]) e;
  each_goes_on = λ v more s n k e. ap (λ b. elim b [ true ↦ followed_by (try x v n k) (each (try x) more s (n - (try x v n k).steps) (k - length (try x v n k).answers)) | false ↦ try x v n k ]) e;
}

-- One turn of the machine keeps what the search finds.
use Rattle.std.proofs.Common.{◌≡◌, ℕ, suc, ◌+◌, ◌-◌, ◌<◌, ◌≤◌, Bool, true, false, cond, List, [], ◌∷◌, length, None, arith, ap, sym, refl, ◌∙◌, nat_lt, length-append, add-zero, zero-add}
use mathlib.Core.Path.{subst}
use Rattle.std.proofs.lemmas.List.{append-nil}
use Rattle.std.proofs.Math.Nat.{sub-zero}
use Rattle.std.specs.List.{AllByRecursion}
use borrow.Author.Tests.{ltb-true, ltb-false}
use Rattle.tp_meaning.specs.Search.{DeadCause, Failed, Deadlock, Late, Searched, Step, Success, Dead, Raise, Commit, Branch, Fails, Stopped, Raised, Budget, Outcome, try, followed_by, answer, dead_end}
use Rattle.tp_meaning.specs.Machine.{Choice, State, Machine, state_of, machine_of, started, Turn, GoesOn, Ends, Stepped, stepped, turned, turn_by, back_to, resumed_by, with_choice, cut_from, Descends, closed, ended, answer_more, dead_more, one_more, IsStack, Rises}
use Rattle.tp_meaning.proofs.Searching.Loop.{later-zero, from_machine, one, followed_assoc, same_outcome, machine-zero, machine-raise, machine-branch, machine-commit, machine-dead, machine-dead_last, machine-answer, machine-answer_none, machine-answer_last, dead_end_fails, answer_fails}
pub use Rattle.tp_meaning.specs.Total.{total}
use Rattle.tp_meaning.proofs.Searching.Stack.{stack_descends, stack_cut, stack_with}

-- one step was counted, and at most one dead end
pub record Counted {W E : Type 0} (t u : Outcome W E) : Type 0 where
  pub steps : u.steps ≡ t.steps + 1
  pub failed : u.failed ≤ t.failed + 1
  pub deadlock : u.deadlock ≤ t.deadlock + 1
  pub late : u.late ≤ t.late + 1
  pub answers : length u.answers ≤ length t.answers + 1

-- a turn that goes on keeps what is found in all
pub record KeepsFrom {W E : Type 0} (x : Searched W E) (b n k : ℕ) (m m' : Machine W E) : Type 0 where
  pub found : total x m' n k ≡ total x m b k
  pub stack : IsStack x (x.stamp m'.world) m'.choices
  pub stamp : x.stamp m'.world ≤ x.stamp m.world + 1
  pub few : length m'.tally.answers < k
  pub counts : Counted m.tally m'.tally

-- and a turn that ends gives it
abbrev pub Kept : {W E : Type 0} → Searched W E → Machine W E → ℕ → ℕ → Turn W E → Type 0
Kept x m n k (GoesOn m') = KeepsFrom x (suc n) n k m m'
Kept x m n k (Ends q) = q ≡ total x m (suc n) k

-- a tally with one more step is the tally and then that step
one_is : {W E : Type 0} (t : Outcome W E) → one_more t ≡ record (followed_by t one) { how = t.how }
one_is t = same_outcome _ _ (sym (append-nil t.answers)) refl (sym (add-zero t.failed)) (sym (add-zero t.deadlock)) (sym (add-zero t.late)) refl

dead_is : {W E : Type 0} (c : DeadCause) (t : Outcome W E) → dead_more c t ≡ record (followed_by t (dead_end c)) { how = t.how }
dead_is Failed t = same_outcome _ _ (sym (append-nil t.answers)) refl refl (sym (add-zero t.deadlock)) (sym (add-zero t.late)) refl
dead_is Deadlock t = same_outcome _ _ (sym (append-nil t.answers)) refl (sym (add-zero t.failed)) refl (sym (add-zero t.late)) refl
dead_is Late t = same_outcome _ _ (sym (append-nil t.answers)) refl (sym (add-zero t.failed)) (sym (add-zero t.deadlock)) refl refl

answer_is : {W E : Type 0} (w : W) (k : ℕ) (t : Outcome W E) → answer_more w t ≡ record (followed_by t (answer w k)) { how = t.how }
answer_is w k t = same_outcome _ _ refl refl (sym (add-zero t.failed)) (sym (add-zero t.deadlock)) (sym (add-zero t.late)) refl

-- goes on by one step
step_on : {W E : Type 0} (x : Searched W E) (m : Machine W E) (w : W) (cs : List (Choice W)) (n k : ℕ) → length m.tally.answers < k → IsStack x (x.stamp w) cs → x.stamp w ≤ x.stamp m.world + 1
    → from_machine x m.world m.choices (suc n) (k - length m.tally.answers) ≡ followed_by one (from_machine x w cs n (k - length m.tally.answers))
    → KeepsFrom x (suc n) n k m (record { world = w; choices = cs; tally = one_more m.tally })
step_on x m w cs n k few st up e = record {
  found = ap (λ t. followed_by t (from_machine x w cs n (k - length m.tally.answers))) (one_is m.tally)
      ∙ followed_assoc m.tally one (from_machine x w cs n (k - length m.tally.answers)) ∙ ap (followed_by m.tally) (sym e);
  stack = st;
  stamp = up;
  few = few;
  counts = record { steps = refl; failed = omega arith; deadlock = omega arith; late = omega arith; answers = omega arith };
}

-- back to a choice after an outcome of one step
back_on : {W E : Type 0} (x : Searched W E) (m : Machine W E) (n k a : ℕ) (t r : Outcome W E) → t ≡ record (followed_by m.tally r) { how = m.tally.how } → IsStack x (x.stamp m.world) m.choices → length t.answers < k → k - length t.answers ≡ a
    → r.how ≡ Fails None → Counted m.tally t
    → (m.choices ≡ [] → from_machine x m.world m.choices (suc n) (k - length m.tally.answers) ≡ r)
    → ((s : ℕ) (u v : W) (more : List W) (cs : List (Choice W)) → m.choices ≡ record { stamp = s; world = u; untried = v ∷ more } ∷ cs → Descends s cs
    → from_machine x m.world m.choices (suc n) (k - length m.tally.answers) ≡ followed_by r (from_machine x v (with_choice s u more cs) n a))
    → Kept x m n k (back_to t (state_of m))
back_on {W = W} x m n k a t r et st few ea fails counts none some = go m.choices refl st
  where
    go : (cs : List (Choice W)) → m.choices ≡ cs → IsStack x (x.stamp m.world) cs → Kept x m n k (back_to t (record { world = m.world; choices = cs }))
    go [] e h = ap (λ (q : Outcome _ _). record q { how = Fails None }) et ∙ ap (λ z. record (followed_by m.tally r) { how = z }) (sym fails) ∙ ap (followed_by m.tally) (sym (none e))
    go (c ∷ cs) e h = inner c.untried e h.0.some h.0.next
      where
        inner : (ws : List W) → m.choices ≡ record { stamp = c.stamp; world = c.world; untried = ws } ∷ cs → 0 < length ws → AllByRecursion (λ u. x.stamp u ≡ c.stamp + 1) ws → Kept x m n k (GoesOn (machine_of (resumed_by (record { world = c.world; choices = c ∷ cs }) c ws cs) t))
        inner [] e' pos all = absurd (omega arith)
        inner (v ∷ more) e' pos all = record {
          found = ap (λ j. followed_by t (from_machine x v (with_choice c.stamp c.world more cs) n j)) ea
              ∙ ap (λ q. followed_by q (from_machine x v (with_choice c.stamp c.world more cs) n a)) et
              ∙ followed_assoc m.tally r (from_machine x v (with_choice c.stamp c.world more cs) n a)
              ∙ ap (followed_by m.tally) (sym (some c.stamp c.world v more cs e' (stack_descends x c.stamp cs h.1)));
          stack = stack_with x c.stamp c.world v more cs h.0.own all.0 all.1 h.1;
          stamp = (let up : x.stamp v ≡ c.stamp + 1 = all.0 in let lt : c.stamp < x.stamp m.world = h.0.below in omega arith);
          few = few;
          counts = counts;
        }

dead_len : {W E : Type 0} (c : DeadCause) (t : Outcome W E) → length (dead_more c t).answers ≡ length t.answers
dead_len Failed t = refl
dead_len Deadlock t = refl
dead_len Late t = refl

dead_counts : {W E : Type 0} (c : DeadCause) (t : Outcome W E) → Counted t (dead_more c t)
dead_counts Failed t = record { steps = refl; failed = omega arith; deadlock = omega arith; late = omega arith; answers = omega arith }
dead_counts Deadlock t = record { steps = refl; failed = omega arith; deadlock = omega arith; late = omega arith; answers = omega arith }
dead_counts Late t = record { steps = refl; failed = omega arith; deadlock = omega arith; late = omega arith; answers = omega arith }

answer_len : {W E : Type 0} (w : W) (t : Outcome W E) → length (answer_more w t).answers ≡ length t.answers + 1
answer_len w t = length-append t.answers _

-- one turn keeps what the search finds
kept_by : {W E : Type 0} (x : Searched W E) (m : Machine W E) (n k : ℕ) (g : Step W E) → x.step m.world ≡ g → Rises x m.world g → IsStack x (x.stamp m.world) m.choices → length m.tally.answers < k → Kept x m n k (turn_by x k g m)
kept_by x m n k Success e r st few = go (nat_lt (length m.tally.answers + 1) k) refl
  where
    go : (b : Bool) → nat_lt (length m.tally.answers + 1) k ≡ b → Kept x m n k (cond b (back_to (answer_more m.world m.tally) (state_of m)) (Ends (ended Stopped (answer_more m.world m.tally))))
    go true b =
        let lt : length m.tally.answers + 1 < k = ltb-true _ _ b in
        let len : length (answer_more m.world m.tally).answers ≡ length m.tally.answers + 1 = answer_len m.world m.tally in
        back_on x m n k (k - length m.tally.answers - 1) (answer_more m.world m.tally) (answer m.world (k - length m.tally.answers)) (answer_is m.world (k - length m.tally.answers) m.tally) st (omega arith) (omega arith)
        (answer_fails m.world _ (omega arith)) (record { steps = refl; failed = omega arith; deadlock = omega arith; late = omega arith; answers = omega arith })
        (λ no. rw no (machine-answer_none x m.world n (k - length m.tally.answers) (omega arith) e))
        (λ s u v more cs is d. rw is (machine-answer x m.world s u v more cs n (k - length m.tally.answers) (omega arith) e d))
    go false b =
        let le : k ≤ length m.tally.answers + 1 = ltb-false _ _ b in
        let one_left : k - length m.tally.answers ≡ 1 = omega arith in
        rw one_left (ap (λ (q : Outcome _ _). record q { how = Stopped }) (answer_is m.world 1 m.tally) ∙ ap (followed_by m.tally) (sym (machine-answer_last x m.world m.choices n e)))
kept_by {W} {E} x m n k (Dead c) e r st few =
    back_on x m n k (k - length m.tally.answers) (dead_more c m.tally) (dead_end c) (dead_is c m.tally) st (omega (arith, len)) (omega (arith, len)) (dead_end_fails W E c) (dead_counts c m.tally)
    (λ no. rw no (machine-dead_last x m.world n (k - length m.tally.answers) c e))
    (λ s u v more cs is d. rw is (machine-dead x m.world s u v more cs n (k - length m.tally.answers) c e d))
  where
    len : length (dead_more c m.tally).answers ≡ length m.tally.answers
    len = dead_len c m.tally
kept_by x m n k (Raise y) e r st few =
    ap (λ (q : Outcome _ _). record q { how = Raised y m.world }) (one_is m.tally) ∙ ap (followed_by m.tally) (sym (machine-raise x m.world m.choices n (k - length m.tally.answers) y e))
kept_by x m n k (Commit c v) e r st few =
    step_on x m v (cut_from c m.choices) n k few (stack_cut x c (x.stamp m.world) (x.stamp v) m.choices (let up : x.stamp v ≡ x.stamp m.world + 1 = r in omega arith) st) (let up : x.stamp v ≡ x.stamp m.world + 1 = r in omega arith)
    (machine-commit x m.world m.choices n (k - length m.tally.answers) c v e (stack_descends x _ _ st))
kept_by x m n k (Branch v more) e r st few =
    step_on x m v (with_choice (x.stamp m.world) m.world more m.choices) n k few (stack_with x (x.stamp m.world) m.world v more m.choices refl r.0 r.1 st) (let up : x.stamp v ≡ x.stamp m.world + 1 = r.0 in omega arith)
    (machine-branch x m.world m.choices n (k - length m.tally.answers) v more e (stack_descends x _ _ st))

-- A turn of a machine with a stack of choices, fewer answers than wanted, and n steps left behind it, from what its
-- step answered.
pub kept-turned : {W E : Type 0} (x : Searched W E) (s s' : State W) (t : Outcome W E) (a : Stepped E) (n k : ℕ) → Rises x s.world (x.step s.world) → (a, s') ≡ stepped x s → IsStack x (x.stamp s.world) s.choices → length t.answers < k → Kept x (machine_of s t) n k (turned x k a s' t)
kept-turned x s s' t a n k rise e st few = subst (λ (r : Stepped _ × State _). Kept x (machine_of s t) n k (turned x k r.0 r.1 t)) (sym e) (kept_by x (machine_of s t) n k (x.step s.world) refl rise st few)

-- at the start nothing was found yet
pub total-start : {W E : Type 0} (x : Searched W E) (m : Machine W E) (w : W) (n k : ℕ) → m ≡ started w → total x m n k ≡ closed (try x w n k)
total-start x m w n k e = ap (λ m'. total x m' n k) e
    ∙ same_outcome _ _ (later-zero _) (zero-add _) (zero-add _) (zero-add _) (zero-add _) refl ∙ ap (λ j. closed (try x w n j)) (sub-zero k)

-- with no step left, what was found is all
pub total-end : {W E : Type 0} (x : Searched W E) (m : Machine W E) (n k : ℕ) → n ≡ 0 → ended Budget m.tally ≡ total x m n k
total-end x m n k e = rw e (sym (ap (followed_by m.tally) (machine-zero x m.world m.choices _) ∙ same_outcome _ _ (append-nil _) (add-zero _) (add-zero _) (add-zero _) (add-zero _) refl))

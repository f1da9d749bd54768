-- A machine with a current world and a stack of choices finds what the search finds.
use Rattle.std.proofs.Common.{◌≡◌, ℕ, suc, ◌+◌, ◌-◌, ◌≤◌, ◌<◌, Bool, true, false, cond, List, [], ◌∷◌, ◌++◌, map, length, Some, None, refl, ap, sym, ◌∙◌, arith, add-zero, append_assoc, nat_lt, zero-add, add_assoc, length-append, min}
use Rattle.std.proofs.lemmas.List.{append-nil, length-map}
use borrow.Author.Tests.{ltb-true, ltb-false, lt-ltb, le-ltb}
use Rattle.std.proofs.lemmas.Bool.{ne_eqb}
use Rattle.std.proofs.lemmas.Bool.Decides.{nat_tests}
use Rattle.std.proofs.Math.Nat.{sub-zero}
use Rattle.tp_meaning.specs.Search.{DeadCause, Failed, Deadlock, Late, Searched, Success, Dead, Raise, Commit, Branch, End, Fails, Stopped, Raised, Budget, Outcome, after, later, followed_by, dead_end, answer, capped_end, capped, goes_on, each, try}
use Rattle.tp_meaning.specs.Machine.{Choice, closed_end, closed, Descends, with_choice, cut_from}
pub use Rattle.tp_meaning.specs.Total.{either_of, with_rest, over, from_machine}
use Rattle.tp_meaning.proofs.Searching.Rules.{try-zero, try-suc}

later-later : {W : Type 0} → (m n : ℕ) → (xs : List (W × ℕ)) → map (later m) (map (later n) xs) ≡ map (later (m + n)) xs
later-later m n [] = refl
later-later m n (x ∷ xs) =
    ap {B = List _} (λ j. (x.0, j) ∷ map (later m) (map (later n) xs)) (sym (add_assoc m n x.1)) ∙ ap (λ ys. (x.0, (m + n) + x.1) ∷ ys) (later-later m n xs)

pub later-append : {W : Type 0} → (m : ℕ) → (xs ys : List (W × ℕ)) → map (later m) (xs ++ ys) ≡ map (later m) xs ++ map (later m) ys
later-append m [] ys = refl
later-append m (x ∷ xs) ys = ap (λ zs. later m x ∷ zs) (later-append m xs ys)

pub later-zero : {W : Type 0} → (xs : List (W × ℕ)) → map (later 0) xs ≡ xs
later-zero [] = refl
later-zero (x ∷ xs) = ap {B = List _} (λ j. (x.0, j) ∷ map (later 0) xs) (zero-add x.1) ∙ ap (λ ys. x ∷ ys) (later-zero xs)

pub same_outcome : {W E : Type 0} → (a b : Outcome W E) → a.answers ≡ b.answers → a.steps ≡ b.steps → a.failed ≡ b.failed → a.deadlock ≡ b.deadlock → a.late ≡ b.late → a.how ≡ b.how → a ≡ b
same_outcome a b p q r s t u =
    ap (λ x. record a { answers = x }) p
    ∙ ap (λ x. record a { answers = b.answers; steps = x }) q
    ∙ ap (λ x. record b { failed = x; deadlock = a.deadlock; late = a.late; how = a.how }) r
    ∙ ap (λ x. record b { deadlock = x; late = a.late; how = a.how }) s
    ∙ ap (λ x. record b { late = x; how = a.how }) t
    ∙ ap (λ x. record b { how = x }) u

pub followed_assoc : {W E : Type 0} → (a b c : Outcome W E) → followed_by (followed_by a b) c ≡ followed_by a (followed_by b c)
followed_assoc a b c = same_outcome _ _
    (append_assoc a.answers (map (later a.steps) b.answers) (map (later (a.steps + b.steps)) c.answers)
    ∙ ap (λ ys. a.answers ++ ys) (ap (λ ys. map (later a.steps) b.answers ++ ys) (sym (later-later a.steps b.steps c.answers)) ∙ sym (later-append a.steps b.answers (map (later b.steps) c.answers))))
    (add_assoc a.steps b.steps c.steps) (add_assoc a.failed b.failed c.failed) (add_assoc a.deadlock b.deadlock c.deadlock) (add_assoc a.late b.late c.late) refl

followed_nothing : {W E : Type 0} → (r : Outcome W E) → followed_by r (after 0 (Fails None)) ≡ record r { how = Fails None }
followed_nothing r = same_outcome _ _ (append-nil r.answers) (add-zero r.steps) (add-zero r.failed) (add-zero r.deadlock) (add-zero r.late) refl

-- the rest of a choice, behind a first outcome
rest_prefix : {W E : Type 0} → (b : Bool) (r q x y : Outcome W E) → x ≡ y → either_of b (followed_by (followed_by r q) x) (followed_by r q) ≡ followed_by r (either_of b (followed_by q y) q)
rest_prefix true r q x y e = followed_assoc r q x ∙ ap (λ z. followed_by r (followed_by q z)) e
rest_prefix false r q x y e = refl

each_at : {W E : Type 0} → (f : W → ℕ → ℕ → Outcome W E) → (ws : List W) (s n n' k k' : ℕ) → n ≡ n' → k ≡ k' → each f ws s n k ≡ each f ws s n' k'
each_at f ws s n n' k k' p q = cc

sub_both : (n a b : ℕ) → n - (a + b) ≡ n - a - b
sub_both n a b = omega arith

with_rest_prefix : {W E : Type 0} → (f : W → ℕ → ℕ → Outcome W E) → (n k : ℕ) → (r q : Outcome W E) → (c : Choice W) → with_rest f n k (followed_by r q) c ≡ followed_by r (with_rest f (n - r.steps) (k - length r.answers) q c)
with_rest_prefix f n k r q c = rest_prefix (goes_on c.stamp q.how) r q _ _
    (each_at f c.untried c.stamp _ _ _ _ (sub_both n r.steps q.steps)
    (simp (length-append, length-map) (sub_both k (length r.answers) (length q.answers))))

-- what stands in front of an outcome stays in front
pub over_prefix : {W E : Type 0} → (f : W → ℕ → ℕ → Outcome W E) → (n k : ℕ) → (r q : Outcome W E) → (cs : List (Choice W)) → over f n k (followed_by r q) cs ≡ followed_by r (over f (n - r.steps) (k - length r.answers) q cs)
over_prefix f n k r q [] = refl
over_prefix f n k r q (c ∷ cs) =
    ap (λ z. over f n k z cs) (with_rest_prefix f n k r q c)
    ∙ over_prefix f n k r (with_rest f (n - r.steps) (k - length r.answers) q c) cs

-- the same, with what is left of the steps and of the answers given
pub over_prefix_at : {W E : Type 0} → (f : W → ℕ → ℕ → Outcome W E) → (n k n' k' : ℕ) → (r q : Outcome W E) → (cs : List (Choice W)) → n - r.steps ≡ n' → k - length r.answers ≡ k' → over f n k (followed_by r q) cs ≡ followed_by r (over f n' k' q cs)
over_prefix_at f n k n' k' r q cs e e' = over_prefix f n k r q cs ∙ ap (λ m. followed_by r (over f m (k - length r.answers) q cs)) e ∙ ap (λ j. followed_by r (over f n' j q cs)) e'

-- an end that is no failure stays
pub over_stopped : {W E : Type 0} → (f : W → ℕ → ℕ → Outcome W E) → (n k : ℕ) → (r : Outcome W E) → (cs : List (Choice W)) → ((s : ℕ) → goes_on s r.how ≡ false) → over f n k r cs ≡ r
over_stopped f n k r [] h = refl
over_stopped f n k r (c ∷ cs) h = ap (λ b. over f n k (either_of b (followed_by r (each f c.untried c.stamp (n - r.steps) (k - length r.answers))) r) cs) (h c.stamp) ∙ over_stopped f n k r cs h

-- after a failure without a stamp the next world of the newest choice is searched
pub over_next : {W E : Type 0} → (f : W → ℕ → ℕ → Outcome W E) → (n k : ℕ) → (r : Outcome W E) → (s : ℕ) → (u v : W) → (more : List W) → (cs : List (Choice W)) → r.how ≡ Fails None
    → over f n k r (record { stamp = s; world = u; untried = v ∷ more } ∷ cs)
    ≡ followed_by r (over f (n - r.steps) (k - length r.answers) (f v (n - r.steps) (k - length r.answers)) (record { stamp = s; world = u; untried = more } ∷ cs))
over_next f n k r s u v more cs h =
    ap (λ e. over f n k (either_of (goes_on s e) (followed_by r (each f (v ∷ more) s (n - r.steps) (k - length r.answers))) r) cs) h
    ∙ over_prefix f n k r (each f (v ∷ more) s (n - r.steps) (k - length r.answers)) cs

-- two ends that no choice below a stamp tells apart
pub record Alike {W E : Type 0} (s : ℕ) (a b : End W E) : Type 0 where
  pub below : (t : ℕ) → t < s → goes_on t a ≡ goes_on t b
  pub closed : closed_end a ≡ closed_end b

-- a choice of outcomes, of which the second may be replaced
cond_cases : {A B : Type 0} → (b : Bool) → (F : A → B) → (x y z : A) → F y ≡ F z → F (either_of b x y) ≡ F (either_of b x z)
cond_cases true F x y z e = refl
cond_cases false F x y z e = e

same_test : (t c x : ℕ) → t < c → nat_lt t (min c x) ≡ nat_lt t x
same_test t c x lt = grind (arith, nat_tests)

alike_over : {W E : Type 0} → (f : W → ℕ → ℕ → Outcome W E) → (n k s : ℕ) → (r : Outcome W E) → (a b : End W E) → (cs : List (Choice W)) → Descends s cs → Alike s a b → closed (over f n k (record r { how = a }) cs) ≡ closed (over f n k (record r { how = b }) cs)
alike_over f n k s r a b [] d h = ap (λ e. record r { how = e }) h.closed
alike_over f n k s r a b (c ∷ cs) d h =
    ap (λ g. closed (over f n k (either_of g (followed_by r (each f c.untried c.stamp (n - r.steps) (k - length r.answers))) (record r { how = a })) cs)) (h.below c.stamp d.0)
    ∙ cond_cases (goes_on c.stamp b) (λ r'. closed (over f n k r' cs)) _ _ _
    (alike_over f n k c.stamp r a b cs d.1 (record { below = λ t lt. h.below t (let lt' : c.stamp < s = d.0 in omega arith); closed = h.closed }))

-- a failure with a stamp that reaches a branch, or without one, is alike for what stands below
reaches : {W E : Type 0} → (s : ℕ) → (h : End W E) → goes_on s h ≡ true → Alike s (Fails None) h
reaches s (Fails None) e = record { below = λ t lt. refl; closed = refl }
reaches s (Fails (Some x)) e = record { below = λ t lt. sym (lt-ltb t x (let h : s < x = ltb-true _ _ e in omega arith)); closed = refl }
reaches s Stopped e = absurd (cc)
reaches s (Raised r t) e = absurd (cc)
reaches s Budget e = absurd (cc)

-- a choice without untried worlds changes nothing
over_spent : {W E : Type 0} → (f : W → ℕ → ℕ → Outcome W E) → (n k s : ℕ) → (u : W) → (r : Outcome W E) → (cs : List (Choice W)) → Descends s cs → closed (over f n k r (record { stamp = s; world = u; untried = [] } ∷ cs)) ≡ closed (over f n k r cs)
over_spent f n k s u r cs d = go (goes_on s r.how) refl
  where
    go : (b : Bool) → goes_on s r.how ≡ b → closed (over f n k (either_of b (followed_by r (after 0 (Fails None))) r) cs) ≡ closed (over f n k r cs)
    go true e = ap (λ q. closed (over f n k q cs)) (followed_nothing r) ∙ alike_over f n k s r (Fails None) r.how cs d (reaches s r.how e)
    go false e = refl

pub over_with_choice : {W E : Type 0} → (f : W → ℕ → ℕ → Outcome W E) → (n k s : ℕ) → (u : W) → (r : Outcome W E) → (more : List W) → (cs : List (Choice W)) → Descends s cs → closed (over f n k r (record { stamp = s; world = u; untried = more } ∷ cs)) ≡ closed (over f n k r (with_choice s u more cs))
over_with_choice f n k s u r [] cs d = over_spent f n k s u r cs d
over_with_choice f n k s u r (v ∷ more) cs d = refl

-- below its commit a choice sees a failure as it was
capped_alike : {W E : Type 0} → (c : ℕ) → (h : End W E) → Alike c (capped_end c h) h
capped_alike c (Fails None) = record { below = λ t lt. lt-ltb t c lt; closed = refl }
capped_alike c (Fails (Some x)) = record { below = λ t lt. same_test t c x lt; closed = refl }
capped_alike c Stopped = record { below = λ t lt. refl; closed = refl }
capped_alike c (Raised e t) = record { below = λ t lt. refl; closed = refl }
capped_alike c Budget = record { below = λ t lt. refl; closed = refl }

-- a choice from the commit on is skipped
capped_skips : {W E : Type 0} → (s c : ℕ) → (h : End W E) → nat_lt s c ≡ false → goes_on s (capped_end c h) ≡ false
capped_skips s c (Fails None) e = e
capped_skips s c (Fails (Some x)) e = le-ltb _ _ (let le : c ≤ s = ltb-false _ _ e in omega arith)
capped_skips s c Stopped e = refl
capped_skips s c (Raised r t) e = refl
capped_skips s c Budget e = refl

-- a commit cuts the choices from its stamp on
pub over_commit : {W E : Type 0} → (f : W → ℕ → ℕ → Outcome W E) → (n k c s : ℕ) → (r : Outcome W E) → (cs : List (Choice W)) → Descends s cs → closed (over f n k (capped c r) cs) ≡ closed (over f n k r (cut_from c cs))
over_commit f n k c s r [] d = ap (λ e. record r { how = e }) ((capped_alike c r.how).closed)
over_commit f n k c s r (x ∷ xs) d = go (nat_lt x.stamp c) refl (over_commit f n k c x.stamp r xs d.1)
  where
    go : (b : Bool) → nat_lt x.stamp c ≡ b → closed (over f n k (capped c r) xs) ≡ closed (over f n k r (cut_from c xs)) → closed (over f n k (capped c r) (x ∷ xs)) ≡ closed (over f n k r (cond b (x ∷ xs) (cut_from c xs)))
    go true e h = alike_over f n k c r (capped_end c r.how) r.how (x ∷ xs) (let lt : x.stamp < c = ltb-true _ _ e in (lt, d.1)) (capped_alike c r.how)
    go false e h =
        ap (λ b. closed (over f n k (either_of b (followed_by (capped c r) (each f x.untried x.stamp (n - r.steps) (k - length r.answers))) (capped c r)) xs)) (capped_skips x.stamp c r.how e) ∙ h

-- one step, which is no answer
abbrev pub one : {W E : Type 0} → Outcome W E
one = after 1 (Fails None)

pub machine-zero : {W E : Type 0} → (x : Searched W E) → (w : W) → (cs : List (Choice W)) → (k : ℕ) → from_machine x w cs 0 k ≡ after 0 Budget
machine-zero x w cs k = rw (try-zero x w k) (ap closed (over_stopped (try x) 0 k (after 0 Budget) cs (λ s. refl)))

pub machine-raise : {W E : Type 0} → (x : Searched W E) → (w : W) → (cs : List (Choice W)) → (n k : ℕ) → (e : E) → x.step w ≡ Raise e → from_machine x w cs (suc n) k ≡ after 1 (Raised e w)
machine-raise x w cs n k e h = rw (try-suc x w n k, h) (ap closed (over_stopped (try x) (suc n) k (after 1 (Raised e w)) cs (λ s. refl)))

pub machine-branch : {W E : Type 0} → (x : Searched W E) → (w : W) → (cs : List (Choice W)) → (n k : ℕ) → (v : W) → (more : List W) → x.step w ≡ Branch v more → Descends (x.stamp w) cs
    → from_machine x w cs (suc n) k ≡ followed_by one (from_machine x v (with_choice (x.stamp w) w more cs) n k)
machine-branch x w cs n k v more h d = rw (try-suc x w n k, h)
    (ap closed (over_prefix_at (try x) (suc n) k n k one (each (try x) (v ∷ more) (x.stamp w) n k) cs (omega arith) (omega arith))
    ∙ ap (followed_by one) (over_with_choice (try x) n k (x.stamp w) w (try x v n k) more cs d))

pub machine-commit : {W E : Type 0} → (x : Searched W E) → (w : W) → (cs : List (Choice W)) → (n k c : ℕ) → (v : W) → x.step w ≡ Commit c v → Descends (x.stamp w) cs
    → from_machine x w cs (suc n) k ≡ followed_by one (from_machine x v (cut_from c cs) n k)
machine-commit x w cs n k c v h d = rw (try-suc x w n k, h)
    (over_commit (try x) (suc n) k c (x.stamp w) (followed_by one (try x v n k)) cs d
    ∙ ap closed (over_prefix_at (try x) (suc n) k n k one (try x v n k) (cut_from c cs) (omega arith) (omega arith)))

-- an answer that isn't the last one wanted
pub answer_fails : {W E : Type 0} → (w : W) → (k : ℕ) → 1 < k → (answer {W = W} {E = E} w k).how ≡ Fails None
answer_fails w k m = ap (λ b. cond b Stopped (Fails None)) (ne_eqb k 1 (λ e. absurd (omega arith)))

-- after an outcome of one step that fails
fails_on : {W E : Type 0} → (x : Searched W E) → (n k : ℕ) → (r : Outcome W E) → (s : ℕ) → (u v : W) → (more : List W) → (cs : List (Choice W)) → r.how ≡ Fails None → r.steps ≡ 1 → Descends s cs
    → closed (over (try x) (suc n) k r (record { stamp = s; world = u; untried = v ∷ more } ∷ cs)) ≡ followed_by r (from_machine x v (with_choice s u more cs) n (k - length r.answers))
fails_on x n k r s u v more cs h h' d =
    let f = try x in
    let e : suc n - r.steps ≡ n = omega arith in
    ap closed (over_next f (suc n) k r s u v more cs h)
    ∙ ap (λ m. followed_by r (closed (over f m (k - length r.answers) (f v m (k - length r.answers)) (record { stamp = s; world = u; untried = more } ∷ cs)))) e
    ∙ ap (followed_by r) (over_with_choice f n (k - length r.answers) s u (f v n (k - length r.answers)) more cs d)

pub dead_end_fails : (W E : Type 0) → (c : DeadCause) → (dead_end {W = W} {E = E} c).how ≡ Fails None
dead_end_fails W E Failed = refl
dead_end_fails W E Deadlock = refl
dead_end_fails W E Late = refl

dead_end_steps : (W E : Type 0) → (c : DeadCause) → (dead_end {W = W} {E = E} c).steps ≡ 1
dead_end_steps W E Failed = refl
dead_end_steps W E Deadlock = refl
dead_end_steps W E Late = refl

dead_end_answers : (W E : Type 0) → (c : DeadCause) → (dead_end {W = W} {E = E} c).answers ≡ []
dead_end_answers W E Failed = refl
dead_end_answers W E Deadlock = refl
dead_end_answers W E Late = refl

closed_fails : {W E : Type 0} → (r : Outcome W E) → r.how ≡ Fails None → closed r ≡ r
closed_fails r h = ap (λ e. record r { how = closed_end e }) h ∙ ap (λ e. record r { how = e }) (sym h)

pub machine-dead : {W E : Type 0} → (x : Searched W E) → (w : W) → (s : ℕ) → (u v : W) → (more : List W) → (cs : List (Choice W)) → (n k : ℕ) → (c : DeadCause) → x.step w ≡ Dead c → Descends s cs
    → from_machine x w (record { stamp = s; world = u; untried = v ∷ more } ∷ cs) (suc n) k ≡ followed_by (dead_end c) (from_machine x v (with_choice s u more cs) n k)
machine-dead {W} {E} x w s u v more cs n k c h d = rw (try-suc x w n k, h)
    (fails_on x n k (dead_end c) s u v more cs (dead_end_fails W E c) (dead_end_steps W E c) d
    ∙ ap (λ j. followed_by (dead_end c) (from_machine x v (with_choice s u more cs) n j)) (ap (λ xs. k - length xs) (dead_end_answers W E c) ∙ sub-zero k))

pub machine-dead_last : {W E : Type 0} → (x : Searched W E) → (w : W) → (n k : ℕ) → (c : DeadCause) → x.step w ≡ Dead c → from_machine x w [] (suc n) k ≡ dead_end c
machine-dead_last {W} {E} x w n k c h = rw (try-suc x w n k, h) (closed_fails (dead_end c) (dead_end_fails W E c))

pub machine-answer_last : {W E : Type 0} → (x : Searched W E) → (w : W) → (cs : List (Choice W)) → (n : ℕ) → x.step w ≡ Success → from_machine x w cs (suc n) 1 ≡ answer w 1
machine-answer_last x w cs n h = rw (try-suc x w n 1, h) (ap closed (over_stopped (try x) (suc n) 1 (answer w 1) cs (λ s. refl)))

pub machine-answer_none : {W E : Type 0} → (x : Searched W E) → (w : W) → (n k : ℕ) → 1 < k → x.step w ≡ Success → from_machine x w [] (suc n) k ≡ answer w k
machine-answer_none x w n k m h = rw (try-suc x w n k, h) (closed_fails (answer w k) (answer_fails w k m))

pub machine-answer : {W E : Type 0} → (x : Searched W E) → (w : W) → (s : ℕ) → (u v : W) → (more : List W) → (cs : List (Choice W)) → (n k : ℕ) → 1 < k → x.step w ≡ Success → Descends s cs
    → from_machine x w (record { stamp = s; world = u; untried = v ∷ more } ∷ cs) (suc n) k ≡ followed_by (answer w k) (from_machine x v (with_choice s u more cs) n (k - 1))
machine-answer x w s u v more cs n k m h d = rw (try-suc x w n k, h)
    (fails_on x n k (answer w k) s u v more cs (answer_fails w k m) refl d)

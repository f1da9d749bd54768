-- Worlds that a process holds, waits, takes a message or makes a note in are valid.
use Rattle.std.proofs.Common.{◌≡◌, ◌≢◌, ℕ, zero, suc, ◌+◌, ◌≤◌, ◌<◌, Bool, true, false, List, [], ◌∷◌, length, take, drop, remove, Option, Some, None, Ok, Err, IfOk, IfSome, ℤ, pos, negsuc, ◌+ℤ◌, int_le, int_lt, refl, ap, ◌∙◌, arith, if◌then◌else◌}
use Rattle.std.specs.List.{AllByRecursion}
use Rattle.std.proofs.lemmas.Bool.{ne_eqb, le-leb}
use Rattle.tp_terms.specs.Term.{Term}
use Rattle.tp_meaning.specs.Subst.{Subst, mgu}
use Rattle.tp_meaning.specs.Arith.{value, greatest}
use Rattle.tp_meaning.specs.Body.{enter}
use Rattle.tp_meaning.specs.Checks.{Checked, ◌>>◌, ◌if◌, evaluation_error, natural}
use Rattle.tp_meaning.specs.World.{World, Scheduled, AwaitsMail, Parked, Item, Goal, Commit, Retry, Hold, Take, Note, box_at, with_event, with_status, with_slot, with_box, stamped, let_go, world_under}
use Rattle.tp_meaning.specs.Turn.{Turn, going, one}
use Rattle.tp_meaning.specs.Process as act
use Rattle.tp_meaning.specs.Process.{taken, takes, received}
use Rattle.tp_meaning.specs.Valid.{Below, due, busy, waits_or_runs, is_at, ItemsFit, Valid, Follows, EachFollows}
use Rattle.tp_meaning.proofs.ValidWorlds.Places.{all-append, all-at_place, length-at_place}
use Rattle.tp_meaning.proofs.ValidWorlds.Keeps.{after-ok, enter-below}
use Rattle.tp_meaning.proofs.Unification.Under.{Unifies, mgu-unifies, under-valid}
use Rattle.tp_meaning.proofs.ValidWorlds.Leaves.{event-valid, marks-valid, runs-there, let_go-valid}
use Rattle.tp_meaning.proofs.ValidWorlds.Goes.{TurnFits, later, goes, known_in, stamped-valid, tried-follows, parks}
use Rattle.tp_meaning.proofs.ProcessGoals.Slots.{scheduled-valid}

-- ---- what a check tells

-- a check that raises where a test holds
pub after-if : {A : Type 0} (Q : A → Type 0) (e : Term) (b : Bool) (s : Checked A) → (b ≡ false → IfOk s Q) → IfOk ((e if b) >> s) Q
after-if Q e true s h = tt
after-if Q e false s h = h refl

-- of a value that a check gives nothing has to hold
pub always-ok : {A : Type 0} (r : Checked A) → IfOk r (λ x. Unit {0})
always-ok (Ok x) = tt
always-ok (Err e) = tt

-- ---- note

-- the world with a note follows
pub note-follows : (t : Turn) (x : Term) → TurnFits t → Below t.world.next x → EachFollows t.world (act.note t x)
note-follows t x f h = (record { valid = event-valid (going t t.rest) t.process (Note x) (goes t t.rest f (later t f)) (known_in t t.rest f (later t f)) h; stamp = refl; next = omega arith }, tt)

-- ---- hold

le-sum : (c d : ℤ) → int_le (pos 0) c ≡ true → int_le (pos 0) d ≡ true → int_le c (c +ℤ d) ≡ true
le-sum (pos a) (pos b) h k = le-leb a (a + b) (omega arith)
le-sum (pos a) (negsuc b) h k = absurd (cc)
le-sum (negsuc a) d h k = absurd (cc)

natural-is : (d : ℤ) → IfOk (natural d) (λ k. int_le (pos 0) d ≡ true)
natural-is (pos n) = le-leb 0 n (omega arith)
natural-is (negsuc n) = tt

is_at-other : (p : ℕ) (r : ℕ) → p ≢ r → is_at (Some p) r ≡ is_at None r
is_at-other p r n = ne_eqb p r n

held-valid : (w : World) (p : ℕ) (time : ℤ) → Valid w → w.running ≡ Some p → int_le w.clock time ≡ true → Valid (let_go p (with_status p Scheduled (with_slot p time w)))
held-valid w p time v r le =
    let k = runs-there w p v r in
    marks-valid (record (with_slot p time (with_status p Scheduled w)) { running = None }) p
    (scheduled-valid w p k.process time None v k.there k.below (ap due k.status) (ap waits_or_runs k.status) le (λ s n. ap (λ o. is_at o s) r ∙ is_at-other p s n) refl)

-- the world in which the process holds follows
pub hold-follows : (t : Turn) (x : Term) → TurnFits t → IfOk (act.hold t x) (EachFollows t.world)
hold-follows t x f =
    after-ok (λ d. Unit {0}) (EachFollows t.world) (value t.world.subst x) _ (always-ok (value t.world.subst x)) (λ d _.
    after-ok (λ k. int_le (pos 0) d ≡ true) (EachFollows t.world) (natural d) _ (natural-is d) (λ k n.
    after-if (EachFollows t.world) (evaluation_error "int_overflow") (int_lt greatest (t.world.clock +ℤ d)) _ (λ _.
    (record { valid = held-valid (noted d) t.process (t.world.clock +ℤ d) (noted-valid d) f.running (le-sum t.world.clock d f.valid.from_zero n); stamp = refl; next = omega arith }, tt))))
  where
    noted : ℤ → World
    noted d = with_event t.process (Hold d) (going t t.rest)

    noted-valid : (d : ℤ) → Valid (noted d)
    noted-valid d = event-valid (going t t.rest) t.process (Hold d) (goes t t.rest f (later t f)) (known_in t t.rest f (later t f)) tt

-- ---- wait

await-follows : (t : Turn) (g : Term) → TurnFits t → Below t.world.next g → EachFollows t.world (act.await t g)
await-follows t g f h = (tried-follows t g f h, (record { valid = let_go-valid (going t (Retry g ∷ t.rest)) t.process (Parked false) (parks t g f h) f.running refl refl (omega arith); stamp = refl; next = omega arith }, tt))

-- the worlds of a wait follow
pub wait-follows : (t : Turn) (g : Term) → TurnFits t → Below t.world.next g → IfOk (act.wait t g) (EachFollows t.world)
wait-follows t g f h = after-ok (Below t.world.next) (EachFollows t.world) (enter g) _ (enter-below t.world.next g h) (λ g' h'. await-follows t g' f h')

-- ---- boxes

-- a box changed keeps a world valid, where its terms stay below the next variable
pub box-valid : (w : World) (p : ℕ) (b : List Term → List Term) → ((ms : List Term) → AllByRecursion (Below w.next) ms → AllByRecursion (Below w.next) (b ms)) → Valid w → Valid (with_box p b w)
box-valid w p b h v = record {
  distinct = v.distinct;
  box_each = length-at_place b p w.boxes ∙ v.box_each;
  entries = v.entries;
  in_order = v.in_order;
  placed = v.placed;
  one_runs = v.one_runs;
  from_zero = v.from_zero;
  none_late = v.none_late;
  events = v.events;
  todo = v.todo;
  mail = all-at_place (AllByRecursion (Below w.next)) b h p w.boxes v.mail;
  bindings = v.bindings;
  is_subst = v.is_subst;
  insertions = v.insertions;
}

all-take : {A : Type 0} (P : A → Type 0) (n : ℕ) (xs : List A) → AllByRecursion P xs → AllByRecursion P (take n xs)
all-take P zero xs a = tt
all-take P (suc n) [] a = tt
all-take P (suc n) (x ∷ xs) a = (a.0, all-take P n xs a.1)

all-drop : {A : Type 0} (P : A → Type 0) (n : ℕ) (xs : List A) → AllByRecursion P xs → AllByRecursion P (drop n xs)
all-drop P zero xs a = a
all-drop P (suc n) [] a = tt
all-drop P (suc n) (x ∷ xs) a = all-drop P n xs a.1

all-remove : {A : Type 0} (P : A → Type 0) (i : ℕ) (xs : List A) → AllByRecursion P xs → AllByRecursion P (remove xs i)
all-remove P i xs a = all-append P (take i xs) (drop (suc i) xs) (all-take P i xs a) (all-drop P (suc i) xs a)

box-below : (n : ℕ) (bs : List (List Term)) (p : ℕ) → AllByRecursion (AllByRecursion (Below n)) bs → AllByRecursion (Below n) (box_at bs p)
box-below n [] p a = tt
box-below n (b ∷ bs) zero a = a.0
box-below n (b ∷ bs) (suc p) a = box-below n bs p a.1

-- ---- wait_for

taken-valid : (t : Turn) (i : ℕ) (m : Term) → TurnFits t → Below t.world.next m → Valid (taken t i m)
taken-valid t i m f h =
    event-valid (with_box t.process (λ b. remove b i) (going t t.rest)) t.process (Take m)
    (box-valid (going t t.rest) t.process (λ b. remove b i) (λ ms a. all-remove (Below t.world.next) i ms a) (goes t t.rest f (later t f)))
    (known_in t t.rest f (later t f)) h

takes-follow : (t : Turn) (x : Term) (i : ℕ) (ms : List Term) → TurnFits t → Below t.world.next x → AllByRecursion (Below t.world.next) ms → AllByRecursion (Follows t.world) (takes t x i ms)
takes-follow t x i [] f h a = tt
takes-follow t x i (m ∷ ms) f h a = go (mgu t.world.subst m x) (mgu-unifies t.world.next t.world.subst m x a.0 h f.valid.bindings f.valid.is_subst) (takes-follow t x (i + 1) ms f h a.1)
  where
    go : (o : Option Subst) → IfSome o (Unifies t.world.next) → AllByRecursion (Follows t.world) (takes t x (i + 1) ms) → AllByRecursion (Follows t.world) (elim o [ None ↦ takes t x (i + 1) ms | Some u ↦ world_under u (taken t i m) ∷ takes t x (i + 1) ms ])
    go None u r = r
    go (Some u) u' r = (record { valid = under-valid u (taken t i m) u' (taken-valid t i m f a.0); stamp = refl; next = omega arith }, r)

-- the worlds in which a message is taken follow, and the one in which the process awaits mail
pub wait_for-follows : (t : Turn) (x : Term) → TurnFits t → Below t.world.next x → EachFollows t.world (act.wait_for t x)
wait_for-follows t x f h = go (takes t x 0 (box_at t.world.boxes t.process)) (takes-follow t x 0 (box_at t.world.boxes t.process) f h (box-below t.world.next t.world.boxes t.process f.valid.mail))
  where
    go : (ws : List World) → AllByRecursion (Follows t.world) ws → EachFollows t.world (received t ws)
    go [] a = (record { valid = let_go-valid (stamped t.world) t.process AwaitsMail (stamped-valid t.world f.valid) f.running refl refl (omega arith); stamp = refl; next = omega arith }, tt)
    go (w ∷ ws) a = a

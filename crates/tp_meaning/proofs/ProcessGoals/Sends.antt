-- Worlds with a message sent are valid.
use Rattle.std.proofs.Common.{◌≡◌, ℕ, zero, suc, ◌+◌, ◌<◌, Bool, true, false, List, [], ◌∷◌, ◌++◌, length, fold, Option, Some, None, Ok, Err, IfOk, IfSome, slice_get, refl, ap, ◌∙◌, sym, arith, if◌then◌else◌, codes}
use Rattle.std.specs.List.{AllByRecursion}
use Rattle.tp_terms.specs.Term.{Name, Term, Var, Int, Atom, Comp, NoMore, More, names_eq}
use Rattle.tp_meaning.specs.Checks.{◌>>=◌, type_error, existence_error, bound, name_in}
use Rattle.tp_meaning.specs.World.{World, Process, ProcStatus, Scheduled, Running, AwaitsMail, Ended, Parked, Send, status_at, with_event, with_box, number_of}
use Rattle.tp_meaning.specs.Turn.{Turn, going}
use Rattle.tp_meaning.specs.Process as act
use Rattle.tp_meaning.specs.Process.{not_empty_list, sent, woken, receiver, receivers, receivers_in, one_receiver}
use Rattle.tp_meaning.specs.Valid.{Below, due, waits_or_runs, is_running, is_at, Valid, EachFollows}
use Rattle.tp_meaning.proofs.ValidWorlds.Places.{all-weaker, all-append, length-at_place}
use Rattle.tp_meaning.proofs.ValidWorlds.Keeps.{after-ok, after-check}
use Rattle.tp_meaning.proofs.ValidWorlds.Acts.{int_le-refl}
use Rattle.tp_meaning.proofs.ValidWorlds.Leaves.{event-valid}
use Rattle.tp_meaning.proofs.ValidWorlds.Goes.{TurnFits, later, goes, known_in}
use Rattle.tp_meaning.proofs.ProcessGoals.Slots.{scheduled-valid}
use Rattle.tp_meaning.proofs.ProcessGoals.Waits.{always-ok, box-valid}

-- ---- receivers

number-below : (n : Name) (ps : List Process) → IfSome (number_of n ps) (λ p. p < length ps)
number-below n [] = tt
number-below n (q ∷ qs) = go (names_eq n q.name) (number_of n qs) (number-below n qs)
  where
    go : (b : Bool) (o : Option ℕ) → IfSome o (λ p. p < length qs) → IfSome (if◌then◌else◌ {A = Option ℕ} b (Some 0) (elim o [ None ↦ None | Some p ↦ Some (suc p) ])) (λ p. p < suc (length qs))
    go true o h = omega arith
    go false None h = tt
    go false (Some p) h = omega arith

receiver-below : (w : World) (t : Term) → IfOk (receiver w t) (λ p. p < length w.processes)
receiver-below w t =
    after-check _ (bound t) _ (after-ok (λ n. Unit {0}) _ (name_in t) _ (always-ok (name_in t)) (λ n _.
    after-check _ (not_empty_list n) _ (go n (number_of n w.processes) (number-below n w.processes))))
  where
    go : (n : Name) (o : Option ℕ) → IfSome o (λ p. p < length w.processes) → IfOk (elim o [ None ↦ Err (existence_error "process" t) | Some p ↦ Ok p ]) (λ p. p < length w.processes)
    go n None h = tt
    go n (Some p) h = h

-- the numbers of processes that are there
abbrev pub Known : World → List ℕ → Type 0
Known w = AllByRecursion (λ p. p < length w.processes)

at_end : (w : World) (b : Bool) (e : Term) → IfOk (if b then Ok [] else Err e) (Known w)
at_end w true e = tt
at_end w false e = tt

receivers_in-known : (w : World) (whole t : Term) → IfOk (receivers_in w whole t) (Known w)
receivers_in-known w whole (Comp f (More h (More t NoMore))) = go (names_eq f (codes ".")) (receivers_in-known w whole t)
  where
    go : (b : Bool) → IfOk (receivers_in w whole t) (Known w) → IfOk (if b then (receiver w h >>= (λ p. receivers_in w whole t >>= (λ ps. Ok (p ∷ ps)))) else Err (type_error "list" whole)) (Known w)
    go true r = after-ok (λ p. p < length w.processes) (Known w) (receiver w h) _ (receiver-below w h) (λ p x. after-ok (Known w) (Known w) (receivers_in w whole t) _ r (λ ps y. (x, y)))
    go false r = tt
receivers_in-known w whole (Var v) = tt
receivers_in-known w whole (Atom a) = at_end w (names_eq a (codes "[]")) (type_error "list" whole)
receivers_in-known w whole t = tt

-- the receivers are there
pub receivers-known : (w : World) (t : Term) → IfOk (receivers w t) (Known w)
receivers-known w (Atom a) = go (names_eq a (codes "[]"))
  where
    go : (b : Bool) → IfOk (if b then Ok [] else one_receiver w (Atom a)) (Known w)
    go true = tt
    go false = after-ok (λ p. p < length w.processes) (Known w) (receiver w (Atom a)) _ (receiver-below w (Atom a)) (λ p x. (x, tt))
receivers-known w (Var v) = receivers_in-known w (Var v) (Var v)
receivers-known w (Int z) = receivers_in-known w (Int z) (Int z)
receivers-known w (Comp f ts) = receivers_in-known w (Comp f ts) (Comp f ts)

-- ---- messages

-- a world that messages were sent in
pub record Sent (a b : World) : Type 0 where
  pub valid : Valid b
  pub len : length b.processes ≡ length a.processes
  pub next : b.next ≡ a.next
  pub stamp : b.stamp ≡ a.stamp

status_in : Option Process → ProcStatus
status_in o = elim o [ None ↦ Ended | Some q ↦ q.status ]

woken-sent : (w : World) (p : ℕ) → Valid w → p < length w.processes → Sent w (woken p (status_at w.processes p) w)
unfolding status_in
woken-sent w p v l = go (slice_get w.processes p) refl
  where
    same : Sent w w
    same = record { valid = v; len = refl; next = refl; stamp = refl }

    by_status : (q : Process) (s : ProcStatus) → q.status ≡ s → slice_get w.processes p ≡ Some q → Sent w (woken p s w)
    by_status q Scheduled e h = same
    by_status q Running e h = same
    by_status q Ended e h = same
    by_status q (Parked m) e h = same
    by_status q AwaitsMail e h = record {
      valid = scheduled-valid w p q w.clock w.running v h l (ap due e) (ap waits_or_runs e) (int_le-refl w.clock) (λ r n. refl) (sym (v.one_runs p) ∙ ap (λ o. is_running (status_in o)) h ∙ ap is_running e);
      len = length-at_place (λ x. record x { status = Scheduled }) p w.processes;
      next = refl;
      stamp = refl;
    }

    go : (o : Option Process) → slice_get w.processes p ≡ o → Sent w (woken p (status_in o) w)
    go None e = same
    go (Some q) e = by_status q q.status refl e

-- one message
pub sent-sent : (w : World) (from : ℕ) (m : Term) (p : ℕ) → Valid w → from < length w.processes → Below w.next m → p < length w.processes → Sent w (sent from m w p)
sent-sent w from m p v k b l =
    let x : Valid (with_box p (λ b. b ++ m ∷ []) w) = box-valid w p (λ b. b ++ m ∷ []) (λ ms a. all-append (Below w.next) ms (m ∷ []) a (b, tt)) v in
    let y : Valid (with_event from (Send m p) (with_box p (λ b. b ++ m ∷ []) w)) = event-valid (with_box p (λ b. b ++ m ∷ []) w) from (Send m p) x k (b, l) in
    let z = woken-sent (with_event from (Send m p) (with_box p (λ b. b ++ m ∷ []) w)) p y l in
    record { valid = z.valid; len = z.len; next = z.next; stamp = z.stamp }

-- a message to each of some processes
pub all-sent : (w : World) (from : ℕ) (m : Term) (ps : List ℕ) → Valid w → from < length w.processes → Below w.next m → Known w ps → Sent w (fold (sent from m) w ps)
all-sent w from m [] v k b a = record { valid = v; len = refl; next = refl; stamp = refl }
all-sent w from m (p ∷ ps) v k b a =
    let s = sent-sent w from m p v k b a.0 in
    let r = all-sent (sent from m w p) from m ps s.valid (rw s.len k) (rw s.next b) (all-weaker (λ p. p < length w.processes) (λ q. q < length (sent from m w p).processes) (λ q h. rw s.len h) ps a.1) in
    record { valid = r.valid; len = r.len ∙ s.len; next = r.next ∙ s.next; stamp = r.stamp ∙ s.stamp }

-- the world with the message in each box follows
pub send-follows : (t : Turn) (m to : Term) → TurnFits t → Below t.world.next m → IfOk (act.send t m to) (EachFollows t.world)
send-follows t m to f h =
    after-ok (Known t.world) (EachFollows t.world) (receivers t.world to) _ (receivers-known t.world to) (λ ps a.
    let len : length (going t t.rest).processes ≡ length t.world.processes = length-at_place (λ q. record q { items = t.rest }) t.process t.world.processes in
    let s = all-sent (going t t.rest) t.process m ps (goes t t.rest f (later t f)) (known_in t t.rest f (later t f)) h (all-weaker (λ p. p < length t.world.processes) (λ p. p < length (going t t.rest).processes) (λ p x. rw len x) ps a) in
    (record { valid = s.valid; stamp = s.stamp; next = let n = s.next in omega arith }, tt))

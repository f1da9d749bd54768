-- What single acts change, and how they are taken back.
use Rattle.std.proofs.Common.{◌≡◌, ℕ, zero, suc, ◌+◌, ◌<◌, Bool, true, false, nat_lt, int_lt, ◌||◌, List, [], ◌∷◌, ◌++◌, length, slice_get, slice_set, IfSome, Some, None, Option, ℤ, refl, ap, sym, subst, ◌∙◌, arith, cond}
use Rattle.std.specs.List.{list_any, count_by}
use Rattle.std.proofs.lemmas.Option.{same_Some}
use Rattle.std.proofs.lemmas.Int.{ints}
use Rattle.std.proofs.lemmas.List.Sums.{sum_by-cons}
use Rattle.std.proofs.lemmas.Bool.Decides.{nat_tests}
use Rattle.tp_terms.specs.declared.Limit.{Limit}
use Rattle.tp_terms.specs.declared.Limit.TheVariants.{At, Inf}
use Rattle.tp_terms.specs.declared.ProcStatus.{ProcStatus}
use Rattle.tp_terms.specs.declared.ProcStatus.TheVariants.{Scheduled, Running, AwaitsMail, Ended, Parked}
use Rattle.tp_terms.specs.declared.world.Proc.{Proc}
use Rattle.tp_terms.specs.declared.world.Slot.{Slot}
use Rattle.tp_log.specs.declared.entry.Entry.{Entry}
use Rattle.tp_log.specs.declared.entry.Entry.TheVariants as entry
use Rattle.tp_procs.specs.Processes.{end_of, sooner, earliest}
use Rattle.tp_calendar.specs.Order.{put_slot, IsFree}
use Rattle.tp_state.specs.Acts.{is_before, is_late, is_unmarked, mark, marked_status}
use Rattle.tp_state.specs.Undo.{Covers}
use Rattle.tp_state.specs.Going.{Held, Follows, parts_of}
use Rattle.tp_state.proofs.GoingBack.Logs.{covers-same}
use Rattle.tp_state.proofs.GoingBack.Follows.{acts}

-- ---- a process is changed

-- a process is there
pub there : {A : Type 0} (qs : List A) (pid : ℕ) → pid < length qs → (q : A) × (slice_get qs pid ≡ Some q)
there [] pid h = absurd (omega arith)
there (x ∷ xs) zero h = (x, refl)
there (x ∷ xs) (suc pid) h = there xs pid (omega arith)

-- what is told of the process that stands at a number
told : {A : Type 0} (P : A → Type 0) (o : Option A) (q : A) → o ≡ Some q → IfSome o P → P q
told P o q e h = subst (λ x. IfSome x P) e h

set-get : {A : Type 0} (qs : List A) (pid : ℕ) (q : A) → pid < length qs → slice_get (slice_set qs pid q) pid ≡ Some q
set-get [] pid q h = absurd (omega arith)
set-get (x ∷ xs) zero q h = refl
set-get (x ∷ xs) (suc pid) q h = set-get xs pid q (omega arith)

-- a process with its own contents put in its place
pub set-same : {A : Type 0} (qs : List A) (pid : ℕ) (q : A) → slice_get qs pid ≡ Some q → slice_set qs pid q ≡ qs
set-same [] pid q e = refl
set-same (x ∷ xs) zero q e = ap (λ y. y ∷ xs) (sym (same_Some x q e))
set-same (x ∷ xs) (suc pid) q e = ap (λ l. x ∷ l) (set-same xs pid q e)

set-length : {A : Type 0} (qs : List A) (pid : ℕ) (q : A) → length (slice_set qs pid q) ≡ length qs
set-length [] pid q = refl
set-length (x ∷ xs) zero q = refl
set-length (x ∷ xs) (suc pid) q = ap suc (set-length xs pid q)

-- The old process stands in the log, and puts back what was.
pub change-follows : (h : Held) (pid : ℕ) (proc : Proc) (procs : List Proc) (log : List Entry) → pid < length h.plain.procs → IfSome (slice_get h.plain.procs pid) (λ old. old.name ≡ proc.name) → procs ≡ slice_set h.plain.procs pid proc → IfSome (slice_get h.plain.procs pid) (λ old. log ≡ h.log ++ entry.Set pid old ∷ []) → IfSome (slice_get h.plain.procs pid) (λ old. slice_set procs pid old ≡ h.plain.procs) → Follows h (record { plain = record h.plain { procs = procs }; log = log; rooms = h.rooms })
change-follows h pid proc procs log lt name set l inverse =
    let q = there h.plain.procs pid lt in
    let here : slice_get procs pid ≡ Some proc = ap (λ ps. slice_get ps pid) set ∙ set-get h.plain.procs pid proc lt in
    let named : q.0.name ≡ proc.name = told (λ (old : Proc). old.name ≡ proc.name) (slice_get h.plain.procs pid) q.0 q.1 name in
    acts h (record { plain = record h.plain { procs = procs }; log = log; rooms = h.rooms }) (entry.Set pid q.0)
    (told (λ old. log ≡ h.log ++ entry.Set pid old ∷ []) (slice_get h.plain.procs pid) q.0 q.1 l)
    (ap (λ ps. record (parts_of h.plain) { procs = ps }) (told (λ old. slice_set procs pid old ≡ h.plain.procs) (slice_get h.plain.procs pid) q.0 q.1 inverse))
    (omega (arith, lt, ap length set, set-length h.plain.procs pid proc), subst (λ o. IfSome o (λ (now : Proc). now.name ≡ q.0.name)) (sym here) (sym named))
    (covers-same h.rooms) refl (omega arith) refl refl

-- ---- the first entry of the calendar is taken

-- It stands in the log, and there is room for it.
pub slot-follows : (h : Held) (s : Slot) (slots : List Slot) (log : List Entry) (clock : ℤ) (room : ℕ) → log ≡ h.log ++ entry.Took s ∷ [] → put_slot s slots ≡ h.plain.slots → IsFree s slots → length slots < room → room ≡ h.rooms.slots → Follows h (record { plain = record h.plain { slots = slots; clock = clock }; log = log; rooms = record h.rooms { slots = room } })
slot-follows h s slots log clock room l inverse free within same =
    acts h (record { plain = record h.plain { slots = slots; clock = clock }; log = log; rooms = record h.rooms { slots = room } }) (entry.Took s) l
    (ap (λ es. record (parts_of h.plain) { slots = es }) inverse)
    (free, within)
    (subst (λ n. Covers h.rooms (record h.rooms { slots = n })) (sym same) (covers-same h.rooms)) refl (omega arith) refl refl

-- ---- what the scheduler asks

-- a process that isn't unmarked stays as it is
pub mark-none : (q : Proc) → is_unmarked q ≡ false → mark q ≡ q
mark-none q e = by q.status refl
  where
    by : (s : ProcStatus) → q.status ≡ s → mark q ≡ q
    by Scheduled w = ap (λ s. record q { status = marked_status s }) w ∙ ap (λ s. record q { status = s }) (sym w)
    by Running w = ap (λ s. record q { status = marked_status s }) w ∙ ap (λ s. record q { status = s }) (sym w)
    by AwaitsMail w = ap (λ s. record q { status = marked_status s }) w ∙ ap (λ s. record q { status = s }) (sym w)
    by Ended w = ap (λ s. record q { status = marked_status s }) w ∙ ap (λ s. record q { status = s }) (sym w)
    by (Parked true) w = ap (λ s. record q { status = marked_status s }) w ∙ ap (λ s. record q { status = s }) (sym w)
    by (Parked false) w = absurd (let f : true ≡ false = sym (ap (λ (s : ProcStatus). is_unmarked (record q { status = s })) w) ∙ e in cc)

-- some process hasn't ended exactly where the number of those isn't 0
pub any_live : (t : Proc → Bool) (qs : List Proc) → nat_lt 0 (count_by t qs) ≡ list_any t qs
any_live t [] = refl
any_live t (q ∷ qs) = by (t q) refl (any_live t qs)
  where
    by : (b : Bool) → t q ≡ b → nat_lt 0 (count_by t qs) ≡ list_any t qs → nat_lt 0 (count_by t (q ∷ qs)) ≡ list_any t (q ∷ qs)
    by b e ih =
        ap (nat_lt 0) (sum_by-cons (λ x. cond (t x) 1 0) q qs ∙ ap (λ b. cond b 1 0 + count_by t qs) e)
        ∙ left b ih ∙ ap (λ b. b || list_any t qs) (sym e)
      where
        left : (b : Bool) → nat_lt 0 (count_by t qs) ≡ list_any t qs → nat_lt 0 (cond b 1 0 + count_by t qs) ≡ (b || list_any t qs)
        left true ih = grind (arith, nat_tests)
        left false ih = ap (nat_lt 0) (omega arith) ∙ ih

sooner-before : (t : ℤ) (a b : Option ℤ) → is_before t (sooner a b) ≡ (is_before t a || is_before t b)
sooner-before t None None = refl
sooner-before t None (Some y) = refl
sooner-before t (Some x) None = by (int_lt x t)
  where
    by : (b : Bool) → b ≡ (b || false)
    by true = refl
    by false = refl
sooner-before t (Some x) (Some y) = grind (arith, ints, nat_tests)

end-before : (t : ℤ) (q : Proc) → is_before t (end_of q) ≡ is_late t q
end-before t q = by q.status q.end
  where
    by : (s : ProcStatus) (e : Limit) → is_before t (end_of (record q { status = s; end = e })) ≡ is_late t (record q { status = s; end = e })
    by Scheduled (At e) = refl
    by Scheduled Inf = refl
    by Running (At e) = refl
    by Running Inf = refl
    by AwaitsMail (At e) = refl
    by AwaitsMail Inf = refl
    by Ended e = refl
    by (Parked m) (At e) = refl
    by (Parked m) Inf = refl

-- some process is late exactly where the least end time is below the time
pub any_late : (t : ℤ) (qs : List Proc) → is_before t (earliest qs) ≡ list_any (is_late t) qs
any_late t [] = refl
any_late t (q ∷ qs) = sooner-before t (end_of q) (earliest qs) ∙ ap (λ b. b || is_before t (earliest qs)) (end-before t q) ∙ ap (λ b. is_late t q || b) (any_late t qs)

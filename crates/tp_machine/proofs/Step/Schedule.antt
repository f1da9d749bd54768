-- Steps of the scheduler.
use Rattle.std.proofs.Common.{◌≡◌, ℕ, zero, suc, ◌+◌, ◌<◌, Bool, true, false, cond, ◌||◌, ◌&&◌, List, [], ◌∷◌, map, length, position, Option, Some, None, slice_get, slice_set, refl, ap, sym, subst, ◌∙◌, arith, ℤ, int_lt, if◌then◌else◌}
use Rattle.std.proofs.lemmas.List.{length-set}
use Rattle.std.proofs.lemmas.List.Quantifiers.{position-Some}
use Rattle.std.proofs.lemmas.Iterator.Adapters.{position_from-zero}
use Rattle.std.proofs.lemmas.Option.{slice_get-map}
use Rattle.std.specs.List.{AllByRecursion, list_any, position_from}
use Rattle.std.specs.Option.{option_map}
use Rattle.tp_terms.specs.declared.Limit.TheVariants.{At, Inf}
use Rattle.tp_terms.specs.declared.ProcStatus.{ProcStatus}
use Rattle.tp_terms.specs.declared.ProcStatus.TheVariants.{Scheduled, Running, Parked, AwaitsMail, Ended}
use Rattle.tp_terms.specs.declared.world.Proc.{Proc}
use Rattle.tp_terms.specs.declared.world.Slot.{Slot}
use Rattle.tp_terms.specs.declared.world.EventKind.TheVariants as event
use Rattle.tp_terms.specs.Term.{Name}
use Rattle.tp_terms.proofs.Naming.Tables.{Grows-same}
use Rattle.tp_meaning.specs.World as world
use Rattle.tp_meaning.specs.World.{stamped}
use Rattle.tp_meaning.specs.Turn.{Gives, one}
use Rattle.tp_meaning.specs.Search.{Success, Dead}
use Rattle.tp_meaning.specs.declared.DeadCause.TheVariants.{Deadlock, Late}
use Rattle.tp_meaning.specs.Scheduler as scheduler
use Rattle.tp_meaning.specs.Scheduler.{choose, by_calendar, with_start}
use Rattle.tp_meaning.specs.Valid.{SlotFits}
use Rattle.tp_meaning.specs.Step.{step, item_step}
use Rattle.tp_meaning.specs.Machine as machine
use Rattle.tp_machine.specs.declared.machine.Machine.{Machine}
use Rattle.tp_state.specs.declared.state.State.{State}
use Rattle.tp_machine.specs.declared.stepped.Stepped.TheVariants as answer
use Rattle.tp_state.specs.Going as going
use Rattle.tp_state.specs.State.{plain_of, held_of}
use Rattle.tp_state.specs.Plain.{Plain, items_of, process_of, with_running, slot_of, world_of}
use Rattle.tp_state.specs.Stands.{PlainStands}
use Rattle.tp_procs.specs.Processes.{is_marked, is_live}
use Rattle.tp_state.specs.Acts.{IsNextTime, ran, noted, begun, opened, is_late}
use Rattle.tp_machine.specs.Machine.{Steps, base_in, world_in}
use Rattle.tp_machine.specs.Meets.{IsIdle, IsUnmarked, TakesEntry}
use Rattle.tp_machine.proofs.Worlds.Procs.{ran-stands, ran-world, noted-stands, noted-world, begun-stands, begun-world}
use Rattle.tp_machine.proofs.Step.First.{there, len-map}
use Rattle.tp_machine.proofs.Step.Parts.{to_one, to_none}

-- ---- tests of processes

same-mark : (names : List Name) (p : Plain) (q : Proc) → scheduler.is_marked (process_of names p q) ≡ is_marked q
same-mark names p q = go q.status
  where
    go : (t : ProcStatus) → scheduler.is_marked (process_of names p (record q { status = t })) ≡ is_marked (record q { status = t })
    go Scheduled = refl
    go Running = refl
    go (Parked m) = refl
    go AwaitsMail = refl
    go Ended = refl

same-live : (names : List Name) (p : Plain) (q : Proc) → scheduler.is_live (process_of names p q) ≡ is_live q
same-live names p q = go q.status
  where
    go : (t : ProcStatus) → scheduler.is_live (process_of names p (record q { status = t })) ≡ is_live (record q { status = t })
    go Scheduled = refl
    go Running = refl
    go (Parked m) = refl
    go AwaitsMail = refl
    go Ended = refl

same-late : (names : List Name) (p : Plain) (t : ℤ) (q : Proc) → scheduler.is_late t (process_of names p q) ≡ is_late t q
same-late names p t q = ap (λ b. b && elim (q.end) [ Inf ↦ false | At e ↦ int_lt e t ]) (same-live names p q)

any-map : {A B : Type 0} (g : A → B) (f : B → Bool) (h : A → Bool) → ((x : A) → f (g x) ≡ h x) → (xs : List A) → list_any f (map g xs) ≡ list_any h xs
any-map g f h e [] = refl
any-map g f h e (x ∷ xs) = ap (λ b. b || list_any f (map g xs)) (e x) ∙ ap (λ b. h x || b) (any-map g f h e xs)

-- the first marked process, from a place on
abbrev moved : ℕ → Option ℕ → Option ℕ
moved k None = None
moved k (Some p) = Some (k + p)

moved-suc : (k : ℕ) (o : Option ℕ) → moved k (elim o [ None ↦ None | Some p ↦ Some (suc p) ]) ≡ moved (k + 1) o
moved-suc k None = refl
moved-suc k (Some p) = ap Some (let z : k + suc p ≡ k + 1 + p = omega arith in z)

marked-from : (names : List Name) (p : Plain) (k : ℕ) (qs : List Proc) → moved k (scheduler.first_marked (map (process_of names p) qs)) ≡ position_from is_marked k qs
marked-from names p k [] = refl
marked-from names p k (q ∷ qs) =
    ap (λ b. moved k (if b then Some 0 else elim (scheduler.first_marked (map (process_of names p) qs)) [ None ↦ None | Some n ↦ Some (suc n) ])) (same-mark names p q)
    ∙ go (is_marked q) (marked-from names p (k + 1) qs)
  where
    go : (b : Bool) → moved (k + 1) (scheduler.first_marked (map (process_of names p) qs)) ≡ position_from is_marked (k + 1) qs → moved k (if b then Some 0 else elim (scheduler.first_marked (map (process_of names p) qs)) [ None ↦ None | Some n ↦ Some (suc n) ]) ≡ cond b (Some k) (position_from is_marked (k + 1) qs)
    go true h = ap Some (let z : k + 0 ≡ k = omega arith in z)
    go false h = moved-suc k (scheduler.first_marked (map (process_of names p) qs)) ∙ h

moved-zero : (o : Option ℕ) → moved 0 o ≡ o
moved-zero None = refl
moved-zero (Some p) = ap Some (let z : 0 + p ≡ p = omega arith in z)

marked-first : (names : List Name) (p : Plain) (qs : List Proc) → scheduler.first_marked (map (process_of names p) qs) ≡ position is_marked qs
marked-first names p qs = sym (moved-zero (scheduler.first_marked (map (process_of names p) qs))) ∙ marked-from names p 0 qs ∙ sym (position_from-zero is_marked qs)

-- ---- where no process runs

module _ (m : Machine) (h : IsIdle m) where
  abbrev rows : List world.Process
  rows = map (process_of m.atoms (plain_of m.state)) m.state.procs

  pub rows-are : (world_in m).processes ≡ map (process_of m.atoms (plain_of m.state)) m.state.procs
  rows-are = ap (λ o. with_running o (items_of m.atoms (plain_of m.state) m.state.items) rows) h.idle

  chooses : step (base_in m) (world_in m) ≡ elim (position is_marked m.state.procs) as (λ _. Gives) [ None ↦ by_calendar (world_in m) (world_in m).calendar | Some p ↦ one (scheduler.with_running p (stamped (world_in m))) ]
  unfolding step
  chooses =
      ap (λ o. elim o as (λ _. Gives) [ None ↦ choose (world_in m) | Some p ↦ item_step (base_in m) (world_in m) p (world.items_at (world_in m).processes p) ]) h.idle
      ∙ ap (λ o. elim o as (λ _. Gives) [ None ↦ by_calendar (world_in m) (world_in m).calendar | Some p ↦ one (scheduler.with_running p (stamped (world_in m))) ])
      (ap scheduler.first_marked rows-are ∙ marked-first m.atoms (plain_of m.state) m.state.procs)

  pub marked_there : (p : ℕ) → position is_marked m.state.procs ≡ Some p → p < length m.state.procs
  marked_there p e = (position-Some is_marked m.state.procs p (record { name = record { at = 0 }; end = Inf; started = true; status = Ended; items = None }) e).0

  -- a marked process runs
  pub runs_marked : (s : State) (p : ℕ) → position is_marked m.state.procs ≡ Some p → ((q : Proc) → slice_get m.state.procs p ≡ Some q → plain_of s ≡ ran p q (plain_of m.state)) → going.Follows (held_of m.state) (held_of s) → Steps m (record m { state = s; stamp = m.stamp + 1 }) answer.Went
  runs_marked s p e f g =
      let q = there p m.state.procs (marked_there p e) in
      let here = f q.0 q.1 in
      let is = h.machine in
      to_one m (record m { state = s; stamp = m.stamp + 1 }) is
      (record { same = refl; names = Grows-same m.atoms; table = is.program.table; stands = subst (PlainStands m.atoms) (sym here) (ran-stands m.atoms (plain_of m.state) p q.0 is.stands q.1); follows = g; stamp = refl })
      (chooses ∙ ap (λ o. elim o as (λ _. Gives) [ None ↦ by_calendar (world_in m) (world_in m).calendar | Some p ↦ one (scheduler.with_running p (stamped (world_in m))) ]) e
      ∙ ap one (sym (ap (λ (x : Plain). world_of m.atoms x (m.stamp + 1)) here ∙ ran-world m.atoms (plain_of m.state) p (m.stamp + 1) q.0 h.idle q.1)))

module _ (m : Machine) (h : IsUnmarked m) where
  by_entries : step (base_in m) (world_in m) ≡ by_calendar (world_in m) (world_in m).calendar
  by_entries = chooses m h.idle ∙ ap (λ o. elim o as (λ _. Gives) [ None ↦ by_calendar (world_in m) (world_in m).calendar | Some p ↦ one (scheduler.with_running p (stamped (world_in m))) ]) h.none

  live-is : list_any scheduler.is_live (world_in m).processes ≡ list_any is_live m.state.procs
  live-is = ap (list_any scheduler.is_live) (rows-are m h.idle) ∙ any-map (process_of m.atoms (plain_of m.state)) scheduler.is_live is_live (same-live m.atoms (plain_of m.state)) m.state.procs

  late-is : (t : ℤ) → list_any (scheduler.is_late t) (world_in m).processes ≡ list_any (is_late t) m.state.procs
  late-is t = ap (list_any (scheduler.is_late t)) (rows-are m h.idle) ∙ any-map (process_of m.atoms (plain_of m.state)) (scheduler.is_late t) (is_late t) (same-late m.atoms (plain_of m.state) t) m.state.procs

  -- nothing is left in the calendar
  pub stops_dead : m.state.calendar.slots ≡ [] → list_any is_live m.state.procs ≡ true → Steps m m (answer.Dead Deadlock)
  stops_dead e live = to_none m (answer.Dead Deadlock) (machine.Dead Deadlock) (Dead Deadlock) h.idle.machine refl tt
      (by_entries ∙ ap (λ es. by_calendar (world_in m) (map slot_of es)) e ∙ ap (λ b. if b then Dead Deadlock else Success) (live-is ∙ live)) refl

  pub stops_well : m.state.calendar.slots ≡ [] → list_any is_live m.state.procs ≡ false → Steps m m answer.Success
  stops_well e live = to_none m answer.Success machine.Success Success h.idle.machine refl tt
      (by_entries ∙ ap (λ es. by_calendar (world_in m) (map slot_of es)) e ∙ ap (λ b. if b then Dead Deadlock else Success) (live-is ∙ live)) refl

  -- a process would live past its end time
  pub is_too_late : (e : Slot) (es : List Slot) → m.state.calendar.slots ≡ e ∷ es → list_any (is_late e.time) m.state.procs ≡ true → Steps m m (answer.Dead Late)
  is_too_late e es k late = to_none m (answer.Dead Late) (machine.Dead Late) (Dead Late) h.idle.machine refl tt
      (by_entries ∙ ap (λ xs. by_calendar (world_in m) (map slot_of xs)) k
      ∙ ap (λ b. if b then Dead Late else one (scheduler.entered (world_in m) (slot_of e) (map slot_of es))) (late-is e.time ∙ late)) refl

set-there : {A : Type 0} (xs : List A) (n : ℕ) (y : A) → n < length xs → slice_get (slice_set xs n y) n ≡ Some y
set-there [] n y lt = absurd (omega arith)
set-there (x ∷ xs) zero y lt = refl
set-there (x ∷ xs) (suc n) y lt = set-there xs n y (omega arith)

-- ---- the first entry

pub no_entry : (xs : List Slot) (o : Option ℤ) → IsNextTime xs o → o ≡ None → xs ≡ []
no_entry [] o h e = refl
no_entry (x ∷ xs) o h e = absurd (cc)

pub record Entry (xs : List Slot) (time : ℤ) : Type 0 where
  pub entry : Slot
  pub more : List Slot
  pub is : xs ≡ entry ∷ more
  pub at : {b : Bool} (qs : List Proc) (r : Bool) → r ≡ list_any (is_late time) qs → r ≡ b → list_any (is_late entry.time) qs ≡ b

pub some_entry : (xs : List Slot) (o : Option ℤ) (time : ℤ) → IsNextTime xs o → o ≡ Some time → Entry xs time
some_entry [] o time h e = absurd (cc)
some_entry (x ∷ xs) o time h e =
    let same : x.time ≡ time = cc in
    record { entry = x; more = xs; is = refl; at = λ qs r er eb. ap (λ t. list_any (is_late t) qs) same ∙ sym er ∙ eb }

-- the first entry is taken
module _ (m : Machine) (h : TakesEntry m) where
  pub entry_first : 0 < length m.state.calendar.slots
  entry_first = omega (arith, ap length h.slots)

  there_is : h.entry.pid < length m.state.procs
  there_is =
      let v = h.unmarked.idle.machine.worlds.world.valid in
      let fits = subst (λ es. AllByRecursion (SlotFits (length (world_in m).processes) m.state.clock m.state.insertion) (map slot_of es)) h.slots v.entries in
      let lt : h.entry.pid < length (world_in m).processes = fits.0.0 in
      omega (arith, lt, ap length (rows-are m h.unmarked.idle), len-map (process_of m.atoms (plain_of m.state)) m.state.procs)

  abbrev taken : Plain
  taken = record (plain_of m.state) { clock = h.entry.time; slots = h.more }

  module _ (s1 : State) (pid : ℕ) (at : pid ≡ h.entry.pid) (e1 : plain_of s1 ≡ record (plain_of m.state) { clock = h.entry.time; slots = h.more }) where
    pub entry_there : pid < length s1.procs
    entry_there = omega (arith, there_is, at, ap (λ (x : Plain). length x.procs) e1)

    pub entry_kept : (s2 : State) → ((q : Proc) → slice_get s1.procs pid ≡ Some q → plain_of s2 ≡ ran pid q (plain_of s1)) → pid < length s2.procs
    entry_kept s2 f2 =
        let q = there pid s1.procs (entry_there) in
        omega (arith, entry_there, ap (λ (x : Plain). length x.procs) (f2 q.0 q.1), length-set s1.procs pid (record q.0 { status = Running }))

  takes_at : (s1 s2 s3 : State) → plain_of s1 ≡ record (plain_of m.state) { clock = h.entry.time; slots = h.more }
      → ((q : Proc) → slice_get s1.procs h.entry.pid ≡ Some q → plain_of s2 ≡ ran h.entry.pid q (plain_of s1))
      → ((q : Proc) → slice_get s2.procs h.entry.pid ≡ Some q → plain_of s3 ≡ opened h.entry.pid q (plain_of s2)) → going.Follows (held_of m.state) (held_of s3)
      → Steps m (record m { state = s3; stamp = m.stamp + 1 }) answer.Went
  takes_at s1 s2 s3 e1 f2 f3 g =
      let pid = h.entry.pid in
      let is = h.unmarked.idle.machine in
      let names = m.atoms in
      let found = there pid m.state.procs (there_is) in
      let q = found.0 in
      let y : Proc = record q { status = Running } in
      let e2 : plain_of s2 ≡ ran pid q taken = f2 q (ap (λ (x : Plain). slice_get x.procs pid) e1 ∙ found.1) ∙ ap (ran pid q) e1 in
      let there2 : slice_get s2.procs pid ≡ Some y = ap (λ (x : Plain). slice_get x.procs pid) e2 ∙ set-there m.state.procs pid y (there_is) in
      let e3 : plain_of s3 ≡ opened pid y (ran pid q taken) = f3 y there2 ∙ ap (opened pid y) e2 in
      let st1 : PlainStands names taken = record { store = is.stands.store; atoms = is.stands.atoms; lists = is.stands.lists; items = is.stands.items; procs = is.stands.procs; boxes = is.stands.boxes; events = is.stands.events } in
      let st2 = ran-stands names taken pid q st1 found.1 in
      let opens = opens_to names (ran pid q taken) pid (m.stamp + 1) y st2 refl (set-there m.state.procs pid y (there_is)) (omega (arith, there_is, length-set m.state.procs pid y)) in
      let ran_is : world_of names (ran pid q taken) (m.stamp + 1) ≡ scheduler.with_running pid (record (stamped (world_in m)) { clock = h.entry.time; calendar = map slot_of h.more }) = ran-world names taken pid (m.stamp + 1) q h.unmarked.idle.idle found.1 in
      to_one m (record m { state = s3; stamp = m.stamp + 1 }) is
      (record { same = refl; names = Grows-same names; table = is.program.table; stands = subst (PlainStands names) (sym e3) opens.0; follows = g; stamp = refl })
      (by_entries m h.unmarked ∙ ap (λ xs. by_calendar (world_in m) (map slot_of xs)) h.slots
      ∙ ap (λ b. if b then Dead Late else one (scheduler.entered (world_in m) (slot_of h.entry) (map slot_of h.more))) (late-is m h.unmarked h.entry.time ∙ h.timely)
      ∙ ap (λ o. one (with_start pid o (scheduler.with_running pid (record (stamped (world_in m)) { clock = h.entry.time; calendar = map slot_of h.more }))))
      (ap (λ xs. slice_get xs pid) (rows-are m h.unmarked.idle) ∙ slice_get-map (process_of names (plain_of m.state)) m.state.procs pid ∙ ap (option_map (process_of names (plain_of m.state))) found.1)
      ∙ ap (λ v. one (if q.started then v else world.with_event pid world.Start (world.with_process pid (λ (x : world.Process). record x { started = true }) v))) (sym ran_is)
      ∙ ap one (sym (ap (λ (x : Plain). world_of names x (m.stamp + 1)) e3 ∙ opens.1)))
    where
      opens_to : (names : List Name) (p : Plain) (pid n : ℕ) (q : Proc) → PlainStands names p → p.running ≡ Some pid → slice_get p.procs pid ≡ Some q → pid < length p.procs
          → PlainStands names (opened pid q p) × (world_of names (opened pid q p) n ≡ (if q.started then world_of names p n else world.with_event pid world.Start (world.with_process pid (λ (x : world.Process). record x { started = true }) (world_of names p n))))
      opens_to names p pid n q s r e lt = go q.started
        where
          go : (b : Bool) → PlainStands names (if b then p else begun pid q (noted pid event.Start p)) × (world_of names (if b then p else begun pid q (noted pid event.Start p)) n ≡ (if b then world_of names p n else world.with_event pid world.Start (world.with_process pid (λ (x : world.Process). record x { started = true }) (world_of names p n))))
          go true = (s, refl)
          go false =
              let st = noted-stands names p pid event.Start s lt tt in (
                begun-stands names (noted pid event.Start p) pid q st e,
                begun-world names (noted pid event.Start p) pid n q r e ∙ ap (world.with_process pid (λ (x : world.Process). record x { started = true })) (noted-world names p pid n event.Start),
              )

  pub takes : (s1 s2 s3 : State) (pid' : ℕ) → pid' ≡ h.entry.pid → plain_of s1 ≡ record (plain_of m.state) { clock = h.entry.time; slots = h.more }
      → ((q : Proc) → slice_get s1.procs pid' ≡ Some q → plain_of s2 ≡ ran pid' q (plain_of s1))
      → ((q : Proc) → slice_get s2.procs pid' ≡ Some q → plain_of s3 ≡ opened pid' q (plain_of s2)) → going.Follows (held_of m.state) (held_of s3)
      → Steps m (record m { state = s3; stamp = m.stamp + 1 }) answer.Went
  takes s1 s2 s3 pid' at e1 g2 g3 f =
      takes_at s1 s2 s3 e1
      (subst (λ n. (q : Proc) → slice_get s1.procs n ≡ Some q → plain_of s2 ≡ ran n q (plain_of s1)) at g2)
      (subst (λ n. (q : Proc) → slice_get s2.procs n ≡ Some q → plain_of s3 ≡ opened n q (plain_of s2)) at g3)
      f

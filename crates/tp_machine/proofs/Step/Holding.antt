-- Steps in which the running process holds.
use Rattle.std.proofs.Common.{◌≡◌, ℕ, ◌+◌, ◌-◌, ◌<◌, ◌≤◌, ◌^◌, true, false, List, length, Some, Ok, Err, slice_get, ℤ, pos, negsuc, int_le, int_lt, refl, ap, sym, subst, ◌∙◌, arith}
use Rattle.std.specs.Prelude.{◌+ℤ◌}
use Rattle.std.proofs.lemmas.Bool.{eq-eqb}
use Rattle.tp_terms.specs.declared.ProcStatus.TheVariants.{Scheduled}
use Rattle.tp_terms.specs.declared.world.EventKind.TheVariants as event
use Rattle.tp_terms.specs.declared.world.Proc.{Proc}
use Rattle.tp_terms.specs.Term.{Name, Term}
use Rattle.tp_calendar.specs.Order.{IsFree}
use Rattle.tp_meaning.specs.declared.goals.ProcessGoal.TheVariants as goal
use Rattle.tp_meaning.specs.Arith.{greatest, value}
use Rattle.tp_meaning.specs.Checks.{Checked, ◌>>=◌, ◌>>◌, ◌if◌, natural, evaluation_error}
use Rattle.tp_meaning.specs.Process as meaning
use Rattle.tp_meaning.specs.Process.{held}
use Rattle.tp_meaning.specs.World as world
use Rattle.tp_meaning.specs.World.{World, let_go, with_event, with_slot, with_status}
use Rattle.tp_meaning.specs.Turn.{Turn, Gives, going, one}
use Rattle.tp_meaning.specs.Valid.{is_at, busy}
use Rattle.tp_store.specs.Contents.{seen}
use Rattle.tp_state.specs.declared.state.State.{State}
use Rattle.tp_state.specs.Acts.{left, mark_others, noted, planned, resting}
use Rattle.tp_state.specs.Going.{Follows}
use Rattle.tp_state.specs.Plain.{Plain, world_of}
use Rattle.tp_state.specs.Stands.{PlainStands}
use Rattle.tp_state.specs.State.{plain_of, held_of}
use Rattle.tp_machine.specs.declared.machine.Machine.{Machine}
use Rattle.tp_machine.specs.declared.stepped.Stepped.TheVariants as answer
use Rattle.tp_machine.specs.declared.task.Task.{Task}
use Rattle.tp_machine.specs.declared.task.Call.{Call}
use Rattle.tp_machine.specs.Acting.{Delays}
use Rattle.tp_machine.specs.Machine.{IsMachine, Steps, world_in}
use Rattle.tp_machine.specs.Meets.{Calls, IsCause, Meets, its_turn}
use Rattle.tp_machine.proofs.Worlds.Plans.{busy-some, free-slot, planned-stands, planned-world}
use Rattle.tp_machine.proofs.Worlds.Procs.{left-stands, left-world, marked-stands, marked-world, noted-stands, noted-world}
use Rattle.tp_machine.proofs.Step.Acting.{acts_to, first_is, first_there, rested_stands, rested_world}
use Rattle.tp_machine.proofs.Step.First.{process_there, rest_in, there, turn_in}
use Rattle.std.specs.Prelude.{FitsSigned}
use Rattle.std.specs.Int.{w64}
use Rattle.std.proofs.lemmas.Bool.{le-ltb}
use Rattle.tp_terms.specs.Term.{Int}
use Rattle.tp_meaning.specs.declared.goals.GoalKind.TheVariants.{Process}
use Rattle.tp_machine.specs.declared.errors.Cause.TheVariants as cause
use Rattle.tp_machine.specs.declared.errors.Domain.TheVariants.{Duration}
use Rattle.tp_machine.specs.declared.values.Given.{Given}
use Rattle.tp_machine.specs.declared.values.Given.TheVariants.{Time, Refused}
use Rattle.tp_machine.specs.BuiltIns.{Grew}
use Rattle.tp_machine.specs.Causes.{domain_word, wrong_domain}
use Rattle.tp_machine.specs.Times.{IsDuration, IsTime, Lasts, in_domain}
use Rattle.tp_machine.proofs.Gives.Times.{from_zero, grew_calls, grew_value, past_bits, within_bits}
use Rattle.tp_machine.proofs.Step.Refuse.{gives_here}

-- an entry of the next insertion number may be put in
module _ (m : Machine) (t : Task) (is : IsMachine m) (h : Meets m t) where
  pub free-entry : (pid : ℕ) (time : ℤ) → IsFree (record { time = time; number = m.state.insertion; pid = pid }) m.state.calendar.slots
  free-entry pid time = free-slot (length (world_in m).processes) m.state.insertion pid m.state.clock time m.state.calendar.slots is.worlds.world.valid.entries

  pub few-insertions : m.state.insertion < 2 ^ 64 - 1
  few-insertions =
      let v = is.worlds.world.valid in
      let le : m.state.insertion + busy (world_in m).processes ≤ m.stamp + 1 = v.insertions in
      let some = busy-some (world_in m).processes t.process (v.one_runs t.process ∙ ap (λ o. is_at o t.process) h.running ∙ eq-eqb t.process t.process refl) in
      let few = h.few in
      omega arith

-- what `hold` gives
hold-is : (w : Turn) (x : Term) (d : ℤ) → value w.world.subst x ≡ Ok d → int_le (pos 0) d ≡ true → int_lt greatest (w.world.clock +ℤ d) ≡ false → meaning.hold w x ≡ Ok (one (held w d))
hold-is w x d e up fits = ap after e ∙ by d up fits
  where
    after : Checked ℤ → Checked Gives
    after r = r >>= (λ d. natural d >>= (λ k. (evaluation_error "int_overflow" if int_lt greatest (w.world.clock +ℤ d)) >> Ok (one (held w d))))

    by : (d : ℤ) → int_le (pos 0) d ≡ true → int_lt greatest (w.world.clock +ℤ d) ≡ false → (natural d >>= (λ k. (evaluation_error "int_overflow" if int_lt greatest (w.world.clock +ℤ d)) >> Ok (one (held w d)))) ≡ Ok (one (held w d))
    by (pos n) h f = ap (λ b. (evaluation_error "int_overflow" if b) >> Ok (one (held w (pos n)))) f
    by (negsuc n) h f = absurd (cc)

module _ (m : Machine) (t : Task) (c : Call) (d time : ℤ) (is : IsMachine m) (h : Delays m t c d time) where
  abbrev names : List Name
  names = m.atoms

  abbrev pid : ℕ
  pid = t.process

  abbrev p1 : Plain
  p1 = noted t.process (event.Hold d) (resting t.rest (plain_of m.state))

  abbrev p2 : Plain
  p2 = planned t.process time (noted t.process (event.Hold d) (resting t.rest (plain_of m.state)))

  below : t.process < length m.state.procs
  below = process_there m t.process h.calls.meets.standing h.calls.meets.running

  gives : meaning.hold (turn_in m t.process t.rest) (seen m.atoms m.state.store c.first.at) ≡ Ok (one (held (turn_in m t.process t.rest) d))
  gives = hold-is (turn_in m t.process t.rest) (seen m.atoms m.state.store c.first.at) d h.lasts h.forward (ap (int_lt greatest) (sym h.until) ∙ h.fits)

  -- the process holds, and lets go
  pub holds : (s1 s2 s3 s4 : State) → plain_of s1 ≡ noted t.process (event.Hold d) (resting t.rest (plain_of m.state)) → plain_of s2 ≡ planned t.process time (plain_of s1)
      → ((q : Proc) → slice_get s2.procs t.process ≡ Some q → plain_of s3 ≡ left t.process q Scheduled (plain_of s2)) → plain_of s4 ≡ record (plain_of s3) { procs = mark_others t.process s3.procs }
      → Follows (held_of m.state) (held_of s4) → Steps m (record m { state = s4; stamp = m.stamp + 1 }) answer.Went
  holds s1 s2 s3 s4 e1 e2 e3 e4 fo =
      let q = there pid m.state.procs below in
      let i2 : plain_of s2 ≡ planned t.process time (noted t.process (event.Hold d) (resting t.rest (plain_of m.state))) = e2 ∙ ap (planned pid time) e1 in
      let i3 : plain_of s3 ≡ left t.process q.0 Scheduled (planned t.process time (noted t.process (event.Hold d) (resting t.rest (plain_of m.state)))) = e3 q.0 (ap (λ (x : Plain). slice_get x.procs pid) i2 ∙ q.1) ∙ ap (left pid q.0 Scheduled) i2 in
      let p3 = left pid q.0 Scheduled p2 in
      let i4 : plain_of s4 ≡ record (left t.process q.0 Scheduled p2) { procs = mark_others t.process (left t.process q.0 Scheduled p2).procs } = e4 ∙ ap (λ (x : Plain). record x { procs = mark_others pid x.procs }) i3 in
      let st1 = noted-stands names (resting t.rest (plain_of m.state)) pid (event.Hold d) (rested_stands m t is h.calls.meets) below tt in
      let st3 = left-stands names p2 pid q.0 Scheduled (planned-stands names p1 pid time st1) q.1 in
      let st4 = marked-stands names p3 pid st3 in
      let w = turn_in m t.process t.rest in
      acts_to m t c goal.Hold h.calls s4 (held w d) is fo (subst (PlainStands names) (sym i4) st4)
      (ap (λ (x : Plain). world_of names x (m.stamp + 1)) i4
      ∙ marked-world names p3 pid (m.stamp + 1) refl
      ∙ ap (λ (v : World). record v { processes = world.mark_others pid v.processes }) (left-world names p2 pid (m.stamp + 1) q.0 Scheduled h.calls.meets.running q.1)
      ∙ ap (λ (v : World). let_go pid (with_status pid Scheduled v)) (planned-world names p1 pid (m.stamp + 1) time)
      ∙ ap (λ (v : World). let_go pid (with_status pid Scheduled (with_slot pid time v))) (noted-world names (resting t.rest (plain_of m.state)) pid (m.stamp + 1) (event.Hold d))
      ∙ ap (λ (v : World). let_go pid (with_status pid Scheduled (with_slot pid time (with_event pid (world.Hold d) v)))) (rested_world m t is h.calls.meets)
      ∙ ap (λ z. let_go pid (with_status pid Scheduled (with_slot pid z (with_event pid (world.Hold d) (going w (rest_in m t.rest)))))) h.until)
      (ap (meaning.hold w) (first_is m t c goal.Hold h.calls) ∙ gives)

-- where its argument gives no duration, `hold` gives an error
hold-fails : (w : Turn) (x e : Term) → in_domain Duration (pos 0) (value w.world.subst x) ≡ Err e → meaning.hold w x ≡ Err e
hold-fails w x e h = go (value w.world.subst x) h
  where
    go : (r : Checked ℤ) → in_domain Duration (pos 0) r ≡ Err e → (r >>= (λ d. natural d >>= (λ k. (evaluation_error "int_overflow" if int_lt greatest (w.world.clock +ℤ d)) >> Ok (one (held w d))))) ≡ Err e
    go (Err k) h = cc
    go (Ok (pos n)) h = absurd (let z : Ok (pos n) ≡ Err e = sym (ap (λ b. (wrong_domain (domain_word Duration) (Int (pos n)) if b) >> Ok (pos n)) (le-ltb n 0 (omega arith))) ∙ h in cc)
    go (Ok (negsuc n)) h = cc

-- and so it does where the time would be past 64 bits
hold-past : (w : Turn) (x : Term) (d : ℤ) → value w.world.subst x ≡ Ok d → int_le (pos 0) d ≡ true → int_lt greatest (w.world.clock +ℤ d) ≡ true → meaning.hold w x ≡ Err (evaluation_error "int_overflow")
hold-past w x d e up past = ap after e ∙ by d up past
  where
    after : Checked ℤ → Checked Gives
    after r = r >>= (λ d. natural d >>= (λ k. (evaluation_error "int_overflow" if int_lt greatest (w.world.clock +ℤ d)) >> Ok (one (held w d))))

    by : (d : ℤ) → int_le (pos 0) d ≡ true → int_lt greatest (w.world.clock +ℤ d) ≡ true → (natural d >>= (λ k. (evaluation_error "int_overflow" if int_lt greatest (w.world.clock +ℤ d)) >> Ok (one (held w d)))) ≡ Err (evaluation_error "int_overflow")
    by (pos n) h f = ap (λ b. (evaluation_error "int_overflow" if b) >> Ok (one (held w (pos n)))) f
    by (negsuc n) h f = absurd (cc)

-- its argument was evaluated
pub duration_given : (old new : Machine) (t : Task) (c : Call) (r : Given) → IsMachine old → Grew old new → Calls old t c (Some (Process goal.Hold)) → IsTime new (seen old.atoms old.state.store c.first.at) Duration (pos 0) r → IsDuration new t c r
duration_given old new t c (Time d) is g h x = record {
  calls = grew_calls old new is g t c (Some (Process goal.Hold)) h;
  lasts = grew_value old new is g c.first.at (first_there old t c goal.Hold h) ∙ x.0;
  forward = from_zero d x.1;
}
duration_given old new t c (Refused why) is g h x =
    let calls = grew_calls old new is g t c (Some (Process goal.Hold)) h in (
      calls.meets,
      record {
        culprit = x.0;
        stands = x.1;
        gives = gives_here new t c (Process goal.Hold) _ calls
            (ap (meaning.hold (its_turn new t)) (first_is new t c goal.Hold calls)
            ∙ hold-fails (its_turn new t) (seen new.atoms new.state.store c.first.at) _ (ap (in_domain Duration (pos 0)) (grew_value old new is g c.first.at (first_there old t c goal.Hold h)) ∙ x.2));
      },
    )

module _ (m : Machine) (t : Task) (c : Call) (d : ℤ) (h : Lasts m t c d) where
  -- to a time within 64 bits
  pub delays : (time : ℤ) → FitsSigned w64 (m.state.clock +ℤ d) → time ≡ m.state.clock +ℤ d → Delays m t c d time
  delays time f e = record { calls = h.calls; lasts = h.lasts; forward = h.forward; until = e; fits = ap (int_lt greatest) e ∙ within_bits (m.state.clock +ℤ d) f }

  -- or past them
  pub overflow_cause : IsMachine m → ¬ (FitsSigned w64 (m.state.clock +ℤ d)) → IsCause m t cause.Overflow
  overflow_cause is f = record {
    culprit = tt;
    stands = tt;
    gives = gives_here m t c (Process goal.Hold) _ h.calls
        (ap (meaning.hold (its_turn m t)) (first_is m t c goal.Hold h.calls)
        ∙ hold-past (its_turn m t) (seen m.atoms m.state.store c.first.at) d h.lasts h.forward (past m.state.clock d is.worlds.world.valid.from_zero h.forward f));
  }
    where
      past : (z d : ℤ) → int_le (pos 0) z ≡ true → int_le (pos 0) d ≡ true → ¬ (FitsSigned w64 (z +ℤ d)) → int_lt greatest (z +ℤ d) ≡ true
      past (pos a) (pos b) x y f = past_bits (a + b) f
      past (pos a) (negsuc b) x y f = absurd (cc)
      past (negsuc a) d x y f = absurd (cc)

-- numbers that were read back
pub same_delays : (m : Machine) (t : Task) (c : Call) (d d' time time' : ℤ) → d' ≡ d → time' ≡ time → Delays m t c d time → Delays m t c d' time'
same_delays m t c d d' time time' e f h = subst (λ z. Delays m t c z time') (sym e) (subst (Delays m t c d) (sym f) h)

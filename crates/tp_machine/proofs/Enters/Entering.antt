-- A goal whose first argument is entered.
use Rattle.std.proofs.Common.{◌≡◌, ◌<◌, ◌≤◌, List, length, Some, refl, ap, sym, subst, ◌∙◌, arith}
use Rattle.tp_terms.specs.declared.cells.Ref.{Ref}
use Rattle.tp_terms.specs.Term.{Name}
use Rattle.tp_terms.specs.Shown.{name_at}
use Rattle.tp_meaning.specs.declared.goals.ControlGoal.{ControlGoal}
use Rattle.tp_meaning.specs.declared.goals.ControlGoal.TheVariants as control
use Rattle.tp_meaning.specs.declared.goals.GoalKind.TheVariants.{Control}
use Rattle.tp_meaning.proofs.OwnGoals.Counts.{fewest-fits}
use Rattle.tp_store.specs.Contents.{Contents, IsStore}
use Rattle.tp_state.specs.declared.state.State.{State}
use Rattle.tp_machine.specs.declared.enter.Entered.{Entered}
use Rattle.tp_machine.specs.declared.enter.Entered.TheVariants.{Goal, Refused}
use Rattle.tp_machine.specs.declared.errors.Cause.{Cause}
use Rattle.tp_machine.specs.declared.errors.Cause.TheVariants as cause
use Rattle.tp_machine.specs.declared.machine.Machine.{Machine}
use Rattle.tp_machine.specs.declared.task.Task.{Task}
use Rattle.tp_machine.specs.declared.task.Call.{Call}
use Rattle.tp_machine.specs.Enters.{Enters, EntersFirst, FirstEntered, FirstStands, Rests}
use Rattle.tp_machine.specs.Machine.{IsMachine}
use Rattle.tp_machine.specs.Meets.{Calls, IsCause, Meets}
use Rattle.tp_machine.proofs.Grows.Grown.{rests, calls_still, entered_still}
use Rattle.tp_machine.proofs.Step.Refuse.{not_provable_refused, once_refused}

-- where a goal is refused, the store stays
pub refused_store : (names : List Name) (old new : Contents) (goal : Ref) (why : Cause) → Enters names old goal (Refused why) new → new ≡ old
refused_store names old new goal cause.Unbound h = h.same
refused_store names old new goal (cause.NotCallable culprit) h = h.1.same
refused_store names old new goal _ h = absurd h

-- the machine stands where it stood
pub entering_rests : (m : Machine) (s : State) (goal : Ref) (r : Entered) → IsMachine m → s ≡ record m.state { store = s.store } → IsStore s.store → Enters m.atoms m.state.store goal r s.store → Rests m (record m { state = s })
entering_rests m s goal (Goal place) is e store h = subst (λ (q : State). Rests m (record m { state = q })) (sym e) (rests m s.store is h.adds h.keeps store h.named)
entering_rests m s goal (Refused why) is e store h =
    let same : s ≡ m.state = e ∙ ap (λ c. record m.state { store = c }) (refused_store m.atoms m.state.store s.store goal why h) in
    subst (λ (q : State). Rests m (record m { state = q })) (sym same) (record { is = refl; state = refl; machine = is })

module _ (m : Machine) (t : Task) (c : Call) where
  some_first : (k : ControlGoal) → Calls m t c (Some (Control k)) → EntersFirst k → 1 ≤ c.count
  some_first control.NotProvable h x = fewest-fits (name_at m.atoms c.name.at) c.count (Control control.NotProvable) h.kind
  some_first control.Once h x = fewest-fits (name_at m.atoms c.name.at) c.count (Control control.Once) h.kind
  some_first _ h x = absurd x

  -- the first argument stands at a place
  pub first_there : (k : ControlGoal) → Calls m t c (Some (Control k)) → EntersFirst k → c.first.at < length m.state.store.cells
  first_there k h x = let le = some_first k h x in let w = h.call.within in omega arith

  first_refused : (k : ControlGoal) (why : Cause) (new : Contents) → Calls m t c (Some (Control k)) → EntersFirst k → Enters m.atoms m.state.store c.first (Refused why) new → IsCause m t why
  first_refused control.NotProvable why new h x r = not_provable_refused m t c why new h r
  first_refused control.Once why new h x r = once_refused m t c why new h r
  first_refused _ why new h x r = absurd x

  -- it is entered, or the goal raises an error
  pub entering_first : (s : State) (k : ControlGoal) (r : Entered) → IsMachine m → Calls m t c (Some (Control k)) → EntersFirst k → s ≡ record m.state { store = s.store } → IsStore s.store → Enters m.atoms m.state.store c.first r s.store → FirstEntered (record m { state = s }) t c k r
  entering_first s k (Goal place) is h x e store r =
      subst (λ (q : State). FirstStands (record m { state = q }) t c k place) (sym e) (record {
        calls = calls_still m s.store is r.adds r.keeps store r.named t c (Some (Control k)) h;
        is = entered_still m s.store c.first place is store (first_there k h x) r;
        within = r.within;
      })
  entering_first s k (Refused why) is h x e store r =
      let same : s ≡ m.state = e ∙ ap (λ d. record m.state { store = d }) (refused_store m.atoms m.state.store s.store c.first why r) in
      subst (λ (q : State). Meets (record m { state = q }) t × IsCause (record m { state = q }) t why) (sym same) (h.meets, first_refused k why s.store h x r)

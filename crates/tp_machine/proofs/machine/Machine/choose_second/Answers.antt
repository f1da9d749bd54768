use Rattle.std.proofs.Common.{◌≡◌, ◌⊎◌, inl, inr, Some, None, sym, ◌∙◌}
use Rattle.std.proofs.lemmas.Option.{same_Some}
use Rattle.tp_terms.specs.Shown.{name_at}
use Rattle.tp_meaning.specs.Goals.{goal_kind}
use Rattle.tp_meaning.specs.declared.goals.GoalKind.{GoalKind}
use Rattle.tp_meaning.specs.declared.goals.GoalKind.TheVariants.{Control, Process}
use Rattle.tp_meaning.specs.declared.goals.ControlGoal.{ControlGoal}
use Rattle.tp_meaning.specs.declared.goals.ProcessGoal.TheVariants.{Wait}
use Rattle.tp_machine.specs.declared.machine.Machine.{Machine}
use Rattle.tp_machine.specs.declared.task.Task.{Task}
use Rattle.tp_machine.specs.declared.task.Call.{Call}
use Rattle.tp_machine.specs.Chooses.{Chooses, ChoosesBy, by_control, by_wait}
use Rattle.tp_machine.specs.Meets.{Calls}
use Rattle.tp_machine.proofs.Step.Seconds.{chooses}
use Rattle.tp_machine.proofs.machine.Machine.choose_second.Goals as goal

chosen : (m : Machine) (t : Task) (c : Call) (k : GoalKind) → Some k ≡ goal_kind (name_at m.atoms c.name.at) c.count → ((g : ControlGoal) × Chooses m t c g) ⊎ Calls m t c (Some (Process Wait)) → ChoosesBy m t c k
chosen m t c k e (inl x) = by_control x.0 (same_Some k (Control x.0) (e ∙ x.1.calls.kind)) x.1
chosen m t c k e (inr x) = by_wait (same_Some k (Process Wait) (e ∙ x.kind)) x

pub choose_by-requires-clause-chooses : goal.choose_by-requires-clause-chooses
choose_by-requires-clause-chooses c =
    let m = c.args.self.now in
    chosen m c.args.task c.args.call c.in-Some.kind (sym c.in-Some.is ∙ c.goal_kind.ensures m.atoms c.requires.back.machine.program.table c.requires.at.call.name)
    (chooses m c.args.task c.args.call c.requires.back c.requires.at)

none-some : (k : GoalKind) → None ≡ Some k → ⊥
none-some k e = cc

no_kind : (m : Machine) (t : Task) (c : Call) → None ≡ goal_kind (name_at m.atoms c.name.at) c.count → ((g : ControlGoal) × Chooses m t c g) ⊎ Calls m t c (Some (Process Wait)) → ⊥
no_kind m t c e (inl x) = none-some (Control x.0) (e ∙ x.1.calls.kind)
no_kind m t c e (inr x) = none-some (Process Wait) (e ∙ x.kind)

pub unreachable-requires : goal.unreachable-requires
unreachable-requires c =
    let m = c.args.self.now in
    no_kind m c.args.task c.args.call (sym c.in-None.is ∙ c.goal_kind.ensures m.atoms c.requires.back.machine.program.table c.requires.at.call.name)
    (chooses m c.args.task c.args.call c.requires.back c.requires.at)

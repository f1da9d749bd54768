use Rattle.std.proofs.Common.{Some, subst}
use Rattle.tp_meaning.specs.declared.goals.GoalKind.TheVariants.{Control}
use Rattle.tp_machine.specs.Meets.{Calls}
use Rattle.tp_machine.proofs.Step.Seconds.{seconds_only}
use Rattle.tp_machine.proofs.machine.Machine.second_of.Goals as goal

pub go_aside-requires-clause-call : goal.go_aside-requires-clause-call
go_aside-requires-clause-call c = subst (λ k. Calls c.args.self.now c.args.task c.args.call (Some (Control k))) c.in-Disjunction.is c.requires.chooses.calls

pub go_behind-requires-clause-call : goal.go_behind-requires-clause-call
go_behind-requires-clause-call c = subst (λ k. Calls c.args.self.now c.args.task c.args.call (Some (Control k))) c.in-NotProvable.is c.requires.chooses.calls

pub go_again-requires-clause-call : goal.go_again-requires-clause-call
go_again-requires-clause-call c = subst (λ k. Calls c.args.self.now c.args.task c.args.call (Some (Control k))) c.in-Repeat.is c.requires.chooses.calls

pub go_counting-requires-clause-call : goal.go_counting-requires-clause-call
go_counting-requires-clause-call c = subst (λ k. Calls c.args.self.now c.args.task c.args.call (Some (Control k))) c.in-Between.is c.requires.chooses.calls

pub unreachable-requires : goal.unreachable-requires
unreachable-requires c = seconds_only c.args.goal c.requires.chooses.two c.in_default.not-Disjunction c.in_default.not-NotProvable c.in_default.not-Repeat c.in_default.not-Between

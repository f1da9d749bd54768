use Rattle.std.proofs.Common.{length, Ok, ◌<◌, ap, sym, subst, ◌∙◌}
use Rattle.tp_machine.specs.Sending.{AreReceivers, receivers_at}
use Rattle.tp_machine.proofs.Step.Sending.{has_no_receivers, sends_to, to_there}
use Rattle.tp_machine.proofs.machine.Machine.send.Goals as goal

pub argument-to-requires : goal.argument-to-requires
argument-to-requires c = to_there c.args.self.now c.args.task c.args.call c.requires.machine c.requires.call

pub receivers-requires-clause-to : goal.receivers-requires-clause-to
receivers-requires-clause-to c = subst (λ k. k < length c.args.self.now.state.store.cells) (sym c.argument-to.ensures) (to_there c.args.self.now c.args.task c.args.call c.requires.machine c.requires.call)

pub post_all-requires-clause-sends : goal.post_all-requires-clause-sends
post_all-requires-clause-sends c = sends_to c.args.self.now c.args.task c.args.call c.requires.machine c.requires.call c.argument-to.result c.argument-to.ensures c.as_slice.result.now (subst (AreReceivers c.args.self.now (receivers_at c.args.self.now c.argument-to.result)) c.in-All.is c.in_ok-all.ensures ∙ ap Ok (sym c.as_slice.ensures.value))

pub raise-requires-clause-cause : goal.raise-requires-clause-cause
raise-requires-clause-cause c = has_no_receivers c.args.self.now c.args.task c.args.call c.requires.machine c.requires.call c.argument-to.result c.argument-to.ensures c.in-Refused.why (subst (AreReceivers c.args.self.now (receivers_at c.args.self.now c.argument-to.result)) c.in-Refused.is c.in_ok-all.ensures)

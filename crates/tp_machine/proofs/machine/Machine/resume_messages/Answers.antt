use Rattle.std.proofs.Common.{◌+◌}
use Rattle.tp_control.specs.declared.choices.Alt.TheVariants.{Message}
use Rattle.tp_machine.proofs.Step.Taking.{calls_back, takes_back, takes_kept, resumes_message}
use Rattle.tp_machine.proofs.machine.Machine.resume_messages.Goals as goal

pub keep_messages-requires-clause-call : goal.keep_messages-requires-clause-call
keep_messages-requires-clause-call c = calls_back c.args.self.now c.args.place c.requires c.in-Some.task c.in-Some.call c.in-Some.ensures

pub take_message-requires : goal.take_message-requires
take_message-requires c =
    takes_kept c.args.self.now c.keep_messages.new.self (Message (c.args.place + 1)) c.in_ok-keep_messages.ensures.done c.in-Some.task c.in-Some.call c.args.place
    (takes_back c.args.self.now c.args.place c.requires c.in-Some.task c.in-Some.call c.in-Some.ensures)

pub returns-clause-done : goal.returns-clause-done
returns-clause-done c = resumes_message c.args.self.now c.keep_messages.new.self c.take_message.new.self c.args.place c.requires c.in_ok-keep_messages.ensures.done c.in_ok-take_message.ensures.done

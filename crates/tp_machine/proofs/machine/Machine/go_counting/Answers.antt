use Rattle.std.proofs.Common.{◌<◌, length, sym, subst, arith}
use Rattle.tp_state.proofs.GoingBack.Follows.{follows-then}
use Rattle.tp_machine.proofs.Step.Counted.{arguments_there, continues, counts_on, is_bounded}
use Rattle.tp_machine.proofs.Step.Items.{rest-follows}
use Rattle.tp_machine.proofs.machine.Machine.go_counting.Goals as goal

pub unreachable-requires : goal.unreachable-requires
unreachable-requires c = is_bounded c.args.self.now c.args.task c.args.call c.requires.call c.requires.back c.in_default.field-0 c.in_default.ensures

pub argument-variable-requires : goal.argument-variable-requires
argument-variable-requires c = arguments_there c.args.self.now c.args.task c.args.call c.requires.call 2 (omega arith)

pub next_goal-requires-clause-there : goal.next_goal-requires-clause-there
next_goal-requires-clause-there c =
    subst (λ k. k < length c.args.self.now.state.store.cells) (sym c.argument-variable.ensures)
    (arguments_there c.args.self.now c.args.task c.args.call c.requires.call 2 (omega arith))

pub next_goal-requires-clause-more : goal.next_goal-requires-clause-more
next_goal-requires-clause-more c = (continues c.args.self.now c.args.task c.args.call c.requires.call c.requires.back c.in-Ok.bounds c.in-Ok.ensures).up

pub returns-clause-done : goal.returns-clause-done
returns-clause-done c =
    let m = c.args.self.now in
    let k = continues m c.args.task c.args.call c.requires.call c.requires.back c.in-Ok.bounds c.in-Ok.ensures in
    counts_on m c.args.task c.args.call c.in-Ok.bounds _ k.counts k.up c.push.new.self c.next_goal.new.store c.in_ok-goal.goal c.requires.back
    (c.in_ok-goal.ensures m.atoms c.requires.back.machine.program.table c.requires.back.machine.stands.atoms c.requires.call.call.name)
    (follows-then _ _ _ (rest-follows _ c.args.task.rest) c.in_ok-push.ensures.follows) c.in_ok-push.ensures.plain

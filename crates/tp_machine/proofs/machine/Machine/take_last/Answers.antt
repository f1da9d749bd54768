use Rattle.tp_state.proofs.GoingBack.Follows.{follows-then}
use Rattle.tp_machine.proofs.Step.Counted.{counts_last, variable_there}
use Rattle.tp_machine.proofs.Step.Items.{rest-follows}
use Rattle.tp_machine.proofs.machine.Machine.take_last.Goals as goal

pub equal_first-requires : goal.equal_first-requires
equal_first-requires c = variable_there c.args.self.now c.args.task c.args._call c.args.bounds c.args.variable c.requires.counts

pub returns-clause-done : goal.returns-clause-done
returns-clause-done c =
    let m = c.args.self.now in
    let e = c.in_ok-equal_first.ensures in
    counts_last m c.args.task c.args._call c.args.bounds c.args.variable c.requires.counts c.equal_first.new.state c.equal_first.new.state.store c.requires.machine c.requires.last e.store
    (e.equals m.atoms (record { distinct = c.requires.machine.program.table.distinct; named = c.requires.machine.stands.atoms }))
    (follows-then _ _ _ (rest-follows m.state c.args.task.rest) e.follows) e.plain

use Rattle.std.proofs.Common.{◌<◌, length, sym, subst}
use Rattle.tp_terms.specs.Shown.{AreNamed}
use Rattle.tp_state.proofs.GoingBack.Follows.{follows-then}
use Rattle.tp_machine.specs.declared.machine.Machine.{Machine}
use Rattle.tp_machine.proofs.Step.Counted.{counts_first, may_count, variable_there}
use Rattle.tp_machine.proofs.Step.Items.{rest-follows}
use Rattle.tp_machine.proofs.machine.Machine.take_first.Goals as goal

pub keep-requires : goal.keep-requires
keep-requires c = may_count c.args.self.now c.args.task c.args._call c.args.bounds c.args.variable c.requires.counts c.requires.more c.requires.machine

pub equal_first-requires : goal.equal_first-requires
equal_first-requires c =
    subst (λ (x : Machine). c.args.variable.at < length x.state.store.cells) (sym c.in_ok-keep.ensures.done.same)
    (variable_there c.args.self.now c.args.task c.args._call c.args.bounds c.args.variable c.requires.counts)

pub returns-clause-done : goal.returns-clause-done
returns-clause-done c =
    let m = c.args.self.now in
    let mid = c.keep.new.self in
    let kept = c.in_ok-keep.ensures.done in
    let e = c.in_ok-equal_first.ensures in
    counts_first m c.args.task c.args._call c.args.bounds c.args.variable c.requires.counts c.requires.more mid c.equal_first.new.state c.equal_first.new.state.store c.requires.machine kept e.store
    (e.equals m.atoms (record { distinct = c.requires.machine.program.table.distinct; named = subst (λ (x : Machine). AreNamed (length m.atoms) x.state.store.cells) (sym kept.same) c.requires.machine.stands.atoms }))
    (follows-then _ _ _ (rest-follows mid.state c.args.task.rest) e.follows) e.plain

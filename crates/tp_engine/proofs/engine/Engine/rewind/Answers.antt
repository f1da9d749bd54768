use Rattle.std.proofs.Common.{subst, sym}
use Rattle.tp_machine.specs.Machine.{IsMachine}
use Rattle.tp_engine.specs.Told.{Told, MayRewind}
use Rattle.tp_engine.proofs.Calls.{may_rewind, rewound_stack, uncounted}
use Rattle.tp_engine.proofs.engine.Engine.rewind.Goals as goal

pub returns-clause-stack : goal.returns-clause-stack
returns-clause-stack c =
    let e = c.self.inside in
    let is : IsMachine e.machine = may_rewind e.machine e.number e.steps e.phase (subst (λ (t : Told). MayRewind t.phase) (sym c.self.view_is) c.requires) c.self.invariant in
    rewound_stack e.machine c.rewind-found.new.self c.rewind-found.result is c.rewind-found.ensures

pub returns-clause-rest : goal.returns-clause-rest
returns-clause-rest c =
    let e = c.self.inside in
    let is : IsMachine e.machine = may_rewind e.machine e.number e.steps e.phase (subst (λ (t : Told). MayRewind t.phase) (sym c.self.view_is) c.requires) c.self.invariant in
    uncounted c.args.self.now e.machine c.rewind-found.new.self e.phase _ e.number e.steps c.self.view_is is.program c.rewind-found.ensures.same

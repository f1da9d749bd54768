use Rattle.std.proofs.Common.{subst}
use Rattle.tp_engine.specs.Told.{Told, IsWhole, IsSound}
use Rattle.tp_engine.proofs.Calls.{keeps_sound}
use Rattle.tp_engine.proofs.engine.Engine.view.Goals as goal

pub returns-clause-sound : goal.returns-clause-sound
returns-clause-sound c =
    let e = c.self.inside in
    subst (λ (t : Told). IsWhole t.phase → IsSound t.seen) c.self.view_is (keeps_sound e.machine e.number e.steps e.phase c.self.invariant)

use Rattle.std.proofs.Common.{sym, subst, ◌∙◌, SFits, w64, rules}
use Rattle.std.proofs.lemmas.Int.{to_z-of_z}
use Rattle.tp_machine.proofs.Gives.Times.{same_sum}
use Rattle.tp_machine.proofs.Step.Holding.{delays, overflow_cause, same_delays}
use Rattle.tp_machine.proofs.machine.Machine.hold_for.Goals as goal

pub hold_until-requires-clause-delays : goal.hold_until-requires-clause-delays
hold_until-requires-clause-delays c =
    let clock : SFits w64 c.args.self.now.state.clock = search rules in
    let lasts : SFits w64 c.args.duration = search rules in
    let e = same_sum c.args.self.now.state.clock _ c.args.duration _ (to_z-of_z w64 c.args.self.now.state.clock clock) (to_z-of_z w64 c.args.duration lasts) in
    let time : SFits w64 c.in-Some.time = search rules in
    same_delays c.args.self.now c.args.task c.args.call c.args.duration _ c.in-Some.time _ (to_z-of_z w64 c.args.duration lasts) (to_z-of_z w64 c.in-Some.time time)
    (delays c.args.self.now c.args.task c.args.call c.args.duration c.requires.lasts c.in-Some.time (subst (SFits w64) e c.in-Some.ensures.0) (c.in-Some.ensures.1 ∙ e))

pub raise-requires-clause-cause : goal.raise-requires-clause-cause
raise-requires-clause-cause c =
    let clock : SFits w64 c.args.self.now.state.clock = search rules in
    let lasts : SFits w64 c.args.duration = search rules in
    let e = same_sum c.args.self.now.state.clock _ c.args.duration _ (to_z-of_z w64 c.args.self.now.state.clock clock) (to_z-of_z w64 c.args.duration lasts) in
    overflow_cause c.args.self.now c.args.task c.args.call c.args.duration c.requires.lasts c.requires.machine (λ f. c.in-None.ensures (subst (SFits w64) (sym e) f))

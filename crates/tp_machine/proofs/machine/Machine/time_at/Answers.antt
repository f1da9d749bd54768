use Rattle.std.proofs.Common.{sym, subst, Err, SFits, w64, rules}
use Rattle.std.proofs.lemmas.Int.{to_z-of_z}
use Rattle.tp_store.specs.Contents.{seen}
use Rattle.tp_meaning.specs.Arith.{evaluated}
use Rattle.tp_arith.specs.Values.{Evaluates}
use Rattle.tp_arith.specs.declared.raising.Raise.{Raise}
use Rattle.tp_machine.specs.BuiltIns.{heap_in}
use Rattle.tp_machine.specs.declared.values.Given.{Given}
use Rattle.tp_machine.specs.Times.{IsTime}
use Rattle.tp_machine.proofs.Gives.Times.{none_is, same_timely, time_is}
use Rattle.tp_machine.proofs.machine.Machine.time_at.Goals as goal

pub returns-in-Ok-clause-time : goal.returns-in-Ok-clause-time
returns-in-Ok-clause-time c =
    let m = c.args.self.now in
    let x = seen m.atoms m.state.store c.args.place.at in
    let time : SFits w64 c.in-Ok.time = search rules in
    let least : SFits w64 c.args.least = search rules in
    let same = same_timely c.args.domain c.in-Ok.time _ c.args.least _ c.timely.result (to_z-of_z w64 c.in-Ok.time time) (to_z-of_z w64 c.args.least least) c.timely.ensures in
    subst (λ (r : Given). IsTime c.evaluate.new.self x c.args.domain c.args.least r) (sym same) (time_is c.evaluate.new.self x c.args.domain c.args.least c.in-Ok.time c.in-Ok.ensures.value)

pub returns-in-Err-Raised-clause-time : goal.returns-in-Err-Raised-clause-time
returns-in-Err-Raised-clause-time c =
    let m = c.args.self.now in
    let h = subst (λ (e : Raise). Evaluates (heap_in c.evaluate.new.self) (evaluated (seen m.atoms m.state.store c.args.place.at)) (Err e)) c.in-Err-Raised.field-0-is c.in-Err-Raised.ensures.value in
    rw c.in-Err-Raised.field-0-is (none_is c.evaluate.new.self (seen m.atoms m.state.store c.args.place.at) c.args.domain c.args.least c.in-Err-Raised.kind h)

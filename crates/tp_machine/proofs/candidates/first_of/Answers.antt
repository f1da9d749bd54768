use Rattle.std.proofs.Common.{length}
use Rattle.tp_machine.proofs.Trying.Split.{first-is}
use Rattle.tp_machine.proofs.candidates.first_of.Goals as goal

pub returns : goal.returns
returns c names named =
    let call = c.args.call in
    first-is names c.args.store.now call.first.at call.count c.top.result c.of.result c.if-call-eq0.false c.of.ensures (c.top.ensures.seen names) (c.top.ensures.named (length names) named)

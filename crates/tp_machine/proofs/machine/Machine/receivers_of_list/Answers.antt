use Rattle.std.proofs.Common.{ap, sym, ◌∙◌}
use Rattle.tp_machine.specs.Sending.{ahead, left_of}
use Rattle.tp_machine.proofs.Step.Receiving.{ahead_more, ahead_none, ahead_same}
use Rattle.tp_machine.proofs.machine.Machine.receivers_of_list.Goals as goal

pub loop-process-init : goal.loop-process-init
loop-process-init c =
    let m = c.args.self.now in
    record {
      all = ahead_same (left_of m c.args.list c.args.list) ∙ ap (λ xs. ahead xs (left_of m c.args.list c.args.list)) (sym c.new-found.ensures.items);
      here = c.requires.list;
    }

pub loop-process-preserved : goal.loop-process-preserved
loop-process-preserved c =
    let m = c.args.self.now in
    let list = c.args.list in
    let i = c.loop-process.invariant in
    let n = c.in-Process.ensures in
    record {
      all =
          i.all ∙ ap (ahead c.loop-process.found.items) n.2
          ∙ ahead_more c.loop-process.found.items c.in-Process.process (left_of m list c.in-Process.tail)
          ∙ ap (λ xs. ahead xs (left_of m list c.in-Process.tail)) (sym c.in_ok-push-in-Process.ensures.items);
      here = n.0;
    }

pub returns-in-End : goal.returns-in-End
returns-in-End c = c.loop-process.invariant.all ∙ ap (ahead c.loop-process.found.items) c.in-End.ensures ∙ ahead_none c.loop-process.found.items

pub returns-in-Refused : goal.returns-in-Refused
returns-in-Refused c = (c.in-Refused.ensures.0, c.in-Refused.ensures.1, c.loop-process.invariant.all ∙ ap (ahead c.loop-process.found.items) c.in-Refused.ensures.2)

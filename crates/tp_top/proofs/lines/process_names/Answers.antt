use Rattle.tp_top.proofs.Running.StoreUnder.{first-names}
use Rattle.tp_top.proofs.lines.process_names.Goals as goal

pub processes-preserved : goal.processes-preserved
processes-preserved c =
    first-names c.args.view.now.plain.procs c.processes.pid c.processes.names.items c.push.new.self.items c.process_name.result
    c.processes.invariant c.process_name.ensures c.in_ok-push.ensures.items

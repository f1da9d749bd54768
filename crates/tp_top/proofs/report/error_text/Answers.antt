use Rattle.tp_top.proofs.Running.StoreUnder.{error-written}
use Rattle.tp_top.proofs.report.error_text.Goals as goal

pub returns : goal.returns
returns c =
    error-written c.args.view.now c.ops.result.now c.atoms.result.now c.store.result.now c.cells.result.now.items c.args.term _ _ c.new.result
    c.requires.sound c.atoms.ensures c.store.ensures c.cells.ensures c.new-text.ensures.bytes c.ops.ensures c.in_ok-write_term.ensures.added c.new.ensures

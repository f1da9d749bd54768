use Rattle.tp_top.proofs.program.perform.Goals as goal

pub returns-in-Sample-clause-ended : goal.returns-in-Sample-clause-ended
returns-in-Sample-clause-ended g c = λ words is.
    c.perform_sample.ensures.ended words (g.S.Shelf.held c.args.shelf.now) (g.S.Shelf.faults c.args.shelf.now) is

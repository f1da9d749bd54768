use Rattle.tp_parse.proofs.ReadsTerms.Steps.{trees-more, ready-more}
use Rattle.tp_parse.proofs.leaves.link.Goals as goal

pub returns-clause-ready : goal.returns-clause-ready
returns-clause-ready c = ready-more c.args.source.now.text.now c.args.steps.now.items c.push.new.self.items _ c.in_ok-push.ensures.items c.requires.ready c.requires.enough

pub returns-clause-trees : goal.returns-clause-trees
returns-clause-trees c = trees-more c.args.source.now.text.now c.args.steps.now.items c.push.new.self.items _ c.in_ok-push.ensures.items

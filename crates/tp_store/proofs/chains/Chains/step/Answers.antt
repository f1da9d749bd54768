use Rattle.tp_store.specs.Chain.{contents_of}
use Rattle.tp_store.proofs.Substitution.Chained.{step_leads}
use Rattle.tp_store.proofs.chains.Chains.step.Goals as goal

pub returns-in-Var-clause-on : goal.returns-in-Var-clause-on
returns-in-Var-clause-on c =
    step_leads (contents_of c.args.self.now) c.args.self.now.trail.bound c.args.cell c.in-Var.number c.get.result c.requires.chains.store c.requires.chains.table c.in-Var.is c.get.ensures

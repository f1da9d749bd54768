use Rattle.std.proofs.Common.{◌∷◌, reverse, refl}
use Rattle.tp_store.proofs.Substitution.Closed.{closed-start}
use Rattle.tp_store.proofs.chains.Chains.closed_with.Goals as goal

pub returns-in_default : goal.returns-in_default
returns-in_default c = closed-start c.args.self.now.cells.items ((c.args.number, c.args.place) ∷ reverse c.args.self.now.trail.pairs) _ refl refl

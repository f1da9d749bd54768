use Rattle.tp_build.proofs.RowAnswers.Heaps.{two-does}
use Rattle.tp_build.proofs.dispatch.builtin.Goals as goal

pub returns-in-Two-clause-does : goal.returns-in-Two-clause-does
returns-in-Two-clause-does g c =
    two-does (g.T.Terms.heap c.args.terms.now) (g.T.Terms.heap c.goal_of_two.new.terms) c.args.id c.in-Two.goal c.args.first.at c.behind.result.at c.goal_of_two.result c.in-Two.ensures c.behind.ensures c.goal_of_two.ensures.does

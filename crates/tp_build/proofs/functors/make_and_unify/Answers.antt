use Rattle.std.proofs.Common.{◌<◌, arith, sym, subst}
use Rattle.tp_meaning.specs.Heap.{seen}
use Rattle.tp_meaning.specs.Checks.{name_in}
use Rattle.tp_build.specs.Errors.{IsFault}
use Rattle.tp_build.proofs.PlacesShow.Checked.{name-found, name-other}
use Rattle.tp_build.proofs.RowAnswers.Functor.{made-does, made-fails}
use Rattle.tp_build.proofs.functors.make_and_unify.Goals as goal

pub returns-in_ok-compound-in-Ok-clause-does : goal.returns-in_ok-compound-in-Ok-clause-does
returns-in_ok-compound-in-Ok-clause-does g c =
    let h = g.T.Terms.heap c.args.terms.now in
    let some : 0 < c.args.count = omega (arith, c.if-count-eq0.false) in
    made-does h (g.T.Terms.heap c.compound_of_variables.new.terms) (g.T.Terms.heap c.unify-in-Ok.new.terms) c.args.term.at c.args.name.at c.look.result c.in-Ok.name c.args.count c.in_ok-compound-in-Ok.compound.at c.unify-in-Ok.result c.requires.heap some
    (name-found h c.args.name.at c.look.result c.in-Ok.name c.in-Ok.ensures c.look.ensures.top) c.in_ok-compound-in-Ok.ensures.made c.requires.term c.unify-in-Ok.ensures.does

pub returns-in-Err-clause-does : goal.returns-in-Err-clause-does
returns-in-Err-clause-does g c =
    let h = g.T.Terms.heap c.args.terms.now in
    let some : 0 < c.args.count = omega (arith, c.if-count-eq0.false) in
    made-fails h (g.T.Terms.heap c.raise.new.terms) (seen h c.args.term.at) (seen h c.args.name.at) c.args.count c.in-Err.fault c.raise.result some
    (subst (IsFault h (name_in (seen h c.args.name.at))) (sym c.in-Err.ensures.0) (name-other h c.args.name.at c.look.result c.in-Err.ensures.1 c.look.ensures.top)) c.raise.ensures.does

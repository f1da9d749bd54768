use Rattle.std.proofs.Common.{ap, subst, chars}
use Rattle.tp_meaning.specs.Heap.{seen}
use Rattle.tp_build.specs.Codes.{IsSpelled, text_chars}
use Rattle.tp_build.proofs.RowAnswers.Codes.{text-fails, end-fails, text-does}
use Rattle.tp_build.proofs.codes.atom_of_codes.Goals as goal

pub returns-in-Err-clause-does : goal.returns-in-Err-clause-does
returns-in-Err-clause-does g c =
    let h = g.T.Terms.heap c.args.terms.now in
    let spelled = subst (IsSpelled h c.deref.result.now) c.in-Err.is c.in_ok-text.ensures in
    text-fails h c.args.list.at c.in_ok-walked.walked c.in_ok-walked.ensures (g.T.Terms.heap c.raise.new.terms) (seen h c.args.atom.at) c.deref.result.now c.in-Err.fault c.raise.result c.deref.ensures.value spelled c.raise.ensures.does

pub returns-in-Ok-closed-clause-does : goal.returns-in-Ok-closed-clause-does
returns-in-Ok-closed-clause-does g c =
    let h = g.T.Terms.heap c.args.terms.now in
    let spelled = subst (IsSpelled h c.deref.result.now) c.in-Ok.is c.in_ok-text.ensures in
    text-does h c.args.list.at c.in_ok-walked.walked c.in_ok-walked.ensures (g.T.Terms.heap c.unify_atom.new.terms) (seen h c.args.atom.at) c.deref.result.now (text_chars c.in-Ok.text) (chars c.deref-in-Ok-closed.result.now) c.unify_atom.result c.deref.ensures.value spelled (c.in-Ok-closed.ensures h c.args.list.at c.look.ensures.top)
    (ap chars c.deref-in-Ok-closed.ensures) c.unify_atom.ensures.does

pub returns-clause-does : goal.returns-clause-does
returns-clause-does g c =
    let h = g.T.Terms.heap c.args.terms.now in
    let spelled = subst (IsSpelled h c.deref.result.now) c.in-Ok.is c.in_ok-text.ensures in
    end-fails h c.args.list.at c.in_ok-walked.walked c.in_ok-walked.ensures (g.T.Terms.heap c.raise-in-Err-closed.new.terms) (seen h c.args.atom.at) c.deref.result.now (text_chars c.in-Ok.text) c.in-Err-closed.fault c.raise-in-Err-closed.result c.deref.ensures.value spelled (c.in-Err-closed.ensures h c.args.list.at c.look.ensures.top)
    c.raise-in-Err-closed.ensures.does

use Rattle.std.proofs.Common.{Ok, refl, subst, ◌∙◌}
use Rattle.tp_build.specs.Answers.{Does}
use Rattle.tp_meaning.specs.Answers.{succeeds}
use Rattle.tp_build.proofs.RowAnswers.Heaps.{kind-top}
use Rattle.tp_build.proofs.kinds.test_kind.Goals as goal

pub returns : goal.returns
returns g c =
    let h = g.T.Terms.heap c.args.terms.now in
    record {
      does = subst (λ b. Does h h (Ok (succeeds b h.subst h.next)) c.decided.result) (c.has.ensures h ∙ kind-top h c.args.kind c.args.x.at c.look.result c.look.ensures.top)
          (c.decided.ensures h h refl refl);
    }

use Rattle.std.proofs.Common.{sym, ◌∙◌}
use Rattle.tp_store.specs.Chain.{contents_of}
use Rattle.tp_store.proofs.Bodies.Converted.{asks_for, on_any_err, plain_own}
use Rattle.tp_store.proofs.body.body_of.Goals as goal

pub returns-in-Plain-clause-body : goal.returns-in-Plain-clause-body
returns-in-Plain-clause-body c = λ names t h. sym (plain_own (contents_of c.args.chains.now) c.args.goal.at c.end.result c.end.ensures.end c.end.ensures.same (sym c.as_goal.ensures ∙ c.in-Plain.is) names t h)

pub returns-in_default-clause-memory : goal.returns-in_default-clause-memory
returns-in_default-clause-memory c =
    on_any_err c.converted.result (asks_for (contents_of c.args.chains.now) c.args.goal c.end.result c.requires.chains.store c.end.ensures.end c.end.ensures.same
    (λ e. c.in_default.not-Plain (c.as_goal.ensures ∙ e)) (λ e. c.in_default.not-Integer (c.as_goal.ensures ∙ e)))

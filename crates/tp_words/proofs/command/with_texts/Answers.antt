use Rattle.std.proofs.Common.{rules, ap₂, ◌≡◌, ◌∙◌}
use Rattle.std.proofs.lemmas.Result.{IfOk-weaker}
use Rattle.std.specs.Prelude.{codes}
use Rattle.clap.specs.Words.{new_rule, rule_of, with_rule}
use Rattle.tp_words.proofs.command.with_texts.Goals as goal

pub returns : goal.returns
returns c =
    let model_is : rule_of c.new-model.result ≡ new_rule (codes "MODEL") = search rules in
    let goal_is : rule_of c.new-goal.result ≡ new_rule (codes "GOAL") = search rules in
    let first = c.in_ok-arg.ensures.shape (search rules) ∙ ap₂ with_rule c.bare_command.ensures model_is in
    IfOk-weaker c.arg-2.result _ _
    (λ made adds. adds.shape (search rules) ∙ ap₂ with_rule first goal_is)
    c.arg-2.ensures

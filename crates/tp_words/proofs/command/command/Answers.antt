use Rattle.std.proofs.Common.{rules, ap₂, ◌≡◌, ◌∙◌}
use Rattle.std.proofs.lemmas.Result.{IfOk-weaker}
use Rattle.std.specs.Prelude.{Some, codes}
use Rattle.clap.specs.Words.{rule_of, with_rule}
use Rattle.clap.specs.declared.builder.action.ArgAction.TheVariants.{SetTrue}
use Rattle.tp_words.specs.Command.{named}
use Rattle.tp_words.proofs.ReadsWords.Parsed.{added_in_turn}
use Rattle.tp_words.proofs.command.command.Goals as goal

pub returns : goal.returns
returns c =
    let steps_is : rule_of c.long-steps.result ≡ named (codes "steps") = search rules in
    let answers_is : rule_of c.long-answers.result ≡ named (codes "answers") = search rules in
    let sample_is : rule_of c.long-sample.result ≡ named (codes "sample") = search rules in
    let meters_is : rule_of c.action-meters.result ≡ record (named (codes "meters")) { action = Some SetTrue } = search rules in
    let third = c.in_ok-arg.ensures.shape (search rules) ∙ ap₂ with_rule c.in_ok-with_texts.ensures steps_is in
    let fourth = c.in_ok-arg-2.ensures.shape (search rules) ∙ ap₂ with_rule third answers_is in
    let fifth = c.in_ok-arg-3.ensures.shape (search rules) ∙ ap₂ with_rule fourth sample_is in
    IfOk-weaker c.arg-4.result _ _
    (λ made adds. adds.shape (search rules) ∙ ap₂ with_rule fifth meters_is ∙ added_in_turn)
    c.arg-4.ensures

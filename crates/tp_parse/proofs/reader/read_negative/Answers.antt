use Rattle.std.proofs.Common.{◌∷◌, Ok, ap, sym, ◌∙◌, SFits, w64, rules}
use Rattle.std.proofs.lemmas.Int.{to_z-of_z}
use Rattle.tp_parse.specs.Tree.{Integer, minus}
use Rattle.tp_parse.specs.Ahead.{first_value, after_first}
use Rattle.tp_parse.specs.Ops.{table_of}
use Rattle.tp_parse.specs.Steps.{trees_of}
use Rattle.tp_parse.specs.Words.{ahead}
use Rattle.tp_parse.proofs.ReadsTerms.Words.{ahead-after}
use Rattle.tp_parse.proofs.ReadsTerms.Exits.{going-after, going-step, read-step, ahead-first}
use Rattle.tp_parse.proofs.reader.read_negative.Goals as goal

pub returns-clause-gives : goal.returns-clause-gives
returns-clause-gives c =
    let text = c.args.source.now.text.now in
    let fits : SFits w64 c.negative.result = search rules in
    read-step text c.args.at.now.steps.items c.push.new.self.items _ (trees_of text c.args.at.now.steps.items) _ (ahead text c.pass.new.self) 0 _ c.in_ok-push.ensures.items
    (ap (λ z. Integer z ∷ trees_of text c.args.at.now.steps.items) (to_z-of_z w64 c.negative.result fits ∙ c.negative.ensures))
    (ap (λ l. Ok (Integer (minus (first_value l)), 0, after_first (ahead text c.args.at.now.cursor))) (ahead-first text c.args.at.now.cursor c.in-Some.word (sym c.first.ensures ∙ c.in-Some.is))
    ∙ ap (λ n. Ok (Integer (minus n), 0, after_first (ahead text c.args.at.now.cursor))) (sym c.integer_value-value.ensures.value)
    ∙ ap (λ l. Ok (Integer (minus c.integer_value-value.result), 0, l)) (sym (ahead-after text c.args.at.now.cursor) ∙ ap (ahead text) (sym c.pass.ensures)))

pub returns-clause-going : goal.returns-clause-going
returns-clause-going c =
    let ops = table_of c.args.source.now.ops.now in
    let text = c.args.source.now.text.now in
    going-step ops text c.pass.new.self c.args.at.now.steps.items c.push.new.self.items _ c.in_ok-push.ensures.items tt (going-after ops text c.args.at.now.cursor c.pass.new.self c.args.at.now.steps.items c.pass.ensures c.requires.going)

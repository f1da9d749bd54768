use Rattle.std.proofs.Common.{Ok, ◌∷◌, ap, sym, ◌∙◌, refl, SFits, w64, rules}
use Rattle.std.proofs.lemmas.Int.{to_z-of_z}
use Rattle.tp_lex.specs.Form.{has_name}
use Rattle.tp_parse.specs.Ops.{table_of}
use Rattle.tp_parse.specs.Tree.{Integer, Variable}
use Rattle.tp_parse.specs.Steps.{trees_of}
use Rattle.tp_parse.specs.Gives.{simple}
use Rattle.tp_parse.specs.Words.{ahead, lexed_of, after_word}
use Rattle.tp_parse.proofs.ReadsTerms.Words.{first-known}
use Rattle.tp_parse.proofs.ReadsTerms.Exits.{going-after, going-step, read-step, simple-integer}
use Rattle.tp_parse.proofs.leaves.read_simple.Goals as goal

pub returns-in_ok-push-in-Integer-clause-gives : goal.returns-in_ok-push-in-Integer-clause-gives
returns-in_ok-push-in-Integer-clause-gives c =
    let text = c.args.source.now.text.now in
    let fits : SFits w64 c.signed.result = search rules in
    read-step text c.args.at.now.steps.items c.push.new.self.items _ (trees_of text c.args.at.now.steps.items) _ (ahead text c.pass.new.self) 0 _ c.in_ok-push-in-Integer.ensures.items
    (ap (λ z. Integer z ∷ trees_of text c.args.at.now.steps.items) (to_z-of_z w64 c.signed.result fits ∙ c.signed.ensures))
    (simple-integer (lexed_of text c.args.word) _ _ _ _ c.in-Integer.is c.integer_value-value.ensures.value c.if-value-ge-INTEGERS_END.false (ap (ahead text) c.pass.ensures))

pub returns-in_ok-push-in-Integer-clause-going : goal.returns-in_ok-push-in-Integer-clause-going
returns-in_ok-push-in-Integer-clause-going c =
    let ops = table_of c.args.source.now.ops.now in
    let text = c.args.source.now.text.now in
    going-step ops text c.pass.new.self c.args.at.now.steps.items c.push.new.self.items _ c.in_ok-push-in-Integer.ensures.items tt (going-after ops text c.args.at.now.cursor c.pass.new.self c.args.at.now.steps.items c.pass.ensures c.requires.going)

pub returns-in_ok-push-in-Variable-clause-gives : goal.returns-in_ok-push-in-Variable-clause-gives
returns-in_ok-push-in-Variable-clause-gives c =
    let text = c.args.source.now.text.now in
    let w = lexed_of text c.args.word in
    read-step text c.args.at.now.steps.items c.push-in-Variable.new.self.items _ (trees_of text c.args.at.now.steps.items) _ (ahead text c.pass-in-Variable.new.self) 0 _ c.in_ok-push-in-Variable.ensures.items refl
    (ap (simple w (ahead text (after_word c.args.at.now.cursor))) c.in-Variable.is ∙ ap (λ l. Ok (Variable w.name, 0, ahead text l)) (sym c.pass-in-Variable.ensures))

pub returns-in_ok-push-in-Variable-clause-going : goal.returns-in_ok-push-in-Variable-clause-going
returns-in_ok-push-in-Variable-clause-going c =
    let ops = table_of c.args.source.now.ops.now in
    let text = c.args.source.now.text.now in
    let known = first-known ops text c.args.at.now.cursor c.args.word c.requires.going.known c.requires.first in
    going-step ops text c.pass-in-Variable.new.self c.args.at.now.steps.items c.push-in-Variable.new.self.items _ c.in_ok-push-in-Variable.ensures.items ((known.given, ap has_name c.in-Variable.is), c.in-Variable.is) (going-after ops text c.args.at.now.cursor c.pass-in-Variable.new.self c.args.at.now.steps.items c.pass-in-Variable.ensures c.requires.going)

use Rattle.std.proofs.Common.{refl, ap, [], ◌∷◌, ◌++◌, ◌∙◌}
use Rattle.tp_parse.specs.declared.steps.Step.TheVariants as step
use Rattle.tp_parse.specs.Ops.{table_of}
use Rattle.tp_parse.specs.Steps.{trees_of}
use Rattle.tp_parse.specs.Words.{ahead}
use Rattle.tp_parse.proofs.ReadsTerms.Exits.{going-step, read-step, named-has}
use Rattle.tp_parse.proofs.reader.read_atom.Goals as goal

pub returns-clause-gives : goal.returns-clause-gives
returns-clause-gives c =
    let text = c.args.source.now.text.now in
    read-step text c.args.at.now.steps.items c.push.new.self.items _ (trees_of text c.args.at.now.steps.items) _ (ahead text c.args.at.now.cursor) 0 _ (c.in_ok-push.ensures.items ∙ ap (λ l. c.args.at.now.steps.items ++ step.Atom l ∷ []) c.written.ensures) refl refl

pub returns-clause-going : goal.returns-clause-going
returns-clause-going c =
    going-step (table_of c.args.source.now.ops.now) c.args.source.now.text.now c.args.at.now.cursor c.args.at.now.steps.items c.push.new.self.items _ (c.in_ok-push.ensures.items ∙ ap (λ l. c.args.at.now.steps.items ++ step.Atom l ∷ []) c.written.ensures)
    (c.requires.known.given, named-has c.args.word.token.kind c.requires.named) c.requires.going

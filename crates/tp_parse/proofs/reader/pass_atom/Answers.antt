use Rattle.std.proofs.Common.{Ok, refl, ap, sym, ◌∙◌}
use Rattle.tp_parse.specs.Tree.{Atom}
use Rattle.tp_parse.specs.Ops.{table_of}
use Rattle.tp_parse.specs.Steps.{trees_of, label_name}
use Rattle.tp_parse.specs.Words.{ahead}
use Rattle.tp_parse.proofs.ReadsTerms.Words.{ahead-after}
use Rattle.tp_parse.proofs.ReadsTerms.Exits.{going-after, going-step, read-step}
use Rattle.tp_parse.proofs.reader.pass_atom.Goals as goal

pub returns-clause-gives : goal.returns-clause-gives
returns-clause-gives c =
    let text = c.args.source.now.text.now in
    read-step text c.args.at.now.steps.items c.push.new.self.items _ (trees_of text c.args.at.now.steps.items) _ (ahead text c.pass.new.self) 0 _ c.in_ok-push.ensures.items refl
    (ap (λ l. Ok (Atom (label_name text c.args.label), 0, l)) (sym (ahead-after text c.args.at.now.cursor) ∙ ap (ahead text) (sym c.pass.ensures)))

pub returns-clause-going : goal.returns-clause-going
returns-clause-going c =
    let ops = table_of c.args.source.now.ops.now in
    let text = c.args.source.now.text.now in
    going-step ops text c.pass.new.self c.args.at.now.steps.items c.push.new.self.items _ c.in_ok-push.ensures.items c.requires.label (going-after ops text c.args.at.now.cursor c.pass.new.self c.args.at.now.steps.items c.pass.ensures c.requires.going)

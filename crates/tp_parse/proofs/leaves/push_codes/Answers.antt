use Rattle.std.proofs.Common.{SFits, w64, sym, ap, ◌∙◌, map-id, rules}
use Rattle.std.proofs.lemmas.Int.{to_z-of_z}
use Rattle.std.proofs.lemmas.Iterator.{YieldsList-from_chars}
use Rattle.std.proofs.lemmas.Iterator.Consumers.{YieldsList-end}
use Rattle.tp_parse.specs.Steps.{onto_codes, trees_of}
use Rattle.tp_parse.proofs.ReadsTerms.Steps.{codes-more, ready-more}
use Rattle.tp_parse.proofs.leaves.push_codes.Goals as goal

pub loop-character-preserved : goal.loop-character-preserved
loop-character-preserved c =
    let i = c.loop-character.invariant in
    let text = c.args.source.now.text.now in
    let fits : SFits w64 c.code.result = search rules in
    record {
      made = codes-more text c.loop-character.steps.items c.push.new.self.items _ c.loop-character.yielded _ _ c.in_ok-push.ensures.items (to_z-of_z w64 c.code.result fits ∙ c.code.ensures) i.made;
      ready = ready-more text c.loop-character.steps.items c.push.new.self.items _ c.in_ok-push.ensures.items i.ready tt;
    }

pub returns-clause-trees : goal.returns-clause-trees
returns-clause-trees c =
    let end = YieldsList-end (YieldsList-from_chars c.args.name.now c.utf8.name cc) c.loop-character.yielded _ c.loop-character.yielded_by _ _ c.in-None.is c.next.ensures.steps in
    c.loop-character.invariant.made ∙ ap (λ l. onto_codes l (trees_of c.args.source.now.text.now c.args.steps.now.items)) (sym (map-id c.loop-character.yielded) ∙ end.0)

use Rattle.std.proofs.Common.{ap, chars, ◌∙◌}
use Rattle.std.proofs.lemmas.Iterator.{YieldsList-from_chars}
use Rattle.std.proofs.lemmas.Iterator.Consumers.{count_from_yields_List}
use Rattle.tp_parse.proofs.ReadsTerms.Steps.{ready-more, enough-codes, list-made}
use Rattle.tp_parse.proofs.leaves.push_list.Goals as goal

pub link-requires-clause-ready : goal.link-requires-clause-ready
link-requires-clause-ready c = ready-more c.args.source.now.text.now c.push_codes.new.steps.items c.push.new.self.items _ c.in_ok-push.ensures.items c.in_ok-push_codes.ensures.ready tt

pub link-requires-clause-enough : goal.link-requires-clause-enough
link-requires-clause-enough c =
    enough-codes c.args.source.now.text.now c.push_codes.new.steps.items c.push.new.self.items (chars c.as_str-name.result.now) _ _ c.in_ok-push_codes.ensures.trees c.in_ok-push.ensures.items
    (count_from_yields_List c.chars.result c.count.result c.count.ensures.ran (YieldsList-from_chars c.as_str-name.result.now c.as_str-name.utf8 cc))

pub returns-clause-trees : goal.returns-clause-trees
returns-clause-trees c =
    list-made c.args.source.now.text.now c.push_codes.new.steps.items c.push.new.self.items (chars c.as_str-name.result.now) _ _ _ _ c.in_ok-push_codes.ensures.trees c.in_ok-push.ensures.items
    (count_from_yields_List c.chars.result c.count.result c.count.ensures.ran (YieldsList-from_chars c.as_str-name.result.now c.as_str-name.utf8 cc))
    (ap chars c.as_str-name.ensures.value ∙ c.in_ok-text.ensures) c.in_ok-link.ensures.trees

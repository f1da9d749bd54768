use Rattle.std.proofs.Common.{◌∙◌, arith}
use Rattle.std.proofs.lemmas.List.{get_or_default}
use Rattle.tp_store.proofs.Linked.Links.{number_seen, pairs_length}
use Rattle.tp_store.proofs.trail.Trail.number.Goals as goal

pub returns : goal.returns
returns c =
    let ls = c.self.inside.links.items in
    let ns = c.self.inside.numbers.items in
    c.index.ensures ∙ get_or_default ns c.args.at c.index.result.now 0 (omega (arith, pairs_length ls ns c.args.self.now c.self.view_is, c.requires))
    ∙ number_seen ls ns c.args.self.now c.args.at c.self.view_is

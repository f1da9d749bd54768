use Rattle.std.proofs.Common.{◌∙◌, ap, nat_eq, position}
use Rattle.tp_procs.specs.Processes.{named}
use Rattle.tp_procs.proofs.Kept.{named-names}
use Rattle.tp_procs.proofs.Procs.by_name.Goals as goal

pub returns : goal.returns
returns c =
    c.get_index_of.ensures.index
    ∙ ap (position (nat_eq c.args.name.at)) c.self.invariant.named
    ∙ named-names c.args.name c.self.inside.procs.items
    ∙ ap (named c.args.name) c.self.view_is

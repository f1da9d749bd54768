use Rattle.std.proofs.Common.{nat_lt, ap, ◌∙◌}
use Rattle.tp_procs.specs.Processes.{is_live}
use Rattle.tp_state.proofs.Changes.{any_live}
use Rattle.tp_state.proofs.state.State.is_any_live.Goals as goal

pub returns : goal.returns
returns c = ap (nat_lt 0) c.live.ensures ∙ any_live is_live c.args.self.now.procs

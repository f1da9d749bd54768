use Rattle.std.proofs.Common.{take, ap, ◌∙◌}
use Rattle.tp_control.specs.Lists.{lists}
use Rattle.tp_control.proofs.ListsStay.{lists-take}
use Rattle.tp_control.proofs.frames.Frames.cut_to.Goals as goal

pub returns : goal.returns
returns c = ap lists c.cut_to.ensures ∙ lists-take c.args.len c.self.inside.frames ∙ ap (take c.args.len) c.self.view_is

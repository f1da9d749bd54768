use Rattle.std.proofs.Common.{take, map, ap, sym, ◌∙◌}
use Rattle.std.proofs.lemmas.List.{take-map}
use Rattle.tp_control.specs.Kept.{frame_of}
use Rattle.tp_control.proofs.kept.FrameList.cut_to.Goals as goal

pub returns : goal.returns
returns c = ap (map frame_of) c.truncate.ensures.items ∙ sym (take-map frame_of c.args.len c.self.inside.kept.items) ∙ ap (take c.args.len) c.self.view_is

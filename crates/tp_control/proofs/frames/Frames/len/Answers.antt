use Rattle.std.proofs.Common.{◌≡◌, length, ap, sym, ◌∙◌, rules}
use Rattle.tp_control.proofs.ListsStay.{length-lists}
use Rattle.tp_control.proofs.frames.Frames.len.Goals as goal

pub returns : goal.returns
returns c =
    let e : c.len.result ≡ length c.self.inside.frames = search rules in
    e ∙ sym (length-lists c.self.inside.frames) ∙ ap length c.self.view_is

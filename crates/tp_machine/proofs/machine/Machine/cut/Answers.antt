use Rattle.std.proofs.Common.{refl, ◌∙◌, ap, length}
use Rattle.tp_state.specs.State.{held_of}
use Rattle.tp_machine.specs.Machine.{base_in, choices_of}
use Rattle.tp_machine.proofs.GoesBack.Cut.{cut_is}
use Rattle.tp_machine.proofs.Step.Control.{cuts}
use Rattle.tp_machine.proofs.Step.Items.{rest-follows}
use Rattle.tp_machine.proofs.machine.Machine.cut.Goals as goal

pub returns : goal.returns
returns c =
    let m = c.args.self.now in
    let h = held_of m.state in
    cuts m c.args.task c.args._call c.requires.machine (record m.state { items = c.args.task.rest }) c.cut_from.new.self (length c.cut_from.new.self) c.requires.call (rest-follows m.state c.args.task.rest) refl
    (ap (choices_of m.atoms (base_in m) h) c.cut_from.ensures.kept ∙ cut_is m.atoms (base_in m) h c.args.task.barrier m.choices c.len-open.ensures.rise) c.cut_from.ensures.oldest

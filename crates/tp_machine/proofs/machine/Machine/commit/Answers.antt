use Rattle.std.proofs.Common.{refl, ◌+◌, ◌∙◌, ap, length}
use Rattle.tp_state.specs.State.{held_of}
use Rattle.tp_machine.specs.Machine.{base_in, choices_of}
use Rattle.tp_machine.proofs.GoesBack.Cut.{cut_is}
use Rattle.tp_machine.proofs.Step.Items.{commits, rest-follows}
use Rattle.tp_machine.proofs.machine.Machine.commit.Goals as goal

pub returns : goal.returns
returns c =
    let m = c.args.self.now in
    let names = m.atoms in
    commits m (record m { state = record m.state { items = c.args.rest }; choices = c.cut_from.new.self; stamp = m.stamp + 1 }) c.args._process c.args.stamp (length c.cut_from.new.self) c.args.rest c.requires.machine c.requires.first refl refl refl
    (rest-follows m.state c.args.rest)
    (ap (choices_of names (base_in m) (held_of m.state)) c.cut_from.ensures.kept ∙ cut_is names (base_in m) (held_of m.state) c.args.stamp m.choices c.len-open.ensures.rise) c.cut_from.ensures.oldest

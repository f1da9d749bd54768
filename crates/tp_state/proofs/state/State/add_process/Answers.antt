use Rattle.tp_state.specs.State.{held_of}
use Rattle.tp_state.proofs.Plans.{add-follows}
use Rattle.tp_state.proofs.state.State.add_process.Goals as goal

pub returns-clause-follows : goal.returns-clause-follows
returns-clause-follows c =
    add-follows (held_of c.args.self.now) c.make.new.self c.add_box.new.self.boxes c.add_box.new.self.rooms c.make.new.log c.add_box.new.log
    c.in_ok-pid.ensures.log c.in_ok-pid.ensures.inverse c.in_ok-add_box.ensures.log c.in_ok-add_box.ensures.inverse c.in_ok-add_box.ensures.rooms

use Rattle.tp_state.specs.State.{held_of}
use Rattle.tp_state.proofs.Plans.{deliver-follows}
use Rattle.tp_state.proofs.state.State.deliver.Goals as goal

pub returns-clause-follows : goal.returns-clause-follows
returns-clause-follows c =
    deliver-follows (held_of c.args.self.now) c.args.pid c.send.new.self.boxes c.send.new.self.rooms c.send.new.log
    c.requires c.in_ok-send.ensures.log c.in_ok-send.ensures.inverse c.send.ensures.rooms

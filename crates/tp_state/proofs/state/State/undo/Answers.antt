use Rattle.std.proofs.Common.{sym, ap}
use Rattle.tp_state.specs.State.{held_of}
use Rattle.tp_state.proofs.GoingBack.Logs.{covers-same, covers-as, covers-rooms, covers-slots}
use Rattle.tp_state.proofs.state.State.undo.Goals as goal

pub returns-in-Bind-clause-rooms : goal.returns-in-Bind-clause-rooms
returns-in-Bind-clause-rooms c = covers-as _ _ _ _ c.in-Bind.is (covers-same (held_of c.args.self.now).rooms)

pub returns-in-Made-clause-rooms : goal.returns-in-Made-clause-rooms
returns-in-Made-clause-rooms c = covers-as _ _ _ _ c.in-Made.is (covers-same (held_of c.args.self.now).rooms)

pub returns-in-Set-clause-rooms : goal.returns-in-Set-clause-rooms
returns-in-Set-clause-rooms c = covers-as _ _ _ _ c.in-Set.is (covers-same (held_of c.args.self.now).rooms)

pub returns-in-Put-clause-rooms : goal.returns-in-Put-clause-rooms
returns-in-Put-clause-rooms c =
    covers-as _ _ _ _ c.in-Put.is (covers-rooms (held_of c.args.self.now).rooms _ (ap (λ n. record (held_of c.args.self.now).rooms { slots = n }) (sym c.undo_put.ensures.room)))

pub returns-in-Took-clause-rooms : goal.returns-in-Took-clause-rooms
returns-in-Took-clause-rooms c = covers-as _ _ _ _ c.in-Took.is (covers-slots (held_of c.args.self.now).rooms _ c.undo_take.ensures.room)

pub returns-in-BoxMade-clause-rooms : goal.returns-in-BoxMade-clause-rooms
returns-in-BoxMade-clause-rooms c =
    covers-as _ _ _ _ c.in-BoxMade.is (covers-rooms _ _ (ap (λ bs. record (held_of c.args.self.now).rooms { boxes = bs }) (sym c.undo_add.ensures.rooms)))

pub returns-in-Sent-clause-rooms : goal.returns-in-Sent-clause-rooms
returns-in-Sent-clause-rooms c =
    covers-as _ _ _ _ c.in-Sent.is (covers-rooms (held_of c.args.self.now).rooms _ (ap (λ bs. record (held_of c.args.self.now).rooms { boxes = bs }) (sym c.undo_send.ensures.rooms)))

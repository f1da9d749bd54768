use Rattle.std.specs.List.{insert}
use Rattle.tp_mail.proofs.OneBox.{box_changed, rooms_more}
use Rattle.tp_mail.proofs.rings.undo_take_in.Goals as goal

pub returns-clause-boxes : goal.returns-clause-boxes
returns-clause-boxes c = box_changed (λ b. insert b c.args.place c.args.message) c.args.boxes.now.items c.args.pid c.index_mut.result.now c.put_message.new.messages c.requires.pid c.index_mut.ensures.value c.put_message.ensures.messages

pub returns-clause-rooms : goal.returns-clause-rooms
returns-clause-rooms c = rooms_more c.args.boxes.now.items c.args.pid c.index_mut.result.now c.put_message.new.messages c.requires.pid c.index_mut.ensures.value c.put_message.ensures.room

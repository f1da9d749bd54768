use Rattle.std.proofs.Common.{rules, ◌∙◌, ap, ◌-◌, take}
use Rattle.tp_log.specs.Front.{front}
use Rattle.tp_mail.proofs.OneBox.{box_changed, rooms_same}
use Rattle.tp_mail.proofs.rings.undo_send_in.Goals as goal

pub returns-clause-boxes : goal.returns-clause-boxes
returns-clause-boxes c = box_changed front c.args.boxes.now.items c.args.pid c.index_mut.result.now c.pop_back.new.self c.requires c.index_mut.ensures.value (c.pop_back.ensures.rest ∙ ap (λ n. take (n - 1) c.index_mut.result.now.items) (search rules))

pub returns-clause-rooms : goal.returns-clause-rooms
returns-clause-rooms c = rooms_same c.args.boxes.now.items c.args.pid c.index_mut.result.now c.pop_back.new.self c.requires c.index_mut.ensures.value c.pop_back.ensures.capacity

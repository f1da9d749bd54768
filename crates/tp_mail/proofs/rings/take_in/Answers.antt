use Rattle.std.proofs.lemmas.Result.{MatchResult-weaker}
use Rattle.tp_mail.proofs.OneBox.{box_same, rooms_same, received, ok_from}
use Rattle.tp_mail.proofs.rings.take_in.Goals as goal

pub returns-clause-ok : goal.returns-clause-ok
returns-clause-ok c = ok_from c.take_message.result _ _ _ _ c.take_message.ensures.message c.take_message.ensures.messages c.take_message.ensures.shorter
    (λ m g e short. received c.args.boxes.now.items c.args.pid c.args.place m c.index_mut.result.now c.take_message.new.messages c.requires.pid c.index_mut.ensures.value g e short)

pub returns-clause-err : goal.returns-clause-err
returns-clause-err c = MatchResult-weaker c.take_message.result c.take_message.ensures.err
    (λ _ t. t) (λ _ e. (box_same c.args.boxes.now.items c.args.pid c.index_mut.result.now c.take_message.new.messages c.requires.pid c.index_mut.ensures.value e.0, e.1))

pub returns-clause-rooms : goal.returns-clause-rooms
returns-clause-rooms c = rooms_same c.args.boxes.now.items c.args.pid c.index_mut.result.now c.take_message.new.messages c.requires.pid c.index_mut.ensures.value c.take_message.ensures.room

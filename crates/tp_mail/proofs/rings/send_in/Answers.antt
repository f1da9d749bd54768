use Rattle.std.proofs.Common.{◌∙◌, ap, ◌++◌, [], ◌∷◌}
use Rattle.std.proofs.lemmas.Result.{MatchResult-weaker}
use Rattle.tp_log.specs.Front.{front}
use Rattle.tp_mail.specs.Mail.{at_box, boxes_of}
use Rattle.tp_mail.proofs.OneBox.{box_changed, box_same, rooms_more, send_back}
use Rattle.tp_mail.proofs.rings.send_in.Goals as goal

pub returns-clause-boxes : goal.returns-clause-boxes
returns-clause-boxes c = MatchResult-weaker c.add_message.result c.add_message.ensures.messages
    (λ _ e. box_changed (λ b. b ++ c.args.message ∷ []) c.args.boxes.now.items c.args.pid c.index_mut.result.now c.add_message.new.messages c.requires c.index_mut.ensures.value e) (λ _ t. t)

pub returns-clause-err : goal.returns-clause-err
returns-clause-err c = MatchResult-weaker c.add_message.result c.add_message.ensures.err
    (λ _ t. t) (λ _ e. (box_same c.args.boxes.now.items c.args.pid c.index_mut.result.now c.add_message.new.messages c.requires c.index_mut.ensures.value e.0, e.1))

pub returns-clause-rooms : goal.returns-clause-rooms
returns-clause-rooms c = rooms_more c.args.boxes.now.items c.args.pid c.index_mut.result.now c.add_message.new.messages c.requires c.index_mut.ensures.value c.add_message.ensures.room

pub returns-clause-inverse : goal.returns-clause-inverse
returns-clause-inverse c = MatchResult-weaker c.add_message.result (returns-clause-boxes c)
    (λ _ e. ap (at_box c.args.pid front) e ∙ send_back (boxes_of c.args.boxes.now.items) c.args.pid c.args.message) (λ _ t. t)

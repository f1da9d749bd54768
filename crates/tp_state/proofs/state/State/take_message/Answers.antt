use Rattle.std.proofs.Common.{◌≡◌, ◌++◌, ◌∷◌, [], IfSome, subst}
use Rattle.tp_terms.specs.declared.cells.Ref.{Ref}
use Rattle.tp_log.specs.declared.entry.Entry.TheVariants.{Received}
use Rattle.tp_mail.specs.Mail.{Receives}
use Rattle.tp_state.specs.State.{held_of}
use Rattle.tp_state.proofs.Plans.{receive-follows}
use Rattle.tp_state.proofs.state.State.take_message.Goals as goal

pub returns-clause-follows : goal.returns-clause-follows
returns-clause-follows c =
    let new = c.take.new in
    receive-follows (held_of c.args.self.now) c.args.pid c.args.place c.in-Some.message new.self.boxes new.self.rooms new.log c.requires.pid
    (subst (λ r. IfSome r (λ (m : Ref). new.log ≡ c.args.self.now.log ++ Received c.args.pid c.args.place m ∷ [])) c.in-Some.is c.in_ok-message.ensures.log)
    (subst (λ r. IfSome r (λ (m : Ref). Receives c.args.pid c.args.place m c.args.self.now.boxes new.self)) c.in-Some.is c.in_ok-message.ensures.some)
    c.take.ensures.rooms

use Rattle.std.proofs.Common.{◌≡◌, ◌∙◌, ◌∷◌, rules, sym, subst}
use Rattle.tp_calendar.specs.Order.{IsOrdered}
use Rattle.tp_calendar.proofs.PutBack.{put-first, free-first}
use Rattle.tp_calendar.proofs.Calendar.take_first.Goals as goal

pub returns-clause-inverse : goal.returns-clause-inverse
returns-clause-inverse c =
    let split : c.args.self.now.slots ≡ c.in-Some.slot ∷ c.pop_front.new.self.items = search rules in
    put-first c.in-Some.slot c.pop_front.new.self.items (subst IsOrdered split c.in-Some.ensures.order) ∙ sym split

pub returns-clause-free : goal.returns-clause-free
returns-clause-free c =
    let split : c.args.self.now.slots ≡ c.in-Some.slot ∷ c.pop_front.new.self.items = search rules in
    free-first c.in-Some.slot c.pop_front.new.self.items (subst IsOrdered split c.in-Some.ensures.order)

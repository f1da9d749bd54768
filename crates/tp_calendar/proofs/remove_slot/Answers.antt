use Rattle.std.proofs.Common.{◌≡◌, ◌∙◌, ◌<◌, ◌≤◌, true, false, length, get_or, rules, sym, ap, arith}
use Rattle.std.proofs.lemmas.List.{get_or_default}
use Rattle.std.specs.List.{remove}
use Rattle.tp_calendar.specs.Order.{is_beside}
use Rattle.tp_calendar.proofs.PutBack.{without-place, without-none}
use Rattle.tp_calendar.proofs.remove_slot.Goals as goal

pub returns-in_default-clause-slots : goal.returns-in_default-clause-slots
returns-in_default-clause-slots c =
    let fs = c.args.slots.now.items in
    let at = c.place_of-at.result in
    let place = c.place_of-at.ensures.place in
    let past : length fs ≤ at = search rules in
    sym (without-none c.args.slot fs at c.requires c.place_of-at.ensures.within place.0 place.1 (λ d lt. absurd (omega arith)))

pub returns-then-is_beside-clause-slots : goal.returns-then-is_beside-clause-slots
returns-then-is_beside-clause-slots c =
    let fs = c.args.slots.now.items in
    let at = c.place_of-at.result in
    let e = c.args.slot in
    let found = c.in-Some.found.now in
    let there : at < length fs = search rules in
    let gone : c.remove.new.self.items ≡ remove fs at = search rules in
    let beside : is_beside e (get_or fs at found) ≡ true = ap (is_beside e) (sym c.in-Some.ensures.lookup) ∙ sym c.is_beside.ensures ∙ c.if-is_beside.true in
    gone ∙ without-place e fs at found there c.place_of-at.ensures.place.0 beside

pub returns-else-is_beside-clause-slots : goal.returns-else-is_beside-clause-slots
returns-else-is_beside-clause-slots c =
    let fs = c.args.slots.now.items in
    let at = c.place_of-at.result in
    let e = c.args.slot in
    let found = c.in-Some.found.now in
    let place = c.place_of-at.ensures.place in
    let apart : is_beside e (get_or fs at found) ≡ false = ap (is_beside e) (sym c.in-Some.ensures.lookup) ∙ sym c.is_beside.ensures ∙ c.if-is_beside.false in
    sym (without-none e fs at c.requires c.place_of-at.ensures.within place.0 place.1 (λ d lt. ap (is_beside e) (get_or_default fs at d found lt) ∙ apart))

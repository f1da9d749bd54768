use Rattle.std.proofs.Common.{◌≡◌, ◌∙◌, rules}
use Rattle.std.specs.List.{insert}
use Rattle.tp_calendar.proofs.PutBack.{put-place}
use Rattle.tp_calendar.proofs.put_within.Goals as goal

pub returns-clause-slots : goal.returns-clause-slots
returns-clause-slots c =
    let fs = c.args.slots.now.items in
    let put : c.insert.new.self.items ≡ insert fs c.place_of-at.result c.args.slot = search rules in
    put ∙ put-place c.args.slot fs c.place_of-at.result c.place_of-at.ensures.within c.place_of-at.ensures.place.0 c.place_of-at.ensures.place.1 c.requires.free

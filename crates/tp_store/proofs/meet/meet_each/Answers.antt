use Rattle.std.proofs.Common.{◌<◌, [], ◌∷◌, ◌++◌, reverse, refl, sym, ap, subst, ◌∙◌}
use Rattle.tp_store.specs.Chain.{contents_of}
use Rattle.tp_store.specs.Meeting.{Looked, MeetStep, heads_size}
use Rattle.tp_store.proofs.Copies.Rows.{newest_first}
use Rattle.tp_store.proofs.HeadsMeet.Binding.{both_same, both_trans}
use Rattle.tp_store.proofs.HeadsMeet.Turns.{IsMeeting, meeting_start, meeting_turn, meeting_smaller, meeting_none}
use Rattle.tp_store.proofs.meet.meet_each.Goals as goal

pub returns-in_err-push-clause-adds : goal.returns-in_err-push-clause-adds
returns-in_err-push-clause-adds c = both_same (contents_of c.args.chains.now) (contents_of c.args.chains.now) refl

pub pairs-init : goal.pairs-init
pairs-init c =
    let old = contents_of c.args.chains.now in
    record {
      chains = c.requires.chains;
      meeting = subst (IsMeeting old old c.args.from.now.items c.args.base c.args.first.0.at c.args.first.1.at) (sym (ap reverse (c.in_ok-push.ensures.items ∙ ap (λ l. l ++ c.args.first ∷ []) c.clear.ensures.items)))
          (meeting_start old c.args.from.now.items c.args.base c.args.first.0 c.args.first.1 c.requires.chains.store (both_same old old refl) c.requires.goal c.requires.head c.requires.claimed);
    }

pub returns-in_err-meet-clause-adds : goal.returns-in_err-meet-clause-adds
returns-in_err-meet-clause-adds c = both_trans (contents_of c.args.chains.now) (contents_of c.pairs.chains) (contents_of c.meet.new.chains) c.pairs.invariant.meeting.adds c.meet.ensures.adds

pub returns-in_err-meet-clause-named : goal.returns-in_err-meet-clause-named
returns-in_err-meet-clause-named c n from old = c.meet.ensures.named n from (c.pairs.invariant.meeting.named n from old)

pub returns-then-not-branch-clause-adds : goal.returns-then-not-branch-clause-adds
returns-then-not-branch-clause-adds c = both_trans (contents_of c.args.chains.now) (contents_of c.pairs.chains) (contents_of c.meet.new.chains) c.pairs.invariant.meeting.adds c.meet.ensures.adds

pub returns-then-not-branch-clause-named : goal.returns-then-not-branch-clause-named
returns-then-not-branch-clause-named c n from old = c.meet.ensures.named n from (c.pairs.invariant.meeting.named n from old)

pub returns-then-not-branch-clause-found : goal.returns-then-not-branch-clause-found
returns-then-not-branch-clause-found c =
    let old = contents_of c.args.chains.now in
    let now = contents_of c.pairs.chains in
    let new = contents_of c.meet.new.chains in
    let from = c.args.from.now.items in
    let i : IsMeeting old now from c.args.base c.args.first.0.at c.args.first.1.at (c.in-Some.pair ∷ reverse c.pop.new.self.items) =
    subst (IsMeeting old now from c.args.base c.args.first.0.at c.args.first.1.at) (newest_first c.pairs.work.items c.pop.new.self.items c.in-Some.pair c.in-Some.ensures.items) c.pairs.invariant.meeting in
    meeting_none old now new from c.args.base c.args.first.0.at c.args.first.1.at c.in-Some.pair c.pop.new.self.items c.meet.new.work.items c.pairs.invariant.chains.store i
    (subst (Looked now new from c.args.base c.in-Some.pair c.pop.new.self.items c.meet.new.work.items) c.if-not-branch.true c.in_ok-meet.ensures.found)

pub pairs-smaller : goal.pairs-smaller
pairs-smaller c =
    let old = contents_of c.args.chains.now in
    let now = contents_of c.pairs.chains in
    let new = contents_of c.meet.new.chains in
    let from = c.args.from.now.items in
    let top = newest_first c.pairs.work.items c.pop.new.self.items c.in-Some.pair c.in-Some.ensures.items in
    let i : IsMeeting old now from c.args.base c.args.first.0.at c.args.first.1.at (c.in-Some.pair ∷ reverse c.pop.new.self.items) =
    subst (IsMeeting old now from c.args.base c.args.first.0.at c.args.first.1.at) top c.pairs.invariant.meeting in
    let s : MeetStep now new from c.args.base c.in-Some.pair c.pop.new.self.items c.meet.new.work.items =
    subst (Looked now new from c.args.base c.in-Some.pair c.pop.new.self.items c.meet.new.work.items) c.if-not-branch.false c.in_ok-meet.ensures.found in
    subst (λ ps. heads_size from (reverse c.meet.new.work.items) < heads_size from ps) (sym top)
    (meeting_smaller old now new from c.args.base c.args.first.0.at c.args.first.1.at c.in-Some.pair c.pop.new.self.items c.meet.new.work.items c.pairs.invariant.chains.store i s)

pub pairs-preserved : goal.pairs-preserved
pairs-preserved c =
    let old = contents_of c.args.chains.now in
    let now = contents_of c.pairs.chains in
    let new = contents_of c.meet.new.chains in
    let from = c.args.from.now.items in
    let i : IsMeeting old now from c.args.base c.args.first.0.at c.args.first.1.at (c.in-Some.pair ∷ reverse c.pop.new.self.items) =
    subst (IsMeeting old now from c.args.base c.args.first.0.at c.args.first.1.at) (newest_first c.pairs.work.items c.pop.new.self.items c.in-Some.pair c.in-Some.ensures.items) c.pairs.invariant.meeting in
    let s : MeetStep now new from c.args.base c.in-Some.pair c.pop.new.self.items c.meet.new.work.items =
    subst (Looked now new from c.args.base c.in-Some.pair c.pop.new.self.items c.meet.new.work.items) c.if-not-branch.false c.in_ok-meet.ensures.found in
    record {
      chains = c.meet.ensures.chains;
      meeting = meeting_turn old now new from c.args.base c.args.first.0.at c.args.first.1.at c.in-Some.pair c.pop.new.self.items c.meet.new.work.items c.pairs.invariant.chains.store i c.meet.ensures.adds c.meet.ensures.named s;
    }

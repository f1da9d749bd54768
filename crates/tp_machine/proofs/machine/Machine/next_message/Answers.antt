use Rattle.std.proofs.Common.{◌≡◌, ◌+◌, ◌<◌, Some, length, slice_get, ap, sym, subst, ◌∙◌}
use Rattle.tp_machine.specs.declared.machine.Machine.{Machine}
use Rattle.tp_store.specs.Contents.{Contents}
use Rattle.tp_machine.specs.Machine.{IsStanding}
use Rattle.tp_machine.specs.Mail.{box_in, may_take, message_from}
use Rattle.tp_machine.proofs.Meets.HeadsMet.{hit_here, hit_later}
use Rattle.tp_machine.proofs.Step.Acting.{first_there}
use Rattle.tp_machine.proofs.Step.First.{standing}
use Rattle.tp_machine.proofs.Step.Taking.{drop_here, may_take-is, message_stands, own_box}
use Rattle.tp_meaning.specs.declared.goals.ProcessGoal.TheVariants.{WaitFor}
use Rattle.tp_machine.proofs.machine.Machine.next_message.Goals as goal

pub count-place-end-requires : goal.count-place-end-requires
count-place-end-requires c = own_box c.args.self.now c.args.task c.args.call c.requires.call

pub unifiable-requires-clause-left : goal.unifiable-requires-clause-left
unifiable-requires-clause-left c =
    let t = c.args.task in
    let call = c.args.call in
    let k = c.loop-place.place in
    let message = c.message_at-message.result in
    subst (λ (x : Machine). slice_get (box_in x t) k ≡ Some message → message.at < length x.state.store.cells) (sym c.loop-place.invariant.same)
    (λ e. message_stands c.args.self.now t call c.requires.call k message e) c.message_at-message.ensures

pub unifiable-requires-clause-right : goal.unifiable-requires-clause-right
unifiable-requires-clause-right c =
    subst (λ (x : Machine). c.args.call.first.at < length x.state.store.cells) (sym c.loop-place.invariant.same) (first_there c.args.self.now c.args.task c.args.call WaitFor c.requires.call)

pub loop-place-preserved : goal.loop-place-preserved
loop-place-preserved c =
    let l = c.loop-place.self in
    let m = c.args.self.now in
    let t = c.args.task in
    let call = c.args.call in
    let k = c.loop-place.place in
    let message = c.message_at-message.result in
    let here = drop_here (box_in l t) k message c.message_at-message.ensures in
    let is = subst IsStanding (sym c.loop-place.invariant.same) (standing m c.requires.machine) in
    let fits = may_take-is l call message is _ c.in_ok-unifiable.ensures.found in
    record {
      same = ap (λ (s : Contents). record l { state = record l.state { store = s } }) c.unifiable.ensures.unchanged ∙ c.loop-place.invariant.same;
      found = subst (λ (x : Machine). message_from x t call (k + 1) ≡ message_from x t call c.args.from) c.loop-place.invariant.same
          (sym (hit_later (may_take l call) k _ _ _ here (fits ∙ c.if-branch.false)) ∙ subst (λ (x : Machine). message_from x t call k ≡ message_from x t call c.args.from) (sym c.loop-place.invariant.same) c.loop-place.invariant.found);
    }

pub returns-then-branch-clause-found : goal.returns-then-branch-clause-found
returns-then-branch-clause-found c =
    let l = c.loop-place.self in
    let m = c.args.self.now in
    let t = c.args.task in
    let call = c.args.call in
    let k = c.loop-place.place in
    let message = c.message_at-message.result in
    let here = drop_here (box_in l t) k message c.message_at-message.ensures in
    let is = subst IsStanding (sym c.loop-place.invariant.same) (standing m c.requires.machine) in
    let fits = may_take-is l call message is _ c.in_ok-unifiable.ensures.found in
    subst (λ (x : Machine). Some k ≡ message_from x t call c.args.from) c.loop-place.invariant.same
    (sym (hit_here (may_take l call) k _ _ _ here (fits ∙ c.if-branch.true)) ∙ subst (λ (x : Machine). message_from x t call k ≡ message_from x t call c.args.from) (sym c.loop-place.invariant.same) c.loop-place.invariant.found)

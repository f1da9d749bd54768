use Rattle.std.proofs.Common.{◌≡◌, ◌<◌, ◌∷◌, ◌++◌, [], length, IfSome, ap, sym, subst, ◌∙◌, rules}
use Rattle.tp_control.specs.declared.frames.Frame.{Frame}
use Rattle.tp_control.specs.Lists.{items_at, lists, AreLinked}
use Rattle.tp_control.proofs.ListsStay.{length-lists, lists-push, linked-push}
use Rattle.tp_control.proofs.frames.Frames.push.Goals as goal

pub invariant_of-self-2 : goal.invariant_of-self-2
invariant_of-self-2 c =
    let fs = c.self.inside.frames in
    let f : Frame = record { item = c.args.item; next = c.args.next } in
    let long : length fs ≡ length c.args.self.now = sym (length-lists fs) ∙ ap length c.self.view_is in
    subst AreLinked (sym c.in_ok-push.ensures.added) (linked-push fs f c.self.invariant (subst (λ n. IfSome c.args.next (λ i. i.at < n)) (sym long) c.requires))

pub returns-clause-place : goal.returns-clause-place
returns-clause-place c =
    let e : c.len-at.result ≡ length c.self.inside.frames = search rules in
    e ∙ sym (length-lists c.self.inside.frames) ∙ ap length c.self.view_is

pub returns-clause-lists : goal.returns-clause-lists
returns-clause-lists c =
    let f : Frame = record { item = c.args.item; next = c.args.next } in
    ap lists c.in_ok-push.ensures.added ∙ lists-push c.self.inside.frames f
    ∙ ap (λ ls. ls ++ (c.args.item ∷ items_at ls c.args.next) ∷ []) c.self.view_is

pub push-requires : goal.push-requires
push-requires c = subst (λ n. IfSome c.args.next (λ i. i.at < n)) (ap length (sym c.self.view_is) ∙ length-lists c.self.inside.frames) c.requires

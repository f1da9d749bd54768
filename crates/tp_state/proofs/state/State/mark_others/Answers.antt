use Rattle.std.proofs.Common.{◌≡◌, ◌<◌, ◌++◌, length, take, drop, slice_set, ap, sym, subst, ◌∙◌, arith}
use Rattle.tp_state.specs.Plain.{Plain}
use Rattle.tp_state.specs.Acts.{mark, mark_others}
use Rattle.tp_state.specs.Going.{Follows}
use Rattle.tp_state.specs.State.{plain_of, held_of}
use Rattle.tp_state.proofs.Marked.{marks-next, leaves-one, marks-all, seam-length}
use Rattle.tp_state.proofs.Changes.{there}
use Rattle.tp_state.proofs.GoingBack.Follows.{follows-then}
use Rattle.tp_state.proofs.state.State.mark_others.Goals as goal
use Rattle.tp_state.proofs.state.State.mark_others.Goals.{then-at-pid+in_ok-mark, else-at-pid}

pub mark-requires : goal.mark-requires
mark-requires c =
    let qs = c.args.self.now.procs in
    seam-length c.args.pid c.loop-at.at qs c.loop-at.self.procs (ap (λ (p : Plain). p.procs) c.loop-at.invariant.plain) (omega (arith, c.len-at-end.ensures.len))

pub loop-at-preserved : goal.loop-at-preserved
loop-at-preserved c =
    let n = c.args.pid in
    let k = c.loop-at.at in
    let qs = c.args.self.now.procs in
    let now = c.loop-at.self.procs in
    let lt : k < length qs = omega (arith, c.len-at-end.ensures.len) in
    let is : now ≡ take k (mark_others n qs) ++ drop k qs = ap (λ (p : Plain). p.procs) c.loop-at.invariant.plain in
    elim c.if-at-pid.branch [
      | then-at-pid+in_ok-mark w ↦
          let q = there now k (seam-length n k qs now is lt) in
          record {
            plain =
                ap plain_of w.self-is ∙ w.in_ok-mark.ensures.plain q.0 q.1
                ∙ ap (λ (p : Plain). record p { procs = slice_set now k (mark q.0) }) c.loop-at.invariant.plain
                ∙ ap (λ ps. record (plain_of c.args.self.now) { procs = ps }) (marks-next n k qs now is lt q.0 (λ e. w.if-at-pid.true (sym e)) q.1);
            follows = subst (λ h. Follows (held_of c.args.self.now) h) (sym (ap held_of w.self-is)) (follows-then _ _ _ c.loop-at.invariant.follows w.in_ok-mark.ensures.follows);
          }
      | else-at-pid w ↦ record {
        plain =
            ap plain_of w.self-is ∙ c.loop-at.invariant.plain
            ∙ ap (λ ps. record (plain_of c.args.self.now) { procs = ps }) (sym is ∙ leaves-one n k qs now is lt (sym w.if-at-pid.false));
        follows = subst (λ h. Follows (held_of c.args.self.now) h) (sym (ap held_of w.self-is)) c.loop-at.invariant.follows;
      }
    ]

pub returns-clause-plain : goal.returns-clause-plain
returns-clause-plain c =
    let qs = c.args.self.now.procs in
    c.loop-at.invariant.plain
    ∙ ap (λ ps. record (plain_of c.args.self.now) { procs = ps })
    (sym (ap (λ (p : Plain). p.procs) c.loop-at.invariant.plain) ∙ marks-all c.args.pid c.loop-at.at qs c.loop-at.self.procs (ap (λ (p : Plain). p.procs) c.loop-at.invariant.plain) (omega (arith, c.len-at-end.ensures.len)))

use Rattle.std.proofs.Common.{sym, ◌∙◌}
use Rattle.tp_lex.proofs.Forms.Gaps.{after_comment-goes, after_comment-stops, after_comment-none}
use Rattle.tp_lex.proofs.layout.after_comment.Goals as goal

pub returns-in-Some-comment_end-clause-value : goal.returns-in-Some-comment_end-clause-value
returns-in-Some-comment_end-clause-value c =
    let e = after_comment-stops _ _ _ _ c.in-Some.ensures.split (sym c.in-Some-comment_end.ensures.value) in
    sym e ∙ c.loop-after.invariant.1

pub loop-after-preserved : goal.loop-after-preserved
loop-after-preserved c =
    let e = after_comment-goes _ _ _ c.in-Some.ensures.split (sym c.in_default-comment_end.ensures.value) in
    (c.in-Some.ensures.utf8, sym e ∙ c.loop-after.invariant.1)

pub returns-clause-value : goal.returns-clause-value
returns-clause-value c = sym (after_comment-none _ c.in_default.ensures.split) ∙ c.loop-after.invariant.1

use Rattle.std.proofs.Common.{sym, ◌∙◌}
use Rattle.tp_lex.proofs.Forms.Gaps.{after_line-goes, after_line-stops, after_line-none}
use Rattle.tp_lex.proofs.layout.after_line.Goals as goal

pub loop-c-preserved : goal.loop-c-preserved
loop-c-preserved c =
    let e = after_line-goes _ _ _ c.in-Some.ensures.split c.if-c-eq10.false in
    (c.in-Some.ensures.utf8, cc e)

pub returns-then-c-eq10 : goal.returns-then-c-eq10
returns-then-c-eq10 c =
    sym (after_line-stops _ _ _ c.in-Some.ensures.split c.if-c-eq10.true) ∙ c.loop-c.invariant.1

pub returns-in_default : goal.returns-in_default
returns-in_default c = sym (after_line-none _ c.in_default.ensures.split) ∙ c.loop-c.invariant.1

use Rattle.std.proofs.Common.{sym, ◌∙◌}
use Rattle.tp_lex.proofs.Forms.Gaps.{past_layout-goes, past_layout-stops, past_layout-fails, after_gap-shorter}
use Rattle.tp_lex.proofs.layout.past_layout.Goals as goal

pub loop-after-smaller : goal.loop-after-smaller
loop-after-smaller c = let e = rw c.in-Ok-Some.field-0-is at c.in-Ok-Some.ensures.value in after_gap-shorter _ _ (sym e)

pub loop-after-preserved : goal.loop-after-preserved
loop-after-preserved c =
    let e = rw c.in-Ok-Some.field-0-is at c.in-Ok-Some.ensures.value in
    let u = rw c.in-Ok-Some.field-0-is at c.in-Ok-Some.ensures.utf8 in
    (u, sym (past_layout-goes _ _ (sym e)) ∙ c.loop-after.invariant.1)

pub returns-in-Ok-None-clause-value : goal.returns-in-Ok-None-clause-value
returns-in-Ok-None-clause-value c =
    let e = rw c.in-Ok-None.field-0-is at c.in-Ok-None.ensures.value in
    sym (past_layout-stops _ (sym e)) ∙ c.loop-after.invariant.1

pub returns-in-Err-clause-value : goal.returns-in-Err-clause-value
returns-in-Err-clause-value c = sym (past_layout-fails _ _ (sym c.in-Err.ensures.value)) ∙ c.loop-after.invariant.1

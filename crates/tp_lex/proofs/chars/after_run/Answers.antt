use Rattle.std.proofs.Common.{sym, ◌∙◌}
use Rattle.tp_lex.proofs.Characters.Runs.{after_run-goes, after_run-stops, after_run-none}
use Rattle.tp_lex.proofs.chars.after_run.Goals as goal

pub loop-c-preserved : goal.loop-c-preserved
loop-c-preserved c =
    let e = after_run-goes _ _ _ _ c.in-Some.ensures.split (sym c.if-not-is_in_class.ensures) in
    (c.in-Some.ensures.utf8, cc e)

pub returns-then-not-is_in_class : goal.returns-then-not-is_in_class
returns-then-not-is_in_class c =
    sym (after_run-stops _ _ _ _ c.in-Some.ensures.split (sym c.if-not-is_in_class.ensures)) ∙ c.loop-c.invariant.1

pub returns-in_default : goal.returns-in_default
returns-in_default c = sym (after_run-none _ _ c.in_default.ensures.split) ∙ c.loop-c.invariant.1

use Rattle.std.proofs.Common.{sym, ap, ◌∙◌}
use Rattle.tp_lex.specs.Quotes.{after_closing}
use Rattle.tp_lex.proofs.Forms.Quoted.{inside-closed, inside-goes, inside-at, item-shorter}
use Rattle.tp_lex.proofs.quotes.after_inside.Goals as goal

pub returns-in-Err-clause-value : goal.returns-in-Err-clause-value
returns-in-Err-clause-value c =
    sym (ap after_closing (inside-at c.args.mark _ _ c.in-Err.ensures.value)) ∙ c.items.invariant.1

pub returns-in-Closed-clause-value : goal.returns-in-Closed-clause-value
returns-in-Closed-clause-value c =
    sym (ap after_closing (inside-closed c.args.mark _ _ c.in-Ok.pair.0 c.in-Closed.is c.in-Ok.ensures.value)) ∙ c.items.invariant.1

pub items-smaller : goal.items-smaller
items-smaller c = item-shorter c.args.mark _ _ c.in-Ok.pair.0 c.in-Ok.ensures.value

pub items-preserved : goal.items-preserved
items-preserved c =
    (c.in-Ok.ensures.utf8, sym (inside-goes c.args.mark _ _ c.in-Ok.pair.0 c.in_default.not-Closed c.in-Ok.ensures.value) ∙ c.items.invariant.1)

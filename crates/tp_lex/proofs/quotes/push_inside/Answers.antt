use Rattle.std.proofs.Common.{chars, string_bytes}
use Rattle.tp_lex.proofs.Forms.Quoted.{item-shorter, filled-goes, filled-ends, filled-fails}
use Rattle.tp_lex.proofs.quotes.push_inside.Goals as goal

pub items-smaller : goal.items-smaller
items-smaller c = item-shorter c.args.mark _ _ c.in-Ok.found c.in-Ok.ensures.value

pub items-preserved : goal.items-preserved
items-preserved c =
    (c.in-Ok.ensures.utf8, filled-goes c.args.mark _ _ (chars (string_bytes c.items.out)) _ (chars c.items.rest.now) _ c.in-Ok.found c.in_default-found.not-Closed c.in-Ok.ensures.value c.in_ok-push_item.ensures c.items.invariant.1)

pub returns-in-Closed : goal.returns-in-Closed
returns-in-Closed c =
    filled-ends c.args.mark _ _ (chars (string_bytes c.items.out)) _ (chars c.items.rest.now) _ c.in-Ok.found c.in-Closed.is c.in-Ok.ensures.value c.in_ok-push_item.ensures c.items.invariant.1

pub returns-in_default : goal.returns-in_default
returns-in_default c =
    absurd (filled-fails c.args.mark _ _ _ (chars c.items.rest.now) _ c.in_default.ensures.value c.items.invariant.1)

use Rattle.std.proofs.Common.{sym, ◌∙◌}
use Rattle.tp_parse.proofs.Numbered.Variables.{number-next}
use Rattle.tp_parse.proofs.variables.find_first.Goals as goal

pub returns-then-eq : goal.returns-then-eq
returns-then-eq c =
    sym (c.loop-named.invariant ∙ number-next c.args.few.now c.loop-named.named-index c.named-item.result c.args.name.now c.as_str.result.now _
    c.loop-named-test.true c.named-item.is c.utf8.name c.as_str.utf8 c.as_str.ensures.chars c.if-eq.ensures)

pub loop-named-preserved : goal.loop-named-preserved
loop-named-preserved c =
    c.loop-named.invariant ∙ number-next c.args.few.now c.loop-named.named-index c.named-item.result c.args.name.now c.as_str.result.now _
    c.loop-named-test.true c.named-item.is c.utf8.name c.as_str.utf8 c.as_str.ensures.chars c.if-eq.ensures

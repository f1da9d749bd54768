use Rattle.tp_arith.proofs.Evaluation.Shifts.{told-shift, told-shift-early}
use Rattle.std.proofs.Common.{ap, ◌∙◌}
use Rattle.tp_arith.specs.Errors.{told}
use Rattle.tp_arith.proofs.operations.shift_left.Goals as goal

pub returns-in_default : goal.returns-in_default
returns-in_default c = told-shift-early c.args.x c.args.y c.pow.result c.in_ok-bits.bits c.ranges.x c.ranges.y (record { sfits = c.pow.type_inv }) c.in_ok-bits.ensures c.pow.ensures c.in_default.ensures

pub returns : goal.returns
returns c =
    ap told c.ok_or.ensures.value
    ∙ told-shift c.args.x c.args.y c.pow.result c.pow-2.result c.in-Some.shifted c.checked_mul-2.result c.in_ok-bits.bits c.ranges.x c.ranges.y (record { sfits = c.pow.type_inv }) (record { sfits = c.pow-2.type_inv }) c.in_ok-bits.ensures c.pow.ensures c.pow-2.ensures c.in-Some.ensures.0 c.in-Some.ensures.1 c.checked_mul-2.ensures

use Rattle.tp_arith.proofs.Evaluation.Divisions.{told-leaves-below, told-leaves-above}
use Rattle.tp_arith.specs.Errors.{told}
use Rattle.tp_arith.proofs.operations.modulus.Goals as goal

pub returns-then-y-gt0 : goal.returns-then-y-gt0
returns-then-y-gt0 c = told-leaves-below (told c.within.result) c.args.x c.args.y c.ranges.x c.ranges.y c.if-x-lt0.true c.if-y-gt0.true c.within.ensures

pub returns-then-y-lt0 : goal.returns-then-y-lt0
returns-then-y-lt0 c = told-leaves-above (told c.within-then-y-lt0.result) c.args.x c.args.y c.ranges.x c.ranges.y c.if-x-gt0.true c.if-y-lt0.true c.within-then-y-lt0.ensures

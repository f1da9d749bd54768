use Rattle.tp_write.proofs.Writes.Names.{start-low, start-middle, start-high}
use Rattle.tp_write.proofs.names.escape_start.Goals as goal

pub returns-then-c-lt16 : goal.returns-then-c-lt16
returns-then-c-lt16 c = start-low c.args.c c.if-c-lt16.true

pub returns-then-c-lt32 : goal.returns-then-c-lt32
returns-then-c-lt32 c = start-middle c.args.c c.if-c-lt16.false c.if-c-lt32.true

pub returns-else-c-lt32 : goal.returns-else-c-lt32
returns-else-c-lt32 c = start-high c.args.c c.if-c-lt16.false c.if-c-lt32.false

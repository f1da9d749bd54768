use Rattle.std.proofs.Common.{◌≡◌, ◌&&◌, int_le, true, false, rules, refl}
use Rattle.tp_machine.proofs.Step.Counted.{misses, passes}
use Rattle.tp_machine.proofs.Step.Items.{rest-follows}
use Rattle.tp_machine.proofs.machine.Machine.test_number.Goals as goal

pub returns-then-is_within : goal.returns-then-is_within
returns-then-is_within c =
    let m = c.args.self.now in
    let b = c.args.bounds in
    let within : (int_le b.low c.args.value && int_le c.args.value b.high) ≡ true = search rules in
    passes m c.args.task c.args._call b c.requires.tests.bounded c.args.value _ c.requires.machine c.requires.tests.number within (rest-follows m.state c.args.task.rest) refl

pub returns-else-is_within : goal.returns-else-is_within
returns-else-is_within c =
    let m = c.args.self.now in
    let b = c.args.bounds in
    let outside : (int_le b.low c.args.value && int_le c.args.value b.high) ≡ false = search rules in
    misses m c.args.task c.args._call b c.requires.tests.bounded c.args.value c.requires.machine c.requires.tests.number outside

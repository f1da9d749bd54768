use Rattle.std.proofs.Common.{◌≡◌, ◌+◌, length, refl, ap, arith}
use Rattle.tp_machine.proofs.Enters.Parted.{within_call, other_name, other_count, two_parts}
use Rattle.tp_machine.proofs.parts.parts_by.Goals as goal

pub overflow_add-second : goal.overflow_add-second
overflow_add-second c =
    let w = within_call c.args.store.now c.args._goal c.args.call c.requires.call in
    let two : c.args.call.count ≡ 2 = c.if-call-eq2.true in
    let e : length c.cells.result.now.items ≡ length c.args.store.now.cells = ap (λ xs. length xs) c.cells.ensures.cells in
    omega (arith, w, two, e)

pub returns-then-call-eq2 : goal.returns-then-call-eq2
returns-then-call-eq2 c names table named =
    two_parts names c.args.store.now c.args._goal c.args.call table (c.requires.call names named) (record { at = c.args.call.first.at + 1 }) c.if-call.true c.if-call-eq2.true refl

pub returns-else-call-eq2 : goal.returns-else-call-eq2
returns-else-call-eq2 c names table named = other_count names c.args.store.now c.args._goal c.args.call table (c.requires.call names named) c.if-call-eq2.false

pub returns-else-call : goal.returns-else-call
returns-else-call c names table named = other_name names c.args.store.now c.args._goal c.args.call table (c.requires.call names named) c.if-call.false

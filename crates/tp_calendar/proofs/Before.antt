-- Entries of a calendar are in a strict order, and two that don't come before each other have one time and number.
use Rattle.std.proofs.Common.{◌≡◌, true, false, arith}
use Rattle.std.proofs.lemmas.Int.{ints}
use Rattle.std.proofs.lemmas.Bool.Decides.{nat_tests}
use Rattle.tp_terms.specs.declared.world.Slot.{Slot}
use Rattle.tp_calendar.specs.Order.{goes_before, is_beside}

pub beside-itself : (e : Slot) → is_beside e e ≡ true
beside-itself e = grind (arith, ints, nat_tests)

pub before-turned : (e f : Slot) → goes_before f e ≡ true → goes_before e f ≡ false
before-turned e f h = grind (arith, ints, nat_tests)

pub before-otherwise : (e f : Slot) → goes_before f e ≡ false → is_beside e f ≡ false → goes_before e f ≡ true
before-otherwise e f h k = grind (arith, ints, nat_tests)

pub behind-otherwise : (e f : Slot) → goes_before e f ≡ false → is_beside e f ≡ false → goes_before f e ≡ true
behind-otherwise e f h k = grind (arith, ints, nat_tests)

pub before-trans : (a b c : Slot) → goes_before a b ≡ true → goes_before b c ≡ true → goes_before a c ≡ true
before-trans a b c h k = grind (arith, ints, nat_tests)

-- what comes before another isn't beside it
pub apart-before : (e f : Slot) → goes_before f e ≡ true → is_beside e f ≡ false
apart-before e f h = grind (arith, ints, nat_tests)

pub apart-behind : (e f : Slot) → goes_before e f ≡ true → is_beside e f ≡ false
apart-behind e f h = grind (arith, ints, nat_tests)

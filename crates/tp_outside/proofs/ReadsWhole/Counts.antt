-- Counts that stand still at their last value.
use Rattle.std.proofs.Common.{◌≡◌, ℕ, ◌+◌, arith}
use Rattle.tp_outside.specs.Count.{given_more}

-- bytes that are counted one piece after another are counted together
pub given_more-given_more : (a n m : ℕ) → given_more (given_more a n) m ≡ given_more a (n + m)
given_more-given_more a n m = omega arith

-- The counts that the adapters over files and standard output keep.
use Rattle.std.specs.Prelude.{ℕ, Result, Ok, Err}
use Rattle.tp_outside.specs.Count.{given_more, next_count}

-- of faults, and of bytes given
pub record ReadCounts : Type 0 where
  pub faults : ℕ
  pub given : ℕ

-- the counts after a read
abbrev pub after_read : {E : Type 0} → ReadCounts → Result ℕ E → ReadCounts
after_read counts (Ok n) = record counts { given = given_more counts.given n }
after_read counts (Err e) = record counts { faults = next_count counts.faults }

-- the count of faults after a write
abbrev pub after_write : {E : Type 0} → ℕ → Result ℕ E → ℕ
after_write faults (Ok n) = faults
after_write faults (Err e) = next_count faults

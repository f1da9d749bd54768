-- Counts in 64 bits, which stand still at their last value.
use Rattle.std.specs.Prelude.{ℕ, ◌+◌, ◌-◌, ◌≤◌, ◌^◌, min}

-- a count of bytes, after so many more
abbrev pub given_more : ℕ → ℕ → ℕ
given_more before more = min (before + more) (2 ^ 64 - 1)

-- a count of calls or of faults, after one more
abbrev pub next_count : ℕ → ℕ
next_count before = min (before + 1) (2 ^ 64 - 1)

-- a count rose, or stands at its last value
abbrev pub Rose : ℕ → ℕ → Type 0
Rose before now = next_count before ≤ now

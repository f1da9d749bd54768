-- The last line of a run in its pieces.
use Rattle.std.proofs.Common.{◌≡◌, ℕ, List, ◌++◌, codes, decimal, ℤ, append_assoc}
use Rattle.std.specs.Fmt.{signed_decimal}
use Rattle.tp_report.specs.End.{ended_line, searched_line, raised_line}

-- the line of a run that ended in this way
pub ended-pieces : (how : List ℕ) (steps : ℕ) → how ++ (codes " after " ++ (decimal steps ++ codes " steps\n")) ≡ ended_line how steps
ended-pieces how steps = simp append_assoc

-- the line of a run that left nothing to search
pub searched-pieces : (how : List ℕ) (steps failed deadlock late : ℕ) →
    how ++ (codes " after " ++ (decimal steps ++ (codes " steps: " ++ (decimal failed ++ (codes " failed " ++ (decimal deadlock ++ (codes " deadlock " ++ (decimal late ++ codes " late\n"))))))))
    ≡ searched_line how steps failed deadlock late
searched-pieces how steps failed deadlock late = simp append_assoc

-- the line of a run that ended with an error
pub raised-pieces : (written term : List ℕ) (read clock : ℤ) (steps : ℕ) → written ≡ term → read ≡ clock →
    codes "error " ++ (written ++ (codes " at " ++ (signed_decimal read ++ (codes " after " ++ (decimal steps ++ codes " steps\n")))))
    ≡ raised_line term clock steps
raised-pieces written term read clock steps e z = rw (e, z) (simp append_assoc)

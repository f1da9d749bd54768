-- The last line of a run.
use Rattle.std.specs.Prelude.{ℕ, List, ◌++◌, codes, decimal, ℤ}
use Rattle.std.specs.Fmt.{signed_decimal}
use Rattle.tp_report.specs.declared.end.EndLine.{EndLine}
use Rattle.tp_report.specs.declared.end.EndLine.TheVariants.{Stopped, NoMore, No, Raised, Budget}
use Rattle.tp_report.specs.Report.{line}

-- after so many steps
abbrev pub after_text : ℕ → List ℕ
after_text steps = codes " after " ++ (decimal steps ++ codes " steps")

-- how many dead ends there were, by their causes
abbrev pub counts_text : ℕ → ℕ → ℕ → List ℕ
counts_text failed deadlock late =
    codes ": "
    ++ (decimal failed
    ++ (codes " failed "
    ++ (decimal deadlock
    ++ (codes " deadlock "
    ++ (decimal late
    ++ codes " late")))))

-- a run that ended with an error, whose term is written like this, at this time
abbrev pub raised_line : List ℕ → ℤ → ℕ → List ℕ
raised_line term clock steps =
    line (codes "error " ++ (term ++ (codes " at " ++ (signed_decimal clock ++ after_text steps))))

-- a run that ended in this way
abbrev pub ended_line : List ℕ → ℕ → List ℕ
ended_line how steps = line (how ++ after_text steps)

-- a run that left nothing to search, with its dead ends
abbrev pub searched_line : List ℕ → ℕ → ℕ → ℕ → ℕ → List ℕ
searched_line how steps failed deadlock late =
    line (how ++ (after_text steps ++ counts_text failed deadlock late))

-- the last line of a run, by its end
abbrev pub last_line : EndLine → ℕ → List ℕ
last_line Stopped steps = ended_line (codes "stopped") steps
last_line (NoMore failed deadlock late) steps =
    searched_line (codes "no more") steps failed deadlock late
last_line (No failed deadlock late) steps = searched_line (codes "no") steps failed deadlock late
last_line (Raised term clock) steps = raised_line term clock steps
last_line Budget steps = ended_line (codes "budget") steps

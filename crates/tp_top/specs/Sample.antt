-- Where a model comes from, and the model and the report of a sample.
use Rattle.std.specs.Prelude.{ℕ, ◌+◌, ◌-◌, List, ◌++◌, length, flat_map, Option, Some, None}
use Rattle.std.specs.Prelude.{codes, decimal, encode_utf8_all}
use Rattle.std.specs.List.{range_with_len}
use Rattle.tp_terms.specs.Term.{Term}
use Rattle.tp_terms.specs.declared.text.Named.{Named}
use Rattle.tp_meaning.specs.World.{World, Event}
use Rattle.tp_meaning.specs.Search.{Outcome}
use Rattle.tp_meters.specs.declared.MeterKind.{MeterKind}
use Rattle.tp_parse.specs.Table.{Table}
use Rattle.tp_report.specs.Report.{line}
use Rattle.tp_report.specs.End.{last_line}
use Rattle.tp_report.specs.declared.end.EndLine.{EndLine}
use Rattle.tp_top.specs.declared.program.Status.{Status}
use Rattle.tp_top.specs.Report.{Answer, counts_of, end_by, last_history, report}

-- the model is held under a name, or it is that of a sample with so many processes
pub data Source : Type 0 where
  HeldUnder : List ℕ → Source
  SampleOf : ℕ → Source

-- ---- the model of a sample

-- the clause of a process, which the next one follows
abbrev pub process_clause : ℕ → List ℕ
process_clause k =
    codes "s" ++ (decimal k ++ (codes " :- c(_), new(w,p" ++ (decimal k
    ++ (codes ",0,inf), s" ++ (decimal (k + 1) ++ codes ".\n")))))

-- the clause of the last process
abbrev pub last_clause : ℕ → List ℕ
last_clause n =
    codes "s" ++ (decimal n ++ (codes " :- c(_), new(w,p" ++ (decimal n ++ codes ",0,inf).\n")))

-- the clauses before those of the processes: the first course fails, and the second has no process
abbrev pub first_clauses : List ℕ
first_clauses =
    line (codes "top :- first.") ++ (line (codes "top.")
    ++ line (codes "first :- s1, hold(1), !, fail."))

-- the clauses behind them: two choices for each process, and what a process does
abbrev pub last_clauses : List ℕ
last_clauses = line (codes "c(1).") ++ (line (codes "c(2).") ++ line (codes "w :- hold(2)."))

-- The model of a sample with n processes. Those from 1 up to the one before n have another behind.
unfoldable pub sample_text : ℕ → List ℕ
sample_text n =
    first_clauses ++ (flat_map process_clause (range_with_len 1 (n - 1))
    ++ (last_clause n ++ last_clauses))

-- ---- the report of a sample

-- the number of events of a history that may be there, else 0
abbrev pub events_of : Option (List Event) → ℕ
events_of None = 0
events_of (Some history) = length history

-- the line of a sample with n processes: the numbers of clauses of its model, of answers, and of
-- events of the last answer
abbrev pub sample_line : ℕ → ℕ → ℕ → ℕ → List ℕ
sample_line n clauses answers events =
    codes "sample " ++ (decimal n ++ (codes ": clauses " ++ (decimal clauses
    ++ (codes " answers " ++ (decimal answers ++ (codes " events " ++ (decimal events
    ++ codes "\n")))))))

-- a status, and a line with the last line behind it; no answer is printed
abbrev pub with_line : List ℕ → ℕ → Status × EndLine → Answer
with_line bytes steps end = (end.0, bytes ++ encode_utf8_all (last_line end.1 steps), None)

-- the report of the search of a sample whose model has so many clauses
abbrev pub sample_report : Table → ℕ → ℕ → Outcome World Term → Answer
sample_report ops n clauses o =
    with_line (sample_line n clauses (length o.answers) (events_of (last_history o.answers)))
    o.steps (end_by ops (counts_of o) o.how)

-- What is printed of a search over a model with so many clauses: the answers, with the lines of
-- meters of these kinds, or the counts of a sample.
abbrev pub reported :
    Source → Table → List Named → List MeterKind → ℕ → Outcome World Term → Answer
reported (HeldUnder name) ops named kinds clauses o = report ops named kinds o
reported (SampleOf n) ops named kinds clauses o = sample_report ops n clauses o

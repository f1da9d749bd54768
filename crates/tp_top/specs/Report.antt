-- What is printed of a search: its answers, and its last line.
use Rattle.std.specs.Prelude.{ℕ, ◌+◌, nat_eq, List, [], ◌∷◌, ◌++◌, length, map, Option, None}
use Rattle.std.specs.Prelude.{encode_utf8_all, if◌then◌else◌}
use Rattle.std.specs.List.{last_or}
use Rattle.tp_terms.specs.Term.{Term}
use Rattle.tp_terms.specs.declared.text.Named.{Named}
use Rattle.tp_meaning.specs.World.{World, Event}
use Rattle.tp_meaning.specs.Search.{Outcome, End, Fails, Stopped, Raised, Budget}
use Rattle.tp_meters.specs.declared.MeterKind.{MeterKind}
use Rattle.tp_parse.specs.Table.{Table}
use Rattle.tp_write.specs.Text.{text}
use Rattle.tp_report.specs.Report.{world_answer_text}
use Rattle.tp_report.specs.End.{last_line}
use Rattle.tp_report.specs.declared.end.EndLine.{EndLine}
use Rattle.tp_report.specs.declared.end.EndLine.TheVariants as last
use Rattle.tp_top.specs.declared.program.Status.{Status}
use Rattle.tp_top.specs.declared.program.Status.TheVariants as status
use Rattle.tp_top.specs.Metered.{meter_lines}

-- ---- answers

-- a status, what is printed, and the history of the last answer that is printed
abbrev pub Answer : Type 0
Answer = Status × List ℕ × Option (List Event)

-- the lines of an answer, and behind them those of meters of these kinds over its history
abbrev pub answer_text : Table → List Named → List MeterKind → ℕ → World → ℕ → List ℕ
answer_text ops named kinds number w steps =
    world_answer_text ops named number w steps ++ meter_lines kinds w.history

-- the lines of answers in their order, numbered from the number after this one
abbrev pub answers_text : Table → List Named → List MeterKind → ℕ → List (World × ℕ) → List ℕ
answers_text ops named kinds n [] = []
answers_text ops named kinds n (a ∷ answers) =
    answer_text ops named kinds (n + 1) a.0 a.1 ++ answers_text ops named kinds (n + 1) answers

-- the history of the last of some answers
abbrev pub last_history : List (World × ℕ) → Option (List Event)
last_history answers = last_or None (map (λ a. a.0.history) answers)

-- ---- the last line

-- how many steps were made and answers found, and how many worlds of each cause were dead ends
pub record Counts : Type 0 where
  pub steps : ℕ
  pub found : ℕ
  pub failed : ℕ
  pub deadlock : ℕ
  pub late : ℕ

-- the counts of a search
abbrev pub counts_of : Outcome World Term → Counts
counts_of o = record {
  steps = o.steps;
  found = length o.answers;
  failed = o.failed;
  deadlock = o.deadlock;
  late = o.late;
}

-- the status of a search and its last line; an error's term may have any priority
abbrev pub end_by : Table → Counts → End World Term → Status × EndLine
end_by ops c (Fails stamp) =
    if nat_eq c.found 0
    then (status.No, last.No c.failed c.deadlock c.late)
    else (status.Found, last.NoMore c.failed c.deadlock c.late)
end_by ops c Stopped = (status.Found, last.Stopped)
end_by ops c (Raised t w) = (status.Raised, last.Raised (text ops 1200 t) w.clock)
end_by ops c Budget = (status.Budget, last.Budget)

-- ---- the report

-- a status, and the text with the last line behind it, in UTF-8
abbrev pub with_last : List ℕ → ℕ → Status × EndLine → Option (List Event) → Answer
with_last text steps end last = (end.0, encode_utf8_all (text ++ last_line end.1 steps), last)

-- The status of a search, the lines of all its answers, each with those of meters of these kinds,
-- and its last line.
abbrev pub report : Table → List Named → List MeterKind → Outcome World Term → Answer
report ops named kinds o =
    with_last (answers_text ops named kinds 0 o.answers) o.steps (end_by ops (counts_of o) o.how)
    (last_history o.answers)

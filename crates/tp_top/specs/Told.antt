-- The model that a base has, the goal that a read term is, and the lines of an engine's answer.
use Rattle.std.specs.Prelude.{ℕ, List, [], ◌∷◌, ◌++◌, encode_utf8_all, length, map}
use Rattle.tp_terms.specs.Term.{Name}
use Rattle.tp_parse.specs.Ops.{table_of}
use Rattle.tp_parse.specs.Texts.{Found}
use Rattle.tp_parse.specs.Tells.{named_of}
use Rattle.tp_parse.specs.declared.read.ReadTerm.{ReadTerm}
use Rattle.tp_meaning.specs.Body.{body}
use Rattle.tp_clauses.specs.Contents.{Contents, base_of}
use Rattle.tp_clauses.specs.Goal.{with_body}
use Rattle.tp_clauses.specs.Model.{Model}
use Rattle.tp_machine.specs.Program.{goal_term}
use Rattle.tp_engine.specs.Answers as engine
use Rattle.tp_engine.specs.Ended.{outcome_of}
use Rattle.tp_engine.specs.Told.{Told}
use Rattle.tp_meters.specs.declared.MeterKind.{MeterKind}
use Rattle.tp_report.specs.Report.{world_answer_text}
use Rattle.tp_top.specs.declared.asked.Asked.{Asked}
use Rattle.tp_top.specs.declared.asked.Source as declared
use Rattle.tp_top.specs.declared.asked.Source.TheVariants as given
use Rattle.tp_top.specs.Expected.{Answer, Request, for_found}
use Rattle.tp_top.specs.Metered.{meter_lines}
use Rattle.tp_top.specs.Report.{report}
use Rattle.tp_top.specs.Sample.{HeldUnder, SampleOf, Source, reported, sample_report}

-- the model that a store has, by these names
abbrev pub model_in : List Name → Contents → Model
model_in names c = record { clauses = base_of names c; table = table_of c.ops }

-- a goal that was read, by these names
abbrev pub found_in : List Name → ReadTerm → Found
found_in names t = record {
  term = goal_term names t;
  named = map named_of t.named;
  vars = t.vars;
  from = t.from;
  to = t.to;
}

-- the answer to a goal that was read, which may have no body
abbrev pub for_read : List MeterKind → Model → Found → Request → Answer
for_read kinds m f r = for_found kinds m (with_body f (body f.term)) r

-- a source whose name is lent
abbrev pub source_in : declared.Source → Source
source_in (given.Held name) = HeldUnder name.now
source_in (given.Sample n) = SampleOf n

-- a request whose texts are lent
abbrev pub request_in : Asked → Request
request_in a = record {
  source = source_in a.source;
  goal = a.goal.now;
  steps = a.steps;
  answers = a.answers;
  meters = a.meters;
}

-- the lines of an answer
abbrev pub lines_of : engine.Answer → List ℕ
lines_of a = world_answer_text (table_of a.ops) a.named a.number a.world a.steps

-- the same, and behind them those of meters of these kinds over its history
abbrev pub shown : List MeterKind → engine.Answer → List ℕ
shown kinds a = lines_of a ++ meter_lines kinds a.world.history

-- the bytes of the lines of answers
abbrev pub shown_bytes : List MeterKind → List engine.Answer → List ℕ
shown_bytes kinds [] = []
shown_bytes kinds (a ∷ answers) = encode_utf8_all (shown kinds a) ++ shown_bytes kinds answers

-- what is printed of a search from an engine's world, with the lines of meters of these kinds
abbrev pub report_in : List MeterKind → Told → ℕ → ℕ → Answer
report_in kinds t steps answers =
    report (table_of t.seen.ops) t.seen.named kinds (outcome_of t steps answers)

-- what is printed of the same for a sample with so many processes
abbrev pub sample_in : ℕ → Told → ℕ → ℕ → Answer
sample_in n t steps answers =
    sample_report (table_of t.seen.ops) n (length t.base) (outcome_of t steps answers)

-- the same for either, by where the model comes from
abbrev pub reported_in : Source → List MeterKind → Told → ℕ → ℕ → Answer
reported_in source kinds t steps answers =
    reported source (table_of t.seen.ops) t.seen.named kinds (length t.base)
    (outcome_of t steps answers)

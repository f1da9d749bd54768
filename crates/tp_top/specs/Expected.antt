-- What a run answers and prints.
use Rattle.std.specs.Prelude.{ℕ, Bool, false, List, ◌++◌, length, map, Option, Some, None}
use Rattle.std.specs.Prelude.{option_map}
use Rattle.std.specs.Prelude.{Result, Ok, Err, codes, decimal, encode_utf8_all}
use Rattle.std.specs.Prelude.{if◌then◌else◌, nat_lt}
use Rattle.tp_outside.specs.Files.{Files, held_under}
use Rattle.tp_words.specs.Request as clap
use Rattle.tp_words.specs.declared.Request as given
use Rattle.tp_words.specs.declared.Request.TheVariants.{Run, Sample}
use Rattle.tp_terms.specs.Term.{Name, Term}
use Rattle.tp_terms.specs.declared.text.Named.{Named}
use Rattle.tp_meaning.specs.World.{World}
use Rattle.tp_meaning.specs.Search.{Outcome}
use Rattle.tp_meaning.specs.Step.{search}
use Rattle.tp_parse.specs.Texts.{Found}
use Rattle.tp_clauses.specs.Model.{Model, Refusal, model}
use Rattle.tp_clauses.specs.Goal as goal
use Rattle.tp_clauses.specs.Goal.{goal_of}
use Rattle.tp_clauses.specs.declared.fault.Cause.{Cause}
use Rattle.tp_clauses.specs.declared.fault.Cause.TheVariants as cause
use Rattle.tp_meters.specs.declared.MeterKind.{MeterKind}
use Rattle.tp_report.specs.Report.{line}
use Rattle.tp_top.specs.declared.program.Status.{Status}
use Rattle.tp_top.specs.declared.program.Status.TheVariants as status
use Rattle.tp_top.specs.Metered.{printed_kinds}
pub use Rattle.tp_top.specs.Report.{Answer}
use Rattle.tp_top.specs.Sample.{Source, HeldUnder, SampleOf, reported, sample_text}

-- ---- the words

-- what the words ask for: where the model comes from and the goal's text in UTF-8, how many steps
-- the search may take, how many answers are wanted, and whether meters are printed
pub record Request : Type 0 where
  pub source : Source
  pub goal : List ℕ
  pub steps : ℕ
  pub answers : ℕ
  pub meters : Bool

-- the same of a request of the words, whose texts are lists of characters; a sample has the goal
-- `top` and one answer
abbrev pub asked : given.Request → Request
asked (Run model goal steps answers meters) = record {
  source = HeldUnder (encode_utf8_all model);
  goal = encode_utf8_all goal;
  steps = steps;
  answers = answers;
  meters = meters;
}
asked (Sample n steps) = record {
  source = SampleOf n;
  goal = codes "top";
  steps = steps;
  answers = 1;
  meters = false;
}

-- the request that the words make
abbrev pub request : List (List ℕ) → Option Request
request words = option_map asked (clap.request words)

-- ---- refusals

-- a status with a text that prints no answer
abbrev pub alone : Status → List ℕ → Answer
alone s text = (s, text, None)

abbrev pub usage : Answer
usage = alone status.Usage (line (codes "usage: tprolog MODEL GOAL [options]"))

abbrev pub read_fault : List ℕ
read_fault = line (codes "read fault")

abbrev pub too_long : Answer
too_long = alone status.Model (line (codes "model refused: more than 16777216 bytes"))

-- the word for a cause
abbrev pub cause_word : Cause → List ℕ
cause_word cause.Utf8 = codes "Utf8"
cause_word cause.Token = codes "Token"
cause_word cause.Number = codes "Number"
cause_word cause.Unfinished = codes "Unfinished"
cause_word cause.Syntax = codes "Syntax"
cause_word cause.Depth = codes "Depth"
cause_word cause.Arity = codes "Arity"
cause_word cause.Head = codes "Head"
cause_word cause.Body = codes "Body"
cause_word cause.Builtin = codes "Builtin"
cause_word cause.Grammar = codes "Grammar"
cause_word cause.Directive = codes "Directive"
cause_word cause.Many = codes "Many"

-- a clause of the model was refused, from this byte of it on
abbrev pub model_refused : Refusal → Answer
model_refused r = alone
    status.Model
    (line (codes "model refused: clause "
    ++ (decimal r.clause
    ++ (codes " byte "
    ++ (decimal r.byte
    ++ (codes " cause "
    ++ cause_word r.cause))))))

-- the goal was refused, from this byte on
abbrev pub goal_refused : goal.Refusal → Answer
goal_refused r = alone
    status.Goal
    (line (codes "goal refused: byte " ++ (decimal r.0 ++ (codes " cause " ++ cause_word r.1))))

-- ---- the answer

-- what the search of a goal finds: so many answers, within so many steps
unfoldable pub found : Model → Found → ℕ → ℕ → Outcome World Term
found m f steps answers = search m.clauses f.term f.vars steps answers

-- the variables of a goal that have a name
abbrev pub named_in : List (Name × ℕ) → List Named
named_in = map (λ n. record { name = n.0; number = n.1 })

-- The answer to a goal or to its refusal. The meters have these kinds, and their lines are printed
-- where the request asks for meters.
abbrev pub for_found : List MeterKind → Model → Result Found goal.Refusal → Request → Answer
for_found kinds m (Err refusal) r = goal_refused refusal
for_found kinds m (Ok f) r =
    reported r.source m.table (named_in f.named) (printed_kinds r.meters kinds) (length m.clauses)
    (found m f r.steps r.answers)

-- the goal is read by the last table of operators of the model
abbrev pub for_goal : List MeterKind → Model → Request → Answer
for_goal kinds m r = for_found kinds m (goal_of m.table r.goal) r

abbrev pub for_model : List MeterKind → Result Model Refusal → Request → Answer
for_model kinds (Err refusal) r = model_refused refusal
for_model kinds (Ok m) r = for_goal kinds m r

-- the answer of a request for the text of a model
unfoldable pub for_text : List MeterKind → List ℕ → Request → Answer
for_text kinds text r =
    if nat_lt 16777216 (length text) then too_long else for_model kinds (model text) r

abbrev pub for_held : List MeterKind → Option (List ℕ) → Request → Option Answer
for_held kinds None r = None
for_held kinds (Some text) r = Some (for_text kinds text r)

-- the answer of a request for the model of a sample
unfoldable pub for_sample : List MeterKind → ℕ → Request → Answer
for_sample kinds n r = for_model kinds (model (sample_text n)) r

-- the answer of a request with this source over files, none where the model isn't held
abbrev pub for_source : List MeterKind → Source → Request → Files → Option Answer
for_source kinds (HeldUnder name) r files = for_held kinds (held_under files name) r
for_source kinds (SampleOf n) r files = Some (for_sample kinds n r)

abbrev pub expected_of : List MeterKind → Request → Files → Option Answer
expected_of kinds r files = for_source kinds r.source r files

-- the answer to words over files, with meters of these kinds
abbrev pub expected : List MeterKind → List (List ℕ) → Files → Option Answer
expected kinds words files =
    elim (request words) [ None ↦ Some usage | Some r ↦ expected_of kinds r files ]

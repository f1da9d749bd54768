-- The request that the words of a command line make. The steps of a search are 1,000,000 where no
-- number from 1 to 1,000,000,000 is given, and the answers 1 where none from 1 to 1,000,000 is.
use Rattle.std.specs.Prelude.{ℕ, Bool, false, List, Option, Some, None, codes, chars, is_some}
use Rattle.std.specs.Prelude.{option_and_then, option_map, if◌then◌else◌, ◌||◌}
use Rattle.std.specs.Option.{option_map_or}
use Rattle.std.specs.Str.{bytes_eq}
use Rattle.clap.specs.Words.{Row, first_of}
use Rattle.tp_words.specs.Command.{matches}
use Rattle.tp_words.specs.Number.{number_between, number_or}
use Rattle.tp_words.specs.declared.Request.{Request}
use Rattle.tp_words.specs.declared.Request.TheVariants.{Run, Sample}

-- whether a flag's value is `true`: it is where the flag is given, and else `false`
abbrev pub is_true : Option (List ℕ) → Bool
is_true value = option_map_or (λ text. bytes_eq text (codes "true")) value false

-- the first value of each argument, none where it isn't given
pub record Given : Type 0 where
  pub model : Option (List ℕ)
  pub goal : Option (List ℕ)
  pub steps : Option (List ℕ)
  pub answers : Option (List ℕ)
  pub meters : Option (List ℕ)
  pub sample : Option (List ℕ)

abbrev pub given_of : List Row → Given
given_of rows = record {
  model = first_of (codes "MODEL") rows;
  goal = first_of (codes "GOAL") rows;
  steps = first_of (codes "steps") rows;
  answers = first_of (codes "answers") rows;
  meters = first_of (codes "meters") rows;
  sample = first_of (codes "sample") rows;
}

-- the run that the values ask for: none where the model or the goal isn't there, or where a value
-- is no number in its range
abbrev pub run_from : Given → Option Request
run_from g =
    option_and_then (λ model. option_and_then (λ goal.
    option_and_then (λ steps. option_map (λ answers.
    Run (chars model) (chars goal) steps answers (is_true g.meters))
    (number_or 1 1000000 g.answers)) (number_or 1000000 1000000000 g.steps))
    g.goal) g.model

-- whether the values have something that a run alone has: a model, a goal, a number of answers, or
-- the flag for meters
abbrev pub asks_run : Given → Bool
asks_run g = is_some g.model || is_some g.goal || is_some g.answers || is_true g.meters

-- the sample of so many processes: none where a value is no number in its range
abbrev pub sample_from : List ℕ → Option (List ℕ) → Option Request
sample_from n steps =
    option_and_then (λ n. option_map (λ steps. Sample n steps)
    (number_or 1000000 1000000000 steps)) (number_between 1 100000 n)

-- The request that the values of the arguments make: a run, or a sample, which goes without all
-- that a run alone has.
abbrev pub request_from : Given → Option Request
request_from g = elim g.sample [
  | None ↦ run_from g
  | Some n ↦ if asks_run g then None else sample_from n g.steps
]

-- the request of the matches
abbrev pub request_of : List Row → Option Request
request_of rows = request_from (given_of rows)

-- the request that the words make, none where the command doesn't take them or a check fails
unfoldable pub request : List (List ℕ) → Option Request
request words = option_and_then request_of (matches words)

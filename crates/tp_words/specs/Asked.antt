-- The request that its parts make.
use Rattle.std.specs.Prelude.{ℕ, List, Option, chars, option_map}
use Rattle.std.specs.Borrow.{Bor}
use Rattle.tp_words.specs.Request.{Given}
use Rattle.tp_words.specs.declared.Request.{Request}
use Rattle.tp_words.specs.declared.Request.TheVariants as request
use Rattle.tp_words.specs.declared.asked.Asked.{Asked}
use Rattle.tp_words.specs.declared.asked.Asked.TheVariants.{Run, Sample}
use Rattle.tp_words.specs.declared.asked.Values.{Values}

abbrev pub asked_request : Asked → Request
asked_request (Run model goal steps answers meters) =
    request.Run (chars model.now) (chars goal.now) steps answers meters
asked_request (Sample n steps) = request.Sample n steps

-- the bytes of a text that is lent
abbrev pub told : Option (Bor (List ℕ)) → Option (List ℕ)
told = option_map (λ text. text.now)

-- the values of the arguments, each a text that is lent
abbrev pub values_in : Values → Given
values_in v = record {
  model = told v.model;
  goal = told v.goal;
  steps = told v.steps;
  answers = told v.answers;
  meters = told v.meters;
  sample = told v.sample;
}

-- The request of matches.
use Rattle.std.proofs.Common.{Bor, ◌≡◌, ◌∙◌, List, Option, Some, None, ap, ap₂}
use Rattle.std.specs.Prelude.{ℕ, option_and_then}
use Rattle.clap.specs.Words.{Row, first_of, first_value, rows_of}
use Rattle.clap.specs.declared.parser.matches.Found.{Found}
use Rattle.clap.proofs.WalkLemmas.{first_value-rows}
use Rattle.tp_words.specs.Asked.{told}
use Rattle.tp_words.specs.Command.{matches}
use Rattle.tp_words.specs.Request.{Given, asks_run, is_true, request, request_from, request_of, run_from, sample_from}
use Rattle.std.specs.Prelude.{Bool, nat_le, ◌&&◌, if◌then◌else◌, chars, codes, option_map}
use Rattle.std.proofs.Common.{true, false, ◌<◌, arith, leb-true, subst, refl}
use Rattle.std.specs.Str.Parse.{digits_value}
use Rattle.tp_words.specs.Number.{is_numeral, number_between, number_or, within}
use Rattle.tp_words.specs.declared.Request.{Request}
use Rattle.tp_words.specs.declared.Request.TheVariants.{Run, Sample}

-- the words have the request of their matches, or none
pub matched_request : (words : List (List ℕ)) (rows : List Row) (r : Option Request)
    → matches words ≡ Some rows → request_of rows ≡ r → request words ≡ r
unfolding request
matched_request words rows r is e = ap (option_and_then request_of) is ∙ e

pub unmatched_request : (words : List (List ℕ)) → matches words ≡ None → request words ≡ None
unfolding request
unmatched_request words is = ap (option_and_then request_of) is

abbrev given : Option (List ℕ) → Option (List ℕ) → Option (List ℕ) → Option (List ℕ) → Option (List ℕ) → Option (List ℕ) → Given
given a b c d e f = record { model = a; goal = b; steps = c; answers = d; meters = e; sample = f }

-- what `get_str` tells is the first value in the rows
pub told_first : (f : Found) (id : List ℕ) (r : Option (Bor (List ℕ)))
    → told r ≡ first_value f id → told r ≡ first_of id (rows_of f)
told_first f id r is = is ∙ first_value-rows f id

-- equal values, each for itself
pub same_given : {a b c d e f a' b' c' d' e' f' : Option (List ℕ)}
    → a ≡ a' → b ≡ b' → c ≡ c' → d ≡ d' → e ≡ e' → f ≡ f' → given a b c d e f ≡ given a' b' c' d' e' f'
same_given p q r s t u =
    ap₂ (λ f x. f x) (ap₂ (λ f x. f x) (ap₂ (λ f x. f x) (ap₂ (λ f x. f x) (ap₂ given p q) r) s) t) u

-- how many answers a request asks for
abbrev pub answers_in : Request → ℕ
answers_in (Run model goal steps answers meters) = answers
answers_in (Sample n steps) = 1

number_some : (default most : ℕ) (value : Option (List ℕ)) (n : ℕ) → 0 < default
    → number_or default most value ≡ Some n → 0 < n
number_some default most None n some e = let same : default ≡ n = cc in omega (arith, some, same)
number_some default most (Some text) n some e = by (is_numeral text) e
  where
    within_some : (a b : Bool) (m : ℕ) → nat_le 1 m ≡ a → (if a && b then Some m else None) ≡ Some n → 0 < n
    within_some false b m least e = absurd (cc)
    within_some true false m least e = absurd (cc)
    within_some true true m least e = let same : m ≡ n = cc in omega (arith, leb-true 1 m least, same)

    by : (t : Bool) → (if t then within 1 most (digits_value 10 text) else None) ≡ Some n → 0 < n
    by false e = absurd (cc)
    by true e = within_some _ (nat_le (digits_value 10 text) most) (digits_value 10 text) refl e

-- a request asks for at least one answer
pub answers_some : (words : List (List ℕ)) (r : Request) → request words ≡ Some r → 0 < answers_in r
unfolding request
answers_some words r = by (matches words)
  where
    counted : (model goal : List ℕ) (steps : ℕ) (meters : Bool) (value : Option (List ℕ)) (o : Option ℕ)
        → number_or 1 1000000 value ≡ o
        → option_map (λ answers. Run (chars model) (chars goal) steps answers meters) o ≡ Some r → 0 < answers_in r
    counted model goal steps meters value None is e = absurd (cc)
    counted model goal steps meters value (Some n) is e =
        let same : Run (chars model) (chars goal) steps n meters ≡ r = cc in
        subst (λ x. 0 < answers_in x) same (number_some 1 1000000 value n (omega arith) is)

    stepped : (model goal : List ℕ) (meters : Bool) (value : Option (List ℕ)) (o : Option ℕ)
        → option_and_then (λ steps. option_map (λ answers. Run (chars model) (chars goal) steps answers meters) (number_or 1 1000000 value)) o ≡ Some r → 0 < answers_in r
    stepped model goal meters value None e = absurd (cc)
    stepped model goal meters value (Some steps) e = counted model goal steps meters value (number_or 1 1000000 value) refl e

    run : (model goal steps answers meters sample : Option (List ℕ)) → run_from (given model goal steps answers meters sample) ≡ Some r → 0 < answers_in r
    run None goal steps answers meters sample e = absurd (cc)
    run (Some model) None steps answers meters sample e = absurd (cc)
    run (Some model) (Some goal) steps answers meters sample e = stepped model goal (is_true meters) answers (number_or 1000000 1000000000 steps) e

    sampled : (n : ℕ) (steps : Option ℕ) → option_map (λ steps. Sample n steps) steps ≡ Some r → 0 < answers_in r
    sampled n None e = absurd (cc)
    sampled n (Some steps) e =
        let same : Sample n steps ≡ r = cc in
        subst (λ x. 0 < answers_in x) same (omega arith)

    sample : (n : Option ℕ) (steps : Option ℕ) → option_and_then (λ n. option_map (λ steps. Sample n steps) steps) n ≡ Some r → 0 < answers_in r
    sample None steps e = absurd (cc)
    sample (Some n) steps e = sampled n steps e

    bare : (b : Bool) (n : List ℕ) (steps : Option (List ℕ)) → (if b then None else sample_from n steps) ≡ Some r → 0 < answers_in r
    bare true n steps e = absurd (cc)
    bare false n steps e = sample (number_between 1 100000 n) (number_or 1000000 1000000000 steps) e

    from : (model goal steps answers meters sample : Option (List ℕ)) → request_from (given model goal steps answers meters sample) ≡ Some r → 0 < answers_in r
    from model goal steps answers meters None e = run model goal steps answers meters None e
    from model goal steps answers meters (Some n) e = bare (asks_run (given model goal steps answers meters (Some n))) n steps e

    by : (rows : Option (List Row)) → option_and_then request_of rows ≡ Some r → 0 < answers_in r
    by None e = absurd (cc)
    by (Some rows) e =
        from (first_of (codes "MODEL") rows) (first_of (codes "GOAL") rows) (first_of (codes "steps") rows)
        (first_of (codes "answers") rows) (first_of (codes "meters") rows) (first_of (codes "sample") rows) e

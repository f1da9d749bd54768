-- Stamps rise when a choice is added and when the newest ones go, and these are the ones that a cut takes away.
use Rattle.std.proofs.Common.{◌≡◌, ◌∙◌, sym, ap, refl, subst, ℕ, suc, ◌-◌, ◌<◌, ◌≤◌, true, false, cond, nat_lt, List, [], ◌∷◌, ◌++◌, length, take, filter, Option, Some, None, IfSome, slice_get, arith}
use Rattle.std.specs.Option.{option_to_list}
use Rattle.std.proofs.lemmas.Option.{same_Some}
use Rattle.std.specs.List.{AllByRecursion}
use Rattle.std.proofs.lemmas.List.{append-nil, take-take, length-take-le}
use Rattle.std.proofs.lemmas.List.Elements.{filter-append}
use Rattle.std.proofs.lemmas.Bool.Decides.{nat_tests}
use Rattle.tp_control.specs.declared.choices.Choice.{Choice}
use Rattle.tp_control.specs.declared.choices.Alt.{Alt}
use Rattle.tp_control.specs.Stamps.{newest, is_before, StampsRise}

-- all stamps of these are below this one
abbrev pub AllBelow : ℕ → List Choice → Type 0
AllBelow n = AllByRecursion (λ (c : Choice). c.stamp < n)

abbrev AllAbove : ℕ → List Choice → Type 0
AllAbove n = AllByRecursion (λ (c : Choice). n < c.stamp)

above-front : (n : ℕ) (cs : List Choice) (c : Choice) → AllAbove n (cs ++ c ∷ []) → AllAbove n cs
above-front n [] c h = tt
above-front n (d ∷ cs) c h = (h.0, above-front n cs c h.1)

above-last : (n : ℕ) (cs : List Choice) (c : Choice) → AllAbove n (cs ++ c ∷ []) → n < c.stamp
above-last n [] c h = h.0
above-last n (d ∷ cs) c h = above-last n cs c h.1

above-push : (n : ℕ) (cs : List Choice) (c : Choice) → AllAbove n cs → n < c.stamp → AllAbove n (cs ++ c ∷ [])
above-push n [] c h k = (k, tt)
above-push n (d ∷ cs) c h k = (h.0, above-push n cs c h.1 k)

-- without the newest
pub rise-front : (cs : List Choice) (c : Choice) → StampsRise (cs ++ c ∷ []) → StampsRise cs
rise-front [] c h = tt
rise-front (d ∷ cs) c h = (above-front d.stamp cs c h.0, rise-front cs c h.1)

-- the newest has the highest
rise-below : (cs : List Choice) (c : Choice) → StampsRise (cs ++ c ∷ []) → AllBelow c.stamp cs
rise-below [] c h = tt
rise-below (d ∷ cs) c h = (above-last d.stamp cs c h.0, rise-below cs c h.1)

-- with one more
rise-push : (cs : List Choice) (c : Choice) → StampsRise cs → AllBelow c.stamp cs → StampsRise (cs ++ c ∷ [])
rise-push [] c h k = (tt, tt)
rise-push (d ∷ cs) c h k = (above-push d.stamp cs c h.0 k.0, rise-push cs c h.1 k.1)

-- where the newest is below a stamp, all are
pub newest-below : (n : ℕ) (cs : List Choice) → StampsRise cs → IfSome (newest cs) (λ c. c.stamp < n) → AllBelow n cs
newest-below n [] h k = tt
newest-below n (c ∷ []) h k = (k, tt)
newest-below n (c ∷ d ∷ cs) h k =
    let place : length (c ∷ d ∷ cs) - 1 ≡ suc (length (d ∷ cs) - 1) = omega arith in
    let rest = newest-below n (d ∷ cs) h.1 (subst (λ k. IfSome (slice_get (c ∷ d ∷ cs) k) (λ e. e.stamp < n)) place k) in
    (omega (arith, h.0.0, rest.0), rest)

pub rise-above-newest : (cs : List Choice) (c : Choice) → StampsRise cs → IfSome (newest cs) (λ d. d.stamp < c.stamp) → StampsRise (cs ++ c ∷ [])
rise-above-newest cs c h k = rise-push cs c h (newest-below c.stamp cs h k)

-- the newest, with another thing to try next
pub rise-changed : (cs : List Choice) (c : Choice) (next : Alt) → StampsRise (cs ++ c ∷ []) → StampsRise (cs ++ record c { next = next } ∷ [])
rise-changed cs c next h = rise-push cs (record c { next = next }) (rise-front cs c h) (rise-below cs c h)

-- what a cut keeps where all are older
pub filter-older : (n : ℕ) (cs : List Choice) → AllBelow n cs → filter (is_before n) cs ≡ cs
filter-older n [] h = refl
filter-older n (c ∷ cs) h =
    let older : nat_lt c.stamp n ≡ true = grind (arith, nat_tests, h.0) in
    ap (λ b. cond b (c ∷ filter (is_before n) cs) (filter (is_before n) cs)) older ∙ ap (λ ds. c ∷ ds) (filter-older n cs h.1)

-- what a cut keeps where the newest goes
pub filter-newer : (n : ℕ) (cs : List Choice) (c : Choice) → n ≤ c.stamp → filter (is_before n) (cs ++ c ∷ []) ≡ filter (is_before n) cs
filter-newer n cs c h =
    let newer : nat_lt c.stamp n ≡ false = grind (arith, nat_tests) in
    filter-append (is_before n) cs (c ∷ [])
    ∙ ap (λ b. filter (is_before n) cs ++ cond b (c ∷ []) []) newer
    ∙ append-nil (filter (is_before n) cs)

pub rise-popped : (cs : List Choice) (o : Option Choice) → StampsRise (cs ++ option_to_list o) → StampsRise cs
rise-popped cs None h = subst StampsRise (append-nil cs) h
rise-popped cs (Some c) h = rise-front cs c h

-- the newest stands at the end
pub split-newest : (cs : List Choice) (c : Choice) → newest cs ≡ Some c → cs ≡ take (length cs - 1) cs ++ c ∷ []
split-newest [] c e = cc
split-newest (d ∷ []) c e = ap (λ x. x ∷ []) (same_Some d c e)
split-newest (d ∷ f ∷ cs) c e =
    let place : length (d ∷ f ∷ cs) - 1 ≡ suc (length (f ∷ cs) - 1) = omega arith in
    let rest = split-newest (f ∷ cs) c (ap (slice_get (d ∷ f ∷ cs)) (sym place) ∙ e) in
    ap (λ ds. d ∷ ds) rest ∙ ap (λ k. take k (d ∷ f ∷ cs) ++ c ∷ []) (sym place)

-- a cut when one more is gone
pub record IsCut (n : ℕ) (old new : List Choice) : Type 0 where
  pub rise : StampsRise new
  pub kept : filter (is_before n) new ≡ filter (is_before n) old
  pub oldest : new ≡ take (length new) old

pub cut-one : (n : ℕ) (old cs new : List Choice) (c : Choice) → n ≤ c.stamp → newest cs ≡ Some c → new ≡ take (length cs - 1) cs → StampsRise cs → filter (is_before n) cs ≡ filter (is_before n) old → cs ≡ take (length cs) old → IsCut n old new
cut-one n old cs new c newer there short rise kept oldest =
    let front : List Choice = take (length cs - 1) cs in
    let split = split-newest cs c there in
    let count : length front ≡ length cs - 1 = length-take-le (length cs - 1) cs (omega arith) in
    let first : front ≡ take (length cs - 1) old = ap (take (length cs - 1)) oldest ∙ take-take (length cs - 1) (length cs) old (omega arith) in
    record {
      rise = subst StampsRise (sym short) (rise-front front c (subst StampsRise split rise));
      kept = ap (filter (is_before n)) short ∙ sym (filter-newer n front c newer) ∙ ap (filter (is_before n)) (sym split) ∙ kept;
      oldest = short ∙ first ∙ ap (λ k. take k old) (sym count ∙ ap length (sym short));
    }

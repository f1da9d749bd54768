-- The inside of quotes, one item at a time.
use Rattle.std.proofs.Common.{◌≡◌, ℕ, zero, suc, ◌<◌, ◌≤◌, List, [], ◌∷◌, ◌++◌, length, Ok, Err, refl, sym, ap, ◌∙◌, arith, append-nil}
use Rattle.std.specs.Prelude.{Result, IsOk}
use Rattle.std.proofs.Common.{append_assoc}
use Rattle.tp_lex.specs.Quotes.{item, with_first, items, inside, stood_for, after_closing, item_chars}
use Rattle.tp_lex.specs.declared.token.Fault.{Fault}
use Rattle.tp_lex.specs.declared.quotes.Item.{Item}
use Rattle.tp_lex.specs.declared.quotes.Item.TheVariants.{Stands, Skipped, Closed}
use Rattle.tp_lex.proofs.Places.Suffixes.{ends-length}
use Rattle.tp_lex.proofs.StandsBehind.Ends.{OkEnd, step_of, item-none, item-ends}

-- a bound that is large enough changes nothing
pub items-more : (mark n m : ℕ) (cs : List ℕ) → length cs ≤ n → length cs ≤ m → items mark n cs ≡ items mark m cs
unfolding items
items-more mark zero zero cs a b = refl
items-more mark zero (suc m) [] a b = rw (item-none mark, items)
items-more mark (suc n) zero [] a b = rw (item-none mark, items)
items-more mark zero (suc m) (c ∷ cs) a b = absurd (omega arith)
items-more mark (suc n) zero (c ∷ cs) a b = absurd (omega arith)
items-more mark (suc n) (suc m) [] a b = rw (item-none mark, items)
items-more mark (suc n) (suc m) (c ∷ cs) a b =
    by (item mark (c ∷ cs)) (item-ends mark c cs) (λ rest x y. items-more mark n m rest x y)
  where
    by : (r : Result (Item × List ℕ) Fault) → OkEnd cs r →
        ((rest : List ℕ) → length rest ≤ n → length rest ≤ m → items mark n rest ≡ items mark m rest) →
        step_of (items mark n) r ≡ step_of (items mark m) r
    by (Ok (Stands d, rest)) e more = let l = ends-length cs rest e in ap (with_first d) (more rest (omega arith) (omega arith))
    by (Ok (Skipped, rest)) e more = let l = ends-length cs rest e in more rest (omega arith) (omega arith)
    by (Ok (Closed, rest)) e more = refl
    by (Err fault) e more = refl

-- the inside goes by its first item
pub inside-step : (mark : ℕ) (cs : List ℕ) → inside mark cs ≡ step_of (inside mark) (item mark cs)
unfolding inside items
inside-step mark [] = rw item-none
inside-step mark (c ∷ cs) = by (item mark (c ∷ cs)) (item-ends mark c cs)
  where
    by : (r : Result (Item × List ℕ) Fault) → OkEnd cs r → step_of (items mark (length cs)) r ≡ step_of (λ rest. items mark (length rest) rest) r
    by (Ok (Stands d, rest)) e = let l = ends-length cs rest e in ap (with_first d) (items-more mark (length cs) (length rest) rest l (omega arith))
    by (Ok (Skipped, rest)) e = let l = ends-length cs rest e in items-more mark (length cs) (length rest) rest l (omega arith)
    by (Ok (Closed, rest)) e = refl
    by (Err fault) e = refl

pub inside-at : (mark : ℕ) (cs : List ℕ) (r : Result (Item × List ℕ) Fault) → r ≡ item mark cs → inside mark cs ≡ step_of (inside mark) r
inside-at mark cs r e = inside-step mark cs ∙ ap (step_of (inside mark)) (sym e)

pub item-shorter : (mark : ℕ) (cs rest : List ℕ) (found : Item) → Ok (found, rest) ≡ item mark cs → length rest < length cs
item-shorter mark [] rest found e = let absent = item-none mark in cc
item-shorter mark (c ∷ cs) rest found e =
    let short : OkEnd cs (Ok (found, rest)) = rw (← e) at (item-ends mark c cs) in
    let l = ends-length cs rest short in
    omega arith

-- an item that closes
pub inside-closed : (mark : ℕ) (cs rest : List ℕ) (found : Item) → found ≡ Closed → Ok (found, rest) ≡ item mark cs → inside mark cs ≡ Ok ([], rest)
inside-closed mark cs rest Closed w e = inside-at mark cs (Ok (Closed, rest)) e
inside-closed mark cs rest (Stands c) w e = cc
inside-closed mark cs rest Skipped w e = cc

-- an item that doesn't
pub inside-goes : (mark : ℕ) (cs rest : List ℕ) (found : Item) → ¬ (found ≡ Closed) → Ok (found, rest) ≡ item mark cs → after_closing (inside mark cs) ≡ after_closing (inside mark rest)
inside-goes mark cs rest Closed w e = absurd (w refl)
inside-goes mark cs rest (Stands c) w e = ap after_closing (inside-at mark cs (Ok (Stands c, rest)) e) ∙ by (inside mark rest)
  where
    by : (r : Result (List ℕ × List ℕ) Fault) → after_closing (with_first c r) ≡ after_closing r
    by (Ok p) = refl
    by (Err fault) = refl
inside-goes mark cs rest Skipped w e = ap after_closing (inside-at mark cs (Ok (Skipped, rest)) e)

-- what is left between quotes after an item, with the characters so far
pub record Filled (mark : ℕ) (all : List ℕ) (before out rest : List ℕ) : Type 0 where
  pub whole : IsOk (inside mark rest)
  pub so_far : out ++ stood_for (inside mark rest) ≡ before ++ stood_for (inside mark all)

pub filled-goes : (mark : ℕ) (all before out new cs rest : List ℕ) (found : Item) → ¬ (found ≡ Closed) → Ok (found, rest) ≡ item mark cs → new ≡ out ++ item_chars found → Filled mark all before out cs → Filled mark all before new rest
filled-goes mark all before out new cs rest Closed w e n f = absurd (w refl)
filled-goes mark all before out new cs rest Skipped w e n f =
    let s : inside mark cs ≡ inside mark rest = inside-at mark cs (Ok (Skipped, rest)) e in
    record { whole = rw s at f.whole; so_far = rw (n, append-nil) (rw s at f.so_far) }
filled-goes mark all before out new cs rest (Stands c) w e n f =
    let at_item = inside-at mark cs (Ok (Stands c, rest)) e in
    let both = by (inside mark rest) (rw at_item at f.whole) (rw at_item at f.so_far) in
    record { whole = both.0; so_far = both.1 }
  where
    by : (r : Result (List ℕ × List ℕ) Fault) → IsOk (with_first c r) → out ++ stood_for (with_first c r) ≡ before ++ stood_for (inside mark all) →
        IsOk r × (new ++ stood_for r ≡ before ++ stood_for (inside mark all))
    by (Ok p) o g = (refl, rw (n, append_assoc) g)
    by (Err fault) o g = cc

pub filled-ends : (mark : ℕ) (all before out new cs rest : List ℕ) (found : Item) → found ≡ Closed → Ok (found, rest) ≡ item mark cs → new ≡ out ++ item_chars found → Filled mark all before out cs → new ≡ before ++ stood_for (inside mark all)
filled-ends mark all before out new cs rest found w e n f =
    let done = inside-closed mark cs rest found w e in
    let same : new ≡ out ++ [] = n ∙ ap (λ i. out ++ item_chars i) w in
    same ∙ rw done at f.so_far

pub filled-fails : (mark : ℕ) (all before out cs : List ℕ) (fault : Fault) → Err fault ≡ item mark cs → Filled mark all before out cs → ⊥
filled-fails mark all before out cs fault e f =
    let failed : inside mark cs ≡ Err fault = inside-at mark cs (Err fault) e in
    let whole = rw failed at f.whole in
    cc

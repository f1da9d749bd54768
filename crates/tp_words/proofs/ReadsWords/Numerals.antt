-- What std reads as a number, and the number that the digits of a text write.
use Rattle.std.proofs.Common.{◌≡◌, ◌∙◌, ◌<◌, ◌^◌, ℕ, Bool, true, false, List, [], ◌∷◌, ap, sym, refl, arith, leb-true, eqb-true}
use Rattle.std.specs.Prelude.{length, Option, Some, None, Result, Ok, Err, if◌then◌else◌, nat_eq, nat_le, ◌&&◌, slice_index, ◌≢◌}
use Rattle.std.specs.Result.{OkIff}
use Rattle.std.specs.Str.{all_ascii_digits}
use Rattle.std.specs.Str.Parse.{ParsesUnsigned, digits_value}
use Rattle.std.proofs.lemmas.Str.Parse.{numerals_by_value, parse_plain, tells_all_ascii_digits}
use Rattle.tp_words.specs.Number.{begins_with_plus, number_between, read_within, within}

abbrev one_where : Bool → ℕ
one_where true = 1
one_where false = 0

without_plus : (bs : List ℕ) → begins_with_plus bs ≡ false → slice_index bs 0 ≢ 43
without_plus [] none e = absurd (omega (arith, e))
without_plus (b ∷ bs) none e =
    let bad : one_where true ≡ one_where false = ap one_where (sym (ap (λ x. nat_eq x 43) e) ∙ none) in
    absurd (omega (arith, bad))

within_none : (least most value : ℕ) → most < 2 ^ 64 → ¬ (value < 2 ^ 64) → None ≡ within least most value
within_none least most value small large = go (nat_le least value) (nat_le value most) refl
  where
    go : (a b : Bool) → nat_le value most ≡ b → None ≡ (if a && b then Some value else None)
    go false b e = refl
    go true false e = refl
    go true true e = absurd (large (omega (arith, small, leb-true value most e)))

-- a text that begins with a plus is no number, though std reads it
pub plus_is_none : (least most : ℕ) (bs : List ℕ) → begins_with_plus bs ≡ true
    → None ≡ number_between least most bs
plus_is_none least most [] e = refl
plus_is_none least most (b ∷ bs) e =
    ap (λ x. if all_ascii_digits (x ∷ bs) then within least most (digits_value 10 (x ∷ bs)) else None)
    (sym (eqb-true b 43 e))

module _ {E : Type 0} where
  -- of a text without a plus, what std reads and is in the range is the number between
  pub number_read : (least most : ℕ) (bs : List ℕ) (r : Result ℕ E) (x : Option ℕ)
      → x ≡ read_within least most r → most < 2 ^ 64 → begins_with_plus bs ≡ false
      → ParsesUnsigned 64 10 bs r → x ≡ number_between least most bs
  number_read least most [] r x is small none h =
      is ∙ go r (parse_plain (numerals_by_value _ tells_all_ascii_digits) 64 [] r h (without_plus [] none))
    where
      go : (r : Result ℕ E) → OkIff r ((all_ascii_digits [] ≡ true) × (0 < 0) × (digits_value 10 [] < 2 ^ 64)) (digits_value 10 [])
          → read_within least most r ≡ None
      go (Ok n) p = absurd (omega (arith, p.0.1))
      go (Err e) p = refl
  number_read least most (b ∷ bs) r x is small none h =
      is ∙ go r (parse_plain (numerals_by_value _ tells_all_ascii_digits) 64 (b ∷ bs) r h (without_plus (b ∷ bs) none))
    where
      value : ℕ
      value = digits_value 10 (b ∷ bs)

      some : 0 < length (b ∷ bs)
      some = omega arith

      refused : (t : Bool) → all_ascii_digits (b ∷ bs) ≡ t
          → ¬ ((all_ascii_digits (b ∷ bs) ≡ true) × (0 < length (b ∷ bs)) × (value < 2 ^ 64))
          → None ≡ (if t then within least most value else None)
      refused false e p = refl
      refused true e p = within_none least most value small (λ lt. p (e, some, lt))

      go : (r : Result ℕ E) → OkIff r ((all_ascii_digits (b ∷ bs) ≡ true) × (0 < length (b ∷ bs)) × (value < 2 ^ 64)) value
          → read_within least most r ≡ number_between least most (b ∷ bs)
      go (Ok n) p = ap (within least most) p.1
          ∙ sym (ap (λ t. if t then within least most value else None) p.0.0)
      go (Err e) p = refused _ refl p

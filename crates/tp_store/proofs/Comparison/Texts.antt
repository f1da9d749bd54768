-- Texts in order of their bytes are in order of their characters.
use Rattle.std.proofs.Common.{◌≡◌, ℕ, ◌+◌, ◌/◌, ◌<◌, ◌≤◌, Bool, true, false, cond, nat_eq, nat_lt, List, [], ◌∷◌, ◌++◌, refl, ap, sym, ◌∙◌, arith}
use Rattle.std.proofs.lemmas.Bool.{eq-eqb, le-ltb, lt-ltb, ltb-true, ltb-false}
use Rattle.std.specs.declared.cmp.Ordering.TheVariants.{Less, Equal, Greater}
use Rattle.std.specs.Ordering.{ordering_then, ordering_reverse, nat_cmp}
use Rattle.std.specs.Cmp.Lexicographic.{slice_cmp, nat_list_cmp_total}
use Rattle.std.specs.Prelude.{encode_utf8_all}
use lib.Utf8.{encode, next}

less-first : (x y : ℕ) (xs ys : List ℕ) → x < y → slice_cmp nat_cmp (x ∷ xs) (y ∷ ys) ≡ Less
less-first x y xs ys lt = ap (λ b. ordering_then (cond b Less (cond (nat_eq x y) Equal Greater)) (slice_cmp nat_cmp xs ys)) (lt-ltb x y lt)

pub nat_cmp-same : (x : ℕ) → nat_cmp x x ≡ Equal
nat_cmp-same x = ap (λ b. cond b Less (cond (nat_eq x x) Equal Greater)) (le-ltb x x (omega arith)) ∙ ap (λ b. cond b Equal Greater) (eq-eqb x x refl)

same-first : (x : ℕ) (xs ys : List ℕ) → slice_cmp nat_cmp (x ∷ xs) (x ∷ ys) ≡ slice_cmp nat_cmp xs ys
same-first x xs ys = ap (λ o. ordering_then o (slice_cmp nat_cmp xs ys)) (nat_cmp-same x)

-- the first bytes decide, or else the others
less-or : (x y : ℕ) (xs ys : List ℕ) → x ≤ y → (x ≡ y → slice_cmp nat_cmp xs ys ≡ Less) → slice_cmp nat_cmp (x ∷ xs) (y ∷ ys) ≡ Less
less-or x y xs ys le h = by (nat_lt x y) refl
  where
    by : (b : Bool) → nat_lt x y ≡ b → slice_cmp nat_cmp (x ∷ xs) (y ∷ ys) ≡ Less
    by true e = less-first x y xs ys (ltb-true x y e)
    by false e =
        let ge : y ≤ x = ltb-false x y e in
        let same : x ≡ y = omega arith in
        ap (λ z. slice_cmp nat_cmp (x ∷ xs) (z ∷ ys)) (sym same) ∙ same-first x xs ys ∙ h same

same-front : (cs xs ys : List ℕ) → slice_cmp nat_cmp (cs ++ xs) (cs ++ ys) ≡ slice_cmp nat_cmp xs ys
same-front [] xs ys = refl
same-front (c ∷ cs) xs ys = same-first c (cs ++ xs) (cs ++ ys) ∙ same-front cs xs ys

-- ---- the bytes of a character, one to four

abbrev one : ℕ → List ℕ
one c = c ∷ []

abbrev two : ℕ → List ℕ
two c = (192 + c / 64) ∷ next c ∷ []

abbrev three : ℕ → List ℕ
three c = (224 + c / 4096) ∷ next (c / 64) ∷ next c ∷ []

abbrev four : ℕ → List ℕ
four c = (240 + c / 262144) ∷ next (c / 4096) ∷ next (c / 64) ∷ next c ∷ []

data Bytes (c : ℕ) : Type 0 where
  of_one : c < 128 → encode c ≡ one c → Bytes c
  of_two : 128 ≤ c → c < 2048 → encode c ≡ two c → Bytes c
  of_three : 2048 ≤ c → c < 65536 → encode c ≡ three c → Bytes c
  of_four : 65536 ≤ c → encode c ≡ four c → Bytes c

bytes_of : (c : ℕ) → Bytes c
unfolding encode
bytes_of c = by (nat_lt c 128) (nat_lt c 2048) (nat_lt c 65536) refl refl refl
  where
    by : (x y z : Bool) → nat_lt c 128 ≡ x → nat_lt c 2048 ≡ y → nat_lt c 65536 ≡ z → Bytes c
    by true y z e f g = of_one (ltb-true c 128 e) (ap (λ b. cond b (one c) (cond (nat_lt c 2048) (two c) (cond (nat_lt c 65536) (three c) (four c)))) e)
    by false true z e f g = of_two (ltb-false c 128 e) (ltb-true c 2048 f)
        (ap (λ b. cond b (one c) (cond (nat_lt c 2048) (two c) (cond (nat_lt c 65536) (three c) (four c)))) e ∙ ap (λ b. cond b (two c) (cond (nat_lt c 65536) (three c) (four c))) f)
    by false false true e f g = of_three (ltb-false c 2048 f) (ltb-true c 65536 g)
        (ap (λ b. cond b (one c) (cond (nat_lt c 2048) (two c) (cond (nat_lt c 65536) (three c) (four c)))) e ∙ ap (λ b. cond b (two c) (cond (nat_lt c 65536) (three c) (four c))) f ∙ ap (λ b. cond b (three c) (four c)) g)
    by false false false e f g = of_four (ltb-false c 65536 g)
        (ap (λ b. cond b (one c) (cond (nat_lt c 2048) (two c) (cond (nat_lt c 65536) (three c) (four c)))) e ∙ ap (λ b. cond b (two c) (cond (nat_lt c 65536) (three c) (four c))) f ∙ ap (λ b. cond b (three c) (four c)) g)

module _ (a b : ℕ) (lt : a < b) (xs ys : List ℕ) where
  less-two : slice_cmp nat_cmp (two a ++ xs) (two b ++ ys) ≡ Less
  less-two = less-or (192 + a / 64) (192 + b / 64) (next a ∷ xs) (next b ∷ ys) (omega arith) (λ e. less-first (next a) (next b) xs ys (omega arith))

  less-three : slice_cmp nat_cmp (three a ++ xs) (three b ++ ys) ≡ Less
  less-three =
      less-or (224 + a / 4096) (224 + b / 4096) (next (a / 64) ∷ next a ∷ xs) (next (b / 64) ∷ next b ∷ ys) (omega arith)
      (λ e. less-or (next (a / 64)) (next (b / 64)) (next a ∷ xs) (next b ∷ ys) (omega arith) (λ f. less-first (next a) (next b) xs ys (omega arith)))

  less-four : slice_cmp nat_cmp (four a ++ xs) (four b ++ ys) ≡ Less
  less-four =
      less-or (240 + a / 262144) (240 + b / 262144) (next (a / 4096) ∷ next (a / 64) ∷ next a ∷ xs) (next (b / 4096) ∷ next (b / 64) ∷ next b ∷ ys) (omega arith)
      (λ e. less-or (next (a / 4096)) (next (b / 4096)) (next (a / 64) ∷ next a ∷ xs) (next (b / 64) ∷ next b ∷ ys) (omega arith)
      (λ f. less-or (next (a / 64)) (next (b / 64)) (next a ∷ xs) (next b ∷ ys) (omega arith) (λ g. less-first (next a) (next b) xs ys (omega arith))))

  by_bytes : Bytes a → Bytes b → slice_cmp nat_cmp (encode a ++ xs) (encode b ++ ys) ≡ Less
  by_bytes (of_one h e) (of_one i f) = rw (e, f) (less-first a b xs ys lt)
  by_bytes (of_one h e) (of_two i j f) = rw (e, f) (less-first a (192 + b / 64) xs (next b ∷ ys) (omega arith))
  by_bytes (of_one h e) (of_three i j f) = rw (e, f) (less-first a (224 + b / 4096) xs (next (b / 64) ∷ next b ∷ ys) (omega arith))
  by_bytes (of_one h e) (of_four i f) = rw (e, f) (less-first a (240 + b / 262144) xs (next (b / 4096) ∷ next (b / 64) ∷ next b ∷ ys) (omega arith))
  by_bytes (of_two g h e) (of_two i j f) = rw (e, f) less-two
  by_bytes (of_two g h e) (of_three i j f) = rw (e, f) (less-first (192 + a / 64) (224 + b / 4096) (next a ∷ xs) (next (b / 64) ∷ next b ∷ ys) (omega arith))
  by_bytes (of_two g h e) (of_four i f) = rw (e, f) (less-first (192 + a / 64) (240 + b / 262144) (next a ∷ xs) (next (b / 4096) ∷ next (b / 64) ∷ next b ∷ ys) (omega arith))
  by_bytes (of_three g h e) (of_three i j f) = rw (e, f) less-three
  by_bytes (of_three g h e) (of_four i f) = rw (e, f) (less-first (224 + a / 4096) (240 + b / 262144) (next (a / 64) ∷ next a ∷ xs) (next (b / 4096) ∷ next (b / 64) ∷ next b ∷ ys) (omega arith))
  by_bytes (of_four g e) (of_four i f) = rw (e, f) less-four
  by_bytes (of_two g h e) (of_one i f) = absurd (omega arith)
  by_bytes (of_three g h e) (of_one i f) = absurd (omega arith)
  by_bytes (of_three g h e) (of_two i j f) = absurd (omega arith)
  by_bytes (of_four g e) (of_one i f) = absurd (omega arith)
  by_bytes (of_four g e) (of_two i j f) = absurd (omega arith)
  by_bytes (of_four g e) (of_three i j f) = absurd (omega arith)

  less-encode : slice_cmp nat_cmp (encode a ++ xs) (encode b ++ ys) ≡ Less
  less-encode = by_bytes (bytes_of a) (bytes_of b)

-- ---- whole texts

none-first : (y : ℕ) (ys : List ℕ) → slice_cmp nat_cmp [] (encode y ++ ys) ≡ Less
none-first y ys = by (bytes_of y)
  where
    by : Bytes y → slice_cmp nat_cmp [] (encode y ++ ys) ≡ Less
    by (of_one h e) = rw e refl
    by (of_two g h e) = rw e refl
    by (of_three g h e) = rw e refl
    by (of_four g e) = rw e refl

turned : (xs ys : List ℕ) → slice_cmp nat_cmp ys xs ≡ Less → slice_cmp nat_cmp xs ys ≡ Greater
turned xs ys e = nat_list_cmp_total.antisymm xs ys ∙ ap ordering_reverse e

last-first : (x : ℕ) (xs : List ℕ) → slice_cmp nat_cmp (encode x ++ xs) [] ≡ Greater
last-first x xs = turned (encode x ++ xs) [] (none-first x xs)

-- Texts, by their bytes, are in the order of their characters.
pub cmp-encode_utf8_all : (xs ys : List ℕ) → slice_cmp nat_cmp (encode_utf8_all xs) (encode_utf8_all ys) ≡ slice_cmp nat_cmp xs ys
cmp-encode_utf8_all [] [] = refl
cmp-encode_utf8_all [] (y ∷ ys) = none-first y (encode_utf8_all ys)
cmp-encode_utf8_all (x ∷ xs) [] = last-first x (encode_utf8_all xs)
cmp-encode_utf8_all (x ∷ xs) (y ∷ ys) = by (nat_lt x y) (nat_lt y x) refl refl (cmp-encode_utf8_all xs ys)
  where
    by : (l g : Bool) → nat_lt x y ≡ l → nat_lt y x ≡ g → slice_cmp nat_cmp (encode_utf8_all xs) (encode_utf8_all ys) ≡ slice_cmp nat_cmp xs ys → slice_cmp nat_cmp (encode_utf8_all (x ∷ xs)) (encode_utf8_all (y ∷ ys)) ≡ slice_cmp nat_cmp (x ∷ xs) (y ∷ ys)
    by true g e f h =
        let lt : x < y = ltb-true x y e in
        less-encode x y lt (encode_utf8_all xs) (encode_utf8_all ys) ∙ sym (less-first x y xs ys lt)
    by false true e f h =
        let lt : y < x = ltb-true y x f in
        turned (encode x ++ encode_utf8_all xs) (encode y ++ encode_utf8_all ys) (less-encode y x lt (encode_utf8_all ys) (encode_utf8_all xs))
        ∙ sym (turned (x ∷ xs) (y ∷ ys) (less-first y x ys xs lt))
    by false false e f h =
        let ge : y ≤ x = ltb-false x y e in
        let le : x ≤ y = ltb-false y x f in
        let same : x ≡ y = omega arith in
        ap (λ z. slice_cmp nat_cmp (encode x ++ encode_utf8_all xs) (encode z ++ encode_utf8_all ys)) (sym same)
        ∙ same-front (encode x) (encode_utf8_all xs) (encode_utf8_all ys) ∙ h
        ∙ sym (ap (λ z. slice_cmp nat_cmp (x ∷ xs) (z ∷ ys)) (sym same) ∙ same-first x xs ys)

-- a text is in the same place as itself
pub cmp-same : (xs : List ℕ) → slice_cmp nat_cmp xs xs ≡ Equal
cmp-same [] = refl
cmp-same (x ∷ xs) = same-first x xs xs ∙ cmp-same xs

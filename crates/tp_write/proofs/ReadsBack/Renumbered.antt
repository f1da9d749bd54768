-- The tree that is read has its variables numbered as the term's are renumbered.
use Rattle.std.proofs.Common.{◌≡◌, ℕ, suc, ◌+◌, ◌^◌, ◌<◌, Bool, true, false, ◌||◌, cond, nat_eq, List, [], ◌∷◌, ◌++◌, length, fold, Some, None, refl, sym, ap, ◌∙◌, arith, codes, decimal, append_assoc, append-nil, length-append}
use Rattle.std.specs.List.{list_any}
use Rattle.std.specs.Str.Parse.{digits_value}
use Rattle.std.proofs.lemmas.Fmt.{decimal_is_IsNumeral}
use Rattle.std.proofs.lemmas.Bool.{eqb-true, eqb-false}
use Rattle.tp_terms.specs.Term.{Name, Term, Terms, Var, Int, Atom, Comp, NoMore, More, names_eq, replaced, all_replaced}
use Rattle.tp_terms.proofs.Texts.Equal.{names_eq-same, names_eq-apart}
use Rattle.tp_parse.specs.Numbers.{Numbers, no_numbers, number_in, known_number, number_of, numbered, all_numbered}
use Rattle.tp_write.specs.Back.{IsReadable, AreReadable, variables, all_variables, with_new, first_occurrences, place_in, renumbered}
use Rattle.tp_write.proofs.ReadsBack.Pieces.{variable_name, tree_of, trees_of}

-- ---- names of variables

-- each is within 64 bits
abbrev pub AreSmall : List ℕ → Type 0
AreSmall [] = Unit {0}
AreSmall (v ∷ vs) = (v < 2 ^ 64) × AreSmall vs

decimal_differs : (v w : ℕ) → v < 2 ^ 64 → w < 2 ^ 64 → decimal v ≡ decimal w → v ≡ w
decimal_differs v w h k e = sym (decimal_is_IsNumeral v h).1 ∙ ap (digits_value 10) e ∙ (decimal_is_IsNumeral w k).1

same_name : (v w : ℕ) → v < 2 ^ 64 → w < 2 ^ 64 → names_eq (variable_name v) (variable_name w) ≡ nat_eq v w
same_name v w h k = go (nat_eq v w) refl
  where
    go : (b : Bool) → nat_eq v w ≡ b → names_eq (variable_name v) (variable_name w) ≡ b
    go true e = ap (λ (n : ℕ). names_eq (variable_name v) (variable_name n)) (sym (eqb-true v w e)) ∙ names_eq-same (variable_name v)
    go false e = names_eq-apart (variable_name v) (variable_name w) (λ same. eqb-false v w e (decimal_differs v w h k (tails (decimal v) (decimal w) same)))
      where
        tails : (xs ys : List ℕ) → 95 ∷ xs ≡ 95 ∷ ys → xs ≡ ys
        tails xs ys e = cc

named_one : (v : ℕ) → v < 2 ^ 64 → names_eq (variable_name v) (codes "_") ≡ false
named_one v h = names_eq-apart (variable_name v) (codes "_") (λ same. let some = ((decimal_is_IsNumeral v h).0).0 in let none = ap length same in absurd (omega arith))

-- ---- places in lists

-- the names of variables that were seen, from a number on
abbrev pub named_from : ℕ → List ℕ → List (Name × ℕ)
named_from k [] = []
named_from k (v ∷ vs) = (variable_name v, k) ∷ named_from (k + 1) vs

abbrev pub numbers_of : List ℕ → Numbers
numbers_of seen = record { named = named_from 0 seen; vars = length seen }

found_number : (seen : List ℕ) (v k : ℕ) → v < 2 ^ 64 → AreSmall seen → number_in (named_from k seen) (variable_name v) ≡ cond (list_any (nat_eq v) seen) (Some (k + place_in v seen)) None
found_number [] v k h s = refl
found_number (w ∷ ws) v k h s = ap (λ b. cond b (Some k) (number_in (named_from (k + 1) ws) (variable_name v))) (same_name v w h s.0) ∙ go (nat_eq v w) (found_number ws v (k + 1) h s.1)
  where
    moved : (b : Bool) (i : ℕ) → cond b (Some (k + 1 + i)) None ≡ cond b (Some (k + (i + 1))) None
    moved true i = let e : k + 1 + i ≡ k + (i + 1) = omega arith in ap Some e
    moved false i = refl

    go : (b : Bool) → number_in (named_from (k + 1) ws) (variable_name v) ≡ cond (list_any (nat_eq v) ws) (Some (k + 1 + place_in v ws)) None →
        cond b (Some k) (number_in (named_from (k + 1) ws) (variable_name v)) ≡ cond (b || list_any (nat_eq v) ws) (Some (k + cond b 0 (place_in v ws + 1))) None
    go true rest = let e : k ≡ k + 0 = omega arith in ap Some e
    go false rest = rest ∙ moved (list_any (nat_eq v) ws) (place_in v ws)

named_append : (seen : List ℕ) (v k : ℕ) → named_from k (seen ++ v ∷ []) ≡ named_from k seen ++ (variable_name v, k + length seen) ∷ []
named_append [] v k = let e : k ≡ k + 0 = omega arith in ap (λ (n : ℕ). (variable_name v, n) ∷ []) e
named_append (w ∷ ws) v k = ap (λ l. (variable_name w, k) ∷ l) (named_append ws v (k + 1) ∙ (let e : k + 1 + length ws ≡ k + suc (length ws) = omega arith in ap (λ (n : ℕ). named_from (k + 1) ws ++ (variable_name v, n) ∷ []) e))

place_append : (v : ℕ) (vs ws : List ℕ) → list_any (nat_eq v) vs ≡ true → place_in v (vs ++ ws) ≡ place_in v vs
place_append v [] ws e = cc
place_append v (x ∷ vs) ws e = go (nat_eq v x) e (place_append v vs ws)
  where
    go : (b : Bool) → (b || list_any (nat_eq v) vs) ≡ true → (list_any (nat_eq v) vs ≡ true → place_in v (vs ++ ws) ≡ place_in v vs) → cond b 0 (place_in v (vs ++ ws) + 1) ≡ cond b 0 (place_in v vs + 1)
    go true e rest = refl
    go false e rest = ap (λ (n : ℕ). n + 1) (rest e)

place_new : (v : ℕ) (vs : List ℕ) → list_any (nat_eq v) vs ≡ false → place_in v (vs ++ v ∷ []) ≡ length vs
place_new v [] e = go (nat_eq v v) refl
  where
    go : (b : Bool) → nat_eq v v ≡ b → ◌≡◌ {A = ℕ} (cond b 0 (0 + 1)) 0
    go true e = refl
    go false e = absurd (eqb-false v v e refl)
place_new v (x ∷ vs) e = go (nat_eq v x) e (place_new v vs)
  where
    go : (b : Bool) → (b || list_any (nat_eq v) vs) ≡ false → (list_any (nat_eq v) vs ≡ false → place_in v (vs ++ v ∷ []) ≡ length vs) → cond b 0 (place_in v (vs ++ v ∷ []) + 1) ≡ suc (length vs)
    go true e rest = cc
    go false e rest = let z = rest e in omega arith

stands_last : (v : ℕ) (vs : List ℕ) → list_any (nat_eq v) (vs ++ v ∷ []) ≡ true
stands_last v [] = go (nat_eq v v) refl
  where
    go : (b : Bool) → nat_eq v v ≡ b → (b || false) ≡ true
    go true e = refl
    go false e = absurd (eqb-false v v e refl)
stands_last v (x ∷ vs) = go (nat_eq v x) (stands_last v vs)
  where
    go : (b : Bool) → list_any (nat_eq v) (vs ++ v ∷ []) ≡ true → (b || list_any (nat_eq v) (vs ++ v ∷ [])) ≡ true
    go true e = refl
    go false e = e

-- ---- one variable

-- the number of a variable behind those that were seen
pub record IsNumbered (seen : List ℕ) (v : ℕ) : Type 0 where
  pub number : number_of (variable_name v) (numbers_of seen) ≡ (place_in v (with_new seen v), numbers_of (with_new seen v))
  pub stands : list_any (nat_eq v) (with_new seen v) ≡ true

one_numbered : (seen : List ℕ) (v : ℕ) → v < 2 ^ 64 → AreSmall seen → IsNumbered seen v
one_numbered seen v h s = record { number = by_name ∙ by_place (list_any (nat_eq v) seen) refl; stands = there (list_any (nat_eq v) seen) refl }
  where
    by_name : number_of (variable_name v) (numbers_of seen) ≡ known_number (variable_name v) (numbers_of seen) (cond (list_any (nat_eq v) seen) (Some (0 + place_in v seen)) None)
    by_name =
        ap (λ b. cond b (length seen, record { named = named_from 0 seen; vars = length seen + 1 }) (known_number (variable_name v) (numbers_of seen) (number_in (named_from 0 seen) (variable_name v)))) (named_one v h)
        ∙ ap (known_number (variable_name v) (numbers_of seen)) (found_number seen v 0 h s)

    there : (b : Bool) → list_any (nat_eq v) seen ≡ b → list_any (nat_eq v) (cond b seen (seen ++ v ∷ [])) ≡ true
    there true e = e
    there false e = stands_last v seen

    by_place : (b : Bool) → list_any (nat_eq v) seen ≡ b → known_number (variable_name v) (numbers_of seen) (cond b (Some (0 + place_in v seen)) None) ≡ (place_in v (cond b seen (seen ++ v ∷ [])), numbers_of (cond b seen (seen ++ v ∷ [])))
    by_place true e = let z : 0 + place_in v seen ≡ place_in v seen = omega arith in ap (λ (n : ℕ). (n, numbers_of seen)) z
    by_place false e =
        let a = place_new v seen e in
        let b = named_append seen v 0 in
        let z : 0 + length seen ≡ length seen = omega arith in
        let c : length (seen ++ v ∷ []) ≡ length seen + 1 = length-append seen (v ∷ []) in
        let named : named_from 0 (seen ++ v ∷ []) ≡ named_from 0 seen ++ (variable_name v, length seen) ∷ [] = b ∙ ap (λ (n : ℕ). named_from 0 seen ++ (variable_name v, n) ∷ []) z in
        ap (λ (n : ℕ). (n, record { named = named_from 0 seen ++ (variable_name v, length seen) ∷ []; vars = length seen + 1 })) (sym a)
        ∙ ap (λ l. (place_in v (seen ++ v ∷ []), record { named = l; vars = length seen + 1 })) (sym named)
        ∙ ap (λ (n : ℕ). (place_in v (seen ++ v ∷ []), record { named = named_from 0 (seen ++ v ∷ []); vars = n })) (sym c)

-- ---- terms

small_first : (seen : List ℕ) (v : ℕ) → v < 2 ^ 64 → AreSmall seen → AreSmall (with_new seen v)
small_first seen v h s = go (list_any (nat_eq v) seen)
  where
    added : (vs : List ℕ) → AreSmall vs → AreSmall (vs ++ v ∷ [])
    added [] s = (h, tt)
    added (w ∷ ws) s = (s.0, added ws s.1)

    go : (b : Bool) → AreSmall (cond b seen (seen ++ v ∷ []))
    go true = s
    go false = added seen s

small_fold : (vs seen : List ℕ) → AreSmall vs → AreSmall seen → AreSmall (fold with_new seen vs)
small_fold [] seen h s = s
small_fold (v ∷ vs) seen h s = small_fold vs (with_new seen v) h.1 (small_first seen v h.0 s)

small_append : (vs ws : List ℕ) → AreSmall vs → AreSmall ws → AreSmall (vs ++ ws)
small_append [] ws h k = k
small_append (v ∷ vs) ws h k = (h.0, small_append vs ws h.1 k)

mutual
  small : (t : Term) → IsReadable t → AreSmall (variables t)
  small (Var v) h = (h, tt)
  small (Int z) h = tt
  small (Atom a) h = tt
  small (Comp f ts) h = all_small ts h.1

  all_small : (ts : Terms) → AreReadable ts → AreSmall (all_variables ts)
  all_small NoMore h = tt
  all_small (More t ts) h = small_append (variables t) (all_variables ts) (small t h.0) (all_small ts h.1)

fold_append : (vs ws seen : List ℕ) → fold with_new seen (vs ++ ws) ≡ fold with_new (fold with_new seen vs) ws
fold_append [] ws seen = refl
fold_append (v ∷ vs) ws seen = fold_append vs ws (with_new seen v)

-- what was seen stays in front
grows : (vs seen : List ℕ) → (more : List ℕ) × (fold with_new seen vs ≡ seen ++ more)
grows [] seen = ([], sym (append-nil seen))
grows (v ∷ vs) seen = let rest = grows vs (with_new seen v) in go (list_any (nat_eq v) seen) rest.0 rest.1
  where
    go : (b : Bool) (more : List ℕ) → fold with_new (with_new seen v) vs ≡ cond b seen (seen ++ v ∷ []) ++ more → (all : List ℕ) × (fold with_new (with_new seen v) vs ≡ seen ++ all)
    go true more e = (more, e)
    go false more e = (v ∷ more, e ∙ append_assoc seen (v ∷ []) more)

abbrev pub placed : List ℕ → ℕ → Term
placed all v = Var (place_in v all)

-- what is numbered behind those that were seen, where all are these in the end
mutual
  pub numbers : (t : Term) (seen all more : List ℕ) → IsReadable t → AreSmall seen → all ≡ fold with_new seen (variables t) ++ more → numbered (tree_of t) (numbers_of seen) ≡ (replaced (placed all) t, numbers_of (fold with_new seen (variables t)))
  numbers (Var v) seen all more h s e =
      let one = one_numbered seen v h s in
      let place : place_in v all ≡ place_in v (with_new seen v) = ap (place_in v) e ∙ place_append v (with_new seen v) more one.stands in
      ap (λ (r : ℕ × Numbers). (Var r.0, r.1)) one.number ∙ ap (λ (n : ℕ). (Var n, numbers_of (with_new seen v))) (sym place)
  numbers (Int z) seen all more h s e = refl
  numbers (Atom a) seen all more h s e = refl
  numbers (Comp f ts) seen all more h s e = ap (λ (r : Terms × Numbers). (Comp f r.0, r.1)) (all_numbers ts seen all more h.1 s e)

  all_numbers : (ts : Terms) (seen all more : List ℕ) → AreReadable ts → AreSmall seen → all ≡ fold with_new seen (all_variables ts) ++ more → all_numbered (trees_of ts) (numbers_of seen) ≡ (all_replaced (placed all) ts, numbers_of (fold with_new seen (all_variables ts)))
  all_numbers NoMore seen all more h s e = refl
  all_numbers (More t ts) seen all more h s e =
      let middle : List ℕ = fold with_new seen (variables t) in
      let later = grows (all_variables ts) middle in
      let join = fold_append (variables t) (all_variables ts) seen in
      let e' : all ≡ fold with_new middle (all_variables ts) ++ more = e ∙ ap (λ l. l ++ more) join in
      let front : all ≡ middle ++ (later.0 ++ more) = e' ∙ ap (λ l. l ++ more) later.1 ∙ append_assoc middle later.0 more in
      let a = numbers t seen all (later.0 ++ more) h.0 s front in
      let b = all_numbers ts middle all more h.1 (small_fold (variables t) seen (small t h.0) s) e' in
      ap (λ (r : Term × Numbers). let q = all_numbered (trees_of ts) r.1 in (More r.0 q.0, q.1)) a
      ∙ ap (λ (q : Terms × Numbers). (More (replaced (placed all) t) q.0, q.1)) b
      ∙ ap (λ (l : List ℕ). (More (replaced (placed all) t) (all_replaced (placed all) ts), numbers_of l)) (sym join)

-- a term's tree with its variables numbered is the term with its variables renumbered
pub numbered_is : (t : Term) → IsReadable t → (numbered (tree_of t) no_numbers).0 ≡ renumbered t
numbered_is t h = ap (λ (r : Term × Numbers). r.0) (numbers t [] (first_occurrences (variables t)) [] h tt (sym (append-nil (first_occurrences (variables t)))))

-- The lists that are kept give the candidates.
use Rattle.std.proofs.Common.{◌≡◌, suc, ◌≤◌, nat_eq, nat_le, Bool, true, false, ◌||◌, cond, List, [], ◌∷◌, length, filter, Option, Some, None, refl, sym, ap, ◌∙◌, arith, if◌then◌else◌}
use Rattle.std.specs.List.{AllByRecursion}
use Rattle.std.proofs.lemmas.Bool.{eqb-true}
use Rattle.tp_clauses.specs.Candidates.{belongs, none_or_all}
use Rattle.tp_clauses.specs.First.{may_match, most_any, same_first}
use Rattle.tp_clauses.specs.declared.base.ClauseId.{ClauseId}
use Rattle.tp_clauses.specs.declared.first.FirstArg.{FirstArg}
use Rattle.tp_clauses.specs.declared.first.FirstArg.TheVariants.{Any, Int, Atom, Comp}

-- ---- filters

shorter : {X : Type 0} (p : X → Bool) (xs : List X) → length (filter p xs) ≤ length xs
shorter p [] = omega arith
shorter p (x ∷ xs) = go (p x) (shorter p xs)
  where
    go : (b : Bool) → length (filter p xs) ≤ length xs → length (cond b (x ∷ filter p xs) (filter p xs)) ≤ suc (length xs)
    go true h = omega arith
    go false h = omega arith

-- no element passes, or each does
all_fail : {X : Type 0} (p : X → Bool) (xs : List X) → length (filter p xs) ≡ 0 → AllByRecursion (λ x. p x ≡ false) xs
all_fail p [] e = tt
all_fail p (x ∷ xs) e = go (p x) refl e (all_fail p xs)
  where
    go : (b : Bool) → p x ≡ b → length (cond b (x ∷ filter p xs) (filter p xs)) ≡ 0 → (length (filter p xs) ≡ 0 → AllByRecursion (λ y. p y ≡ false) xs) → AllByRecursion (λ y. p y ≡ false) (x ∷ xs)
    go true is n rest = absurd (omega arith)
    go false is n rest = (is, rest n)

all_pass : {X : Type 0} (p : X → Bool) (xs : List X) → length (filter p xs) ≡ length xs → AllByRecursion (λ x. p x ≡ true) xs
all_pass p [] e = tt
all_pass p (x ∷ xs) e = go (p x) refl e (shorter p xs) (all_pass p xs)
  where
    go : (b : Bool) → p x ≡ b → length (cond b (x ∷ filter p xs) (filter p xs)) ≡ suc (length xs) → length (filter p xs) ≤ length xs → (length (filter p xs) ≡ length xs → AllByRecursion (λ y. p y ≡ true) xs) → AllByRecursion (λ y. p y ≡ true) (x ∷ xs)
    go true is n s rest = (is, rest (omega arith))
    go false is n s rest = absurd (omega arith)

filter_same : {X : Type 0} (p q : X → Bool) (xs : List X) → AllByRecursion (λ x. p x ≡ q x) xs → filter p xs ≡ filter q xs
filter_same p q [] h = refl
filter_same p q (x ∷ xs) h = ap (λ b. cond b (x ∷ filter p xs) (filter p xs)) h.0 ∙ ap (λ l. cond (q x) (x ∷ l) l) (filter_same p q xs h.1)

filter_all : {X : Type 0} (p : X → Bool) (xs : List X) → AllByRecursion (λ x. p x ≡ true) xs → filter p xs ≡ xs
filter_all p [] h = refl
filter_all p (x ∷ xs) h = ap (λ b. cond b (x ∷ filter p xs) (filter p xs)) h.0 ∙ ap (λ l. x ∷ l) (filter_all p xs h.1)

filter_none : {X : Type 0} (p : X → Bool) (xs : List X) → AllByRecursion (λ x. p x ≡ false) xs → filter p xs ≡ []
filter_none p [] h = refl
filter_none p (x ∷ xs) h = ap (λ b. cond b (x ∷ filter p xs) (filter p xs)) h.0 ∙ filter_none p xs h.1

each : {X : Type 0} (P : X → Type 0) → ((x : X) → P x) → (xs : List X) → AllByRecursion P xs
each P h [] = tt
each P h (x ∷ xs) = (h x, each P h xs)

turned : {X : Type 0} (P Q : X → Type 0) → ((x : X) → P x → Q x) → (xs : List X) → AllByRecursion P xs → AllByRecursion Q xs
turned P Q f [] h = tt
turned P Q f (x ∷ xs) h = (f x h.0, turned P Q f xs h.1)

differ : (b : Bool) → b ≡ true → b ≡ false → ⊥
differ true e f = cc
differ false e f = cc

never : {X : Type 0} (x : X) → Some x ≡ None → ⊥
never x e = cc

-- ---- first arguments

any_twice : (x : FirstArg) → same_first x Any ≡ same_first Any x
any_twice Any = refl
any_twice (Int n) = refl
any_twice (Atom a) = refl
any_twice (Comp f n) = refl

twice : (b : Bool) → (b || b) ≡ b
twice true = refl
twice false = refl

or_false : (b : Bool) → (b || false) ≡ b
or_false true = refl
or_false false = refl

or_true : (b : Bool) → (b || true) ≡ true
or_true true = refl
or_true false = refl

-- what is the same as another than any isn't any
is_other : (f x : FirstArg) → same_first f Any ≡ false → same_first f x ≡ true → same_first Any x ≡ false
is_other f Any n e = absurd (cc)
is_other f (Int m) n e = refl
is_other f (Atom a) n e = refl
is_other f (Comp g m) n e = refl

-- ---- which list

module _ (g : ClauseId → FirstArg) where
  abbrev pub kept : FirstArg → List ClauseId → Option (List ClauseId)
  kept h xs =
      if none_or_all (filter (λ x. same_first h (g x)) xs) xs then None
      else if nat_le (length (filter (λ x. same_first Any (g x)) xs)) most_any then Some (filter (λ x. belongs h (g x)) xs)
      else if same_first h Any then Some xs else None

  abbrev pub chosen : FirstArg → List ClauseId → List ClauseId
  chosen h xs = if nat_le (length (filter (λ x. same_first Any (g x)) xs)) most_any then filter (λ x. may_match h (g x)) xs else xs

  -- where all are chosen, and where none is
  chosen_all : (h : FirstArg) (xs : List ClauseId) → AllByRecursion (λ x. may_match h (g x) ≡ true) xs → chosen h xs ≡ xs
  chosen_all h xs m = go (nat_le (length (filter (λ x. same_first Any (g x)) xs)) most_any)
    where
      go : (b : Bool) → (if b then filter (λ x. may_match h (g x)) xs else xs) ≡ xs
      go true = filter_all (λ x. may_match h (g x)) xs m
      go false = refl

  module _ (f : FirstArg) (other : same_first f Any ≡ false) where
    matching : (x : FirstArg) → may_match f x ≡ (same_first x Any || same_first f x)
    matching x = ap (λ b. (b || same_first x Any) || same_first f x) other

    -- the list of the first argument itself
    pub in_list : (xs l : List ClauseId) → kept f xs ≡ Some l → l ≡ chosen f xs
    in_list xs l e = go (none_or_all (filter (λ x. same_first f (g x)) xs) xs) (nat_le (length (filter (λ x. same_first Any (g x)) xs)) most_any) (same_first f Any) other e
      where
        go : (a b d : Bool) → d ≡ false → (if a then None else if b then Some (filter (λ x. belongs f (g x)) xs) else if d then Some xs else None) ≡ Some l
            → l ≡ (if b then filter (λ x. may_match f (g x)) xs else xs)
        go true b d n k = absurd (cc)
        go false true d n k =
            let is : filter (λ x. belongs f (g x)) xs ≡ l = cc in
            sym is ∙ filter_same (λ x. belongs f (g x)) (λ x. may_match f (g x)) xs (each (λ x. belongs f (g x) ≡ may_match f (g x)) (λ x. sym (matching (g x))) xs)
        go false false true n k = absurd (cc)
        go false false false n k = absurd (cc)

    -- where none of that is kept, each clause has it or none has, unless the predicate isn't indexed
    no_list : (xs : List ClauseId) → kept f xs ≡ None → nat_le (length (filter (λ x. same_first Any (g x)) xs)) most_any ≡ true → none_or_all (filter (λ x. same_first f (g x)) xs) xs ≡ true
    no_list xs e i = go (none_or_all (filter (λ x. same_first f (g x)) xs) xs) refl
      where
        go : (a : Bool) → none_or_all (filter (λ x. same_first f (g x)) xs) xs ≡ a → none_or_all (filter (λ x. same_first f (g x)) xs) xs ≡ true
        go true is = is
        go false is =
            absurd (never (filter (λ x. belongs f (g x)) xs)
            (sym (ap (λ a. if a then None else if nat_le (length (filter (λ x. same_first Any (g x)) xs)) most_any then Some (filter (λ x. belongs f (g x)) xs) else if same_first f Any then Some xs else None) is
            ∙ ap (λ b. if b then Some (filter (λ x. belongs f (g x)) xs) else if same_first f Any then Some xs else None) i) ∙ e))

    -- each clause has it, or none has
    either : (A : Type 0) (h : FirstArg) (xs : List ClauseId) → none_or_all (filter (λ x. same_first h (g x)) xs) xs ≡ true
        → (AllByRecursion (λ x. same_first h (g x) ≡ false) xs → A) → (AllByRecursion (λ x. same_first h (g x) ≡ true) xs → A) → A
    either A h xs e none all = go (nat_eq (length (filter (λ x. same_first h (g x)) xs)) 0) refl e
      where
        go : (b : Bool) → nat_eq (length (filter (λ x. same_first h (g x)) xs)) 0 ≡ b → (b || nat_eq (length (filter (λ x. same_first h (g x)) xs)) (length xs)) ≡ true → A
        go true is k = none (all_fail (λ x. same_first h (g x)) xs (eqb-true (length (filter (λ x. same_first h (g x)) xs)) 0 is))
        go false is k = all (all_pass (λ x. same_first h (g x)) xs (eqb-true (length (filter (λ x. same_first h (g x)) xs)) (length xs) k))

    -- where each has it
    each_matches : (xs : List ClauseId) → AllByRecursion (λ x. same_first f (g x) ≡ true) xs → AllByRecursion (λ x. may_match f (g x) ≡ true) xs
    each_matches xs h = turned (λ x. same_first f (g x) ≡ true) (λ x. may_match f (g x) ≡ true) (λ x e. matching (g x) ∙ ap (λ b. same_first (g x) Any || b) e ∙ or_true (same_first (g x) Any)) xs h

    -- the list for the first arguments that no clause has
    pub in_open : (xs l : List ClauseId) → kept f xs ≡ None → kept Any xs ≡ Some l → l ≡ chosen f xs
    in_open xs l none e = go (none_or_all (filter (λ x. same_first Any (g x)) xs) xs) refl (nat_le (length (filter (λ x. same_first Any (g x)) xs)) most_any) refl e
      where
        empty : AllByRecursion (λ x. same_first f (g x) ≡ true) xs → none_or_all (filter (λ x. same_first Any (g x)) xs) xs ≡ true
        empty h = ap (λ l. none_or_all l xs) (filter_none (λ x. same_first Any (g x)) xs (turned (λ x. same_first f (g x) ≡ true) (λ x. same_first Any (g x) ≡ false) (λ x k. is_other f (g x) other k) xs h))

        opened : AllByRecursion (λ x. same_first f (g x) ≡ false) xs → filter (λ x. belongs Any (g x)) xs ≡ filter (λ x. may_match f (g x)) xs
        opened h = filter_same (λ x. belongs Any (g x)) (λ x. may_match f (g x)) xs
            (turned (λ x. same_first f (g x) ≡ false) (λ x. belongs Any (g x) ≡ may_match f (g x))
            (λ x k. ap (λ b. same_first (g x) Any || b) (sym (any_twice (g x))) ∙ twice (same_first (g x) Any) ∙ sym (matching (g x) ∙ ap (λ b. same_first (g x) Any || b) k ∙ or_false (same_first (g x) Any))) xs h)

        go : (a : Bool) → none_or_all (filter (λ x. same_first Any (g x)) xs) xs ≡ a → (b : Bool) → nat_le (length (filter (λ x. same_first Any (g x)) xs)) most_any ≡ b
            → (if a then None else if b then Some (filter (λ x. belongs Any (g x)) xs) else Some xs) ≡ Some l
            → l ≡ (if b then filter (λ x. may_match f (g x)) xs else xs)
        go true n b i k = absurd (cc)
        go false n true i k =
            let is : filter (λ x. belongs Any (g x)) xs ≡ l = cc in
            sym is ∙ either (filter (λ x. belongs Any (g x)) xs ≡ filter (λ x. may_match f (g x)) xs) f xs (no_list xs none i) opened
            (λ h. absurd (differ (none_or_all (filter (λ x. same_first Any (g x)) xs) xs) (empty h) n))
        go false n false i k = let is : xs ≡ l = cc in sym is

    abbrev FirstSpeaks : ClauseId → List ClauseId → Type 0
    FirstSpeaks x xs = (if may_match f (g x) then x ∷ xs else []) ≡ chosen f (x ∷ xs)

    -- no list: the first clause speaks for all
    pub in_none : (x : ClauseId) (xs : List ClauseId) → kept f (x ∷ xs) ≡ None → kept Any (x ∷ xs) ≡ None → (if may_match f (g x) then x ∷ xs else []) ≡ chosen f (x ∷ xs)
    in_none x xs none open_none =
        either (FirstSpeaks x xs) Any (x ∷ xs) full
        (λ h. either (FirstSpeaks x xs) f (x ∷ xs) (no_list (x ∷ xs) none (indexed h))
        (λ k. let fails = failing h k in
        ap (λ b. if b then x ∷ xs else []) fails.0
        ∙ sym (ap (λ b. if b then filter (λ y. may_match f (g y)) (x ∷ xs) else x ∷ xs) (indexed h) ∙ filter_none (λ y. may_match f (g y)) (x ∷ xs) fails))
        (λ k. all_match (each_matches (x ∷ xs) k)))
        (λ h. all_match (turned (λ y. same_first Any (g y) ≡ true) (λ y. may_match f (g y) ≡ true) (λ y e. matching (g y) ∙ ap (λ b. b || same_first f (g y)) (any_twice (g y) ∙ e)) (x ∷ xs) h))
      where
        full : none_or_all (filter (λ y. same_first Any (g y)) (x ∷ xs)) (x ∷ xs) ≡ true
        full = go (none_or_all (filter (λ y. same_first Any (g y)) (x ∷ xs)) (x ∷ xs)) (nat_le (length (filter (λ y. same_first Any (g y)) (x ∷ xs))) most_any) open_none
          where
            go : (a b : Bool) → (if a then None else if b then Some (filter (λ y. belongs Any (g y)) (x ∷ xs)) else Some (x ∷ xs)) ≡ None → a ≡ true
            go true b k = refl
            go false true k = absurd (cc)
            go false false k = absurd (cc)

        indexed : AllByRecursion (λ y. same_first Any (g y) ≡ false) (x ∷ xs) → nat_le (length (filter (λ y. same_first Any (g y)) (x ∷ xs))) most_any ≡ true
        indexed h = ap (λ (l : List ClauseId). nat_le (length l) most_any) (filter_none (λ y. same_first Any (g y)) (x ∷ xs) h)

        failing : AllByRecursion (λ y. same_first Any (g y) ≡ false) (x ∷ xs) → AllByRecursion (λ y. same_first f (g y) ≡ false) (x ∷ xs) → AllByRecursion (λ y. may_match f (g y) ≡ false) (x ∷ xs)
        failing h k = both (x ∷ xs) h k
          where
            both : (ys : List ClauseId) → AllByRecursion (λ y. same_first Any (g y) ≡ false) ys → AllByRecursion (λ y. same_first f (g y) ≡ false) ys → AllByRecursion (λ y. may_match f (g y) ≡ false) ys
            both [] a b = tt
            both (y ∷ ys) a b = (matching (g y) ∙ ap (λ c. c || same_first f (g y)) (any_twice (g y) ∙ a.0) ∙ b.0, both ys a.1 b.1)

        all_match : AllByRecursion (λ y. may_match f (g y) ≡ true) (x ∷ xs) → FirstSpeaks x xs
        all_match h = ap (λ b. if b then x ∷ xs else []) h.0 ∙ sym (chosen_all f (x ∷ xs) h)

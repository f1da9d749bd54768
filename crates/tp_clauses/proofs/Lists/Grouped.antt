-- The clauses by key and first argument, and the lists that are made of them.
use Rattle.std.proofs.Common.{◌≡◌, ℕ, ◌+◌, ◌<◌, ◌≤◌, nat_eq, nat_le, Bool, true, false, ◌&&◌, ◌||◌, cond, List, [], ◌∷◌, ◌++◌, length, filter, take, slice_get, Option, Some, None, refl, sym, ap, ◌∙◌, arith, if◌then◌else◌}
use Rattle.std.specs.Cmp.{nat_eq_equiv, int_eq_equiv}
use Rattle.std.specs.List.{list_any}
use Rattle.std.proofs.lemmas.List.{append-nil, length-take-le, take_more}
use Rattle.std.proofs.lemmas.Option.{get_or_from_slice_get, slice_get_within}
use Rattle.std.proofs.lemmas.List.Elements.{filter-append}
use Rattle.tp_clauses.specs.Candidates.{belongs, kept_for, list_by, list_for, list_of, merged, none_or_all, same_first_key, with_list}
use Rattle.tp_clauses.specs.Contents.{Contents, is_of, places_from, places_of}
use Rattle.tp_clauses.specs.First.{first_arg, first_of_head, first_of_view, most_any, same_first, with_first}
use Rattle.tp_clauses.specs.Indexed.{same_key}
use Rattle.tp_clauses.specs.Kinds.{key_of}
use Rattle.tp_clauses.specs.declared.base.ClauseId.{ClauseId}
use Rattle.tp_clauses.specs.declared.base.ClauseView.{ClauseView}
use Rattle.tp_clauses.specs.declared.first.FirstArg.{FirstArg}
use Rattle.tp_clauses.specs.declared.first.FirstArg.TheVariants.{Any, Int, Atom, Comp}
use Rattle.tp_clauses.specs.declared.first.FirstKey.{FirstKey}
use Rattle.tp_clauses.proofs.Clauses.Added.{id_at, key_is, places_push}
use Rattle.tp_clauses.proofs.Lists.Merged.{merged-filter, merged-none, places_rise}
use Rattle.tp_clauses.proofs.Lists.Spans.{take_all}

-- ---- the same first argument

-- both ways
pub same_first-sym : (f g : FirstArg) → same_first f g ≡ same_first g f
same_first-sym Any Any = refl
same_first-sym Any (Int n) = refl
same_first-sym Any (Atom b) = refl
same_first-sym Any (Comp g n) = refl
same_first-sym (Int m) Any = refl
same_first-sym (Int m) (Int n) = int_eq_equiv.symm m n
same_first-sym (Int m) (Atom b) = refl
same_first-sym (Int m) (Comp g n) = refl
same_first-sym (Atom a) Any = refl
same_first-sym (Atom a) (Int n) = refl
same_first-sym (Atom a) (Atom b) = nat_eq_equiv.symm a.at b.at
same_first-sym (Atom a) (Comp g n) = refl
same_first-sym (Comp f m) Any = refl
same_first-sym (Comp f m) (Int n) = refl
same_first-sym (Comp f m) (Atom b) = refl
same_first-sym (Comp f m) (Comp g n) = ap (λ b. b && nat_eq m n) (nat_eq_equiv.symm f.at g.at) ∙ ap (λ b. nat_eq g.at f.at && b) (nat_eq_equiv.symm m n)

-- ---- one clause more in its group

-- the clauses of a group among the first so many
abbrev pub group_of : Contents → ℕ → FirstKey → List ClauseId
group_of c n k = filter (λ id. same_first k.first (first_arg c id)) (places_from k.key.name k.key.arity c.cells 0 (take n c.clauses))

-- a list that grows by one where a test passes
filter_grows : (p : ClauseId → Bool) (old new : List ClauseId) (id : ClauseId) (b d : Bool) → p id ≡ d → new ≡ (if b then old ++ id ∷ [] else old) → filter p new ≡ (if b && d then filter p old ++ id ∷ [] else filter p old)
filter_grows p old new id true d e grown =
    ap (filter p) grown ∙ filter-append p old (id ∷ []) ∙ ap (λ t. filter p old ++ cond t (id ∷ []) []) e ∙ by d
  where
    by : (d : Bool) → filter p old ++ cond d (id ∷ []) [] ≡ (if d then filter p old ++ id ∷ [] else filter p old)
    by true = refl
    by false = append-nil (filter p old)
filter_grows p old new id false d e grown = ap (filter p) grown

-- ---- lists of keys

-- what is kept for the keys so far
abbrev pub kept_so_far : Contents → List FirstKey → FirstKey → Option (List ClauseId)
kept_so_far c keys k = if list_any (same_first_key k) keys then kept_for k c else None

-- ---- the list of a key

same_false : (b : Bool) → b ≡ true → b ≡ false → ⊥
same_false true e f = absurd (cc)
same_false false e f = absurd (cc)

-- what has a first argument other than any isn't any
apart : (f x : FirstArg) → same_first f Any ≡ false → same_first f x ≡ true → same_first Any x ≡ false
apart f Any n e = absurd (same_false (same_first f Any) e n)
apart f (Int m) n e = refl
apart f (Atom a) n e = refl
apart f (Comp g m) n e = refl

filter_ext : (p q : ClauseId → Bool) → ((x : ClauseId) → p x ≡ q x) → (xs : List ClauseId) → filter p xs ≡ filter q xs
filter_ext p q h [] = refl
filter_ext p q h (x ∷ xs) = ap (λ b. cond b (x ∷ filter p xs) (filter p xs)) (h x) ∙ ap (λ l. cond (q x) (x ∷ l) l) (filter_ext p q h xs)

-- the list that is made for a key is the one that is to be kept
pub list_kept : (c : Contents) (k : FirstKey) → list_for k.first (with_first k.key.name k.key.arity k.first c) (with_first k.key.name k.key.arity Any c) (places_of k.key.name k.key.arity c) ≡ kept_for k c
list_kept c k = ap (λ o. if none_or_all (with_first k.key.name k.key.arity k.first c) all then None else o) (go (nat_le (length (with_first k.key.name k.key.arity Any c)) most_any) k.first)
  where
    all : List ClauseId
    all = places_of k.key.name k.key.arity c

    own : FirstArg → List ClauseId
    own f = filter (λ id. same_first f (first_arg c id)) all

    turned : (id : ClauseId) → same_first Any (first_arg c id) ≡ same_first (first_arg c id) Any
    turned id = same_first-sym Any (first_arg c id)

    both : (f : FirstArg) → same_first f Any ≡ false → merged (own f) (own Any) ≡ filter (λ id. belongs f (first_arg c id)) all
    both f n =
        merged-filter (λ id. same_first f (first_arg c id)) (λ id. same_first Any (first_arg c id)) (λ id e. apart f (first_arg c id) n e) all (places_rise k.key.name k.key.arity c.cells 0 c.clauses)
        ∙ filter_ext (λ id. same_first Any (first_arg c id) || same_first f (first_arg c id)) (λ id. belongs f (first_arg c id)) (λ id. ap (λ b. b || same_first f (first_arg c id)) (turned id)) all

    twice : (b : Bool) → b ≡ (b || b)
    twice true = refl
    twice false = refl

    any : (id : ClauseId) → same_first Any (first_arg c id) ≡ belongs Any (first_arg c id)
    any id = twice (same_first Any (first_arg c id)) ∙ ap (λ b. b || same_first Any (first_arg c id)) (turned id)

    go : (b : Bool) (f : FirstArg) → list_by b f (own f) (own Any) all ≡ (if b then Some (filter (λ id. belongs f (first_arg c id)) all) else if same_first f Any then Some all else None)
    go true Any = ap Some (merged-none (own Any) ∙ filter_ext (λ id. same_first Any (first_arg c id)) (λ id. belongs Any (first_arg c id)) any all)
    go true (Int n) = ap Some (both (Int n) refl)
    go true (Atom a) = ap Some (both (Atom a) refl)
    go true (Comp g n) = ap Some (both (Comp g n) refl)
    go false Any = ap Some (merged-none all)
    go false (Int n) = refl
    go false (Atom a) = refl
    go false (Comp g n) = refl

-- ---- one list more

or_true : (b : Bool) → (b || true) ≡ true
or_true true = refl
or_true false = refl

-- a turn of the loop over the keys: what is kept for the keys so far, and for one more
pub kept_more : (c : Contents) (keys : List FirstKey) (key k : FirstKey) (old new : Option (List ClauseId)) → (same_first_key key k ≡ true → key ≡ k) → same_first_key k key ≡ same_first_key key k
    → old ≡ kept_so_far c keys k → new ≡ with_list (kept_for key c) (same_first_key key k) old → new ≡ kept_so_far c (keys ++ key ∷ []) k
kept_more c keys key k old new one turned before now = now ∙ ap (with_list (kept_for key c) (same_first_key key k)) before ∙ go (same_first_key key k) refl (list_any (same_first_key k) keys) refl ∙ sym (ap (λ b. if b then kept_for k c else None) (any_push keys))
  where
    any_push : (js : List FirstKey) → list_any (same_first_key k) (js ++ key ∷ []) ≡ (list_any (same_first_key k) js || same_first_key key k)
    any_push [] = ap (λ b. b || false) turned ∙ last (same_first_key key k)
      where
        last : (b : Bool) → (b || false) ≡ (false || b)
        last true = refl
        last false = refl
    any_push (j ∷ js) = ap (λ b. same_first_key k j || b) (any_push js) ∙ assoc (same_first_key k j) (list_any (same_first_key k) js) (same_first_key key k)
      where
        assoc : (a b d : Bool) → (a || (b || d)) ≡ ((a || b) || d)
        assoc true b d = refl
        assoc false b d = refl

    absent : (o : Option (List ClauseId)) (b : Bool) → with_list o false (if b then kept_for k c else None) ≡ (if b || false then kept_for k c else None)
    absent None true = refl
    absent None false = refl
    absent (Some l) true = refl
    absent (Some l) false = refl

    present : (o : Option (List ClauseId)) (b : Bool) → o ≡ kept_for k c → with_list o true (if b then kept_for k c else None) ≡ (if b || true then kept_for k c else None)
    present None true e = refl
    present None false e = e
    present (Some l) true e = e
    present (Some l) false e = e

    go : (s : Bool) → same_first_key key k ≡ s → (b : Bool) → list_any (same_first_key k) keys ≡ b → with_list (kept_for key c) (same_first_key key k) (if list_any (same_first_key k) keys then kept_for k c else None) ≡ (if list_any (same_first_key k) keys || same_first_key key k then kept_for k c else None)
    go true s b e =
        ap (λ t. with_list (kept_for key c) t (if list_any (same_first_key k) keys then kept_for k c else None)) s
        ∙ present (kept_for key c) (list_any (same_first_key k) keys) (ap (λ j. kept_for j c) (one s))
        ∙ sym (ap (λ t. if list_any (same_first_key k) keys || t then kept_for k c else None) s)
    go false s b e =
        ap (λ t. with_list (kept_for key c) t (if list_any (same_first_key k) keys then kept_for k c else None)) s
        ∙ absent (kept_for key c) (list_any (same_first_key k) keys)
        ∙ sym (ap (λ t. if list_any (same_first_key k) keys || t then kept_for k c else None) s)

-- a key that no group has is kept nothing for
pub kept_absent : (c : Contents) (k : FirstKey) → with_first k.key.name k.key.arity k.first c ≡ [] → kept_for k c ≡ None
kept_absent c k none = ap (λ l. if none_or_all l (places_of k.key.name k.key.arity c) then None else list_of k c) none

-- ---- groups

-- the clause at a place joins the group of its key and its first argument
module _ (c : Contents) (at : ℕ) (v : ClauseView) (key : FirstKey) (here : slice_get c.clauses at ≡ Some v) (keyed : key_of (slice_get c.cells v.head.at) ≡ Some key.key) (first : key.first ≡ first_of_head c.cells (slice_get c.cells v.head.at)) where
  abbrev id : ClauseId
  id = record { at = at }

  its_first : first_arg c id ≡ key.first
  its_first = ap (first_of_view c.cells) here ∙ sym first

  pub group_more : (k : FirstKey) → group_of c (at + 1) k ≡ (if same_first_key key k then group_of c at k ++ id ∷ [] else group_of c at k)
  group_more k =
      filter_grows (λ i. same_first k.first (first_arg c i)) (places at) (places (at + 1)) id (same_key key.key k.key) (same_first key.first k.first)
      (ap (same_first k.first) its_first ∙ same_first-sym k.first key.first)
      (ap (places_from k.key.name k.key.arity c.cells 0) taken ∙ places_push k.key.name k.key.arity c.cells 0 (take at c.clauses) v
      ∙ ap (λ n. if is_of k.key.name k.key.arity c.cells v then places at ++ id_at n ∷ [] else places at) long
      ∙ ap (λ b. if b then places at ++ id ∷ [] else places at) (key_is (slice_get c.cells v.head.at) key.key k.key.name k.key.arity keyed))
    where
      places : ℕ → List ClauseId
      places n = places_from k.key.name k.key.arity c.cells 0 (take n c.clauses)

      within : at < length c.clauses
      within = slice_get_within c.clauses at v here

      taken : take (at + 1) c.clauses ≡ take at c.clauses ++ v ∷ []
      taken = take_more c.clauses at v within ∙ ap (λ x. take at c.clauses ++ x ∷ []) (get_or_from_slice_get c.clauses at v v here)

      long : 0 + length (take at c.clauses) ≡ at
      long = let e : length (take at c.clauses) ≡ at = length-take-le at c.clauses (omega (arith, within)) in omega (arith, e)

-- in the end each group is whole
pub groups_whole : (c : Contents) (n : ℕ) (k : FirstKey) → length c.clauses ≤ n → group_of c n k ≡ with_first k.key.name k.key.arity k.first c
groups_whole c n k all = ap (λ vs. filter (λ i. same_first k.first (first_arg c i)) (places_from k.key.name k.key.arity c.cells 0 vs)) (take_all c.clauses n all)

-- Lists one behind another in one vector.
use Rattle.std.proofs.Common.{◌≡◌, ℕ, zero, suc, ◌+◌, ◌-◌, ◌<◌, ◌≤◌, Bool, true, false, cond, List, [], ◌∷◌, ◌++◌, length, take, drop, get_or, slice_get, Option, Some, None, option_map, IfSome, refl, sym, ap, subst, ◌∙◌, arith, length-append, if◌then◌else◌}
use Rattle.std.specs.Map.{lookup}
use Rattle.std.proofs.lemmas.List.{append_assoc, drop-append-le, take-append-le, length-drop}
use Rattle.std.proofs.lemmas.Option.{slice_get-get_or, slice_get_within}
use Rattle.std.proofs.Math.Seq.{drop-append_seam}
use Rattle.tp_clauses.specs.Candidates.{AreWithin, comes_first, in_span, listed_in, merged, merged_before, same_first_key}
use Rattle.tp_clauses.specs.declared.base.ClauseId.{ClauseId}
use Rattle.tp_clauses.specs.declared.candidates.Candidates.{Candidates}
use Rattle.tp_clauses.specs.declared.candidates.Span.{Span}
use Rattle.tp_clauses.specs.declared.first.FirstKey.{FirstKey}

-- ---- a span

-- so much of a list that it is all of it
pub take_all : {X : Type 0} (xs : List X) (n : ℕ) → length xs ≤ n → take n xs ≡ xs
take_all [] zero l = refl
take_all [] (suc n) l = refl
take_all (x ∷ xs) zero l = absurd (omega arith)
take_all (x ∷ xs) (suc n) l = ap (λ t. x ∷ t) (take_all xs n (omega arith))

-- the list of a span stays when more is added
in_span-more : (ids more : List ClauseId) (s : Span) → (s.from ≤ s.to) × (s.to ≤ length ids) → in_span (ids ++ more) s ≡ in_span ids s
in_span-more ids more s h =
    ap (take (s.to - s.from)) (drop-append-le s.from ids more (let a = h.0 in let b = h.1 in omega (arith, a, b)))
    ∙ take-append-le (s.to - s.from) (drop s.from ids) more (let a = h.0 in let b = h.1 in omega (arith, a, b, length-drop s.from ids))

-- the list that was added last is that of its span
in_span-last : (ids more : List ClauseId) (s : Span) → s.from ≡ length ids → s.to ≡ length (ids ++ more) → in_span (ids ++ more) s ≡ more
in_span-last ids more s from to =
    ap (λ n. take (s.to - n) (drop n (ids ++ more))) from
    ∙ ap (take (s.to - length ids)) (drop-append_seam ids more)
    ∙ take_all more (s.to - length ids) (omega (arith, to, length-append ids more))

-- ---- one list more

module _ (old new : Candidates) (key : FirstKey) (s : Span) (more : List ClauseId) (added : new.ids.items ≡ old.ids.items ++ more) (from : s.from ≡ length old.ids.items) (to : s.to ≡ length new.ids.items)
    (put : (k : FirstKey) → lookup (same_first_key k) new.spans.entries ≡ cond (same_first_key key k) (Some s) (lookup (same_first_key k) old.spans.entries)) (within : AreWithin old) where
  long : length new.ids.items ≡ length old.ids.items + length more
  long = ap length added ∙ length-append old.ids.items more

  -- every list lies within, and the key has the new one
  pub within_added : AreWithin new
  within_added k = subst (λ (o : Option Span). IfSome o (λ s. (s.from ≤ s.to) × (s.to ≤ length new.ids.items))) (sym (put k)) (go (same_first_key key k) (lookup (same_first_key k) old.spans.entries) (within k))
    where
      go : (b : Bool) (o : Option Span) → IfSome o (λ s. (s.from ≤ s.to) × (s.to ≤ length old.ids.items)) → IfSome (cond b (Some s) o) (λ s. (s.from ≤ s.to) × (s.to ≤ length new.ids.items))
      go true o h = (omega (arith, from, to, long), omega (arith, to))
      go false None h = tt
      go false (Some t) h = (h.0, let b = h.1 in omega (arith, b, long))

  pub listed_added : (k : FirstKey) → listed_in new k ≡ (if same_first_key key k then Some more else listed_in old k)
  unfolding listed_in
  listed_added k = ap (option_map (in_span new.ids.items)) (put k) ∙ go (same_first_key key k) (lookup (same_first_key k) old.spans.entries) (within k)
    where
      go : (b : Bool) (o : Option Span) → IfSome o (λ s. (s.from ≤ s.to) × (s.to ≤ length old.ids.items)) → option_map (in_span new.ids.items) (cond b (Some s) o) ≡ (if b then Some more else option_map (in_span old.ids.items) o)
      go true o h = ap Some (ap (λ ids. in_span ids s) added ∙ in_span-last old.ids.items more s from (to ∙ ap length added))
      go false None h = refl
      go false (Some t) h = ap Some (ap (λ ids. in_span ids t) added ∙ in_span-more old.ids.items more t h)

-- ---- two lists as one

drop_some : {X : Type 0} (xs : List X) (i : ℕ) (x : X) → slice_get xs i ≡ Some x → drop i xs ≡ x ∷ drop (i + 1) xs
drop_some [] i x e = absurd (cc)
drop_some (y ∷ ys) zero x e = let same : y ≡ x = cc in ap (λ z. z ∷ ys) same
drop_some (y ∷ ys) (suc i) x e = drop_some ys i x e ∙ ap (λ n. x ∷ drop n (y ∷ ys)) (let s : suc (i + 1) ≡ suc i + 1 = omega arith in s)

head_is : {X : Type 0} (xs : List X) (i : ℕ) → slice_get xs i ≡ slice_get (drop i xs) 0
head_is [] zero = refl
head_is [] (suc i) = refl
head_is (y ∷ ys) zero = refl
head_is (y ∷ ys) (suc i) = head_is ys i

merged-own : (a : ClauseId) (xs bs : List ClauseId) → comes_first (Some a) (slice_get bs 0) ≡ true → merged (a ∷ xs) bs ≡ a ∷ merged xs bs
merged-own a xs [] e = refl
merged-own a xs (b ∷ bs) e = ap (λ t. if t then a ∷ merged xs (b ∷ bs) else b ∷ merged_before a (merged xs) bs) e

merged-other : (xs : List ClauseId) (b : ClauseId) (bs : List ClauseId) → comes_first (slice_get xs 0) (Some b) ≡ false → merged xs (b ∷ bs) ≡ b ∷ merged xs bs
merged-other [] b bs e = refl
merged-other (a ∷ xs) b bs e = ap (λ t. if t then a ∷ merged xs (b ∷ bs) else b ∷ merged_before a (merged xs) bs) e

module _ (all now new own others : List ClauseId) (at behind : ℕ) (so_far : now ++ merged (drop at own) (drop behind others) ≡ all) where
  -- a turn that takes the next of the first list
  pub own_turn : (a : ClauseId) → slice_get own at ≡ Some a → comes_first (slice_get own at) (slice_get others behind) ≡ true → new ≡ now ++ a ∷ [] → new ++ merged (drop (at + 1) own) (drop behind others) ≡ all
  own_turn a here first pushed =
      ap (λ l. l ++ merged (drop (at + 1) own) (drop behind others)) pushed
      ∙ append_assoc now (a ∷ []) (merged (drop (at + 1) own) (drop behind others))
      ∙ ap (λ l. now ++ l) (sym (ap (λ l. merged l (drop behind others)) (drop_some own at a here)
      ∙ merged-own a (drop (at + 1) own) (drop behind others) (ap (comes_first (Some a)) (sym (head_is others behind)) ∙ sym (ap (λ o. comes_first o (slice_get others behind)) here) ∙ first)))
      ∙ so_far

  -- and one that takes the next of the other
  pub other_turn : (b : ClauseId) → slice_get others behind ≡ Some b → comes_first (slice_get own at) (slice_get others behind) ≡ false → new ≡ now ++ b ∷ [] → new ++ merged (drop at own) (drop (behind + 1) others) ≡ all
  other_turn b here second pushed =
      ap (λ l. l ++ merged (drop at own) (drop (behind + 1) others)) pushed
      ∙ append_assoc now (b ∷ []) (merged (drop at own) (drop (behind + 1) others))
      ∙ ap (λ l. now ++ l) (sym (ap (merged (drop at own)) (drop_some others behind b here)
      ∙ merged-other (drop at own) b (drop (behind + 1) others) (ap (λ o. comes_first o (Some b)) (sym (head_is own at)) ∙ sym (ap (comes_first (slice_get own at)) here) ∙ second)))
      ∙ so_far

-- the first list has a place where its next comes first
pub own_within : (own : List ClauseId) (at : ℕ) (p : Option ClauseId) → comes_first (slice_get own at) p ≡ true → at < length own
own_within own at p e = go (slice_get own at) refl e
  where
    go : (o : Option ClauseId) → slice_get own at ≡ o → comes_first o p ≡ true → at < length own
    go None is f = absurd (cc)
    go (Some a) is f = slice_get_within own at a is

-- else the other has one, while one of them has
pub other_within : (own others : List ClauseId) (at behind : ℕ) → comes_first (slice_get own at) (slice_get others behind) ≡ false → at ≤ length own → behind ≤ length others → at + behind < length own + length others → behind < length others
other_within own others at behind e a b more = go (slice_get own at) refl (slice_get others behind) refl e
  where
    past : {X : Type 0} (xs : List X) (i : ℕ) → slice_get xs i ≡ None → length xs ≤ i
    past [] i f = omega arith
    past (x ∷ xs) zero f = absurd (cc)
    past (x ∷ xs) (suc i) f = let h = past xs i f in omega (arith, h)

    go : (o : Option ClauseId) → slice_get own at ≡ o → (p : Option ClauseId) → slice_get others behind ≡ p → comes_first o p ≡ false → behind < length others
    go o is (Some x) here f = slice_get_within others behind x here
    go None is None here f = let h = past own at is in omega (arith, h, a, b, more)
    go (Some x) is None here f = absurd (cc)

-- a turn of merging
module _ (all now new own others : List ClauseId) (at next count : ℕ) (so_far : now ++ merged (drop at own) (drop (count - at) others) ≡ all) (before : at ≤ count) where
  pub own_step : comes_first (slice_get own at) (slice_get others (count - at)) ≡ true → new ≡ now ++ get_or own at (record { at = 0 }) ∷ [] → next ≡ at + 1 → new ++ merged (drop next own) (drop (count + 1 - next) others) ≡ all
  own_step first pushed moved =
      ap (λ n. new ++ merged (drop n own) (drop (count + 1 - n) others)) moved
      ∙ ap (λ n. new ++ merged (drop (at + 1) own) (drop n others)) (let e : count + 1 - (at + 1) ≡ count - at = omega arith in e)
      ∙ own_turn all now new own others at (count - at) so_far (get_or own at (record { at = 0 })) (slice_get-get_or own at (record { at = 0 }) (own_within own at (slice_get others (count - at)) first)) first pushed

  pub other_step : comes_first (slice_get own at) (slice_get others (count - at)) ≡ false → count - at < length others → new ≡ now ++ get_or others (count - at) (record { at = 0 }) ∷ [] → next ≡ at → new ++ merged (drop next own) (drop (count + 1 - next) others) ≡ all
  other_step second within pushed moved =
      ap (λ n. new ++ merged (drop n own) (drop (count + 1 - n) others)) moved
      ∙ ap (λ n. new ++ merged (drop at own) (drop n others)) (let e : count + 1 - at ≡ (count - at) + 1 = omega (arith, before) in e)
      ∙ other_turn all now new own others at (count - at) so_far (get_or others (count - at) (record { at = 0 })) (slice_get-get_or others (count - at) (record { at = 0 }) within) second pushed

-- the span of a key lies within
pub span_within : (c : Candidates) (o : Option Span) (s : Span) → IfSome o (λ s. (s.from ≤ s.to) × (s.to ≤ length c.ids.items)) → Some s ≡ o → (s.from ≤ s.to) × (s.to ≤ length c.ids.items)
span_within c o s h e = subst (λ (p : Option Span). IfSome p (λ s. (s.from ≤ s.to) × (s.to ≤ length c.ids.items))) (sym e) h

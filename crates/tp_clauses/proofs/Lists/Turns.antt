-- A turn of each loop that makes the lists of a base, and its end.
use Rattle.std.proofs.Common.{◌≡◌, ℕ, ◌+◌, ◌≤◌, Bool, true, false, ◌||◌, cond, List, [], ◌∷◌, ◌++◌, length, take, slice_get, Some, None, refl, sym, ap, ◌∙◌, if◌then◌else◌}
use Rattle.std.specs.List.{list_any}
use Rattle.std.specs.Map.{lookup, keys_of}
use Rattle.std.specs.Option.{option_map_or}
use Rattle.std.proofs.lemmas.List.{take_more}
use Rattle.std.proofs.lemmas.Option.{get_or_from_slice_get, slice_get_within}
use Rattle.tp_clauses.specs.Candidates.{AreWithin, HasLists, IsGrouped, kept_for, list_for, listed_in, same_first_key, with_list}
use Rattle.tp_clauses.specs.Contents.{Contents, places_of}
use Rattle.tp_clauses.specs.First.{first_of_head, with_first}
use Rattle.tp_clauses.specs.Indexed.{ids_in, keys_in}
use Rattle.tp_clauses.specs.Kinds.{key_of}
use Rattle.tp_clauses.specs.declared.base.ClauseId.{ClauseId}
use Rattle.tp_clauses.specs.declared.base.ClauseView.{ClauseView}
use Rattle.tp_clauses.specs.declared.candidates.Candidates.{Candidates}
use Rattle.tp_clauses.specs.declared.first.FirstArg.TheVariants.{Any}
use Rattle.tp_clauses.specs.declared.first.FirstKey.{FirstKey}
use Rattle.tp_clauses.specs.declared.index.Index.{Index}
use Rattle.tp_clauses.proofs.Lists.Chosen.{key_with}
use Rattle.tp_clauses.proofs.Lists.Grouped.{group_more, group_of, kept_absent, kept_more, kept_so_far, list_kept}
use Rattle.tp_clauses.proofs.Lists.Keys.{derived_test, first_key-sym, ids_in-keys, key_test, one_first_key}
use Rattle.tp_clauses.proofs.Lists.Spans.{take_all}

-- one clause more in its group
module _ (c : Contents) (at : ℕ) (v : ClauseView) (key : FirstKey) (here : slice_get c.clauses at ≡ Some v) (keyed : key_of (slice_get c.cells v.head.at) ≡ Some key.key) (first : key.first ≡ first_of_head c.cells (slice_get c.cells v.head.at)) where
  pub group_turn : (old new : Index FirstKey) → ((k : FirstKey) → ids_in derived_test new k ≡ (if derived_test key k then ids_in derived_test old k ++ (record { at = at }) ∷ [] else ids_in derived_test old k)) → ((k : FirstKey) → ids_in same_first_key old k ≡ group_of c at k) → (k : FirstKey) → ids_in same_first_key new k ≡ group_of c (at + 1) k
  group_turn old new added so_far k =
      sym (ids_in-keys new k) ∙ added k
      ∙ ap (λ b. if b then ids_in derived_test old k ++ (record { at = at }) ∷ [] else ids_in derived_test old k) (key_test key k)
      ∙ ap (λ l. if same_first_key key k then l ++ (record { at = at }) ∷ [] else l) (ids_in-keys old k ∙ so_far k)
      ∙ sym (group_more c at v key here keyed first k)

-- one list more
module _ (c : Contents) (groups : Index FirstKey) (h : IsGrouped c groups) where
  pub list_turn : (at : ℕ) (key : FirstKey) (own others all : List ClauseId) (old new : Candidates) → slice_get (keys_in groups) at ≡ Some key → own ≡ ids_in derived_test groups key → others ≡ ids_in derived_test groups (key_with key.key Any) → all ≡ places_of key.key.name key.key.arity c
      → ((k : FirstKey) → listed_in new k ≡ with_list (list_for key.first own others all) (same_first_key key k) (listed_in old k))
      → ((k : FirstKey) → listed_in old k ≡ kept_so_far c (take at (keys_in groups)) k)
      → (k : FirstKey) → listed_in new k ≡ kept_so_far c (take (at + 1) (keys_in groups)) k
  list_turn at key own others all old new here its rest whole listed so_far k =
      kept_more c (take at (keys_in groups)) key k (listed_in old k) (listed_in new k) (one_first_key key k) (first_key-sym k key) (so_far k)
      (listed k ∙ ap (λ o. with_list o (same_first_key key k) (listed_in old k)) made)
      ∙ ap (λ keys. kept_so_far c keys k) (sym (take_more (keys_in groups) at key (slice_get_within (keys_in groups) at key here) ∙ ap (λ x. take at (keys_in groups) ++ x ∷ []) (get_or_from_slice_get (keys_in groups) at key key here)))
    where
      made : list_for key.first own others all ≡ kept_for key c
      made =
          ap (λ l. list_for key.first l others all) (its ∙ ids_in-keys groups key ∙ h key)
          ∙ ap (λ l. list_for key.first (with_first key.key.name key.key.arity key.first c) l all) (rest ∙ ids_in-keys groups (key_with key.key Any) ∙ h (key_with key.key Any))
          ∙ ap (list_for key.first (with_first key.key.name key.key.arity key.first c) (with_first key.key.name key.key.arity Any c)) whole
          ∙ list_kept c key

  -- a key that isn't among the keys has nothing
  absent : {X : Type 0} (p : FirstKey → Bool) (es : List (FirstKey × X)) → list_any p (keys_of es) ≡ false → lookup p es ≡ None
  absent p [] e = refl
  absent p (x ∷ es) e = go (p x.0) refl e (absent p es)
    where
      go : (b : Bool) → p x.0 ≡ b → (b || list_any p (keys_of es)) ≡ false → (list_any p (keys_of es) ≡ false → lookup p es ≡ None) → cond (p x.0) (Some x.1) (lookup p es) ≡ None
      go true is f rest = absurd (cc)
      go false is f rest = ap (λ b. cond b (Some x.1) (lookup p es)) is ∙ rest f

  no_ids : (k : FirstKey) → list_any (same_first_key k) (keys_in groups) ≡ false → ids_in same_first_key groups k ≡ []
  unfolding ids_in
  no_ids k e = ap (λ o. option_map_or (λ ids. ids.items) o []) (absent (same_first_key k) groups.places.entries e)

  -- in the end each list that is to be kept is
  pub lists_whole : (lists : Candidates) (n : ℕ) → length (keys_in groups) ≤ n → AreWithin lists → ((k : FirstKey) → listed_in lists k ≡ kept_so_far c (take n (keys_in groups)) k) → HasLists c lists
  lists_whole lists n all within so_far = record {
    within = within;
    kept = λ k. so_far k ∙ ap (λ keys. kept_so_far c keys k) (take_all (keys_in groups) n all) ∙ go k (list_any (same_first_key k) (keys_in groups)) refl;
  }
    where
      go : (k : FirstKey) (b : Bool) → list_any (same_first_key k) (keys_in groups) ≡ b → kept_so_far c (keys_in groups) k ≡ kept_for k c
      go k true e = ap (λ b. if b then kept_for k c else None) e
      go k false e = ap (λ b. if b then kept_for k c else None) e ∙ sym (kept_absent c k (sym (h k) ∙ no_ids k e))

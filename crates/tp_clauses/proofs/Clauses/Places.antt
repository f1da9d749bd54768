-- What an index has for a key after one more place.
use Rattle.std.proofs.Common.{◌≡◌, Bool, true, false, List, [], ◌∷◌, ◌++◌, cond, nat_eq, ◌&&◌, Option, Some, Vec, Global, refl, sym, ap, ◌∙◌}
use Rattle.std.specs.Cmp.{IsEquivalence}
use Rattle.std.specs.Map.{lookup}
use Rattle.std.specs.Option.{option_map_or}
use Rattle.std.proofs.lemmas.Bool.{eqb-true}
use Rattle.tp_terms.specs.declared.cells.AtomId.{AtomId}
use Rattle.tp_clauses.specs.declared.base.ClauseId.{ClauseId}
use Rattle.tp_clauses.specs.declared.kind.Key.{Key}
use Rattle.tp_clauses.specs.Indexed.{ids_in, same_key}
use Rattle.tp_clauses.specs.declared.index.Index.{Index}

both : (a b : Bool) → (a && b) ≡ true → (a ≡ true) × (b ≡ true)
both true b e = (refl, e)
both false b e = absurd (cc)

-- keys with the same parts are one key
pub one_key : (j k : Key) → same_key j k ≡ true → j ≡ k
one_key j k e =
    let h = both (nat_eq j.name.at k.name.at) (nat_eq j.arity k.arity) e in
    let name : j.name ≡ k.name = ap (λ n. let a : AtomId = record { at = n } in a) (eqb-true j.name.at k.name.at h.0) in
    let keys : ◌≡◌ {A = Key} (record { name = j.name; arity = j.arity }) (record { name = k.name; arity = k.arity }) = ap (λ (n : AtomId). let r : Key = record { name = n; arity = j.arity } in r) name ∙ ap (λ n. let r : Key = record { name = k.name; arity = n } in r) (eqb-true j.arity k.arity h.1) in
    keys

abbrev pub found_ids : Option (Vec ClauseId Global) → List ClauseId
found_ids o = option_map_or (λ ids. ids.items) o []

-- tests that answer the same find the same
pub lookup-ext : {K X : Type 0} (p q : K → Bool) → ((k : K) → p k ≡ q k) → (es : List (K × X)) → lookup p es ≡ lookup q es
lookup-ext p q h [] = refl
lookup-ext p q h (e ∷ es) = ap (λ b. cond b (Some e.1) (lookup p es)) (h e.0) ∙ ap (λ o. cond (q e.0) (Some e.1) o) (lookup-ext p q h es)

-- and so do indexes
pub ids_in-ext : {K : Type 0} (p q : K → K → Bool) → ((j k : K) → p j k ≡ q j k) → (index : Index K) (k : K) → ids_in p index k ≡ ids_in q index k
unfolding ids_in
ids_in-ext p q h index k = ap (λ o. option_map_or (λ ids. ids.items) o []) (lookup-ext (p k) (q k) (h k) index.places.entries)

module _ {K : Type 0} (same : K → K → Bool) (laws : IsEquivalence same) where
  -- the same is found for keys that are the same
  pub lookup-same : {X : Type 0} (j k : K) → same j k ≡ true → (es : List (K × X)) → lookup (same j) es ≡ lookup (same k) es
  lookup-same j k e [] = refl
  lookup-same j k e (x ∷ es) =
      ap (λ b. cond b (Some x.1) (lookup (same j) es)) (laws.congr j k x.0 e)
      ∙ ap (λ o. cond (same k x.0) (Some x.1) o) (lookup-same j k e es)

  -- what a key has after one more place
  pub id_added : (key k : K) (id : ClauseId) (old : List (K × Vec ClauseId Global)) (new : Option (Vec ClauseId Global)) (w : Vec ClauseId Global) → w.items ≡ found_ids (lookup (same key) old) ++ id ∷ [] → new ≡ cond (same key k) (Some w) (lookup (same k) old)
      → found_ids new ≡ cond (same key k) (found_ids (lookup (same k) old) ++ id ∷ []) (found_ids (lookup (same k) old))
  id_added key k id old new w more e = go (same key k) refl
    where
      go : (b : Bool) → same key k ≡ b → found_ids new ≡ cond (same key k) (found_ids (lookup (same k) old) ++ id ∷ []) (found_ids (lookup (same k) old))
      go true is =
          ap found_ids (e ∙ ap (λ b. cond b (Some w) (lookup (same k) old)) is) ∙ more
          ∙ ap (λ o. found_ids o ++ id ∷ []) (lookup-same key k is old)
          ∙ ap (λ b. cond b (found_ids (lookup (same k) old) ++ id ∷ []) (found_ids (lookup (same k) old))) (sym is)
      go false is =
          ap found_ids (e ∙ ap (λ b. cond b (Some w) (lookup (same k) old)) is)
          ∙ ap (λ b. cond b (found_ids (lookup (same k) old) ++ id ∷ []) (found_ids (lookup (same k) old))) (sym is)

-- A copy of a term has new variables alone.
use Rattle.std.proofs.Common.{◌≡◌, ℕ, suc, ◌+◌, ◌<◌, Bool, true, false, ◌||◌, nat_eq, List, [], ◌∷◌, ◌++◌, length, refl, arith, if◌then◌else◌}
use Rattle.std.specs.List.{list_any}
use Rattle.std.proofs.lemmas.Bool.{eq-eqb}
use Rattle.tp_terms.specs.Term.{Term, Terms, Var, Int, Atom, Comp, NoMore, More, replaced, all_replaced}
use Rattle.tp_meaning.specs.Copy.{with_variable, variables_after, all_variables_after, place_in, copy_of}
use Rattle.tp_meaning.specs.Valid.{Below, AllBelow}

-- a variable that is in a list
Has : List ℕ → ℕ → Type 0
Has vs v = place_in vs v < length vs

has-more : (vs ws : List ℕ) (v : ℕ) → Has vs v → Has (vs ++ ws) v
unfolding Has
has-more [] ws v h = absurd (omega arith)
has-more (x ∷ xs) ws v h = go (nat_eq v x) (has-more xs ws v) h
  where
    go : (c : Bool) → (place_in xs v < length xs → place_in (xs ++ ws) v < length (xs ++ ws)) → (if c then 0 else suc (place_in xs v)) < suc (length xs) → (if c then 0 else suc (place_in (xs ++ ws) v)) < suc (length (xs ++ ws))
    go true r h = omega arith
    go false r h = let k = r (omega arith) in omega arith

has-added : (vs : List ℕ) (v : ℕ) → Has (vs ++ v ∷ []) v
unfolding Has
has-added [] v = rw (eq-eqb v v refl) (omega arith)
has-added (x ∷ xs) v = go (nat_eq v x) (has-added xs v)
  where
    go : (c : Bool) → place_in (xs ++ v ∷ []) v < length (xs ++ v ∷ []) → (if c then 0 else suc (place_in (xs ++ v ∷ []) v)) < suc (length (xs ++ v ∷ []))
    go true h = omega arith
    go false h = omega arith

has-found : (vs : List ℕ) (v : ℕ) → list_any (nat_eq v) vs ≡ true → Has vs v
unfolding Has
has-found [] v h = absurd (cc)
has-found (x ∷ xs) v h = go (nat_eq v x) (has-found xs v) h
  where
    go : (c : Bool) → (list_any (nat_eq v) xs ≡ true → place_in xs v < length xs) → (c || list_any (nat_eq v) xs) ≡ true → (if c then 0 else suc (place_in xs v)) < suc (length xs)
    go true r h = omega arith
    go false r h = let k = r h in omega arith

with-keeps : (vs : List ℕ) (w v : ℕ) → Has vs v → Has (with_variable vs w) v
with-keeps vs w v h = go (list_any (nat_eq w) vs)
  where
    go : (c : Bool) → Has (if c then vs else vs ++ w ∷ []) v
    go true = h
    go false = has-more vs (w ∷ []) v h

with-has : (vs : List ℕ) (v : ℕ) → Has (with_variable vs v) v
with-has vs v = go (list_any (nat_eq v) vs) refl
  where
    go : (c : Bool) → list_any (nat_eq v) vs ≡ c → Has (if c then vs else vs ++ v ∷ []) v
    go true e = has-found vs v e
    go false e = has-added vs v

mutual
  after-keeps : (vs : List ℕ) (t : Term) (v : ℕ) → Has vs v → Has (variables_after vs t) v
  after-keeps vs (Var w) v h = with-keeps vs w v h
  after-keeps vs (Int z) v h = h
  after-keeps vs (Atom a) v h = h
  after-keeps vs (Comp f ts) v h = all_after-keeps vs ts v h

  all_after-keeps : (vs : List ℕ) (ts : Terms) (v : ℕ) → Has vs v → Has (all_variables_after vs ts) v
  all_after-keeps vs NoMore v h = h
  all_after-keeps vs (More t ts) v h = all_after-keeps (variables_after vs t) ts v (after-keeps vs t v h)

-- a copy has the new variables alone
mutual
  unfolding Has

  copied-below : (next : ℕ) (ws vs : List ℕ) (t : Term) → ((v : ℕ) → Has (variables_after vs t) v → Has ws v) → Below (next + length ws) (replaced (λ v. Var (next + place_in ws v)) t)
  copied-below next ws vs (Var v) h = let k = h v (with-has vs v) in omega arith
  copied-below next ws vs (Int z) h = tt
  copied-below next ws vs (Atom a) h = tt
  copied-below next ws vs (Comp f ts) h = all_copied-below next ws vs ts h

  all_copied-below : (next : ℕ) (ws vs : List ℕ) (ts : Terms) → ((v : ℕ) → Has (all_variables_after vs ts) v → Has ws v) → AllBelow (next + length ws) (all_replaced (λ v. Var (next + place_in ws v)) ts)
  all_copied-below next ws vs NoMore h = tt
  all_copied-below next ws vs (More t ts) h = (copied-below next ws vs t (λ v k. h v (all_after-keeps (variables_after vs t) ts v k)), all_copied-below next ws (variables_after vs t) ts h)

pub copy-below : (next : ℕ) (t : Term) → Below (next + (copy_of next t).1) (copy_of next t).0
unfolding copy_of
copy-below next t = copied-below next (variables_after [] t) [] t (λ v h. h)

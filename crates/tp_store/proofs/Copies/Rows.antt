-- Copies of terms.
use Rattle.std.proofs.Common.{◌≡◌, ℕ, zero, suc, ◌+◌, ◌<◌, ◌≤◌, List, [], ◌∷◌, ◌++◌, length, take, drop, reverse, Option, Some, None, IsSome, refl, sym, ap, subst, ◌∙◌, arith, append_assoc, append-nil, add-one, length-append}
use Rattle.std.proofs.lemmas.List.{reverse-append, reverse-reverse}
use Rattle.tp_terms.specs.declared.cells.Cell.{Cell}
use Rattle.tp_terms.specs.declared.cells.Cell.TheVariants as cell
use Rattle.tp_terms.specs.Shown.{StandsBefore}
use Rattle.tp_store.specs.declared.copy.Task.{Task}
use Rattle.tp_store.specs.declared.copy.Task.TheVariants.{Copy}
use Rattle.tp_store.specs.Contents.{Contents, with_cell}
use Rattle.tp_store.specs.declared.chains.Chains.{Chains}
use Rattle.tp_store.specs.Chain.{IsChains, contents_of}
use Rattle.tp_store.specs.Copy.{copies, AreReady}

pub copies_pushed : (old mid new : List Task) (first k : ℕ) → reverse mid ≡ copies first k ++ reverse old → new ≡ mid ++ Copy (record { at = first + k }) ∷ [] → reverse new ≡ copies first (k + 1) ++ reverse old
copies_pushed old mid new first k e f =
    ap reverse f ∙ reverse-append mid (Copy (record { at = first + k }) ∷ []) ∙ ap (λ l. Copy (record { at = first + k }) ∷ l) e
    ∙ ap (λ n. copies first n ++ reverse old) (sym (add-one k))

-- ---- the arguments of a compound, one after another

pub newest_first : {X : Type 0} (all mid : List X) (x : X) → all ≡ mid ++ x ∷ [] → reverse all ≡ x ∷ reverse mid
newest_first all mid x e = ap reverse e ∙ reverse-append mid (x ∷ [])

next-drop : {X : Type 0} (k : ℕ) (xs ys : List X) (x : X) → drop k xs ≡ x ∷ ys → drop (suc k) xs ≡ ys
next-drop zero [] ys x e = absurd (cc)
next-drop zero (z ∷ xs) ys x e = cc
next-drop (suc k) [] ys x e = absurd (cc)
next-drop (suc k) (z ∷ xs) ys x e = next-drop k xs ys x e

next-take : {X : Type 0} (k : ℕ) (xs ys : List X) (x : X) → drop k xs ≡ x ∷ ys → take (suc k) xs ≡ take k xs ++ x ∷ []
next-take zero [] ys x e = absurd (cc)
next-take zero (z ∷ xs) ys x e = let h : z ≡ x = cc in ap (λ w. w ∷ []) h
next-take (suc k) [] ys x e = absurd (cc)
next-take (suc k) (z ∷ xs) ys x e = ap (λ l. z ∷ l) (next-take k xs ys x e)

pub drop_next : {X : Type 0} (k : ℕ) (xs ys : List X) (x : X) → drop k xs ≡ x ∷ ys → drop (k + 1) xs ≡ ys
drop_next k xs ys x e = ap (λ n. drop n xs) (add-one k) ∙ next-drop k xs ys x e

pub take_next : {X : Type 0} (k : ℕ) (xs ys : List X) (x : X) → drop k xs ≡ x ∷ ys → take (k + 1) xs ≡ take k xs ++ x ∷ []
take_next k xs ys x e = ap (λ n. take n xs) (add-one k) ∙ next-take k xs ys x e

stands_later : (n m : ℕ) (x : Cell) → n ≤ m → StandsBefore n x → StandsBefore m x
stands_later n m (cell.Var v) le h = tt
stands_later n m (cell.Int value) le h = tt
stands_later n m (cell.Atom name) le h = tt
stands_later n m (cell.Comp name first count) le h = (h.0, let k = h.1 in omega arith)

pub AreReady-later : (n m vars : ℕ) (xs : List Cell) → n ≤ m → AreReady n vars xs → AreReady m vars xs
AreReady-later n m vars [] le h = tt
AreReady-later n m vars (x ∷ xs) le h = (stands_later n m x le h.0, h.1, AreReady-later n m vars xs le h.2)

-- so many of the cells R that were made stand behind the cells of old, and the others are still to be put there
pub record IsRow (old : Chains) (R : List Cell) (total k : ℕ) (now : Chains) (made : List Cell) : Type 0 where
  pub chains : IsChains now
  pub ready : AreReady (length now.cells.items) (length now.trail.bound) (reverse made)
  pub left : length made + k ≡ total
  pub cells : now.cells.items ≡ old.cells.items ++ take k R
  pub rest : reverse made ≡ drop k R
  pub pairs : reverse now.trail.pairs ≡ reverse old.trail.pairs
  pub vars : length now.trail.bound ≡ length old.trail.bound

pub row_start : (old : Chains) (made : List Cell) → IsChains old → AreReady (length old.cells.items) (length old.trail.bound) (reverse made) → IsRow old (reverse made) (length made) 0 old made
row_start old made ok ready = record { chains = ok; ready = ready; left = omega arith; cells = sym (append-nil old.cells.items); rest = refl; pairs = refl; vars = refl }

-- the newest cell that was made can be put
pub row_ready : (old now : Chains) (R : List Cell) (total k : ℕ) (all mid : List Cell) (x : Cell) → IsRow old R total k now all → all ≡ mid ++ x ∷ [] → AreReady (length now.cells.items) (length now.trail.bound) (x ∷ reverse mid)
row_ready old now R total k all mid x h e = subst (AreReady (length now.cells.items) (length now.trail.bound)) (newest_first all mid x e) h.ready

pub row_turn : (old now new : Chains) (R : List Cell) (total k : ℕ) (all mid : List Cell) (x : Cell) → IsRow old R total k now all → all ≡ mid ++ x ∷ [] → IsChains new → contents_of new ≡ with_cell (contents_of now) x → IsRow old R total (k + 1) new mid
row_turn old now new R total k all mid x h e ok value =
    let cells : new.cells.items ≡ now.cells.items ++ x ∷ [] = ap (λ (y : Contents). y.cells) value in
    let vars : length new.trail.bound ≡ length now.trail.bound = ap (λ (y : Contents). y.vars) value in
    let rest : drop k R ≡ x ∷ reverse mid = sym h.rest ∙ newest_first all mid x e in
    let longer : length new.cells.items ≡ length now.cells.items + 1 = ap length cells ∙ length-append now.cells.items (x ∷ []) in
    record {
      chains = ok;
      ready = subst (λ n. AreReady (length new.cells.items) n (reverse mid)) (sym vars)
          (AreReady-later (length now.cells.items) (length new.cells.items) (length now.trail.bound) (reverse mid) (omega arith) (row_ready old now R total k all mid x h e).2);
      left = let l : length all ≡ length mid + 1 = ap length e ∙ length-append mid (x ∷ []) in let i : length all + k ≡ total = h.left in omega arith;
      cells = cells ∙ ap (λ cs. cs ++ x ∷ []) h.cells ∙ append_assoc old.cells.items (take k R) (x ∷ []) ∙ ap (λ cs. old.cells.items ++ cs) (sym (take_next k R (reverse mid) x rest));
      rest = sym (drop_next k R (reverse mid) x rest);
      pairs = ap (λ (y : Contents). y.pairs) value ∙ h.pairs;
      vars = vars ∙ h.vars;
    }

pub is_some_not : {X : Type 0} (o : Option X) → IsSome o → ((x : X) → o ≡ Some x → ⊥) → ⊥
is_some_not None some h = absurd (cc)
is_some_not (Some x) some h = h x refl

pub zero_unless : (n : ℕ) → (0 < n → ⊥) → n ≡ 0
zero_unless zero h = refl
zero_unless (suc n) h = absurd (h (omega arith))

pub nothing_left : {X : Type 0} (xs : List X) → length xs ≡ 0 → reverse xs ≡ []
nothing_left [] e = refl
nothing_left (x ∷ xs) e = absurd (omega arith)

pub only_one : (xs : List Cell) (x : Cell) → reverse xs ≡ x ∷ [] → xs ≡ x ∷ []
only_one xs x e = sym (reverse-reverse xs) ∙ ap reverse e

-- A tree whose nodes are right but for one is mended by going up from there.
use Rattle.std.proofs.Common.{◌≡◌, ◌≢◌, ◌∙◌, sym, ap, refl, subst, ℕ, zero, suc, ◌+◌, ◌-◌, ◌*◌, ◌/◌, ◌<◌, List, [], ◌∷◌, ◌++◌, length, take, Some, slice_get, slice_set, get_or, arith, inl, inr, length-append}
use Rattle.std.proofs.lemmas.List.{get_or-set_same, get_or-set_other, length-set, length-take-le, take_at}
use Rattle.std.proofs.Math.ListN.{get_or-eq_default}
use Rattle.std.proofs.lemmas.Option.{slice_get_within, slice_get-get_or, same_Some}
use Rattle.std.proofs.lemmas.Bool.Decides.{eqb_tells}
use Rattle.tp_terms.proofs.Naming.Tables.{slice_get-append, slice_get-push}
use Rattle.tp_terms.specs.declared.world.Proc.{Proc}
use Rattle.tp_procs.specs.declared.tree.Node.{Node}
use Rattle.tp_procs.specs.Tree.{nothing, joined, own_of, node_at, whole_of, IsRight, IsTree, IsTreeBut}

-- where a place and those below it have the same nodes, the place is right as before
right-same : (ps : List Proc) (ns ms : List Node) (i : ℕ) → node_at ms i ≡ node_at ns i → node_at ms (2 * i + 1) ≡ node_at ns (2 * i + 1) → node_at ms (2 * i + 2) ≡ node_at ns (2 * i + 2) → IsRight ps ns i → IsRight ps ms i
right-same ps ns ms i e l r h p there =
    e ∙ h p there
    ∙ ap (λ n. joined (own_of i p) (joined n (node_at ns (2 * i + 2)))) (sym l)
    ∙ ap (λ n. joined (own_of i p) (joined (node_at ms (2 * i + 1)) n)) (sym r)

module _ (ps : List Proc) (ns : List Node) (k : ℕ) (p : Proc) (there : slice_get ps k ≡ Some p) (within : k < length ns) where
  -- the nodes with that of a place made right
  abbrev pub made_right : List Node
  made_right = slice_set ns k (whole_of k p ns)

  other : (j : ℕ) → j ≢ k → node_at made_right j ≡ node_at ns j
  other j h = get_or-set_other ns k j (whole_of k p ns) nothing h

  here : IsRight ps made_right k
  here q e =
      let same : p ≡ q = same_Some p q (sym there ∙ e) in
      get_or-set_same ns k (whole_of k p ns) nothing within
      ∙ ap (λ r. whole_of k r ns) same
      ∙ ap (λ n. joined (own_of k q) (joined n (node_at ns (2 * k + 2)))) (sym (other (2 * k + 1) (λ e. omega arith)))
      ∙ ap (λ n. joined (own_of k q) (joined (node_at made_right (2 * k + 1)) n)) (sym (other (2 * k + 2) (λ e. omega arith)))

  -- all but those right above it are then right
  elsewhere : IsTreeBut ps ns k → (i : ℕ) → 2 * i + 1 ≢ k → 2 * i + 2 ≢ k → IsRight ps made_right i
  elsewhere but i l r = elim (eqb_tells i k) [
    | inl e ↦ subst (IsRight ps made_right) (sym e.1) here
    | inr d ↦ right-same ps ns made_right i (other i d.1) (other (2 * i + 1) l) (other (2 * i + 2) r) (but.right i d.1)
  ]

  pub mended-up : IsTreeBut ps ns k → 0 < k → IsTreeBut ps made_right ((k - 1) / 2)
  mended-up but h = record {
    long = length-set ns k (whole_of k p ns) ∙ but.long;
    right = λ i d. elsewhere but i (λ e. d (omega arith)) (λ e. d (omega arith));
  }

  pub mended-whole : IsTreeBut ps ns k → k ≡ 0 → IsTree ps made_right
  mended-whole but h = record {
    long = length-set ns k (whole_of k p ns) ∙ but.long;
    right = λ i. elsewhere but i (λ e. omega arith) (λ e. omega arith);
  }

-- the node of a place made right, by what the code reads there
module _ (ps : List Proc) (ns : List Node) (k : ℕ) (d : Proc) (x : Node) (e : x ≡ whole_of k (get_or ps k d) ns) (within : k < length ns) (but : IsTreeBut ps ns k) where
  read : slice_get ps k ≡ Some (get_or ps k d)
  read = let long = but.long in slice_get-get_or ps k d (omega arith)

  pub went-up : 0 < k → IsTreeBut ps (slice_set ns k x) ((k - 1) / 2)
  went-up h = subst (λ y. IsTreeBut ps (slice_set ns k y) ((k - 1) / 2)) (sym e) (mended-up ps ns k (get_or ps k d) read within but h)

  pub came-to-top : k ≡ 0 → IsTree ps (slice_set ns k x)
  came-to-top h = subst (λ y. IsTree ps (slice_set ns k y)) (sym e) (mended-whole ps ns k (get_or ps k d) read within but h)

-- ---- a process more, a process less, a process changed

node-pushed : (ns : List Node) (j : ℕ) → node_at (ns ++ nothing ∷ []) j ≡ node_at ns j
node-pushed [] zero = refl
node-pushed [] (suc j) = refl
node-pushed (n ∷ ns) zero = refl
node-pushed (n ∷ ns) (suc j) = node-pushed ns j

pub tree-pushed : (ps : List Proc) (ns : List Node) (p : Proc) → IsTree ps ns → IsTreeBut (ps ++ p ∷ []) (ns ++ nothing ∷ []) (length ps)
tree-pushed ps ns p tree = record {
  long = length-append ns (nothing ∷ []) ∙ ap (λ n. n + 1) tree.long ∙ sym (length-append ps (p ∷ []));
  right = λ i d q e. elim (slice_get-push ps p i q e) [
    | inl there ↦ right-same ps ns (ns ++ nothing ∷ []) i (node-pushed ns i) (node-pushed ns (2 * i + 1)) (node-pushed ns (2 * i + 2)) (tree.right i) q there
    | inr last ↦ absurd (d last.0)
  ];
}

node-cut : (ns : List Node) (m j : ℕ) → length ns ≡ m + 1 → j ≢ m → node_at (take m ns) j ≡ node_at ns j
node-cut [] m j e h = absurd (omega arith)
node-cut (n ∷ ns) zero zero e h = absurd (h refl)
node-cut (n ∷ ns) zero (suc j) e h = sym (get_or-eq_default ns nothing (omega arith))
node-cut (n ∷ ns) (suc m) zero e h = refl
node-cut (n ∷ ns) (suc m) (suc j) e h = node-cut ns m j (omega arith) (λ d. h (omega arith))

pub tree-popped : (ps : List Proc) (p : Proc) (ns : List Node) → IsTree (ps ++ p ∷ []) ns → IsTreeBut ps (take (length ps) ns) ((length ps - 1) / 2)
tree-popped ps p ns tree =
    let m = length ps in
    let long : length ns ≡ m + 1 = tree.long ∙ length-append ps (p ∷ []) in
    record {
      long = length-take-le m ns (omega arith);
      right = λ i d q e.
          let within : i < m = slice_get_within ps i q e in
          right-same ps ns (take m ns) i (node-cut ns m i long (λ e. omega arith))
          (node-cut ns m (2 * i + 1) long (λ e. d (omega arith))) (node-cut ns m (2 * i + 2) long (λ e. d (omega arith)))
          (λ r g. tree.right i r (slice_get-append ps (p ∷ []) i within ∙ g)) q e;
    }

slice_get-set_other : {X : Type 0} (xs : List X) (i j : ℕ) (y : X) → j ≢ i → slice_get (slice_set xs i y) j ≡ slice_get xs j
slice_get-set_other [] i j y h = refl
slice_get-set_other (x ∷ xs) zero zero y h = absurd (h refl)
slice_get-set_other (x ∷ xs) zero (suc j) y h = refl
slice_get-set_other (x ∷ xs) (suc i) zero y h = refl
slice_get-set_other (x ∷ xs) (suc i) (suc j) y h = slice_get-set_other xs i j y (λ e. h (omega arith))

pub tree-set : (ps : List Proc) (ns : List Node) (k : ℕ) (p : Proc) → IsTree ps ns → IsTreeBut (slice_set ps k p) ns k
tree-set ps ns k p tree = record {
  long = tree.long ∙ sym (length-set ps k p);
  right = λ i d q e. tree.right i q (sym (slice_get-set_other ps k i p d) ∙ e);
}

-- a tree, seen again after its nodes were lent
pub tree-lent : (ps qs : List Proc) (ms ns : List Node) (n : ℕ) → IsTree qs ms → qs ≡ ps → n ≡ length ps → IsTree ps (take n (ms ++ ns))
tree-lent ps qs ms ns n tree e l =
    let mine : IsTree ps ms = subst (λ l. IsTree l ms) e tree in
    subst (IsTree ps) (sym (take_at ms ns n (mine.long ∙ sym l))) mine

-- The first node of a tree has the best of all processes.
use Rattle.std.proofs.Common.{◌≡◌, ◌∙◌, sym, ap, refl, ℕ, zero, suc, ◌+◌, ◌*◌, ◌≤◌, ◌<◌, Bool, true, false, cond, List, [], ◌∷◌, length, take, Option, Some, None, slice_get, position, arith}
use Rattle.std.specs.List.{position_from}
use Rattle.std.proofs.lemmas.List.{take_all}
use Rattle.std.proofs.lemmas.Option.{same_Some}
use Rattle.std.proofs.lemmas.Iterator.Adapters.{position_from-zero}
use Rattle.std.proofs.lemmas.Bool.Decides.{nat_tests}
use Rattle.std.proofs.Math.ListN.{get_or-eq_default}
use Rattle.tp_terms.specs.declared.world.Proc.{Proc}
use Rattle.tp_procs.specs.declared.tree.Node.{Node}
use Rattle.tp_procs.specs.Processes.{is_marked, end_of, sooner, earliest}
use Rattle.tp_procs.specs.Tree.{lower, nothing, joined, own_of, node_at, IsTree}
use Rattle.tp_procs.proofs.Joined.{joined-nothing, joined-comm, joined-assoc}

stands : {X : Type 0} (xs : List X) (j : ℕ) → j < length xs → (x : X) × (slice_get xs j ≡ Some x)
stands [] j h = absurd (omega arith)
stands (x ∷ xs) zero h = (x, refl)
stands (x ∷ xs) (suc j) h = stands xs j (omega arith)

-- the best of these processes, the first of which has this number
abbrev all_of : ℕ → List Proc → Node
all_of k [] = nothing
all_of k (p ∷ ps) = joined (own_of k p) (all_of (k + 1) ps)

-- the best of the nodes of a row of places
abbrev row : List Node → ℕ → ℕ → Node
row ns a zero = nothing
row ns a (suc l) = joined (node_at ns a) (row ns (a + 1) l)

-- one process more
all-more : (k m : ℕ) (ps : List Proc) (p : Proc) → slice_get ps m ≡ Some p → all_of k (take (m + 1) ps) ≡ joined (all_of k (take m ps)) (own_of (k + m) p)
all-more k m [] p e = cc
all-more k zero (q ∷ ps) p e =
    let none : take 1 (q ∷ ps) ≡ q ∷ [] = refl in
    let number : k ≡ k + 0 = omega arith in
    joined-nothing (own_of k q) ∙ ap (own_of k) (same_Some q p e) ∙ ap (λ n. own_of n p) number
all-more k (suc m) (q ∷ ps) p e =
    let longer : suc m + 1 ≡ suc (m + 1) = omega arith in
    ap (λ n. all_of k (take n (q ∷ ps))) longer
    ∙ ap (joined (own_of k q)) (all-more (k + 1) m ps p e)
    ∙ sym (joined-assoc (own_of k q) (all_of (k + 1) (take m ps)) (own_of (k + 1 + m) p))
    ∙ ap (λ n. joined (joined (own_of k q) (all_of (k + 1) (take m ps))) (own_of n p)) (omega arith)

-- two places more
row-more : (ns : List Node) (a l : ℕ) → row ns a (suc (suc l)) ≡ joined (row ns a l) (joined (node_at ns (a + l)) (node_at ns (a + l + 1)))
row-more ns a zero =
    ap (joined (node_at ns a)) (joined-nothing (node_at ns (a + 1)))
    ∙ ap (λ n. joined (node_at ns n) (node_at ns (a + 1))) (omega arith)
    ∙ ap (λ n. joined (node_at ns (a + 0)) (node_at ns n)) (omega arith)
row-more ns a (suc l) =
    ap (joined (node_at ns a)) (row-more ns (a + 1) l)
    ∙ sym (joined-assoc (node_at ns a) (row ns (a + 1) l) (joined (node_at ns (a + 1 + l)) (node_at ns (a + 1 + l + 1))))
    ∙ ap (λ n. joined (joined (node_at ns a) (row ns (a + 1) l)) (joined (node_at ns n) (node_at ns (n + 1)))) (omega arith)

row-past : (ns : List Node) (a l : ℕ) → length ns ≤ a → row ns a l ≡ nothing
row-past ns a zero h = refl
row-past ns a (suc l) h = ap (λ n. joined n (row ns (a + 1) l)) (get_or-eq_default ns nothing h) ∙ row-past ns (a + 1) l (omega arith)

module _ (ps : List Proc) (ns : List Node) (tree : IsTree ps ns) where
  -- the first processes, so many, and the nodes that stand below them, have the best of all
  abbrev level : ℕ → Node
  level m = joined (all_of 0 (take m ps)) (row ns m (suc m))

  turned : (a o c r : Node) → joined a (joined (joined o c) r) ≡ joined (joined a o) (joined r c)
  turned a o c r = ap (joined a) (joined-assoc o c r ∙ ap (joined o) (joined-comm c r)) ∙ sym (joined-assoc a o (joined r c))

  deeper : (m : ℕ) (p : Proc) → slice_get ps m ≡ Some p → level m ≡ level (m + 1)
  deeper m p e =
      let first = all_of 0 (take m ps) in
      let rest = row ns (m + 1) m in
      let below = joined (node_at ns (2 * m + 1)) (node_at ns (2 * m + 2)) in
      let places : row ns (m + 1) (suc (suc m)) ≡ joined rest below =
      row-more ns (m + 1) m
      ∙ ap (λ n. joined rest (joined (node_at ns n) (node_at ns (n + 1)))) (omega arith)
      ∙ ap (λ n. joined rest (joined (node_at ns (2 * m + 1)) (node_at ns n))) (omega arith) in
      let next : suc (suc m) ≡ suc (m + 1) = omega arith in
      let one_more : all_of 0 (take (m + 1) ps) ≡ joined first (own_of m p) = all-more 0 m ps p e ∙ ap (λ n. joined first (own_of n p)) (omega arith) in
      ap (λ n. joined first (joined n rest)) (tree.right m p e)
      ∙ turned first (own_of m p) below rest
      ∙ ap (λ n. joined (joined first (own_of m p)) n) (sym places)
      ∙ ap (λ n. joined n (row ns (m + 1) (suc (suc m)))) (sym one_more)
      ∙ ap (λ n. joined (all_of 0 (take (m + 1) ps)) (row ns (m + 1) n)) next

  down : (j : ℕ) → j ≤ length ps → level 0 ≡ level j
  down zero h = refl
  down (suc j) h =
      let there = stands ps j (omega arith) in
      let next : j + 1 ≡ suc j = omega arith in
      down j (omega arith) ∙ deeper j there.0 there.1 ∙ ap level next

  first-node : node_at ns 0 ≡ all_of 0 ps
  first-node =
      let long = tree.long in
      sym (joined-nothing (node_at ns 0))
      ∙ down (length ps) (omega arith)
      ∙ ap (λ n. joined (all_of 0 (take (length ps) ps)) n) (row-past ns (length ps) (suc (length ps)) (omega arith))
      ∙ joined-nothing (all_of 0 (take (length ps) ps))
      ∙ ap (all_of 0) (take_all (length ps) ps (omega arith))

-- ---- what that is

from-later : {X : Type 0} (t : X → Bool) (k : ℕ) (xs : List X) (j : ℕ) → position_from t k xs ≡ Some j → k ≤ j
from-later t k [] j e = cc
from-later t k (x ∷ xs) j e = go (t x) e (from-later t (k + 1) xs j)
  where
    go : (b : Bool) → cond b (Some k) (position_from t (k + 1) xs) ≡ Some j → (position_from t (k + 1) xs ≡ Some j → k + 1 ≤ j) → k ≤ j
    go true e rest = let h : k ≡ j = same_Some k j e in omega arith
    go false e rest = let h : k + 1 ≤ j = rest e in omega arith

lower-first : (k : ℕ) (r : Option ℕ) → ((j : ℕ) → r ≡ Some j → k + 1 ≤ j) → lower (Some k) r ≡ Some k
lower-first k None h = refl
lower-first k (Some j) h = let later : k + 1 ≤ j = h j refl in grind (arith, nat_tests)

all-marked : (k : ℕ) (ps : List Proc) → (all_of k ps).marked ≡ position_from is_marked k ps
all-marked k [] = refl
all-marked k (p ∷ ps) = go (is_marked p) (all-marked (k + 1) ps)
  where
    go : (b : Bool) → (all_of (k + 1) ps).marked ≡ position_from is_marked (k + 1) ps → lower (cond b (Some k) None) (all_of (k + 1) ps).marked ≡ cond b (Some k) (position_from is_marked (k + 1) ps)
    go true e = lower-first k (all_of (k + 1) ps).marked (λ j h. from-later is_marked (k + 1) ps j (sym e ∙ h))
    go false e = e

all-earliest : (k : ℕ) (ps : List Proc) → (all_of k ps).end ≡ earliest ps
all-earliest k [] = refl
all-earliest k (p ∷ ps) = ap (sooner (end_of p)) (all-earliest (k + 1) ps)

-- the first marked process
pub first-marked : (ps : List Proc) (ns : List Node) → IsTree ps ns → (node_at ns 0).marked ≡ position is_marked ps
first-marked ps ns tree = ap (λ (n : Node). n.marked) (first-node ps ns tree) ∙ all-marked 0 ps ∙ sym (position_from-zero is_marked ps)

-- the least end time
pub first-end : (ps : List Proc) (ns : List Node) → IsTree ps ns → (node_at ns 0).end ≡ earliest ps
first-end ps ns tree = ap (λ (n : Node). n.end) (first-node ps ns tree) ∙ all-earliest 0 ps

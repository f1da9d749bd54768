-- What the comparison of two cells tells, and what is left to compare.
use Rattle.std.proofs.Common.{◌≡◌, ℕ, zero, suc, ◌+◌, ◌<◌, ◌≤◌, Bool, true, false, cond, List, [], ◌∷◌, ◌++◌, length, reverse, Some, None, refl, ap, sym, subst, ◌∙◌, arith}
use Rattle.std.proofs.lemmas.Cmp.{ranked}
use Rattle.std.proofs.lemmas.Int.{ints}
use Rattle.std.proofs.lemmas.Bool.Decides.{nat_tests}
use Rattle.std.specs.Prelude.{ℤ, int_lt}
use Rattle.std.specs.declared.cmp.Ordering.{Ordering}
use Rattle.std.specs.declared.cmp.Ordering.TheVariants.{Less, Equal, Greater}
use Rattle.std.specs.Ordering.{ordering_then, nat_cmp, int_cmp}
use Rattle.tp_terms.specs.declared.cells.AtomId.{AtomId}
use Rattle.tp_terms.specs.declared.cells.Cell.{Cell}
use Rattle.tp_terms.specs.declared.cells.Cell.TheVariants as cell
use Rattle.tp_terms.specs.declared.cells.Ref.{Ref}
use Rattle.tp_terms.specs.Shown.{name_at}
use Rattle.tp_terms.specs.Term.{Name, Term, Terms, Var, Int, Atom, Comp, NoMore, More, count_of, term_size, terms_size}
use Rattle.tp_meaning.specs.Order.{name_cmp, term_cmp, terms_cmp}
use Rattle.tp_meaning.proofs.Unification.Complete.{has_size}
use Rattle.tp_store.specs.declared.join.Parts.{Parts}
use Rattle.tp_store.specs.Contents.{Contents, IsStore, IsUnbound, args_seen, seen, seen_cell}
use Rattle.tp_store.specs.Work.{ArePairsIn, pairs_from, pairs_size}
use Rattle.tp_store.specs.Ordered.{Ranks, cells_cmp, compound_in, heads_cmp, pairs_cmp}
use Rattle.tp_store.proofs.Comparison.Texts.{cmp-same, nat_cmp-same}
use Rattle.tp_store.proofs.Copies.Rows.{newest_first}
use Rattle.tp_store.proofs.Standing.Facts.{count-seen, value-unbound}
use Rattle.tp_store.proofs.Unifier.Work.{ArePairsIn-pairs_from, ArePairsIn-append, pairs_size-pairs_from, pairs_size-append}

-- ---- orders one after another

then-assoc : (o p q : Ordering) → ordering_then (ordering_then o p) q ≡ ordering_then o (ordering_then p q)
then-assoc Less p q = refl
then-assoc Equal p q = refl
then-assoc Greater p q = refl

then-Equal : (o : Ordering) → ordering_then o Equal ≡ o
then-Equal Less = refl
then-Equal Equal = refl
then-Equal Greater = refl

-- what isn't the same place decides
decides : (o p : Ordering) → (o ≡ Equal → ⊥) → ordering_then o p ≡ o
decides Less p h = refl
decides Equal p h = absurd (h refl)
decides Greater p h = refl

first-Equal : (o p : Ordering) → ordering_then o p ≡ Equal → o ≡ Equal
first-Equal Less p e = absurd (cc)
first-Equal Equal p e = refl
first-Equal Greater p e = absurd (cc)

nat_cmp-Equal : (m n : ℕ) → nat_cmp m n ≡ Equal → m ≡ n
nat_cmp-Equal m n e = ranked m n Equal (sym e)

int_cmp-same : (z : ℤ) → int_cmp z z ≡ Equal
int_cmp-same z = by (int_lt z z) refl
  where
    by : (b : Bool) → int_lt z z ≡ b → int_cmp z z ≡ Equal
    by true e = absurd (grind (arith, ints, nat_tests))
    by false e = ap (λ b. cond b Less (cond b Greater Equal)) e

mutual
  -- a term is in the same place as itself
  term_cmp-same : (t : Term) → term_cmp t t ≡ Equal
  term_cmp-same (Var v) = nat_cmp-same v
  term_cmp-same (Int z) = int_cmp-same z
  term_cmp-same (Atom a) = cmp-same a
  term_cmp-same (Comp f ts) = ap (λ o. ordering_then o (ordering_then (name_cmp f f) (terms_cmp ts ts))) (nat_cmp-same (count_of ts)) ∙ ap (λ o. ordering_then o (terms_cmp ts ts)) (cmp-same f) ∙ terms_cmp-same ts

  terms_cmp-same : (ts : Terms) → terms_cmp ts ts ≡ Equal
  terms_cmp-same NoMore = refl
  terms_cmp-same (More t ts) = ap (λ o. ordering_then o (terms_cmp ts ts)) (term_cmp-same t) ∙ terms_cmp-same ts

-- ---- pairs

pub pairs_cmp-append : (names : List Name) (c : Contents) (ps qs : List (Ref × Ref)) → pairs_cmp names c (ps ++ qs) ≡ ordering_then (pairs_cmp names c ps) (pairs_cmp names c qs)
pairs_cmp-append names c [] qs = refl
pairs_cmp-append names c (p ∷ ps) qs =
    let o : Ordering = term_cmp (seen names c p.0.at) (seen names c p.1.at) in
    ap (ordering_then o) (pairs_cmp-append names c ps qs) ∙ sym (then-assoc o (pairs_cmp names c ps) (pairs_cmp names c qs))

pairs_cmp-pairs_from : (names : List Name) (c : Contents) (a b n : ℕ) → pairs_cmp names c (pairs_from a b n) ≡ terms_cmp (args_seen names c a n) (args_seen names c b n)
pairs_cmp-pairs_from names c a b zero = refl
pairs_cmp-pairs_from names c a b (suc n) = ap (ordering_then (term_cmp (seen names c a) (seen names c b))) (pairs_cmp-pairs_from names c (suc a) (suc b) n)

-- ---- two cells

module _ (names : List Name) (c : Contents) where
  -- nothing further is to be compared
  alone : (x y : Cell) (work : List (Ref × Ref)) (o : Ordering) → o ≡ term_cmp (seen_cell names c x) (seen_cell names c y) → Ranks names c x y work work o
  alone x y work o e = record {
    more = [];
    added = refl;
    places = tt;
    smaller = has_size (seen_cell [] c x);
    same = then-Equal o ∙ e;
  }

  compounds_cmp : (f g : AtomId) (a b : Ref) (m n : ℕ) → term_cmp (seen_cell names c (cell.Comp f a m)) (seen_cell names c (cell.Comp g b n))
      ≡ ordering_then (ordering_then (nat_cmp m n) (name_cmp (name_at names f.at) (name_at names g.at))) (terms_cmp (args_seen names c a.at m) (args_seen names c b.at n))
  compounds_cmp f g a b m n =
      let o : Ordering = name_cmp (name_at names f.at) (name_at names g.at) in
      let t : Ordering = terms_cmp (args_seen names c a.at m) (args_seen names c b.at n) in
      ap (λ k. ordering_then (nat_cmp k (count_of (args_seen names c b.at n))) (ordering_then o t)) (count-seen names c a.at m)
      ∙ ap (λ k. ordering_then (nat_cmp m k) (ordering_then o t)) (count-seen names c b.at n)
      ∙ sym (then-assoc (nat_cmp m n) o t)

  module _ (left right : Parts) (work : List (Ref × Ref)) where
    abbrev x : Cell
    x = cell.Comp left.name left.first left.count

    abbrev y : Cell
    y = cell.Comp right.name right.first right.count

    abbrev t : Ordering
    t = terms_cmp (args_seen names c left.first.at left.count) (args_seen names c right.first.at right.count)

    -- numbers of arguments or names decide
    pub heads_decide : (o : Ordering) → o ≡ heads_cmp names left right → (o ≡ Equal → ⊥) → Ranks names c x y work work o
    heads_decide o e apart = alone x y work o (sym (decides o t apart) ∙ ap (λ p. ordering_then p t) e ∙ sym (compounds_cmp left.name right.name left.first right.first left.count right.count))

    module _ (e : heads_cmp names left right ≡ Equal) where
      counts : left.count ≡ right.count
      counts = nat_cmp-Equal left.count right.count (first-Equal (nat_cmp left.count right.count) (name_cmp (name_at names left.name.at) (name_at names right.name.at)) e)

      rest : term_cmp (seen_cell names c x) (seen_cell names c y) ≡ terms_cmp (args_seen names c left.first.at left.count) (args_seen names c right.first.at left.count)
      rest =
          compounds_cmp left.name right.name left.first right.first left.count right.count ∙ ap (λ o. ordering_then o t) e
          ∙ ap (λ n. terms_cmp (args_seen names c left.first.at left.count) (args_seen names c right.first.at n)) (sym counts)

      -- both have the same arguments
      pub same_arguments : left.first.at ≡ right.first.at → Ranks names c x y work work Equal
      same_arguments same =
          alone x y work Equal (sym (rest ∙ ap (λ i. terms_cmp (args_seen names c left.first.at left.count) (args_seen names c i left.count)) (sym same) ∙ terms_cmp-same (args_seen names c left.first.at left.count)))

      -- the arguments decide
      pub arguments_decide : (new : List (Ref × Ref)) → left.first.at + left.count ≤ length c.cells → right.first.at + right.count ≤ length c.cells →
          reverse new ≡ pairs_from left.first.at right.first.at left.count ++ reverse work → Ranks names c x y work new Equal
      arguments_decide new le le' added = record {
        more = pairs_from left.first.at right.first.at left.count;
        added = added;
        places = ArePairsIn-pairs_from c.cells left.first.at right.first.at left.count le (let q = counts in omega arith);
        smaller = (let s : pairs_size c (pairs_from left.first.at right.first.at left.count) ≡ terms_size (args_seen [] c left.first.at left.count) = pairs_size-pairs_from c left.first.at right.first.at left.count in omega (arith, s));
        same = pairs_cmp-pairs_from names c left.first.at right.first.at left.count ∙ sym rest;
      }

  -- ---- cells that aren't both compounds

  module _ (s : IsStore c) where
    own : (v : ℕ) → IsUnbound c.pairs (cell.Var v) → seen_cell names c (cell.Var v) ≡ Var v
    own v free = value-unbound names c v s free

    -- where the first cell is no compound
    pub cells_cmp-is : (x y : Cell) → IsUnbound c.pairs x → IsUnbound c.pairs y → compound_in x ≡ None → cells_cmp names x y ≡ term_cmp (seen_cell names c x) (seen_cell names c y)
    cells_cmp-is (cell.Var v) (cell.Var w) f g e = sym (ap (λ t. term_cmp t (seen_cell names c (cell.Var w))) (own v f) ∙ ap (term_cmp (Var v)) (own w g))
    cells_cmp-is (cell.Var v) (cell.Int z) f g e = sym (ap (λ t. term_cmp t (Int z)) (own v f))
    cells_cmp-is (cell.Var v) (cell.Atom b) f g e = sym (ap (λ t. term_cmp t (Atom (name_at names b.at))) (own v f))
    cells_cmp-is (cell.Var v) (cell.Comp b a n) f g e = sym (ap (λ t. term_cmp t (seen_cell names c (cell.Comp b a n))) (own v f))
    cells_cmp-is (cell.Int z) (cell.Var w) f g e = sym (ap (term_cmp (Int z)) (own w g))
    cells_cmp-is (cell.Int z) (cell.Int y) f g e = refl
    cells_cmp-is (cell.Int z) (cell.Atom b) f g e = refl
    cells_cmp-is (cell.Int z) (cell.Comp b a n) f g e = refl
    cells_cmp-is (cell.Atom d) (cell.Var w) f g e = sym (ap (term_cmp (Atom (name_at names d.at))) (own w g))
    cells_cmp-is (cell.Atom d) (cell.Int y) f g e = refl
    cells_cmp-is (cell.Atom d) (cell.Atom b) f g e = refl
    cells_cmp-is (cell.Atom d) (cell.Comp b a n) f g e = refl
    cells_cmp-is (cell.Comp d h n) y f g e = absurd (cc)

    -- a compound comes last
    compound-last : (x y : Cell) (p : Parts) → IsUnbound c.pairs y → compound_in x ≡ Some p → compound_in y ≡ None → term_cmp (seen_cell names c x) (seen_cell names c y) ≡ Greater
    compound-last (cell.Var v) y p g e f = absurd (cc)
    compound-last (cell.Int z) y p g e f = absurd (cc)
    compound-last (cell.Atom d) y p g e f = absurd (cc)
    compound-last (cell.Comp d h n) (cell.Var w) p g e f = ap (term_cmp (seen_cell names c (cell.Comp d h n))) (own w g)
    compound-last (cell.Comp d h n) (cell.Int z) p g e f = refl
    compound-last (cell.Comp d h n) (cell.Atom b) p g e f = refl
    compound-last (cell.Comp d h n) (cell.Comp b a m) p g e f = absurd (cc)

    pub ranks_last : (x y : Cell) (p : Parts) (work : List (Ref × Ref)) → IsUnbound c.pairs y → compound_in x ≡ Some p → compound_in y ≡ None → Ranks names c x y work work Greater
    ranks_last x y p work g e f = alone x y work Greater (sym (compound-last x y p g e f))

    pub ranks_cells : (x y : Cell) (work : List (Ref × Ref)) (o : Ordering) → IsUnbound c.pairs x → IsUnbound c.pairs y → compound_in x ≡ None → o ≡ cells_cmp names x y → Ranks names c x y work work o
    ranks_cells x y work o f g e h = alone x y work o (h ∙ cells_cmp-is x y f g e)

-- a compound by its parts
pub compound_is : (x : Cell) (p : Parts) → compound_in x ≡ Some p → x ≡ cell.Comp p.name p.first p.count
compound_is (cell.Var v) p e = absurd (cc)
compound_is (cell.Int z) p e = absurd (cc)
compound_is (cell.Atom d) p e = absurd (cc)
compound_is (cell.Comp d h n) p e = let q : record { name = d; first = h; count = n } ≡ p = cc in ap (λ (r : Parts). cell.Comp r.name r.first r.count) q

-- ---- one pair after another

-- the pair that was taken: its places are there, and the others'
pub taken_places : (cells : List Cell) (all mid : List (Ref × Ref)) (p : Ref × Ref) → ArePairsIn cells (reverse all) → all ≡ mid ++ p ∷ [] → ArePairsIn cells (p ∷ reverse mid)
taken_places cells all mid p h e = subst (ArePairsIn cells) (newest_first all mid p e) h

module _ (names : List Name) (c : Contents) (all mid new : List (Ref × Ref)) (p : Ref × Ref) (x y : Cell) (order : Ordering) (taken : all ≡ mid ++ p ∷ []) (left : (ns : List Name) → seen_cell ns c x ≡ seen ns c p.0.at)
    (right : (ns : List Name) → seen_cell ns c y ≡ seen ns c p.1.at) (r : Ranks names c x y mid new order) where
  pub ranks_places : ArePairsIn c.cells (reverse all) → ArePairsIn c.cells (reverse new)
  ranks_places h = subst (ArePairsIn c.cells) (sym r.added) (ArePairsIn-append c.cells r.more (reverse mid) r.places (taken_places c.cells all mid p h taken).2)

  pub ranks_smaller : pairs_size c (reverse new) < pairs_size c (reverse all)
  ranks_smaller =
      let n : pairs_size c (reverse new) ≡ pairs_size c r.more + pairs_size c (reverse mid) = ap (pairs_size c) r.added ∙ pairs_size-append c r.more (reverse mid) in
      let o : pairs_size c (reverse all) ≡ term_size (seen [] c p.0.at) + pairs_size c (reverse mid) = ap (pairs_size c) (newest_first all mid p taken) in
      let l : term_size (seen_cell [] c x) ≡ term_size (seen [] c p.0.at) = ap term_size (left []) in
      let m = r.smaller in
      omega arith

  told : pairs_cmp names c (reverse all) ≡ ordering_then (ordering_then order (pairs_cmp names c r.more)) (pairs_cmp names c (reverse mid))
  told =
      ap (pairs_cmp names c) (newest_first all mid p taken)
      ∙ ap (λ o. ordering_then o (pairs_cmp names c (reverse mid))) (sym (r.same ∙ ap (λ t. term_cmp t (seen_cell names c y)) (left names) ∙ ap (term_cmp (seen names c p.0.at)) (right names)))

  -- the pair's terms are in the same place as far as their cells go
  pub ranks_same : order ≡ Equal → pairs_cmp names c (reverse new) ≡ pairs_cmp names c (reverse all)
  ranks_same e =
      ap (pairs_cmp names c) r.added ∙ pairs_cmp-append names c r.more (reverse mid)
      ∙ sym (told ∙ ap (λ o. ordering_then (ordering_then o (pairs_cmp names c r.more)) (pairs_cmp names c (reverse mid))) e)

  -- and else they decide
  pub ranks_decide : (order ≡ Equal → ⊥) → order ≡ pairs_cmp names c (reverse all)
  ranks_decide apart =
      sym (told ∙ then-assoc order (pairs_cmp names c r.more) (pairs_cmp names c (reverse mid))
      ∙ decides order (ordering_then (pairs_cmp names c r.more) (pairs_cmp names c (reverse mid))) apart)

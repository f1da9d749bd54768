-- Two cells that are no variables, one of other cells.
use Rattle.std.proofs.Common.{◌≡◌, ◌≢◌, ℕ, zero, suc, ◌+◌, ◌<◌, ◌≤◌, Bool, true, false, List, [], ◌++◌, length, reverse, refl, sym, ap, subst, ◌∙◌, arith, ◌↔◌}
use Rattle.std.proofs.lemmas.Bool.{eqb-true, eq-eqb}
use Rattle.std.proofs.lemmas.Bool.Decides.{Decides-int_eq}
use Rattle.tp_terms.specs.declared.cells.Cell.{Cell}
use Rattle.tp_terms.specs.declared.cells.Cell.TheVariants as cell
use Rattle.tp_terms.specs.declared.cells.AtomId.{AtomId}
use Rattle.tp_terms.specs.declared.cells.Ref.{Ref}
use Rattle.tp_terms.specs.Term.{Name, Term, Var, Int, Atom, Comp, More, replaced, all_replaced, occurs, occurs_in, term_size, terms_size, count_of}
use Rattle.tp_terms.specs.Names.{AreDistinct}
use Rattle.tp_terms.specs.Shown.{name_at, shows, shown_from, args_at, IsNamed, StandsBefore}
use Rattle.tp_terms.proofs.Naming.Tables.{same_place}
use Rattle.tp_meaning.specs.Clauses.{renamed}
use Rattle.tp_meaning.proofs.Unification.Complete.{count-replaced, has_size, left, right}
use Rattle.tp_store.specs.Work.{constants_eq, pairs_from}
use Rattle.tp_store.specs.Meeting.{AreMet, Holds, IsNoVariable, SplitStep, Splits, equations, heads_size}
use Rattle.tp_store.proofs.Unifier.Work.{comp-args, comp-name, atom-name, count-args_at, row-head, row-tail}

-- ---- rows of arguments

module _ (cells from : List Cell) (base : ℕ) where
  heads_size-pairs_from : (a b n : ℕ) → heads_size from (pairs_from a b n) ≡ terms_size (args_at [] from b n)
  heads_size-pairs_from a b zero = refl
  heads_size-pairs_from a b (suc n) = ap (λ k. term_size (shows [] from b) + k) (heads_size-pairs_from (suc a) (suc b) n)

  AreMet-pairs_from : (vars a b n : ℕ) → a + n ≤ length cells → b + n ≤ length from → ((v : ℕ) → occurs_in v (args_at [] from b n) ≡ true → v + base < vars) → AreMet cells vars from base (pairs_from a b n)
  AreMet-pairs_from vars a b zero la lb k = tt
  AreMet-pairs_from vars a b (suc n) la lb k = (
    omega arith,
    omega arith,
    λ v o. k v (left (occurs v (shows [] from b)) (occurs_in v (args_at [] from (suc b) n)) o),
    AreMet-pairs_from vars (suc a) (suc b) n (omega arith) (omega arith) (λ v o. k v (right (occurs v (shows [] from b)) (occurs_in v (args_at [] from (suc b) n)) o)),
  )

  Holds-pairs_from : (names : List Name) (f : ℕ → Term) (a b n : ℕ) → (all_replaced f (args_at names cells a n) ≡ all_replaced f (all_replaced (λ v. Var (v + base)) (args_at names from b n))) ↔ Holds f (equations names cells from base (pairs_from a b n))
  Holds-pairs_from names f a b zero = (λ h. tt, λ h. refl)
  Holds-pairs_from names f a b (suc n) =
      let k = Holds-pairs_from names f (suc a) (suc b) n in (
        λ h. (row-head h, k.0 (row-tail h)),
        λ h. ap (λ t. More t (all_replaced f (args_at names cells (suc a) n))) h.0 ∙ ap (More (replaced f (renamed base (shows names from b)))) (k.1 h.1),
      )

  -- compounds of one name and number of arguments
  pub split_rows : (m k : AtomId) (first second : Ref) (n i : ℕ) (x y : Cell) (old new : List (Ref × Ref)) → x ≡ cell.Comp m first n → y ≡ cell.Comp k second i → StandsBefore (length cells) x → StandsBefore (length from) y → m.at ≡ k.at → n ≡ i
      → reverse new ≡ pairs_from first.at second.at n ++ reverse old → Splits cells from base x y old new
  split_rows m k first second n i x y old new ex ey bx by e same added =
      let px : StandsBefore (length cells) (cell.Comp m first n) = subst (StandsBefore (length cells)) ex bx in
      let py : StandsBefore (length from) (cell.Comp k second n) = subst (StandsBefore (length from)) (ey ∙ ap (cell.Comp k second) (sym same)) by in
      let is : y ≡ cell.Comp k second n = ey ∙ ap (cell.Comp k second) (sym same) in
      record {
        more = pairs_from first.at second.at n;
        added = added;
        met = λ vars h. AreMet-pairs_from vars first.at second.at n px.1 py.1 (λ v o. h v (ap (λ z. occurs v (shown_from [] from z)) is ∙ o));
        smaller = rw is (omega (arith, heads_size-pairs_from first.at second.at n));
        same = λ names f.
            let r = Holds-pairs_from names f first.at second.at n in
            (λ h. r.0 (comp-args (rw (ex, is) at h)), λ h. rw (ex, is) (ap (λ w. Comp w (all_replaced f (args_at names cells first.at n))) (ap (name_at names) e) ∙ ap (Comp (name_at names k.at)) (r.1 h)));
      }

  -- compounds of other names or numbers of arguments
  pub split_names : (m k : AtomId) (first second : Ref) (n i : ℕ) (x y : Cell) → x ≡ cell.Comp m first n → y ≡ cell.Comp k second i → m.at ≢ k.at → (names : List Name) → AreDistinct names → IsNamed (length names) x → IsNamed (length names) y → (f : ℕ → Term)
      → replaced f (shown_from names cells x) ≡ replaced f (renamed base (shown_from names from y)) → ⊥
  split_names m k first second n i x y ex ey apart names d nx ny f h =
      apart (same_place names d m.at k.at (rw ex at nx) (rw ey at ny) (comp-name (rw (ex, ey) at h)))

  pub split_counts : (m k : AtomId) (first second : Ref) (n i : ℕ) (x y : Cell) → x ≡ cell.Comp m first n → y ≡ cell.Comp k second i → n ≢ i → (names : List Name) (f : ℕ → Term)
      → replaced f (shown_from names cells x) ≡ replaced f (renamed base (shown_from names from y)) → ⊥
  split_counts m k first second n i x y ex ey apart names f h =
      let e : all_replaced f (args_at names cells first.at n) ≡ all_replaced f (all_replaced (λ v. Var (v + base)) (args_at names from second.at i)) = comp-args (rw (ex, ey) at h) in
      apart (
      sym (count-replaced f (args_at names cells first.at n) ∙ count-args_at names cells first.at n) ∙ ap count_of e
      ∙ count-replaced f (all_replaced (λ v. Var (v + base)) (args_at names from second.at i)) ∙ count-replaced (λ v. Var (v + base)) (args_at names from second.at i) ∙ count-args_at names from second.at i)

  -- a compound and an integer or an atom
  pub split_apart : (m : AtomId) (first : Ref) (n : ℕ) (x y : Cell) → x ≡ cell.Comp m first n → IsNoVariable y → ((k : AtomId) (second : Ref) (i : ℕ) → y ≡ cell.Comp k second i → ⊥) → (names : List Name) (f : ℕ → Term)
      → replaced f (shown_from names cells x) ≡ replaced f (renamed base (shown_from names from y)) → ⊥
  split_apart m first n x (cell.Var v) ex nv nc names f h = nv v refl
  split_apart m first n x (cell.Int value) ex nv nc names f h = let k : Comp (name_at names m.at) (all_replaced f (args_at names cells first.at n)) ≡ Int value = rw ex at h in absurd (cc)
  split_apart m first n x (cell.Atom name) ex nv nc names f h = let k : Comp (name_at names m.at) (all_replaced f (args_at names cells first.at n)) ≡ Atom (name_at names name.at) = rw ex at h in absurd (cc)
  split_apart m first n x (cell.Comp k second i) ex nv nc names f h = nc k second i refl

  -- an integer or an atom, and a cell that is no variable
  pub split_constant : (x y : Cell) (b : Bool) (work : List (Ref × Ref)) → IsNoVariable x → ((k : AtomId) (second : Ref) (i : ℕ) → x ≡ cell.Comp k second i → ⊥) → IsNoVariable y → b ≡ constants_eq x y → SplitStep cells from base x y work work b
  split_constant x y b work nx cx ny e = go x y b nx cx ny e
    where
      equal : (x y : Cell) → ((names : List Name) (f : ℕ → Term) → replaced f (shown_from names cells x) ≡ replaced f (renamed base (shown_from names from y))) → Splits cells from base x y work work
      equal x y same = record {
        more = [];
        added = refl;
        met = λ vars h. tt;
        smaller = has_size (shown_from [] from y);
        same = λ names f. (λ h. tt, λ h. same names f);
      }

      go : (x y : Cell) (b : Bool) → IsNoVariable x → ((k : AtomId) (second : Ref) (i : ℕ) → x ≡ cell.Comp k second i → ⊥) → IsNoVariable y → b ≡ constants_eq x y → SplitStep cells from base x y work work b
      go (cell.Var v) y b nx cx ny e = absurd (nx v refl)
      go (cell.Comp k second i) y b nx cx ny e = absurd (cx k second i refl)
      go x (cell.Var v) b nx cx ny e = absurd (ny v refl)
      go (cell.Int m) (cell.Int n) true nx cx ny e = equal (cell.Int m) (cell.Int n) (λ names f. ap Int ((Decides-int_eq m n).0 (sym e)))
      go (cell.Int m) (cell.Int n) false nx cx ny e = λ names d ix iy f h. let same : m ≡ n = cc in let q : true ≡ false = sym ((Decides-int_eq m n).1 same) ∙ sym e in absurd (cc)
      go (cell.Atom m) (cell.Atom n) true nx cx ny e = equal (cell.Atom m) (cell.Atom n) (λ names f. ap (λ i. Atom (name_at names i)) (eqb-true m.at n.at (sym e)))
      go (cell.Atom m) (cell.Atom n) false nx cx ny e = λ names d ix iy f h.
          let q : true ≡ false = sym (eq-eqb m.at n.at (same_place names d m.at n.at ix iy (atom-name h))) ∙ sym e in absurd (cc)
      go (cell.Int m) (cell.Atom n) true nx cx ny e = absurd (cc)
      go (cell.Int m) (cell.Atom n) false nx cx ny e = λ names d ix iy f h. cc
      go (cell.Atom m) (cell.Int n) true nx cx ny e = absurd (cc)
      go (cell.Atom m) (cell.Int n) false nx cx ny e = λ names d ix iy f h. cc
      go (cell.Int m) (cell.Comp k second i) true nx cx ny e = absurd (cc)
      go (cell.Int m) (cell.Comp k second i) false nx cx ny e = λ names d ix iy f h. cc
      go (cell.Atom m) (cell.Comp k second i) true nx cx ny e = absurd (cc)
      go (cell.Atom m) (cell.Comp k second i) false nx cx ny e = λ names d ix iy f h. cc

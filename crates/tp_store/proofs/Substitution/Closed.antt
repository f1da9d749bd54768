-- What stands before a closed mark shows no variable from the mark's first number on.
use Rattle.std.proofs.Common.{◌≡◌, ℕ, zero, suc, ◌+◌, ◌<◌, ◌≤◌, Bool, true, false, cond, nat_eq, ◌||◌, List, [], ◌∷◌, ◌++◌, length, reverse, take, Some, slice_get, get_or, refl, ap, sym, subst, ◌∙◌, arith, inl, inr}
use Rattle.std.proofs.lemmas.Bool.{eqb-true}
use Rattle.std.proofs.lemmas.List.{length-take}
use Rattle.std.proofs.lemmas.Option.{slice_get-get_or, slice_get_within}
use Rattle.std.proofs.Math.Seq.{take-append_seam}
use Rattle.tp_terms.specs.declared.cells.Cell.{Cell}
use Rattle.tp_terms.specs.declared.cells.Cell.TheVariants as cell
use Rattle.tp_terms.specs.declared.cells.Ref.{Ref}
use Rattle.tp_terms.specs.declared.world.StoreMark.{StoreMark}
use Rattle.tp_terms.specs.Term.{Name, Term, Terms, Var, Int, Atom, Comp, NoMore, More, occurs, occurs_in}
use Rattle.tp_terms.specs.Shown.{shows, shown_from, args_at, StandsBefore}
use Rattle.tp_terms.specs.Binds.{Bindings}
use Rattle.tp_terms.proofs.Places.Shown.{shows-cell}
use Rattle.tp_terms.proofs.Naming.Tables.{slice_get-append}
use Rattle.tp_meaning.specs.Subst.{Subst, apply, for_one}
use Rattle.tp_meaning.specs.Valid.{Below, AllBelow}
use Rattle.tp_meaning.proofs.Unification.Applied.{apply-empty}
use Rattle.tp_meaning.proofs.Unification.Complete.{apply-extended}
use Rattle.tp_meaning.proofs.Unification.Under.{replaced-below}
use Rattle.tp_store.specs.declared.chains.Chains.{Chains}
use Rattle.tp_store.specs.Contents.{Contents, chained, seen, AddsCells, AreChained, IsConstant, IsStore}
use Rattle.tp_store.specs.Chain.{AreBefore, IsBefore, IsChains, IsClosed, IsTable, contents_of}
use Rattle.tp_store.specs.Logged.{without_pair}
use Rattle.tp_store.proofs.Substitution.Chained.{unnamed}
use Rattle.tp_store.proofs.Substitution.Kept.{slice_get-take, IsChains-of}

-- ---- marks that are closed

-- before the first cell nothing stands
pub closed-start : (cells : List Cell) (pairs : Bindings) (mark : StoreMark) → mark.cells ≡ 0 → mark.vars ≡ 0 → IsClosed cells pairs mark
closed-start cells pairs mark mc mv = record { variables = λ at v lt e. absurd (omega (arith, mc)); bound = go pairs }
  where
    go : (ps : Bindings) → AreBefore mark cells ps
    go [] = tt
    go (p ∷ ps) = (λ lt. absurd (omega (arith, mv)), go ps)

-- a whole store is closed
pub closed-store : (c : Contents) (mark : StoreMark) → IsStore c → mark.cells ≡ length c.cells → mark.vars ≡ c.vars → IsClosed c.cells c.pairs mark
closed-store c mark s mc mv = record {
  variables = λ at v lt e. let l : v < c.vars = s.numbered at v e in omega (arith, mv);
  bound = go c.pairs (s.chain []);
}
  where
    go : (pairs : Bindings) → AreChained [] c.cells c.vars pairs → AreBefore mark c.cells pairs
    go [] h = tt
    go (p ∷ pairs) h = (λ lt. inl (let l : p.1.at < length c.cells = (h.0).stands in omega (arith, mc)), go pairs h.1)

-- a further cell, the mark being no later than it
pub closed-cell : (c : Contents) (x : Cell) (mark mark' : StoreMark) → IsStore c → IsClosed c.cells c.pairs mark → mark'.vars ≡ mark.vars → mark'.cells ≤ mark.cells → mark'.cells ≤ length c.cells
    → ((at : ℕ) → at < mark.cells → at < length c.cells → at < mark'.cells) → IsClosed (c.cells ++ x ∷ []) c.pairs mark'
closed-cell c x mark mark' s h vars le within all = record {
  variables = λ at v lt e.
      let l : v < mark.vars = h.variables at v (omega arith) (sym (slice_get-append c.cells (x ∷ []) at (omega arith)) ∙ e) in
      omega (arith, vars);
  bound = go c.pairs (s.chain []) h.bound;
}
  where
    step : (place : Ref) → place.at < length c.cells → IsBefore mark c.cells place → IsBefore mark' (c.cells ++ x ∷ []) place
    step place lt (inl b) = inl (all place.at b lt)
    step place lt (inr k) = inr (k.0, slice_get-append c.cells (x ∷ []) place.at lt ∙ k.1, k.2)

    go : (pairs : Bindings) → AreChained [] c.cells c.vars pairs → AreBefore mark c.cells pairs → AreBefore mark' (c.cells ++ x ∷ []) pairs
    go [] k b = tt
    go (p ∷ pairs) k b = (λ lt. step p.1 (k.0).stands (b.0 (omega (arith, vars))), go pairs k.1 b.1)

-- fewer cells, in which the places of all bindings stand
pub closed-take : (n : ℕ) (cells : List Cell) (vars : ℕ) (pairs : Bindings) (mark : StoreMark) → AreChained [] (take n cells) vars pairs → IsClosed cells pairs mark → IsClosed (take n cells) pairs mark
closed-take n cells vars pairs mark chain h = record {
  variables = λ at v lt e. h.variables at v lt (sym (slice_get-take n cells at (before at (cell.Var v) e)) ∙ e);
  bound = go pairs chain h.bound;
}
  where
    before : (at : ℕ) (x : Cell) → slice_get (take n cells) at ≡ Some x → at < n
    before at x e = omega (arith, slice_get_within (take n cells) at x e, length-take n cells)

    step : (place : Ref) → place.at < length (take n cells) → IsBefore mark cells place → IsBefore mark (take n cells) place
    step place lt (inl b) = inl b
    step place lt (inr k) = inr (k.0, slice_get-take n cells place.at (omega (arith, length-take n cells)) ∙ k.1, k.2)

    go : (ps : Bindings) → AreChained [] (take n cells) vars ps → AreBefore mark cells ps → AreBefore mark (take n cells) ps
    go [] k b = tt
    go (p ∷ ps) k b = (λ lt. step p.1 (k.0).stands (b.0 lt), go ps k.1 b.1)

-- the binding of a variable taken back
pub closed-without : (v : ℕ) (cells : List Cell) (pairs : Bindings) (mark : StoreMark) → IsClosed cells pairs mark → IsClosed cells (without_pair v pairs) mark
closed-without v cells pairs mark h = record { variables = h.variables; bound = go pairs h.bound }
  where
    go : (ps : Bindings) → AreBefore mark cells ps → AreBefore mark cells (without_pair v ps)
    go [] b = tt
    go (p ∷ ps) b = pick (nat_eq p.0 v) (go ps b.1)
      where
        pick : (e : Bool) → AreBefore mark cells (without_pair v ps) → AreBefore mark cells (cond e ps (p ∷ without_pair v ps))
        pick true r = b.1
        pick false r = (b.0, r)

-- cells that were added are cut off again
module _ (old now new : Chains) (kept : ℕ) (o : IsChains old) (h : IsChains now) (a : AddsCells (contents_of old) (contents_of now)) (k : kept ≡ length old.cells.items) (cells : new.cells.items ≡ take kept now.cells.items) where
  cut_cells : take kept now.cells.items ≡ old.cells.items
  cut_cells = ap (λ n. take n now.cells.items) k ∙ ap (take (length old.cells.items)) a.cells ∙ take-append_seam old.cells.items a.more

  cut_closed : IsClosed old.cells.items (reverse old.trail.pairs) now.closed
  cut_closed =
      let chain : AreChained [] (take kept now.cells.items) (length old.trail.bound) (reverse old.trail.pairs) = subst (λ cs. AreChained [] cs (length old.trail.bound) (reverse old.trail.pairs)) (sym cut_cells) (o.store.chain []) in
      subst (λ cs. IsClosed cs (reverse old.trail.pairs) now.closed) cut_cells
      (closed-take kept now.cells.items (length old.trail.bound) (reverse old.trail.pairs) now.closed chain (subst (λ ps. IsClosed now.cells.items ps now.closed) a.pairs h.closed))

  pub IsChains-cut : new.trail.bound ≡ now.trail.bound → new.trail.pairs ≡ now.trail.pairs → new.closed ≡ now.closed → IsChains new
  IsChains-cut bound pairs closed =
      IsChains-of new (contents_of old) (cells ∙ cut_cells) (ap reverse pairs ∙ a.pairs) (ap length bound ∙ a.vars) o.store
      (subst (λ os. IsTable os (reverse old.trail.pairs)) (sym bound) (subst (IsTable now.trail.bound) a.pairs h.table))
      (subst (IsClosed old.cells.items (reverse old.trail.pairs)) (sym closed) cut_closed)
      o.fits

-- ---- what stands before a closed mark

-- a variable does not occur in a term of lesser ones
mutual
  pub below-apart : (n v : ℕ) (t : Term) → n ≤ v → Below n t → occurs v t ≡ false
  below-apart n v (Var w) le h = go (nat_eq v w) refl
    where
      go : (b : Bool) → nat_eq v w ≡ b → nat_eq v w ≡ false
      go true e = absurd (let q : v ≡ w = eqb-true v w e in omega arith)
      go false e = e
  below-apart n v (Int z) le h = refl
  below-apart n v (Atom a) le h = refl
  below-apart n v (Comp f ts) le h = all_below-apart n v ts le h

  all_below-apart : (n v : ℕ) (ts : Terms) → n ≤ v → AllBelow n ts → occurs_in v ts ≡ false
  all_below-apart n v NoMore le h = refl
  all_below-apart n v (More t ts) le h = ap (λ b. b || occurs_in v ts) (below-apart n v t le h.0) ∙ all_below-apart n v ts le h.1

module _ (names : List Name) (c : Contents) (mark : StoreMark) (s : IsStore c) (closed : IsClosed c.cells c.pairs mark) where
  -- without the bindings
  shows_to : (k at : ℕ) → at < k → at < mark.cells → at < length c.cells → Below mark.vars (shows names c.cells at)
  shows_to zero at lt early within = absurd (omega arith)
  shows_to (suc k) at lt early within =
      let x : Cell = get_or c.cells at (cell.Var 0) in
      let e : slice_get c.cells at ≡ Some x = slice_get-get_or c.cells at (cell.Var 0) within in
      subst (Below mark.vars) (sym (shows-cell names c.cells at x e (s.built at x e))) (by_cell x e (s.built at x e) (shows_to k))
    where
      row : (first n : ℕ) → first + n ≤ at → ((j : ℕ) → j < k → j < mark.cells → j < length c.cells → Below mark.vars (shows names c.cells j)) → AllBelow mark.vars (args_at names c.cells first n)
      row first zero le ih = tt
      row first (suc n) le ih = (ih first (omega arith) (omega arith) (omega arith), row (suc first) n (omega arith) ih)

      by_cell : (x : Cell) → slice_get c.cells at ≡ Some x → StandsBefore at x → ((j : ℕ) → j < k → j < mark.cells → j < length c.cells → Below mark.vars (shows names c.cells j)) → Below mark.vars (shown_from names c.cells x)
      by_cell (cell.Var v) e before ih = closed.variables at v early e
      by_cell (cell.Int value) e before ih = tt
      by_cell (cell.Atom name) e before ih = tt
      by_cell (cell.Comp name first count) e before ih = row first.at count before.1 ih

  -- the term of an integer's or an atom's place has no variables
  constant_below : (u : Subst) (at : ℕ) (x : Cell) → slice_get c.cells at ≡ Some x → IsConstant x → Below mark.vars (apply u (shows names c.cells at))
  constant_below u at x e k = subst (λ t. Below mark.vars (apply u t)) (sym (shows-cell names c.cells at x e (s.built at x e))) (go x k)
    where
      go : (y : Cell) → IsConstant y → Below mark.vars (apply u (shown_from names c.cells y))
      go (cell.Var v) k = absurd k
      go (cell.Int value) k = tt
      go (cell.Atom name) k = tt
      go (cell.Comp name first count) k = absurd k

  -- the bindings bring no later variable into a term
  bound_below : (pairs : Bindings) → AreChained names c.cells c.vars pairs → AreBefore mark c.cells pairs → (t : Term) → Below mark.vars t → Below mark.vars (apply (chained names c.cells pairs) t)
  unfolding chained
  bound_below [] k b t h = subst (Below mark.vars) (sym (apply-empty t)) h
  bound_below (p ∷ pairs) k b t h =
      let u : Subst = chained names c.cells pairs in
      let y : Term = apply u (shows names c.cells p.1.at) in
      let more = bound_below pairs k.1 b.1 in
      subst (Below mark.vars) (sym (apply-extended p.0 y u t (unnamed names c.cells c.vars pairs p.0 k.1 (k.0).unbound)))
      (replaced-below mark.vars mark.vars (for_one p.0 y) (apply u t) (λ w l. pick more w l (nat_eq p.0 w) refl) (more t h))
    where
      place : ((x : Term) → Below mark.vars x → Below mark.vars (apply (chained names c.cells pairs) x)) → IsBefore mark c.cells p.1 → Below mark.vars (apply (chained names c.cells pairs) (shows names c.cells p.1.at))
      place more (inl early) = more (shows names c.cells p.1.at) (shows_to (suc p.1.at) p.1.at (omega arith) early (k.0).stands)
      place more (inr x) = constant_below (chained names c.cells pairs) p.1.at x.0 x.1 x.2

      pick : ((x : Term) → Below mark.vars x → Below mark.vars (apply (chained names c.cells pairs) x)) → (w : ℕ) → w < mark.vars → (e : Bool) → nat_eq p.0 w ≡ e → Below mark.vars (cond e (apply (chained names c.cells pairs) (shows names c.cells p.1.at)) (Var w))
      pick more w l true e = place more (b.0 (let q : p.0 ≡ w = eqb-true p.0 w e in omega arith))
      pick more w l false e = l

  -- a later variable doesn't occur in the term of a place before the mark
  pub closed-apart : (v at : ℕ) → mark.vars ≤ v → at < mark.cells → at < length c.cells → occurs v (seen names c at) ≡ false
  closed-apart v at le early within = below-apart mark.vars v (seen names c at) le (bound_below c.pairs (s.chain names) closed.bound (shows names c.cells at) (shows_to (suc at) at (omega arith) early within))

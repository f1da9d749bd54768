-- The bindings of a store fit its cells.
use Rattle.std.proofs.Common.{◌≡◌, ℕ, ◌+◌, ◌<◌, ◌≤◌, true, List, [], Option, Some, None, slice_get, get_or, refl, ap, sym, ◌∙◌, arith, ◌⊎◌, inl, inr}
use Rattle.std.proofs.lemmas.Bool.{eqb-true}
use Rattle.tp_terms.specs.declared.cells.Cell.{Cell}
use Rattle.tp_terms.specs.declared.cells.Cell.TheVariants as cell
use Rattle.tp_terms.specs.Term.{Term, Terms, Var, Int, Atom, Comp, NoMore, More, replaced, all_replaced, occurs, occurs_in, term_size, terms_size}
use Rattle.std.proofs.lemmas.Option.{slice_get-get_or}
use Rattle.tp_terms.specs.Shown.{shows, shown_from, name_at}
use Rattle.tp_terms.proofs.Places.Shown.{shows-cell}
use Rattle.tp_terms.specs.Binds.{LeadsAtOnce, Fits}
use Rattle.tp_terms.proofs.Places.Bound.{acyclic-above}
use Rattle.tp_meaning.specs.Subst.{apply, value_at}
use Rattle.tp_meaning.proofs.Unification.Solved.{either, or_either}
use Rattle.tp_store.specs.Contents.{Contents, IsStore, subst_of}
use Rattle.tp_store.proofs.Substitution.Chained.{Tied, named}

-- a variable is no larger than what it occurs in
mutual
  pub size-occurs : (f : ℕ → Term) (v : ℕ) (t : Term) → occurs v t ≡ true → term_size (f v) ≤ term_size (replaced f t)
  size-occurs f v (Var w) e = let h : v ≡ w = eqb-true v w e in rw h (omega arith)
  size-occurs f v (Int n) e = absurd (cc)
  size-occurs f v (Atom a) e = absurd (cc)
  size-occurs f v (Comp c ts) e = let h = sizes-occurs f v ts e in omega (arith, h)

  pub sizes-occurs : (f : ℕ → Term) (v : ℕ) (ts : Terms) → occurs_in v ts ≡ true → term_size (f v) ≤ terms_size (all_replaced f ts)
  sizes-occurs f v NoMore e = absurd (cc)
  sizes-occurs f v (More t ts) e = either (or_either (occurs v t) (occurs_in v ts) e) (λ o. let h = size-occurs f v t o in omega (arith, h)) (λ o. let h = sizes-occurs f v ts o in omega (arith, h))

-- no term is the same as one that it occurs in
pub no_cycle : (f : ℕ → Term) (v : ℕ) (c : List ℕ) (ts : Terms) → occurs_in v ts ≡ true → f v ≡ replaced f (Comp c ts) → ⊥
no_cycle f v c ts o e = let h = sizes-occurs f v ts o in let k : term_size (f v) ≡ 1 + terms_size (all_replaced f ts) = ap term_size e in omega (arith, h)

-- what shows a variable is its cell
shown_variable : (c : Contents) (at w : ℕ) (x : Cell) → IsStore c → slice_get c.cells at ≡ Some x → shows [] c.cells at ≡ Var w → slice_get c.cells at ≡ Some (cell.Var w)
shown_variable c at w (cell.Var v) s e h = let k : Var v ≡ Var w = sym (shows-cell [] c.cells at (cell.Var v) e tt) ∙ h in let same : v ≡ w = cc in e ∙ ap (λ n. Some (cell.Var n)) same
shown_variable c at w (cell.Int value) s e h = let k : Int value ≡ Var w = sym (shows-cell [] c.cells at (cell.Int value) e tt) ∙ h in absurd (cc)
shown_variable c at w (cell.Atom name) s e h = let k : Atom (name_at [] name.at) ≡ Var w = sym (shows-cell [] c.cells at (cell.Atom name) e tt) ∙ h in absurd (cc)
shown_variable c at w (cell.Comp name first count) s e h =
    let k : shown_from [] c.cells (cell.Comp name first count) ≡ Var w = sym (shows-cell [] c.cells at (cell.Comp name first count) e (s.built at (cell.Comp name first count) e)) ∙ h in
    absurd (cc)

-- bindings followed, terms become smaller, or variables older
Above : Contents → ℕ → ℕ → Type 0
Above c v w =
    (term_size (value_at (subst_of [] c) w) < term_size (value_at (subst_of [] c) v))
    ⊎ ((term_size (value_at (subst_of [] c) w) ≡ term_size (value_at (subst_of [] c) v)) × (w < v))

above_trans : (c : Contents) (u v w : ℕ) → Above c u v → Above c v w → Above c u w
unfolding Above
above_trans c u v w (inl a) (inl b) = inl (omega arith)
above_trans c u v w (inl a) (inr b) = inl (let e = b.0 in omega arith)
above_trans c u v w (inr a) (inl b) = inl (let e = a.0 in omega arith)
above_trans c u v w (inr a) (inr b) = inr (b.0 ∙ a.0, let l = a.1 in let m = b.1 in omega arith)

above_apart : (c : Contents) (v : ℕ) → ¬ (Above c v v)
unfolding Above
above_apart c v (inl a) = omega arith
above_apart c v (inr a) = let l = a.1 in omega arith

goes_down : (c : Contents) → IsStore c → (v w : ℕ) → LeadsAtOnce c.pairs c.cells v w → Above c v w
unfolding Above
goes_down c s v w l = go (shows [] c.cells l.place.at) refl l.occurring
  where
    tied : Tied [] c.cells c.vars (subst_of [] c) v l.place
    tied = named [] c.cells c.vars c.pairs v l.place (s.chain []) l.bound

    go : (t : Term) → shows [] c.cells l.place.at ≡ t → occurs w t ≡ true → Above c v w
    go (Var x) e o =
        let same : w ≡ x = eqb-true w x o in
        let value : value_at (subst_of [] c) v ≡ value_at (subst_of [] c) w = tied.value ∙ ap (apply (subst_of [] c)) e ∙ ap (value_at (subst_of [] c)) (sym same) in
        inr (sym (ap term_size value), tied.older w (at_place (slice_get c.cells l.place.at) refl (e ∙ ap Var (sym same))))
      where
        at_place : (o : Option Cell) → slice_get c.cells l.place.at ≡ o → shows [] c.cells l.place.at ≡ Var w → slice_get c.cells l.place.at ≡ Some (cell.Var w)
        at_place (Some y) e' h = shown_variable c l.place.at w y s e' h
        at_place None e' h = let k : None ≡ Some (get_or c.cells l.place.at (cell.Var 0)) = sym e' ∙ slice_get-get_or c.cells l.place.at (cell.Var 0) tied.within in absurd (cc)
    go (Int n) e o = absurd (cc)
    go (Atom a) e o = absurd (cc)
    go (Comp f ts) e o =
        let h = sizes-occurs (value_at (subst_of [] c)) w ts o in
        let k : term_size (value_at (subst_of [] c) v) ≡ 1 + terms_size (all_replaced (value_at (subst_of [] c)) ts) = ap term_size (tied.value ∙ ap (apply (subst_of [] c)) e) in
        inl (omega (arith, h, k))

pub Fits-store : (c : Contents) → IsStore c → Fits c.pairs c.cells
Fits-store c s = record {
  within = λ v place e. (named [] c.cells c.vars c.pairs v place (s.chain []) e).within;
  acyclic = acyclic-above c.pairs c.cells (Above c) (above_trans c) (goes_down c s) (above_apart c);
}

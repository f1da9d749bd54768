-- One turn of solving, and its end.
use Rattle.std.proofs.Common.{◌≡◌, ℕ, zero, suc, ◌+◌, ◌<◌, ◌≤◌, Bool, true, false, nat_eq, cond, List, [], ◌∷◌, length, Option, Some, None, slice_get, get_or, set, refl, sym, ap, subst, ◌∙◌, arith, ◌↔◌}
use Rattle.std.proofs.lemmas.Bool.{eqb-true, eq-eqb}
use Rattle.tp_terms.specs.declared.cells.Cell.{Cell}
use Rattle.tp_terms.specs.declared.cells.Cell.TheVariants as cell
use Rattle.tp_terms.specs.declared.cells.Ref.{Ref}
use Rattle.tp_terms.specs.Shown.{shows}
use Rattle.tp_terms.specs.Term.{Name, Term, Var, Int, Atom, Comp, replaced, occurs}
use Rattle.tp_terms.specs.Binds.{Bindings, bound_in}
use Rattle.tp_meaning.specs.Subst.{Subst, IsSubst, apply, value_at, extended, for_one, bound_to}
use Rattle.tp_meaning.proofs.Unification.Solved.{over_term, over_extended, value-extended, unbound, idem_over}
use Rattle.tp_meaning.proofs.Unification.Applied.{apply-twice}
use Rattle.tp_meaning.proofs.Unification.Replaced.{replaced-replaced, replaced-same}
use Rattle.tp_store.specs.Contents.{Contents, chained, subst_of, seen, seen_cell, Adds, IsStore, IsUnbound, AddsPairs, with_pair}
use Rattle.tp_store.specs.Work.{Extends, ArePairsIn, Each, MayBind, Reduces, IsGeneral, unbound_count}
use Rattle.tp_store.specs.Chain.{rank, IsTable}
use Rattle.tp_store.proofs.Substitution.Chained.{unnamed, IsSubst-chained}
use Rattle.tp_store.proofs.Standing.Fits.{no_cycle}
use Rattle.tp_store.proofs.Unifier.Work.{end_shows}
use Rattle.tp_store.proofs.Unifier.Steps.{over_of}

-- a solution of v and t sees no difference
for_one_same : (f : ℕ → Term) (v : ℕ) (t y : Term) → f v ≡ replaced f t → replaced f (replaced (for_one v t) y) ≡ replaced f y
for_one_same f v t y h = replaced-replaced f (for_one v t) y ∙ replaced-same (λ w. replaced f (for_one v t w)) f y (λ w _. at w)
  where
    at : (w : ℕ) → replaced f (for_one v t w) ≡ f w
    at w = go (nat_eq v w) refl
      where
        go : (b : Bool) → nat_eq v w ≡ b → replaced f (cond b t (Var w)) ≡ f w
        go true e = sym h ∙ ap f (eqb-true v w e)
        go false e = refl

-- where no pair is left, the map is most general
pub solved : (s0 s : Subst) (a b : Term) → IsSubst s → ((f : ℕ → Term) → Extends s f → Extends s0 f × (replaced f a ≡ replaced f b)) → ((f : ℕ → Term) → Extends s0 f → replaced f a ≡ replaced f b → Extends s f)
    → ((v : ℕ) → bound_to s v ≡ None → bound_to s0 v ≡ None) → ((y v : ℕ) → bound_to s0 y ≡ None → value_at s y ≡ Var v → v ≤ y) → IsGeneral s0 a b s
solved s0 s a b id is only binds least =
    let k = is (value_at s) (record { at = (idem_over s id.idem).at }) in
    record { over = k.0; same = k.1; general = only; binds = binds; least = least }

module _ (c : Contents) (v : ℕ) (place : Ref) (ok : IsStore c) (may : MayBind c v place) where
  seen_end : (names : List Name) → seen names c place.at ≡ seen_cell names c may.cell
  seen_end names = ap (apply (subst_of names c)) (end_shows names c (record { place = place; cell = may.cell }) may.end)

  free : (names : List Name) → bound_to (subst_of names c) v ≡ None
  free names = unnamed names c.cells c.vars c.pairs v (ok.chain names) may.unbound

  -- where the place shows a variable, that is older
  pub lesser : (names : List Name) (w : ℕ) → seen names c place.at ≡ Var w → w < v
  lesser names w e = go may.cell refl may.end.unbound (sym (seen_end names) ∙ e)
    where
      go : (x : Cell) → may.cell ≡ x → IsUnbound c.pairs x → seen_cell names c x ≡ Var w → w < v
      go (cell.Var y) is u e =
          let f : Var y ≡ Var w = sym (unbound y (subst_of names c) (unnamed names c.cells c.vars c.pairs y (ok.chain names) u)) ∙ e in
          let g : y ≡ w = cc in
          let r : rank may.cell ≡ y + 1 = ap rank is in
          let o = may.older in
          subst (λ k. k < v) g (omega arith)
      go (cell.Int value) is u e = cc
      go (cell.Atom name) is u e = cc
      go (cell.Comp name first n) is u e = cc

  -- nothing solves where the variable occurs in the place's term
  pub never : (names : List Name) → occurs v (seen names c place.at) ≡ true → (f : ℕ → Term) → Extends (subst_of names c) f → f v ≡ replaced f (shows names c.cells place.at) → ⊥
  never names h f e same = go (seen names c place.at) refl h (same ∙ over_term f (subst_of names c) (shows names c.cells place.at) (over_of (subst_of names c) f e))
    where
      go : (t : Term) → seen names c place.at ≡ t → occurs v t ≡ true → f v ≡ replaced f t → ⊥
      go (Var w) is h e = let l = lesser names w is in let q : v ≡ w = eqb-true v w h in absurd (omega arith)
      go (Int n) is h e = cc
      go (Atom a) is h e = cc
      go (Comp d ts) is h e = no_cycle f v d ts h e

  -- a cell there that is a variable is older
  older_cell : (w : ℕ) → slice_get c.cells place.at ≡ Some (cell.Var w) → w < v
  older_cell w e =
      let same : Some may.cell ≡ Some (cell.Var w) = sym may.end.cell ∙ e in
      let is : may.cell ≡ cell.Var w = cc in
      let r : rank may.cell ≡ w + 1 = ap rank is in
      let o = may.older in
      omega arith

  pub may_add : (names : List Name) → occurs v (seen names c place.at) ≡ false → Adds names c.cells c.vars c.pairs v place
  may_add names out = record { claimed = may.claimed; stands = may.end.place; unbound = may.unbound; apart = out; older = older_cell }

  -- the substitution with the new binding
  module _ (names : List Name) where
    s : Subst
    s = subst_of names c

    t : Term
    t = seen names c place.at

    is_subst : IsSubst s
    unfolding s
    is_subst = IsSubst-chained names c.cells c.vars c.pairs (ok.chain names)

    now_is : subst_of names (with_pair c v place) ≡ extended s v t
    unfolding chained s t
    now_is = refl

    value_now : (x : ℕ) → value_at (subst_of names (with_pair c v place)) x ≡ replaced (for_one v t) (value_at s x)
    unfolding s t
    value_now x = ap (λ u. value_at u x) now_is ∙ value-extended v x t s (free names)

    now_solves : (f : ℕ → Term) → Extends (subst_of names (with_pair c v place)) f → f v ≡ replaced f t
    unfolding s t
    now_solves f e = e.at v ∙ ap (replaced f) (value_now v ∙ ap (replaced (for_one v t)) (unbound v s (free names)) ∙ ap (λ b. cond b t (Var v)) (eq-eqb v v refl))

    now_extends : (f : ℕ → Term) → Extends (subst_of names (with_pair c v place)) f → Extends s f
    unfolding s t
    now_extends f e = record { at = λ x. e.at x ∙ ap (replaced f) (value_now x) ∙ for_one_same f v t (value_at s x) (now_solves f e) }

    extends_now : (f : ℕ → Term) → Extends s f → f v ≡ replaced f t → Extends (subst_of names (with_pair c v place)) f
    unfolding s t
    extends_now f e same = record { at = λ x. (over_extended f v t s (free names) same (over_of s f e)).at x ∙ ap (λ u. replaced f (value_at u x)) (sym now_is) }

    pub bound_same : (all new : List (Ref × Ref)) → Reduces c all new v place → (f : ℕ → Term) → (Extends (subst_of names c) f × Each f names c.cells all) ↔ (Extends (subst_of names (with_pair c v place)) f × Each f names c.cells new)
    unfolding s t
    bound_same all new red f = (
      λ h.
          let q = (red.same names f h.0).0 h.1 in
          (extends_now f h.0 (q.0 ∙ over_term f s (shows names c.cells place.at) (over_of s f h.0)), q.1),
      λ h.
          let old = now_extends f h.0 in
          (old, (red.same names f old).1 (now_solves f h.0 ∙ sym (over_term f s (shows names c.cells place.at) (over_of s f old)), h.1)),
    )

    -- what the new map makes a variable was a variable before
    pub bound_least : (s0 : Subst) → ((y w : ℕ) → bound_to s0 y ≡ None → value_at (subst_of names c) y ≡ Var w → w ≤ y) → (y w : ℕ) → bound_to s0 y ≡ None → value_at (subst_of names (with_pair c v place)) y ≡ Var w → w ≤ y
    unfolding s t
    bound_least s0 least y w u e = go (value_at s y) refl (sym (value_now y) ∙ e)
      where
        go : (x : Term) → value_at s y ≡ x → replaced (for_one v t) x ≡ Var w → w ≤ y
        go (Var z) is e = pick (nat_eq v z) refl e
          where
            pick : (b : Bool) → nat_eq v z ≡ b → cond b t (Var z) ≡ Var w → w ≤ y
            pick true same g = let l = lesser names w g in let k = least y z u is in let q : v ≡ z = eqb-true v z same in omega arith
            pick false other g = let q : z ≡ w = cc in let k = least y z u is in omega arith
        go (Int n) is e = absurd (let k = e in cc)
        go (Atom a) is e = absurd (let k = e in cc)
        go (Comp d ts) is e = absurd (let k = e in cc)

    -- what the new map leaves unbound was unbound
    pub bound_binds : (x : ℕ) → bound_to (subst_of names (with_pair c v place)) x ≡ None → bound_to (subst_of names c) x ≡ None
    unfolding s t
    bound_binds x h =
        let itself : value_at s x ≡ Var x = go (value_at s x) refl (sym (value_now x) ∙ unbound x (subst_of names (with_pair c v place)) h) in
        is_subst.idem.free x x (ap (occurs x) itself ∙ eq-eqb x x refl)
      where
        go : (y : Term) → value_at s x ≡ y → replaced (for_one v t) y ≡ Var x → value_at s x ≡ Var x
        go (Var z) is e = pick (nat_eq v z) e
          where
            pick : (b : Bool) → cond b t (Var z) ≡ Var x → value_at s x ≡ Var x
            pick true g = ap (apply s) (sym g) ∙ apply-twice s (shows names c.cells place.at) is_subst.idem ∙ g
            pick false g = is ∙ g
        go (Int n) is e = absurd (let k = e in cc)
        go (Atom a) is e = absurd (let k = e in cc)
        go (Comp d ts) is e = absurd (let k = e in cc)

    -- the new map solves the equation of the variable and the place
    pub bound_general : occurs v (seen names c place.at) ≡ false → IsGeneral (subst_of names c) (Var v) (shows names c.cells place.at) (subst_of names (with_pair c v place))
    unfolding s t
    bound_general out =
        solved s (subst_of names (with_pair c v place)) (Var v) (shows names c.cells place.at)
        (IsSubst-chained names c.cells c.vars ((v, place) ∷ c.pairs) (may_add names out, ok.chain names))
        (λ f e. let old = now_extends f e in (old, now_solves f e ∙ sym (over_term f s (shows names c.cells place.at) (over_of s f old))))
        (λ f e h. extends_now f e (h ∙ over_term f s (shows names c.cells place.at) (over_of s f e)))
        bound_binds
        (bound_least s (λ y w u e. let k : Var y ≡ Var w = sym (unbound y s u) ∙ e in let q : y ≡ w = cc in omega arith))

-- a binding leaves one unbound variable less
count-bind : (bound : List (Option Ref)) (v : ℕ) (place : Ref) → v < length bound → get_or bound v None ≡ None → unbound_count (set bound v (Some place)) < unbound_count bound
count-bind [] v place lt e = absurd (omega arith)
count-bind (None ∷ os) zero place lt e = omega arith
count-bind (Some q ∷ os) zero place lt e = absurd (cc)
count-bind (None ∷ os) (suc v) place lt e = omega (arith, count-bind os v place (omega arith) e)
count-bind (Some q ∷ os) (suc v) place lt e = count-bind os v place (omega arith) e

pub unbound_count-bind : (bound : List (Option Ref)) (pairs : Bindings) (v : ℕ) (place : Ref) → IsTable bound pairs → v < length bound → bound_in pairs v ≡ None → unbound_count (set bound v (Some place)) < unbound_count bound
unbound_count-bind bound pairs v place t lt e = count-bind bound v place lt (t.kept v ∙ e)

-- further bindings, one after another
pub AddsPairs-bind : (old mid new : Contents) (v : ℕ) (place : Ref) → AddsPairs old mid → new ≡ with_pair mid v place → AddsPairs old new
AddsPairs-bind old mid new v place g e = record {
  more = (v, place) ∷ g.more;
  pairs = ap (λ (x : Contents). x.pairs) e ∙ ap (λ ps. (v, place) ∷ ps) g.pairs;
  cells = ap (λ (x : Contents). x.cells) e ∙ g.cells;
  vars = ap (λ (x : Contents). x.vars) e ∙ g.vars;
}

-- ---- what holds before each turn

-- the first equation is solved exactly where the bindings so far and the pairs that are left are
pub record IsSolving (old now : Contents) (left right : ℕ) (work : List (Ref × Ref)) : Type 0 where
  pub places : ArePairsIn now.cells work
  pub adds : AddsPairs old now
  pub same : (names : List Name) (f : ℕ → Term) →
      (Extends (subst_of names old) f × (replaced f (shows names old.cells left) ≡ replaced f (shows names old.cells right)))
      ↔ (Extends (subst_of names now) f × Each f names now.cells work)
  pub binds : (names : List Name) (v : ℕ) → bound_to (subst_of names now) v ≡ None → bound_to (subst_of names old) v ≡ None
  pub least : (names : List Name) (y v : ℕ) → bound_to (subst_of names old) y ≡ None → value_at (subst_of names now) y ≡ Var v → v ≤ y

pub solving_start : (c : Contents) (left right : Ref) → left.at < length c.cells → right.at < length c.cells → IsSolving c c left.at right.at ((left, right) ∷ [])
solving_start c left right l r = record {
  places = (l, r, tt);
  adds = record { more = []; pairs = refl; cells = refl; vars = refl };
  same = λ names f. (λ h. (h.0, (h.1, tt)), λ h. (h.0, h.1.0));
  binds = λ names v h. h;
  least = λ names y v free e. let k : Var y ≡ Var v = sym (unbound y (subst_of names c) free) ∙ e in let q : y ≡ v = cc in omega arith;
}

pub solving_bind : (old c now : Contents) (left right : ℕ) (all new : List (Ref × Ref)) (v : ℕ) (place : Ref) → IsStore c → IsSolving old c left right all → Reduces c all new v place → now ≡ with_pair c v place → IsSolving old now left right new
solving_bind old c now left right all new v place ok i red e = subst (λ x. IsSolving old x left right new) (sym e) (record {
  places = red.places;
  adds = AddsPairs-bind old c (with_pair c v place) v place i.adds refl;
  same = λ names f.
      let k = bound_same c v place ok red.may names all new red f in
      let q = i.same names f in
      (λ h. k.0 (q.0 h), λ h. q.1 (k.1 h));
  binds = λ names x h. i.binds names x (bound_binds c v place ok red.may names x h);
  least = λ names. bound_least c v place ok red.may names (subst_of names old) (i.least names);
})

pub solving_ends : (old c : Contents) (left right : ℕ) (work : List (Ref × Ref)) → IsStore c → IsSolving old c left right work → ((names : List Name) (f : ℕ → Term) → Extends (subst_of names c) f → Each f names c.cells work) → (names : List Name) → IsGeneral (subst_of names old) (shows names old.cells left) (shows names old.cells right) (subst_of names c)
solving_ends old c left right work ok i each names =
    solved (subst_of names old) (subst_of names c) (shows names old.cells left) (shows names old.cells right) (IsSubst-chained names c.cells c.vars c.pairs (ok.chain names))
    (λ f e. (i.same names f).1 (e, each names f e)) (λ f e h. ((i.same names f).0 (e, h)).0) (i.binds names) (i.least names)

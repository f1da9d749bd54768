-- What solving has found is the most general unifier.
use Rattle.std.proofs.Common.{◌≡◌, ℕ, ◌≤◌, Bool, true, false, List, [], ◌++◌, length, take, reverse, Option, Some, None, Result, Ok, Err, IfOk, is_some, refl, sym, ap, ◌∙◌, arith}
use Rattle.std.proofs.lemmas.Bool.{eq-eqb}
use Rattle.std.proofs.lemmas.List.{reverse-append, reverse-reverse}
use Rattle.std.proofs.Math.Seq.{take-append_seam}
use Rattle.tp_terms.specs.declared.cells.Ref.{Ref}
use Rattle.tp_terms.specs.Term.{Term, Var, Int, Atom, Comp, occurs}
use Rattle.tp_meaning.specs.Subst.{Subst, IsSubst, mgu, apply, value_at, bound_to}
use Rattle.tp_meaning.specs.Unifier.{Mgu}
use Rattle.tp_meaning.proofs.Unification.Solved.{unbound, replaced-itself, differ}
use Rattle.tp_meaning.proofs.Unification.Complete.{mgu_full}
use Rattle.tp_meaning.proofs.Unification.OneUnifier.{values-same, mgu-is, one_unifier}
use Rattle.tp_terms.specs.declared.NoMemory.{NoMemory}
use Rattle.tp_terms.specs.Term.{Name}
use Rattle.tp_terms.specs.Shown.{shows}
use Rattle.tp_store.specs.declared.chains.Chains.{Chains}
use Rattle.tp_store.specs.Chain.{IsChains, contents_of}
use Rattle.tp_store.specs.Contents.{Contents, AddsPairs, Names, subst_of}
use Rattle.tp_store.proofs.Substitution.Chained.{IsSubst-chained}
use Rattle.tp_store.specs.Work.{IsGeneral, NoneSolves}
use Rattle.tp_store.proofs.Unifier.Steps.{over_of}

-- two most general solutions are the same
module _ (s : Subst) (a b : Term) (u u2 : Subst) (is : IsSubst u) (g : IsGeneral s a b u) (m : Mgu s a b u2) where
  unbound_before : (v : ℕ) → bound_to u2 v ≡ None → bound_to s v ≡ None
  unbound_before v n = go (bound_to s v) refl
    where
      go : (o : Option Term) → bound_to s v ≡ o → bound_to s v ≡ None
      go None e = e
      go (Some t) e = absurd (differ (is_some (bound_to u2 v)) (m.binds v (ap is_some e)) (ap is_some n))

  -- what u leaves unbound stands for itself under the other
  fixed : (w : ℕ) → bound_to u w ≡ None → value_at u2 w ≡ Var w
  fixed w n = go (value_at u2 w) refl (sym (unbound w u n) ∙ m.most_general u (record { is_subst = is; over = g.over.at; same = g.same }) w)
    where
      go : (t : Term) → value_at u2 w ≡ t → Var w ≡ apply u (value_at u2 w) → value_at u2 w ≡ Var w
      go (Var x) e h =
          let back : value_at u x ≡ Var w = sym (h ∙ ap (apply u) e) in
          let nx : bound_to u2 x ≡ None = m.solves.is_subst.idem.free w x (ap (occurs x) e ∙ eq-eqb x x refl) in
          let le : w ≤ x = g.least x w (unbound_before x nx) back in
          let ge : x ≤ w = m.least w x w e (g.binds w n) e in
          let same : x ≡ w = omega arith in
          e ∙ ap Var same
      go (Int z) e h = let k : Var w ≡ Int z = h ∙ ap (apply u) e in absurd (cc)
      go (Atom c) e h = let k : Var w ≡ Atom c = h ∙ ap (apply u) e in absurd (cc)
      go (Comp c ts) e h = let k : Var w ≡ apply u (Comp c ts) = h ∙ ap (apply u) e in absurd (cc)

  general_same : u2 ≡ u
  general_same = values-same u2 u m.solves.is_subst is (λ x.
      (g.general (value_at u2) (record { at = m.solves.over }) m.solves.same).at x
      ∙ replaced-itself (value_at u2) (value_at u x) (λ w o. fixed w (is.idem.free x w o)))

pub mgu-found : (s : Subst) (a b : Term) (u : Subst) → IsSubst s → IsSubst u → IsGeneral s a b u → mgu s a b ≡ Some u
mgu-found s a b u id is g = go (mgu s a b) refl
  where
    go : (o : Option Subst) → mgu s a b ≡ o → mgu s a b ≡ Some u
    go None e = absurd (mgu_full s a b (value_at u) e id.idem (over_of s (value_at u) g.over) g.same)
    go (Some u2) e = e ∙ ap Some (general_same s a b u u2 is g (mgu-is s a b u2 id e))

pub mgu-none : (s : Subst) (a b : Term) → IsSubst s → NoneSolves s a b → mgu s a b ≡ None
mgu-none s a b id n = (one_unifier s a b id).none.1 (λ u h. n (value_at u) (record { at = h.over }) h.same)

-- further bindings taken back
pub undone_pairs : (old now : List (ℕ × Ref)) (more : List (ℕ × Ref)) → reverse now ≡ more ++ reverse old → reverse (take (length old) now) ≡ reverse old
undone_pairs old now more e =
    let all : now ≡ old ++ reverse more = sym (reverse-reverse now) ∙ ap reverse e ∙ reverse-append more (reverse old) ∙ ap (λ l. l ++ reverse more) (reverse-reverse old) in
    ap reverse (ap (take (length old)) all ∙ take-append_seam old (reverse more))

pub undone_same : (old now : Chains) (new : Contents) (kept : ℕ) → AddsPairs (contents_of old) (contents_of now) → kept ≡ length old.trail.pairs → new ≡ record { cells = now.cells.items; pairs = reverse (take kept now.trail.pairs); vars = length now.trail.bound } → new ≡ contents_of old
undone_same old now new kept a k e =
    e ∙ ap (λ n. record { cells = now.cells.items; pairs = reverse (take n now.trail.pairs); vars = length now.trail.bound }) k
    ∙ ap (λ cs. record { cells = cs; pairs = reverse (take (length old.trail.pairs) now.trail.pairs); vars = length now.trail.bound }) a.cells
    ∙ ap (λ ps. record { cells = old.cells.items; pairs = ps; vars = length now.trail.bound }) (undone_pairs old.trail.pairs now.trail.pairs a.more a.pairs)
    ∙ ap (λ n. record { cells = old.cells.items; pairs = reverse old.trail.pairs; vars = n }) a.vars

pub AddsPairs-same : (old new : Contents) → new ≡ old → AddsPairs old new
AddsPairs-same old new e = record { more = []; pairs = ap (λ (x : Contents). x.pairs) e; cells = ap (λ (x : Contents). x.cells) e; vars = ap (λ (x : Contents). x.vars) e }

-- the answers of solving, as the definition's
module _ (old now : Chains) (left right : ℕ) (ok : IsChains old) (ok2 : IsChains now) where
  pub found_true : ((names : List Name) → IsGeneral (subst_of names (contents_of old)) (shows names old.cells.items left) (shows names old.cells.items right) (subst_of names (contents_of now)))
      → (names : List Name) → mgu (subst_of names (contents_of old)) (shows names old.cells.items left) (shows names old.cells.items right) ≡ Some (subst_of names (contents_of now))
  found_true g names =
      mgu-found (subst_of names (contents_of old)) (shows names old.cells.items left) (shows names old.cells.items right) (subst_of names (contents_of now))
      (IsSubst-chained names old.cells.items (length old.trail.bound) (reverse old.trail.pairs) (ok.store.chain names)) (IsSubst-chained names now.cells.items (length now.trail.bound) (reverse now.trail.pairs) (ok2.store.chain names)) (g names)

  pub found_false : ((names : List Name) → Names names old.cells.items → NoneSolves (subst_of names (contents_of old)) (shows names old.cells.items left) (shows names old.cells.items right))
      → (names : List Name) → Names names old.cells.items → mgu (subst_of names (contents_of old)) (shows names old.cells.items left) (shows names old.cells.items right) ≡ None
  found_false n names t =
      mgu-none (subst_of names (contents_of old)) (shows names old.cells.items left) (shows names old.cells.items right) (IsSubst-chained names old.cells.items (length old.trail.bound) (reverse old.trail.pairs) (ok.store.chain names)) (n names t)

  abbrev Yes : Type 0
  Yes = (names : List Name) → IsGeneral (subst_of names (contents_of old)) (shows names old.cells.items left) (shows names old.cells.items right) (subst_of names (contents_of now))

  abbrev No : Type 0
  No = (names : List Name) → Names names old.cells.items → NoneSolves (subst_of names (contents_of old)) (shows names old.cells.items left) (shows names old.cells.items right)

  pub found_some : (answer : Result Bool NoMemory) → (answer ≡ Ok true → Yes) → (answer ≡ Ok false → No)
      → IfOk answer (λ found. (names : List Name) → Names names old.cells.items → found ≡ is_some (mgu (subst_of names (contents_of old)) (shows names old.cells.items left) (shows names old.cells.items right)))
  found_some (Ok true) found none = λ names t. sym (ap is_some (found_true (found refl) names))
  found_some (Ok false) found none = λ names t. sym (ap is_some (found_false (none refl) names t))
  found_some (Err e) found none = tt

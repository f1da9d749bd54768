-- A variable that is bound: what its equation comes to.
use Rattle.std.proofs.Common.{◌≡◌, ℕ, ◌+◌, ◌<◌, Bool, true, false, List, [], ◌∷◌, ◌++◌, length, Some, None, Result, Ok, Err, IfOk, slice_get, get_or, refl, sym, ap, subst, ◌∙◌, arith, ◌↔◌, append-nil, append_assoc, length-append}
use Rattle.std.proofs.lemmas.Option.{slice_get-get_or}
use Rattle.std.proofs.Math.Seq.{get_or-append_seam}
use Rattle.tp_terms.specs.declared.NoMemory.{NoMemory}
use Rattle.tp_terms.specs.declared.cells.Cell.{Cell}
use Rattle.tp_terms.specs.declared.cells.Cell.TheVariants as cell
use Rattle.tp_terms.specs.declared.cells.Ref.{Ref}
use Rattle.tp_terms.specs.Term.{Name, Term, Var, Int, Atom, Comp, replaced, occurs}
use Rattle.tp_terms.specs.Shown.{shows, shown_from, AreNamed}
use Rattle.tp_terms.specs.Binds.{bound_in}
use Rattle.tp_terms.proofs.Places.Shown.{shows-cell, shows-push, AreNamed-push}
use Rattle.tp_meaning.specs.Clauses.{renamed}
use Rattle.tp_meaning.specs.Subst.{Subst, apply}
use Rattle.tp_meaning.proofs.Unification.Solved.{over_term}
use Rattle.tp_store.specs.declared.chains.End.{End}
use Rattle.tp_store.specs.Contents.{Contents, AddsCells, AddsPairs, IsNumbered, IsStore, IsUnbound, Names, seen, seen_cell, subst_of, with_cell, with_pair}
use Rattle.tp_store.specs.Chain.{IsEnd, rank}
use Rattle.tp_store.specs.Copy.{NamesBoth, ShowsCopy}
use Rattle.tp_store.specs.Work.{Extends, IsGeneral, MayBind, NoneSolves}
use Rattle.tp_store.specs.Meeting.{AddsBoth, ComesTo, Meets}
use Rattle.tp_store.proofs.Standing.Facts.{IsSubst-store, value-bound}
use Rattle.tp_store.proofs.Substitution.Kept.{Keeps-adds}
use Rattle.tp_store.proofs.Unifier.Work.{end_shows}
use Rattle.tp_store.proofs.Unifier.Steps.{over_of}
use Rattle.tp_store.proofs.Unifier.Solutions.{bound_general}
use Rattle.tp_store.proofs.HeadsMeet.Equations.{comes_by, comes_same, general_comes, none_by}

-- ---- what is added

pub both_same : (old new : Contents) → new ≡ old → AddsBoth old new
both_same old new e = record {
  more_cells = [];
  more = [];
  cells = ap (λ (x : Contents). x.cells) e ∙ sym (append-nil old.cells);
  pairs = ap (λ (x : Contents). x.pairs) e;
  vars = ap (λ (x : Contents). x.vars) e;
}

pub both_pairs : (old new : Contents) → AddsPairs old new → AddsBoth old new
both_pairs old new a = record { more_cells = []; more = a.more; cells = a.cells ∙ sym (append-nil old.cells); pairs = a.pairs; vars = a.vars }

pub both_cells : (old mid new : Contents) → AddsCells old mid → AddsPairs mid new → AddsBoth old new
both_cells old mid new a p = record {
  more_cells = a.more;
  more = p.more;
  cells = p.cells ∙ a.cells;
  pairs = p.pairs ∙ ap (λ ps. p.more ++ ps) a.pairs;
  vars = p.vars ∙ a.vars;
}

pub both_trans : (old mid new : Contents) → AddsBoth old mid → AddsBoth mid new → AddsBoth old new
both_trans old mid new a b = record {
  more_cells = a.more_cells ++ b.more_cells;
  more = b.more ++ a.more;
  cells = b.cells ∙ ap (λ cs. cs ++ b.more_cells) a.cells ∙ append_assoc old.cells a.more_cells b.more_cells;
  pairs = b.pairs ∙ ap (λ ps. b.more ++ ps) a.pairs ∙ sym (append_assoc b.more a.more old.pairs);
  vars = b.vars ∙ a.vars;
}

-- ---- other sides, and cells that were added before

pub meets_by : (r : Result Bool NoMemory) (old mid new : Contents) (from other : List Cell) (a b t h : List Name → Term) → ((names : List Name) → subst_of names mid ≡ subst_of names old)
    → ((names : List Name) → Names names old.cells → AreNamed (length names) other → Names names mid.cells × AreNamed (length names) from)
    → ((names : List Name) (f : ℕ → Term) → Extends (subst_of names old) f → (replaced f (a names) ≡ replaced f (b names)) ↔ (replaced f (t names) ≡ replaced f (h names)))
    → IfOk r (Meets mid new from a b (λ names. [])) → IfOk r (Meets old new other t h (λ names. []))
meets_by (Ok true) old mid new from other a b t h same tables k m = λ names.
    comes_by (subst_of names old) (a names) (b names) (t names) (h names) (subst_of names new) [] (k names) (subst (λ s. ComesTo s (a names) (b names) (subst_of names new) []) (same names) (m names))
meets_by (Ok false) old mid new from other a b t h same tables k m = λ names n o.
    let q = tables names n o in
    none_by (subst_of names old) (a names) (b names) (t names) (h names) (k names) (subst (λ s. NoneSolves s (a names) (b names)) (same names) (m names q.0 q.1))
meets_by (Err e) old mid new from other a b t h same tables k m = tt

-- ---- one binding

pub bind_meets : (c new : Contents) (v : ℕ) (place : Ref) (ok : IsStore c) (may : MayBind c v place) → ((names : List Name) → occurs v (seen names c place.at) ≡ false) → new ≡ with_pair c v place
    → (names : List Name) → ComesTo (subst_of names c) (Var v) (shows names c.cells place.at) (subst_of names new) []
bind_meets c new v place ok may out e = λ names.
    subst (λ (x : Contents). ComesTo (subst_of names c) (Var v) (shows names c.cells place.at) (subst_of names x) []) (sym e)
    (general_comes (subst_of names c) (Var v) (shows names c.cells place.at) (subst_of names (with_pair c v place)) (bound_general c v place ok may names (out names)))

-- the solving of two places
pub solved_meets : (r : Result Bool NoMemory) (old new : Contents) (left right : ℕ) → (r ≡ Ok true → (names : List Name) → IsGeneral (subst_of names old) (shows names old.cells left) (shows names old.cells right) (subst_of names new))
    → (r ≡ Ok false → (names : List Name) → Names names old.cells → NoneSolves (subst_of names old) (shows names old.cells left) (shows names old.cells right))
    → IfOk r (Meets old new [] (λ names. shows names old.cells left) (λ names. shows names old.cells right) (λ names. []))
solved_meets (Ok true) old new left right found never = λ names. general_comes (subst_of names old) (shows names old.cells left) (shows names old.cells right) (subst_of names new) (found refl names)
solved_meets (Ok false) old new left right found never = λ names n o. never refl names n
solved_meets (Err e) old new left right found never = tt

-- a bound variable's place shows what the variable stands for
pub bound_meets : (r : Result Bool NoMemory) (old new : Contents) (v : ℕ) (goal : ℕ) (place : Ref) → IsStore old → bound_in old.pairs v ≡ Some place
    → IfOk r (Meets old new [] (λ names. shows names old.cells goal) (λ names. shows names old.cells place.at) (λ names. []))
    → IfOk r (Meets old new [] (λ names. shows names old.cells goal) (λ names. Var v) (λ names. []))
bound_meets r old new v goal place ok e m =
    meets_by r old old new [] [] (λ names. shows names old.cells goal) (λ names. shows names old.cells place.at) (λ names. shows names old.cells goal) (λ names. Var v)
    (λ names. refl) (λ names n o. (n, tt))
    (λ names f k.
    let same : f v ≡ replaced f (shows names old.cells place.at) = k.at v ∙ ap (replaced f) (value-bound names old v place ok e) ∙ sym (over_term f (subst_of names old) (shows names old.cells place.at) (over_of (subst_of names old) f k)) in
    (λ h. h ∙ sym same, λ h. h ∙ same))
    m

-- two terms that are seen as the same
pub seen_same : (s : Subst) (t u : Term) (f : ℕ → Term) → Extends s f → apply s t ≡ apply s u → replaced f t ≡ replaced f u
seen_same s t u f k e = over_term f s t (over_of s f k) ∙ ap (replaced f) e ∙ sym (over_term f s u (over_of s f k))

-- the end of a chain in place of its beginning
pub end_meets : (r : Result Bool NoMemory) (old new : Contents) (end : End) (goal : Ref) (other : List Cell) (h : List Name → Term) → IsEnd old end → ((names : List Name) → seen_cell names old end.cell ≡ seen names old goal.at)
    → IfOk r (Meets old new [] (λ names. shows names old.cells end.place.at) h (λ names. []))
    → IfOk r (Meets old new other (λ names. shows names old.cells goal.at) h (λ names. []))
end_meets r old new end goal other h is same m =
    meets_by r old old new [] other (λ names. shows names old.cells end.place.at) h (λ names. shows names old.cells goal.at) h
    (λ names. refl) (λ names n o. (n, tt))
    (λ names f k.
    let e : replaced f (shows names old.cells end.place.at) ≡ replaced f (shows names old.cells goal.at) =
    ap (replaced f) (end_shows names old end is) ∙ seen_same (subst_of names old) (shown_from names old.cells end.cell) (shows names old.cells goal.at) f k (same names) in
    (λ q. sym e ∙ q, λ q. e ∙ q))
    m

-- the same variable
pub same_meets : (c : Contents) (end : End) (v w : ℕ) → IsStore c → IsEnd c end → end.cell ≡ cell.Var w → v ≡ w → (names : List Name) → ComesTo (subst_of names c) (shows names c.cells end.place.at) (Var v) (subst_of names c) []
same_meets c end v w ok is e same = λ names.
    let t : shows names c.cells end.place.at ≡ Var v = end_shows names c end is ∙ ap (shown_from names c.cells) e ∙ ap Var (sym same) in
    comes_same (subst_of names c) (shows names c.cells end.place.at) (Var v) [] (IsSubst-store names c ok) (λ f k. (λ h. tt, λ h. ap (replaced f) t))

-- the sides changed
pub flipped : (r : Result Bool NoMemory) (old new : Contents) (a b : List Name → Term) → IfOk r (Meets old new [] a b (λ names. [])) → IfOk r (Meets old new [] b a (λ names. []))
flipped r old new a b m = meets_by r old old new [] [] a b b a (λ names. refl) (λ names n o. (n, tt)) (λ names f k. (λ h. sym h, λ h. sym h)) m

-- ---- a variable that is placed

module _ (old mid : Contents) (v : ℕ) (at : Ref) (ok : IsStore old) (e : mid ≡ with_cell old (cell.Var v)) (last : at.at ≡ length old.cells) where
  placed_adds : AddsCells old mid
  placed_adds = record { more = cell.Var v ∷ []; cells = ap (λ (y : Contents). y.cells) e; pairs = ap (λ (y : Contents). y.pairs) e; vars = ap (λ (y : Contents). y.vars) e }

  placed_shows : (names : List Name) → shows names mid.cells at.at ≡ Var v
  placed_shows names = ap (λ (y : Contents). shows names y.cells at.at) e ∙ ap (shows names (old.cells ++ cell.Var v ∷ [])) last ∙ shows-push names old.cells (cell.Var v)

  pub placed_may : (w : ℕ) → v < old.vars → v < w → w < old.vars → bound_in old.pairs v ≡ None → bound_in old.pairs w ≡ None → MayBind mid w at
  placed_may w claimed lt within free other = subst (λ (x : Contents). MayBind x w at) (sym e) (record {
    claimed = within;
    unbound = other;
    cell = cell.Var v;
    end = record {
      place = omega (arith, last, length-append old.cells (cell.Var v ∷ []));
      cell = ap (slice_get (old.cells ++ cell.Var v ∷ [])) last
          ∙ slice_get-get_or (old.cells ++ cell.Var v ∷ []) (length old.cells) (cell.Var 0) (omega (arith, length-append old.cells (cell.Var v ∷ [])))
          ∙ ap Some (get_or-append_seam old.cells (cell.Var v) [] (cell.Var 0));
      before = tt;
      unbound = free;
      numbered = claimed;
    };
    older = omega arith;
  })

  pub placed_meets : (r : Result Bool NoMemory) (new : Contents) (end : End) (w : ℕ) → IsEnd old end → end.cell ≡ cell.Var w
      → IfOk r (Meets mid new [] (λ names. Var w) (λ names. shows names mid.cells at.at) (λ names. []))
      → IfOk r (Meets old new [] (λ names. shows names old.cells end.place.at) (λ names. Var v) (λ names. []))
  placed_meets r new end w is ew m =
      meets_by r old mid new [] [] (λ names. Var w) (λ names. shows names mid.cells at.at) (λ names. shows names old.cells end.place.at) (λ names. Var v)
      (Keeps-adds old mid ok placed_adds).bindings
      (λ names n o. (record { distinct = n.distinct; named = subst (λ (x : Contents). AreNamed (length names) x.cells) (sym e) (AreNamed-push (length names) old.cells (cell.Var v) n.named tt) }, tt))
      (λ names f k.
      let t : shows names old.cells end.place.at ≡ Var w = end_shows names old end is ∙ ap (shown_from names old.cells) ew in
      (λ h. ap (replaced f) t ∙ h ∙ ap (replaced f) (placed_shows names), λ h. ap (replaced f) (sym t) ∙ h ∙ ap (replaced f) (sym (placed_shows names))))
      m

-- ---- a copy

-- a cell that is no variable can be bound to
may_bind : (c : Contents) (v : ℕ) (at : Ref) (t : Term) → IsStore c → v < c.vars → bound_in c.pairs v ≡ None → at.at < length c.cells → shows [] c.cells at.at ≡ t → ((w : ℕ) → t ≡ Var w → ⊥) → MayBind c v at
may_bind c v at t ok claimed free lt shown other =
    let e : slice_get c.cells at.at ≡ Some (get_or c.cells at.at (cell.Var 0)) = slice_get-get_or c.cells at.at (cell.Var 0) lt in
    go (get_or c.cells at.at (cell.Var 0)) e
  where
    go : (x : Cell) → slice_get c.cells at.at ≡ Some x → MayBind c v at
    go x e = record {
      claimed = claimed;
      unbound = free;
      cell = x;
      end = record { place = lt; cell = e; before = ok.built at.at x e; unbound = unbound_by x apart; numbered = numbered_by x apart };
      older = older_by x apart;
    }
      where
        apart : (w : ℕ) → x ≡ cell.Var w → ⊥
        apart w is = other w (sym shown ∙ shows-cell [] c.cells at.at x e (ok.built at.at x e) ∙ ap (shown_from [] c.cells) is)

        unbound_by : (y : Cell) → ((w : ℕ) → y ≡ cell.Var w → ⊥) → IsUnbound c.pairs y
        unbound_by (cell.Var w) h = absurd (h w refl)
        unbound_by (cell.Int value) h = tt
        unbound_by (cell.Atom name) h = tt
        unbound_by (cell.Comp name first count) h = tt

        numbered_by : (y : Cell) → ((w : ℕ) → y ≡ cell.Var w → ⊥) → IsNumbered c.vars y
        numbered_by (cell.Var w) h = absurd (h w refl)
        numbered_by (cell.Int value) h = tt
        numbered_by (cell.Atom name) h = tt
        numbered_by (cell.Comp name first count) h = tt

        older_by : (y : Cell) → ((w : ℕ) → y ≡ cell.Var w → ⊥) → rank y < v + 1
        older_by (cell.Var w) h = absurd (h w refl)
        older_by (cell.Int value) h = omega arith
        older_by (cell.Atom name) h = omega arith
        older_by (cell.Comp name first count) h = omega arith

pub copied_may : (old mid : Contents) (v : ℕ) (at : Ref) (t : Term) (base : ℕ) → IsStore mid → AddsCells old mid → v < old.vars → bound_in old.pairs v ≡ None → at.at < length mid.cells → shows [] mid.cells at.at ≡ renamed base t → ((w : ℕ) → t ≡ Var w → ⊥) → MayBind mid v at
copied_may old mid v at t base ok a claimed free lt shown other =
    may_bind mid v at (renamed base t) ok (let e = a.vars in omega arith) (ap (λ ps. bound_in ps v) a.pairs ∙ free) lt shown (go t other)
  where
    go : (x : Term) → ((w : ℕ) → x ≡ Var w → ⊥) → (w : ℕ) → renamed base x ≡ Var w → ⊥
    go (Var k) h w e = h k refl
    go (Int n) h w e = absurd (cc)
    go (Atom n) h w e = absurd (cc)
    go (Comp d ts) h w e = absurd (cc)

pub copied_meets : (r : Result Bool NoMemory) (old mid new : Contents) (v : ℕ) (at head : Ref) (from : List Cell) (base : ℕ) → IsStore old → AddsCells old mid → ShowsCopy from head base mid.cells at → NamesBoth from old.cells mid.cells
    → IfOk r (Meets mid new [] (λ names. Var v) (λ names. shows names mid.cells at.at) (λ names. []))
    → IfOk r (Meets old new from (λ names. Var v) (λ names. renamed base (shows names from head.at)) (λ names. []))
copied_meets r old mid new v at head from base ok a shown named m =
    meets_by r old mid new [] from (λ names. Var v) (λ names. shows names mid.cells at.at) (λ names. Var v) (λ names. renamed base (shows names from head.at))
    (Keeps-adds old mid ok a).bindings
    (λ names n o. (record { distinct = n.distinct; named = named (length names) o n.named }, tt))
    (λ names f k. (λ h. h ∙ ap (replaced f) (shown names), λ h. h ∙ ap (replaced f) (sym (shown names))))
    m

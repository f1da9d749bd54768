-- One turn of the loop over pairs of places, and its end.
use Rattle.std.proofs.Common.{◌≡◌, ℕ, ◌+◌, ◌<◌, Bool, true, false, List, [], ◌∷◌, ◌++◌, length, reverse, Some, Result, Ok, Err, IfOk, slice_get, refl, sym, ap, subst, ◌∙◌, arith, ◌↔◌, length-append}
use Rattle.tp_terms.specs.declared.NoMemory.{NoMemory}
use Rattle.tp_terms.specs.declared.cells.Cell.{Cell}
use Rattle.tp_terms.specs.declared.cells.Cell.TheVariants as cell
use Rattle.tp_terms.specs.declared.cells.Ref.{Ref}
use Rattle.tp_terms.specs.Term.{Name, Term, Var, replaced, occurs, term_size}
use Rattle.tp_terms.specs.Shown.{shows, shown_from, AreNamed, StandsBefore}
use Rattle.tp_terms.proofs.Places.Shown.{shows-append, AreNamed-cell}
use Rattle.tp_meaning.specs.Clauses.{renamed}
use Rattle.tp_meaning.proofs.Unification.Complete.{has_size}
use Rattle.tp_store.specs.declared.chains.End.{End}
use Rattle.tp_store.specs.Contents.{Contents, IsStore, Names, seen, seen_cell, subst_of}
use Rattle.tp_store.specs.Chain.{IsEnd}
use Rattle.tp_store.specs.Copy.{IsClaimed, NamesBoth}
use Rattle.tp_store.specs.Work.{Extends, NoneSolves}
use Rattle.tp_store.specs.Meeting.{AddsBoth, AreMet, ComesTo, Looked, MeetStep, Meets, SplitStep, equations, heads_size}
use Rattle.tp_store.proofs.Standing.Facts.{IsSubst-store}
use Rattle.tp_store.proofs.HeadsMeet.Equations.{comes_on, comes_same, comes_start, none_on}
use Rattle.tp_store.proofs.HeadsMeet.Binding.{both_trans, meets_by, seen_same}

-- ---- what a look at a pair tells

-- no further pairs
pub looked_of : (r : Result Bool NoMemory) (old new : Contents) (from : List Cell) (base : ℕ) (p : Ref × Ref) (work : List (Ref × Ref))
    → IfOk r (Meets old new from (λ names. shows names old.cells p.0.at) (λ names. renamed base (shows names from p.1.at)) (λ names. [])) → IfOk r (Looked old new from base p work work)
looked_of (Ok true) old new from base p work m = record { more = []; added = refl; met = tt; smaller = has_size (shows [] from p.1.at); comes = m }
looked_of (Ok false) old new from base p work m = m
looked_of (Err e) old new from base p work m = tt

-- the number of a variable of the clause was claimed
pub claimed_here : (from : List Cell) (at base vars : ℕ) (x : Cell) (v : ℕ) → IsClaimed from at base vars → shows [] from at ≡ shown_from [] from x → x ≡ cell.Var v → occurs v (Var v) ≡ true → v + base < vars
claimed_here from at base vars x v k shown is itself = k v (ap (occurs v) (shown ∙ ap (shown_from [] from) is) ∙ itself)

pub looked_variable : (r : Result Bool NoMemory) (old new : Contents) (from : List Cell) (base : ℕ) (p : Ref × Ref) (work : List (Ref × Ref)) (x : Cell) (v : ℕ) → ((names : List Name) → shows names from p.1.at ≡ shown_from names from x) → x ≡ cell.Var v
    → IfOk r (Meets old new [] (λ names. shows names old.cells p.0.at) (λ names. Var (v + base)) (λ names. [])) → IfOk r (Looked old new from base p work work)
looked_variable r old new from base p work x v shown is m =
    looked_of r old new from base p work
    (meets_by r old old new [] from (λ names. shows names old.cells p.0.at) (λ names. Var (v + base)) (λ names. shows names old.cells p.0.at) (λ names. renamed base (shows names from p.1.at))
    (λ names. refl) (λ names n o. (n, tt))
    (λ names f k.
    let e : renamed base (shows names from p.1.at) ≡ Var (v + base) = ap (renamed base) (shown names ∙ ap (shown_from names from) is) in
    (λ h. h ∙ ap (replaced f) (sym e), λ h. h ∙ ap (replaced f) e))
    m)

pub looked_copy : (r : Result Bool NoMemory) (old new : Contents) (from : List Cell) (base : ℕ) (p : Ref × Ref) (work : List (Ref × Ref)) (x : Cell) (v : ℕ) → ((names : List Name) → seen_cell names old x ≡ seen names old p.0.at) → x ≡ cell.Var v
    → IfOk r (Meets old new from (λ names. Var v) (λ names. renamed base (shows names from p.1.at)) (λ names. [])) → IfOk r (Looked old new from base p work work)
looked_copy r old new from base p work x v same is m =
    looked_of r old new from base p work
    (meets_by r old old new from from (λ names. Var v) (λ names. renamed base (shows names from p.1.at)) (λ names. shows names old.cells p.0.at) (λ names. renamed base (shows names from p.1.at))
    (λ names. refl) (λ names n o. (n, o))
    (λ names f k.
    let e : replaced f (Var v) ≡ replaced f (shows names old.cells p.0.at) =
    ap (λ y. replaced f (shown_from names old.cells y)) (sym is) ∙ seen_same (subst_of names old) (shown_from names old.cells x) (shows names old.cells p.0.at) f k (same names) in
    (λ h. sym e ∙ h, λ h. e ∙ h))
    m)

pub looked_split : (r : Result Bool NoMemory) (old : Contents) (from : List Cell) (base : ℕ) (p : Ref × Ref) (end : End) (y : Cell) (before after : List (Ref × Ref)) → IsStore old → IsEnd old end → ((names : List Name) → seen_cell names old end.cell ≡ seen names old p.0.at)
    → slice_get from p.1.at ≡ Some y → StandsBefore (length old.cells) end.cell → StandsBefore (length from) y → ((names : List Name) → shows names from p.1.at ≡ shown_from names from y) → IsClaimed from p.1.at base old.vars
    → IfOk r (λ same. (cells other : List Cell) (b : ℕ) → StandsBefore (length cells) end.cell → StandsBefore (length other) y → SplitStep cells other b end.cell y before after same) → IfOk r (Looked old old from base p before after)
looked_split r old from base p end y before after ok is same here bx by shown claimed s = go r s
  where
    means : (names : List Name) (f : ℕ → Term) → Extends (subst_of names old) f → (replaced f (shows names old.cells p.0.at) ≡ replaced f (renamed base (shows names from p.1.at))) ↔ (replaced f (shown_from names old.cells end.cell) ≡ replaced f (renamed base (shown_from names from y)))
    means names f k =
        let t = seen_same (subst_of names old) (shown_from names old.cells end.cell) (shows names old.cells p.0.at) f k (same names) in
        let h : replaced f (renamed base (shows names from p.1.at)) ≡ replaced f (renamed base (shown_from names from y)) = ap (λ z. replaced f (renamed base z)) (shown names) in
        (λ q. t ∙ q ∙ h, λ q. sym t ∙ q ∙ sym h)

    go : (r : Result Bool NoMemory) → IfOk r (λ same. (cells other : List Cell) (b : ℕ) → StandsBefore (length cells) end.cell → StandsBefore (length other) y → SplitStep cells other b end.cell y before after same) → IfOk r (Looked old old from base p before after)
    go (Ok true) s =
        let k = s old.cells from base bx by in
        record {
          more = k.more;
          added = k.added;
          met = k.met old.vars (λ v o. claimed v (ap (occurs v) (shown []) ∙ o));
          smaller = subst (λ t. heads_size from k.more < term_size t) (sym (shown [])) k.smaller;
          comes = λ names.
              comes_same (subst_of names old) (shows names old.cells p.0.at) (renamed base (shows names from p.1.at)) (equations names old.cells from base k.more) (IsSubst-store names old ok)
              (λ f e.
              let m = means names f e in
              let q = k.same names f in
              (λ h. q.0 (m.0 h), λ h. m.1 (q.1 h)));
        }
    go (Ok false) s = λ names n o f e h.
        s old.cells from base bx by names n.distinct (AreNamed-cell (length names) old.cells end.place.at end.cell n.named is.cell) (AreNamed-cell (length names) from p.1.at y o here) f ((means names f e).0 h)
    go (Err e) s = tt

-- ---- the pairs that are left

AreMet-append : (cells : List Cell) (vars : ℕ) (from : List Cell) (base : ℕ) (ps qs : List (Ref × Ref)) → AreMet cells vars from base ps → AreMet cells vars from base qs → AreMet cells vars from base (ps ++ qs)
AreMet-append cells vars from base [] qs h k = k
AreMet-append cells vars from base (p ∷ ps) qs h k = (h.0, h.1, h.2, AreMet-append cells vars from base ps qs h.3 k)

AreMet-more : (cells more : List Cell) (vars : ℕ) (from : List Cell) (base : ℕ) (ps : List (Ref × Ref)) → AreMet cells vars from base ps → AreMet (cells ++ more) vars from base ps
AreMet-more cells more vars from base [] h = tt
AreMet-more cells more vars from base (p ∷ ps) h = ((let l = h.0 in omega (arith, length-append cells more)), h.1, h.2, AreMet-more cells more vars from base ps h.3)

equations-append : (names : List Name) (cells from : List Cell) (base : ℕ) (ps qs : List (Ref × Ref)) → equations names cells from base (ps ++ qs) ≡ equations names cells from base ps ++ equations names cells from base qs
equations-append names cells from base [] qs = refl
equations-append names cells from base (p ∷ ps) qs = ap (λ es. (shows names cells p.0.at, renamed base (shows names from p.1.at)) ∷ es) (equations-append names cells from base ps qs)

equations-more : (names : List Name) (cells more : List Cell) (vars : ℕ) (from : List Cell) (base : ℕ) (ps : List (Ref × Ref)) → AreMet cells vars from base ps → equations names (cells ++ more) from base ps ≡ equations names cells from base ps
equations-more names cells more vars from base [] h = refl
equations-more names cells more vars from base (p ∷ ps) h =
    ap (λ t. (t, renamed base (shows names from p.1.at)) ∷ equations names (cells ++ more) from base ps) (shows-append names cells more p.0.at h.0)
    ∙ ap (λ es. (shows names cells p.0.at, renamed base (shows names from p.1.at)) ∷ es) (equations-more names cells more vars from base ps h.3)

heads_size-append : (from : List Cell) (ps qs : List (Ref × Ref)) → heads_size from (ps ++ qs) ≡ heads_size from ps + heads_size from qs
heads_size-append from [] qs = omega arith
heads_size-append from (p ∷ ps) qs = omega (arith, heads_size-append from ps qs)

-- ---- what holds before each turn

-- the first equation comes to those of the pairs that are left, the first one to be taken first
pub record IsMeeting (old now : Contents) (from : List Cell) (base goal head : ℕ) (work : List (Ref × Ref)) : Type 0 where
  pub adds : AddsBoth old now
  pub named : NamesBoth from old.cells now.cells
  pub met : AreMet now.cells now.vars from base work
  pub comes : (names : List Name) → ComesTo (subst_of names old) (shows names old.cells goal) (renamed base (shows names from head)) (subst_of names now) (equations names now.cells from base work)

pub meeting_start : (c : Contents) (from : List Cell) (base : ℕ) (goal head : Ref) → IsStore c → AddsBoth c c → goal.at < length c.cells → head.at < length from → IsClaimed from head.at base c.vars → IsMeeting c c from base goal.at head.at ((goal, head) ∷ [])
meeting_start c from base goal head ok a g h k = record {
  adds = a;
  named = λ n f o. o;
  met = (g, h, k, tt);
  comes = λ names. comes_start (subst_of names c) (shows names c.cells goal.at) (renamed base (shows names from head.at)) (IsSubst-store names c ok);
}

module _ (old now new : Contents) (from : List Cell) (base goal head : ℕ) (p : Ref × Ref) (before after : List (Ref × Ref)) (ok : IsStore now) (i : IsMeeting old now from base goal head (p ∷ reverse before)) where
  pub meeting_turn : AddsBoth now new → NamesBoth from now.cells new.cells → MeetStep now new from base p before after → IsMeeting old new from base goal head (reverse after)
  meeting_turn a named s =
      let left : AreMet new.cells new.vars from base (reverse before) =
      subst (λ cs. AreMet cs new.vars from base (reverse before)) (sym a.cells) (subst (λ vs. AreMet (now.cells ++ a.more_cells) vs from base (reverse before)) (sym a.vars) (AreMet-more now.cells a.more_cells now.vars from base (reverse before) i.met.3)) in
      record {
        adds = both_trans old now new i.adds a;
        named = λ n f o. named n f (i.named n f o);
        met = subst (AreMet new.cells new.vars from base) (sym s.added) (AreMet-append new.cells new.vars from base s.more (reverse before) s.met left);
        comes = λ names.
            let same : equations names new.cells from base (reverse before) ≡ equations names now.cells from base (reverse before) =
            ap (λ cs. equations names cs from base (reverse before)) a.cells ∙ equations-more names now.cells a.more_cells now.vars from base (reverse before) i.met.3 in
            let all : equations names new.cells from base s.more ++ equations names now.cells from base (reverse before) ≡ equations names new.cells from base (reverse after) =
            ap (λ es. equations names new.cells from base s.more ++ es) (sym same) ∙ sym (equations-append names new.cells from base s.more (reverse before)) ∙ ap (equations names new.cells from base) (sym s.added) in
            subst (ComesTo (subst_of names old) (shows names old.cells goal) (renamed base (shows names from head)) (subst_of names new)) all
            (comes_on (subst_of names old) (shows names old.cells goal) (renamed base (shows names from head)) (subst_of names now) (shows names now.cells p.0.at) (renamed base (shows names from p.1.at)) (subst_of names new) (equations names new.cells from base s.more) (equations names now.cells from base (reverse before))
            (IsSubst-store names now ok) (i.comes names) (s.comes names));
      }

  pub meeting_smaller : MeetStep now new from base p before after → heads_size from (reverse after) < heads_size from (p ∷ reverse before)
  meeting_smaller s = omega (arith, s.smaller, ap (heads_size from) s.added, heads_size-append from s.more (reverse before))

  -- where nothing solves a pair's equation nothing solves the first one
  pub meeting_none : ((names : List Name) → Names names now.cells → AreNamed (length names) from → NoneSolves (subst_of names now) (shows names now.cells p.0.at) (renamed base (shows names from p.1.at)))
      → (names : List Name) → Names names old.cells → AreNamed (length names) from → NoneSolves (subst_of names old) (shows names old.cells goal) (renamed base (shows names from head))
  meeting_none s names n o =
      none_on (subst_of names old) (shows names old.cells goal) (renamed base (shows names from head)) (subst_of names now) (shows names now.cells p.0.at) (renamed base (shows names from p.1.at)) (equations names now.cells from base (reverse before)) (i.comes names)
      (s names (record { distinct = n.distinct; named = i.named (length names) o n.named }) o)

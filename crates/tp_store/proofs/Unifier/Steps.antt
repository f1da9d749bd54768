-- One turn of the loops over lists of places.
use Rattle.std.proofs.Common.{◌≡◌, ℕ, ◌+◌, ◌<◌, Bool, true, false, ◌||◌, List, [], ◌∷◌, ◌++◌, length, refl, sym, ap, subst, ◌∙◌, arith, ◌↔◌}
use Rattle.tp_terms.specs.declared.cells.Cell.{Cell}
use Rattle.tp_terms.specs.declared.cells.Ref.{Ref}
use Rattle.tp_terms.specs.Shown.{shows, shown_from}
use Rattle.tp_terms.specs.Term.{Name, Term, replaced, occurs, term_size}
use Rattle.tp_meaning.specs.Subst.{Subst}
use Rattle.tp_meaning.proofs.Unification.Solved.{Over, over_term}
use Rattle.tp_meaning.proofs.Unification.Replaced.{or_true}
use Rattle.tp_store.specs.declared.pairs.Pair.{Pair}
use Rattle.tp_store.specs.declared.pairs.Pair.TheVariants.{Same, Clash, Bind}
use Rattle.tp_store.specs.Contents.{Contents, Names, subst_of, seen, seen_cell}
use Rattle.tp_store.specs.Work.{Extends, AreIn, ArePairsIn, Each, Equal, Becomes, AsksFor, Reduces, Visits, CellStep, WorkStep, pairs_size, places_size, occurs_each}
use Rattle.tp_store.proofs.Unifier.Work.{pairs_size-append, places_size-append, AreIn-append, AreIn-front, ArePairsIn-append, ArePairsIn-front, Each-append, occurs_each-append}

pub over_of : (s : Subst) (f : ℕ → Term) → Extends s f → Over f s
over_of s f h = record { at = h.at }

-- ---- pairs of places

-- the pair on top of the list, and the rest
pub top_places : (cells : List Cell) (all mid : List (Ref × Ref)) (pair : Ref × Ref) → ArePairsIn cells all → all ≡ mid ++ pair ∷ [] → ArePairsIn cells mid × (pair.0.at < length cells) × (pair.1.at < length cells)
top_places cells all mid pair h e =
    let k = ArePairsIn-front cells mid (pair ∷ []) (subst (ArePairsIn cells) e h) in
    (k.0, k.1.0, k.1.1)

-- a place's term by the end of its chain
end_term : (names : List Name) (c : Contents) (at : ℕ) (x : Cell) → seen_cell names c x ≡ seen names c at → (f : ℕ → Term) → Extends (subst_of names c) f → replaced f (shows names c.cells at) ≡ replaced f (shown_from names c.cells x)
end_term names c at x same f e =
    let o = over_of (subst_of names c) f e in
    over_term f (subst_of names c) (shows names c.cells at) o ∙ ap (replaced f) (sym same) ∙ sym (over_term f (subst_of names c) (shown_from names c.cells x) o)

module _ (c : Contents) (all mid new : List (Ref × Ref)) (pair : Ref × Ref) (a b : Cell) (top : all ≡ mid ++ pair ∷ [])
    (ea : (names : List Name) → seen_cell names c a ≡ seen names c pair.0.at) (eb : (names : List Name) → seen_cell names c b ≡ seen names c pair.1.at) where
  -- the list means its rest and the two ends
  top_means : (names : List Name) (f : ℕ → Term) → Extends (subst_of names c) f → Each f names c.cells all ↔ (Each f names c.cells mid × Equal f names c.cells a b)
  top_means names f e =
      let k = Each-append f names c.cells mid (pair ∷ []) in
      let ta = end_term names c pair.0.at a (ea names) f e in
      let tb = end_term names c pair.1.at b (eb names) f e in (
        λ h. let r = k.0 (subst (Each f names c.cells) top h) in (r.0, sym ta ∙ r.1.0 ∙ tb),
        λ h. subst (Each f names c.cells) (sym top) (k.1 (h.0, (ta ∙ h.1 ∙ sym tb, tt))),
      )

  pub becomes_smaller : Becomes c a b mid new → pairs_size c new < pairs_size c all
  becomes_smaller s =
      let e : pairs_size c new ≡ pairs_size c mid + pairs_size c s.more = ap (pairs_size c) s.added ∙ pairs_size-append c mid s.more in
      let f : pairs_size c all ≡ pairs_size c mid + (term_size (seen [] c pair.0.at) + 0) = ap (pairs_size c) top ∙ pairs_size-append c mid (pair ∷ []) in
      let g : pairs_size c s.more < term_size (seen [] c pair.0.at) = subst (λ t. pairs_size c s.more < term_size t) (ea []) s.smaller in
      omega arith

  pub becomes_places : Becomes c a b mid new → ArePairsIn c.cells mid → ArePairsIn c.cells new
  becomes_places s h = subst (ArePairsIn c.cells) (sym s.added) (ArePairsIn-append c.cells mid s.more h s.places)

  pub becomes_same : Becomes c a b mid new → (names : List Name) (f : ℕ → Term) → Extends (subst_of names c) f → Each f names c.cells all ↔ Each f names c.cells new
  becomes_same s names f e =
      let k = top_means names f e in
      let m = Each-append f names c.cells mid s.more in (
        λ h. let r = k.0 h in subst (Each f names c.cells) (sym s.added) (m.1 (r.0, (s.same names f).0 r.1)),
        λ h. let r = m.0 (subst (Each f names c.cells) s.added h) in k.1 (r.0, (s.same names f).1 r.1),
      )

  pub asks_reduces : (v : ℕ) (place : Ref) → ArePairsIn c.cells mid → (new ≡ mid) × AsksFor c a b v place → Reduces c all new v place
  asks_reduces v place places s = record {
    may = s.1.may;
    places = subst (ArePairsIn c.cells) (sym s.0) places;
    same = λ names f e.
        let k = top_means names f e in (
          λ h. let p = k.0 h in ((s.1.same names f).0 p.1, subst (Each f names c.cells) (sym s.0) p.0),
          λ h. k.1 (subst (Each f names c.cells) s.0 h.1, (s.1.same names f).1 h.0),
        );
  }

  pub clash_none : (new ≡ mid) × ((names : List Name) → Names names c.cells → (f : ℕ → Term) → Equal f names c.cells a b → ⊥) → (names : List Name) → Names names c.cells → (f : ℕ → Term) → Extends (subst_of names c) f → Each f names c.cells all → ⊥
  clash_none s names t f e h = s.1 names t f ((top_means names f e).0 h).1

-- what reduces after turns that changed nothing reduces from the start
pub from_start : (c : Contents) (first all new : List (Ref × Ref)) (v : ℕ) (place : Ref) → ((names : List Name) (f : ℕ → Term) → Extends (subst_of names c) f → Each f names c.cells first ↔ Each f names c.cells all) → Reduces c all new v place → Reduces c first new v place
from_start c first all new v place i s = record {
  may = s.may;
  places = s.places;
  same = λ names f e. let p = i names f e in let q = s.same names f e in (λ h. q.0 (p.0 h), λ h. p.1 (q.1 h));
}

-- what the comparison of the two ends tells of the whole list
pub step_tells : (c : Contents) (first all mid new : List (Ref × Ref)) (pair : Ref × Ref) (a b : Cell) (asked : Pair) → all ≡ mid ++ pair ∷ [] → ((names : List Name) → seen_cell names c a ≡ seen names c pair.0.at) → ((names : List Name) → seen_cell names c b ≡ seen names c pair.1.at)
    → ((names : List Name) (f : ℕ → Term) → Extends (subst_of names c) f → Each f names c.cells first ↔ Each f names c.cells all) → ArePairsIn c.cells mid → (asked ≡ Same → ⊥) → CellStep c a b mid new asked → WorkStep c first new asked
step_tells c first all mid new pair a b Same top ea eb i places apart s = absurd (apart refl)
step_tells c first all mid new pair a b Clash top ea eb i places apart s = λ names t f e h. clash_none c all mid new pair a b top ea eb s names t f e ((i names f e).0 h)
step_tells c first all mid new pair a b (Bind v place) top ea eb i places apart s = from_start c first all new v place i (asks_reduces c all mid new pair a b top ea eb v place places s)

-- ---- single places

pub top_place : (cells : List Cell) (all mid : List Ref) (at : Ref) → AreIn cells all → all ≡ mid ++ at ∷ [] → AreIn cells mid × (at.at < length cells)
top_place cells all mid at h e = let k = AreIn-front cells mid (at ∷ []) (subst (AreIn cells) e h) in (k.0, k.1.0)

module _ (c : Contents) (v : ℕ) (all mid new : List Ref) (at : Ref) (x : Cell) (top : all ≡ mid ++ at ∷ []) (ea : (names : List Name) → seen_cell names c x ≡ seen names c at.at) where
  or_false : (b : Bool) → (b || false) ≡ b
  or_false true = refl
  or_false false = refl

  pub visits_found : ((names : List Name) → occurs v (seen_cell names c x) ≡ true) → (names : List Name) → occurs_each names c v all ≡ true
  visits_found h names =
      ap (occurs_each names c v) top ∙ occurs_each-append names c v mid (at ∷ [])
      ∙ ap (λ b. occurs_each names c v mid || (b || false)) (ap (occurs v) (sym (ea names)) ∙ h names) ∙ or_true (occurs_each names c v mid)

  pub visits_same : Visits c v x mid new → (names : List Name) → occurs_each names c v new ≡ occurs_each names c v all
  visits_same s names =
      ap (occurs_each names c v) s.added ∙ occurs_each-append names c v mid s.more
      ∙ ap (λ b. occurs_each names c v mid || b) (s.same names ∙ ap (occurs v) (ea names) ∙ sym (or_false (occurs v (seen names c at.at))))
      ∙ sym (occurs_each-append names c v mid (at ∷ [])) ∙ ap (occurs_each names c v) (sym top)

  pub visits_places : Visits c v x mid new → AreIn c.cells mid → AreIn c.cells new
  visits_places s h = subst (AreIn c.cells) (sym s.added) (AreIn-append c.cells mid s.more h s.places)

  pub visits_smaller : Visits c v x mid new → places_size c new < places_size c all
  visits_smaller s =
      let e : places_size c new ≡ places_size c mid + places_size c s.more = ap (places_size c) s.added ∙ places_size-append c mid s.more in
      let f : places_size c all ≡ places_size c mid + (term_size (seen [] c at.at) + 0) = ap (places_size c) top ∙ places_size-append c mid (at ∷ []) in
      let g : places_size c s.more < term_size (seen [] c at.at) = subst (λ t. places_size c s.more < term_size t) (ea []) s.smaller in
      omega arith

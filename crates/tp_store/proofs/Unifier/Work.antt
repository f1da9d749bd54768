-- Laws of the lists of places that are still to be looked at, and of the comparison of two cells.
use Rattle.std.proofs.Common.{◌≡◌, ◌≢◌, ℕ, zero, suc, ◌+◌, ◌-◌, ◌<◌, ◌≤◌, Bool, true, false, ◌||◌, List, [], ◌∷◌, ◌++◌, length, reverse, None, nat_eq, refl, sym, ap, ◌∙◌, arith, append_assoc, append-nil, subst, add-one, add-zero, ◌↔◌}
use Rattle.std.proofs.lemmas.Bool.{eqb-true, eq-eqb}
use Rattle.std.proofs.lemmas.List.{reverse-append, reverse-reverse}
use Rattle.std.proofs.lemmas.Bool.Decides.{Decides-int_eq}
use Rattle.tp_terms.specs.declared.cells.Cell.{Cell}
use Rattle.tp_terms.specs.declared.cells.Ref.{Ref}
use Rattle.tp_terms.specs.declared.cells.AtomId.{AtomId}
use Rattle.tp_terms.specs.declared.cells.Cell.TheVariants as cell
use Rattle.tp_terms.specs.Shown.{name_at, shows, shown_from, args_at, StandsBefore, IsNamed}
use Rattle.tp_terms.specs.Term.{Name, Term, Terms, Var, Atom, Comp, More, replaced, all_replaced, occurs, occurs_in, term_size, terms_size, count_of}
use Rattle.tp_terms.proofs.Places.Shown.{shows-cell, AreNamed-cell}
use Rattle.tp_terms.proofs.Naming.Tables.{same_place}
use Rattle.tp_terms.specs.Binds.{bound_in}
use Rattle.tp_meaning.specs.Subst.{value_at}
use Rattle.tp_meaning.proofs.Unification.Solved.{unbound, flip_eq}
use Rattle.tp_meaning.proofs.Unification.Complete.{has_size, count-replaced}
use Rattle.tp_store.specs.declared.chains.End.{End}
use Rattle.tp_store.specs.declared.pairs.Pair.{Pair}
use Rattle.tp_store.specs.declared.pairs.Pair.TheVariants.{Same, Clash, Bind}
use Rattle.tp_store.specs.Contents.{Contents, Names, IsStore, subst_of, seen, seen_cell}
use Rattle.tp_store.specs.Chain.{IsEnd, rank}
use Rattle.tp_store.specs.Work.{places_from, pairs_from, occurs_each, places_size, pairs_size, AreIn, ArePairsIn, Each, IsConstant, constants_eq, Visits, VisitStep, CellStep}
use Rattle.tp_store.proofs.Substitution.Chained.{unnamed}

-- ---- adjacent places

places_from-suc : (a n : ℕ) → places_from a (suc n) ≡ places_from a n ++ record { at = a + n } ∷ []
places_from-suc a zero = ap (λ k. record { at = k } ∷ []) (sym (add-zero a))
places_from-suc a (suc n) = ap (λ l. record { at = a } ∷ l) (places_from-suc (suc a) n ∙ ap (λ k. places_from (suc a) n ++ record { at = k } ∷ []) (omega arith))

pub places_pushed : (old mid new : List Ref) (a k : ℕ) → mid ≡ old ++ places_from a k → new ≡ mid ++ record { at = a + k } ∷ [] → new ≡ old ++ places_from a (k + 1)
places_pushed old mid new a k e f =
    f ∙ ap (λ l. l ++ record { at = a + k } ∷ []) e ∙ append_assoc old (places_from a k) (record { at = a + k } ∷ [])
    ∙ ap (λ l. old ++ l) (sym (places_from-suc a k) ∙ ap (places_from a) (sym (add-one k)))

-- a pair of the rows more, before the others
pub rows_pushed : (old mid new : List (Ref × Ref)) (a b n k : ℕ) (x y : Ref) → k < n → reverse mid ≡ pairs_from (a + (n - k)) (b + (n - k)) k ++ reverse old → reverse new ≡ (x, y) ∷ reverse mid → x.at ≡ a + (n - 1 - k) → y.at ≡ b + (n - 1 - k) → reverse new ≡ pairs_from (a + (n - (k + 1))) (b + (n - (k + 1))) (k + 1) ++ reverse old
rows_pushed old mid new a b n k x y lt m e ex ey =
    let k1 : k + 1 ≡ suc k = omega arith in
    let d : n - 1 - k ≡ n - suc k = omega arith in
    let sa : a + (n - k) ≡ suc (a + (n - suc k)) = omega arith in
    let sb : b + (n - k) ≡ suc (b + (n - suc k)) = omega arith in
    e
    ∙ ap (λ l. (x, y) ∷ l) (m ∙ ap (λ i. pairs_from i (b + (n - k)) k ++ reverse old) sa ∙ ap (λ i. pairs_from (suc (a + (n - suc k))) i k ++ reverse old) sb)
    ∙ ap (λ (p : Ref × Ref). p ∷ pairs_from (suc (a + (n - suc k))) (suc (b + (n - suc k))) k ++ reverse old) (ap (λ i. (record { at = i }, y)) (ex ∙ ap (λ i. a + i) d) ∙ ap (λ i. (record { at = a + (n - suc k) }, record { at = i })) (ey ∙ ap (λ i. b + i) d))
    ∙ ap (λ i. pairs_from (a + (n - i)) (b + (n - i)) i ++ reverse old) (sym k1)

-- a row of places is the row of their terms
occurs_each-places_from : (names : List Name) (c : Contents) (v first n : ℕ) → occurs_each names c v (places_from first n) ≡ occurs_in v (all_replaced (value_at (subst_of names c)) (args_at names c.cells first n))
occurs_each-places_from names c v first zero = refl
occurs_each-places_from names c v first (suc n) = ap (λ b. occurs v (seen names c first) || b) (occurs_each-places_from names c v (suc first) n)

pub occurs_each-append : (names : List Name) (c : Contents) (v : ℕ) (rs qs : List Ref) → occurs_each names c v (rs ++ qs) ≡ (occurs_each names c v rs || occurs_each names c v qs)
occurs_each-append names c v [] qs = refl
occurs_each-append names c v (r ∷ rs) qs = go (occurs v (seen names c r.at)) (occurs_each-append names c v rs qs)
  where
    go : (b : Bool) → occurs_each names c v (rs ++ qs) ≡ (occurs_each names c v rs || occurs_each names c v qs) → (b || occurs_each names c v (rs ++ qs)) ≡ ((b || occurs_each names c v rs) || occurs_each names c v qs)
    go true h = refl
    go false h = h

pub places_size-places_from : (c : Contents) (a n : ℕ) → places_size c (places_from a n) ≡ terms_size (all_replaced (value_at (subst_of [] c)) (args_at [] c.cells a n))
places_size-places_from c a zero = refl
places_size-places_from c a (suc n) = ap (λ k. term_size (seen [] c a) + k) (places_size-places_from c (suc a) n)

pub places_size-append : (c : Contents) (rs qs : List Ref) → places_size c (rs ++ qs) ≡ places_size c rs + places_size c qs
places_size-append c [] qs = omega arith
places_size-append c (r ∷ rs) qs = omega (arith, places_size-append c rs qs)

pub pairs_size-pairs_from : (c : Contents) (a b n : ℕ) → pairs_size c (pairs_from a b n) ≡ terms_size (all_replaced (value_at (subst_of [] c)) (args_at [] c.cells a n))
pairs_size-pairs_from c a b zero = refl
pairs_size-pairs_from c a b (suc n) = ap (λ k. term_size (seen [] c a) + k) (pairs_size-pairs_from c (suc a) (suc b) n)

pub pairs_size-append : (c : Contents) (ps qs : List (Ref × Ref)) → pairs_size c (ps ++ qs) ≡ pairs_size c ps + pairs_size c qs
pairs_size-append c [] qs = omega arith
pairs_size-append c (p ∷ ps) qs = omega (arith, pairs_size-append c ps qs)

pub AreIn-places_from : (cells : List Cell) (a n : ℕ) → a + n ≤ length cells → AreIn cells (places_from a n)
AreIn-places_from cells a zero h = tt
AreIn-places_from cells a (suc n) h = (omega arith, AreIn-places_from cells (suc a) n (omega arith))

pub AreIn-append : (cells : List Cell) (rs qs : List Ref) → AreIn cells rs → AreIn cells qs → AreIn cells (rs ++ qs)
AreIn-append cells [] qs h k = k
AreIn-append cells (r ∷ rs) qs h k = (h.0, AreIn-append cells rs qs h.1 k)

pub AreIn-front : (cells : List Cell) (rs qs : List Ref) → AreIn cells (rs ++ qs) → AreIn cells rs × AreIn cells qs
AreIn-front cells [] qs h = (tt, h)
AreIn-front cells (r ∷ rs) qs h = let k = AreIn-front cells rs qs h.1 in ((h.0, k.0), k.1)

pub ArePairsIn-pairs_from : (cells : List Cell) (a b n : ℕ) → a + n ≤ length cells → b + n ≤ length cells → ArePairsIn cells (pairs_from a b n)
ArePairsIn-pairs_from cells a b zero h k = tt
ArePairsIn-pairs_from cells a b (suc n) h k = (omega arith, omega arith, ArePairsIn-pairs_from cells (suc a) (suc b) n (omega arith) (omega arith))

pub ArePairsIn-append : (cells : List Cell) (ps qs : List (Ref × Ref)) → ArePairsIn cells ps → ArePairsIn cells qs → ArePairsIn cells (ps ++ qs)
ArePairsIn-append cells [] qs h k = k
ArePairsIn-append cells (p ∷ ps) qs h k = (h.0, h.1, ArePairsIn-append cells ps qs h.2 k)

pub ArePairsIn-front : (cells : List Cell) (ps qs : List (Ref × Ref)) → ArePairsIn cells (ps ++ qs) → ArePairsIn cells ps × ArePairsIn cells qs
ArePairsIn-front cells [] qs h = (tt, h)
ArePairsIn-front cells (p ∷ ps) qs h = let k = ArePairsIn-front cells ps qs h.2 in ((h.0, h.1, k.0), k.1)

pub Each-append : (f : ℕ → Term) (names : List Name) (cells : List Cell) (ps qs : List (Ref × Ref)) → Each f names cells (ps ++ qs) ↔ (Each f names cells ps × Each f names cells qs)
Each-append f names cells [] qs = (λ h. (tt, h), λ h. h.1)
Each-append f names cells (p ∷ ps) qs =
    let k = Each-append f names cells ps qs in
    (λ h. let r = k.0 h.1 in ((h.0, r.0), r.1), λ h. (h.0.0, k.1 (h.0.1, h.1)))

pub row-head : {t u : Term} {ts us : Terms} → More t ts ≡ More u us → t ≡ u
row-head e = cc

pub row-tail : {t u : Term} {ts us : Terms} → More t ts ≡ More u us → ts ≡ us
row-tail e = cc

Each-pairs_from : (f : ℕ → Term) (names : List Name) (cells : List Cell) (a b n : ℕ) → (all_replaced f (args_at names cells a n) ≡ all_replaced f (args_at names cells b n)) ↔ Each f names cells (pairs_from a b n)
Each-pairs_from f names cells a b zero = (λ h. tt, λ h. refl)
Each-pairs_from f names cells a b (suc n) =
    let k = Each-pairs_from f names cells (suc a) (suc b) n in
    (λ h. (row-head h, k.0 (row-tail h)), λ h. ap (λ t. More t (all_replaced f (args_at names cells (suc a) n))) h.0 ∙ ap (More (replaced f (shows names cells b))) (k.1 h.1))

-- ---- pairs of which the last one is the first

reverse-cons : (p : Ref × Ref) (ps : List (Ref × Ref)) → reverse (p ∷ ps) ≡ reverse ps ++ p ∷ []
reverse-cons p ps = reverse-append (p ∷ []) ps

ArePairsIn-reverse : (cells : List Cell) (ps : List (Ref × Ref)) → ArePairsIn cells ps → ArePairsIn cells (reverse ps)
ArePairsIn-reverse cells [] h = tt
ArePairsIn-reverse cells (p ∷ ps) h = subst (ArePairsIn cells) (sym (reverse-cons p ps)) (ArePairsIn-append cells (reverse ps) (p ∷ []) (ArePairsIn-reverse cells ps h.2) (h.0, h.1, tt))

pairs_size-reverse : (c : Contents) (ps : List (Ref × Ref)) → pairs_size c (reverse ps) ≡ pairs_size c ps
pairs_size-reverse c [] = refl
pairs_size-reverse c (p ∷ ps) = omega (arith, ap (pairs_size c) (reverse-cons p ps), pairs_size-append c (reverse ps) (p ∷ []), pairs_size-reverse c ps)

Each-reverse : (f : ℕ → Term) (names : List Name) (cells : List Cell) (ps : List (Ref × Ref)) → Each f names cells ps ↔ Each f names cells (reverse ps)
Each-reverse f names cells [] = (λ h. h, λ h. h)
Each-reverse f names cells (p ∷ ps) =
    let k = Each-reverse f names cells ps in
    let q = Each-append f names cells (reverse ps) (p ∷ []) in
    let e = reverse-cons p ps in (
      λ h. subst (Each f names cells) (sym e) (q.1 (k.0 h.1, (h.0, tt))),
      λ h. let r = q.0 (subst (Each f names cells) e h) in (r.1.0, k.1 r.0),
    )

-- a list by itself and what was put before it in reverse
from_reverse : (old new ps : List (Ref × Ref)) → reverse new ≡ ps ++ reverse old → new ≡ old ++ reverse ps
from_reverse old new ps e = sym (reverse-reverse new) ∙ ap reverse e ∙ reverse-append ps (reverse old) ∙ ap (λ l. l ++ reverse ps) (reverse-reverse old)

pub count-args_at : (names : List Name) (cells : List Cell) (a n : ℕ) → count_of (args_at names cells a n) ≡ n
count-args_at names cells a zero = refl
count-args_at names cells a (suc n) = let h = count-args_at names cells (suc a) n in omega (arith, h)

-- ---- the ends of two chains

-- the place at the end of a chain shows its cell
pub end_shows : (names : List Name) (c : Contents) (e : End) → IsEnd c e → shows names c.cells e.place.at ≡ shown_from names c.cells e.cell
end_shows names c e h = shows-cell names c.cells e.place.at e.cell h.cell h.before

-- a variable and a cell that is no younger variable
pub bind_left : (c : Contents) (a b : End) (v : ℕ) (work : List (Ref × Ref)) → IsEnd c a → IsEnd c b → a.cell ≡ cell.Var v → rank b.cell < v + 1 → CellStep c a.cell b.cell work work (Bind v b.place)
bind_left c a b v work left right is older = (
  refl,
  record {
    may = record {
      claimed = let n = left.numbered in rw is at n;
      unbound = let n = left.unbound in rw is at n;
      cell = b.cell;
      end = right;
      older = older;
    };
    same = λ names f.
        let e : replaced f (shown_from names c.cells a.cell) ≡ f v = ap (λ x. replaced f (shown_from names c.cells x)) is in
        let t : replaced f (shows names c.cells b.place.at) ≡ replaced f (shown_from names c.cells b.cell) = ap (replaced f) (end_shows names c b right) in
        (λ h. sym e ∙ h ∙ sym t, λ h. e ∙ h ∙ t);
  },
)

pub bind_right : (c : Contents) (a b : End) (v : ℕ) (work : List (Ref × Ref)) → IsEnd c a → IsEnd c b → b.cell ≡ cell.Var v → rank a.cell < v + 1 → CellStep c a.cell b.cell work work (Bind v a.place)
bind_right c a b v work left right is older =
    let s = (bind_left c b a v work right left is older).1 in
    (refl, record { may = s.may; same = λ names f. let k = s.same names f in (λ h. k.0 (sym h), λ h. sym (k.1 h)) })

-- equal cells ask for nothing
pub same_cells : (c : Contents) (a b : Cell) (work : List (Ref × Ref)) → a ≡ b → CellStep c a b work work Same
same_cells c a b work e = record {
  more = [];
  added = sym (append-nil work);
  places = tt;
  smaller = has_size (seen_cell [] c a);
  same = λ names f. (λ _. tt, λ _. ap (λ x. replaced f (shown_from names c.cells x)) e);
}

-- cells that no replacement makes equal
same_names : (names : List Name) (c : Contents) (a b : End) (m n : ℕ) → Names names c.cells → m < length names → n < length names → name_at names m ≡ name_at names n → m ≡ n
same_names names c a b m n t lm ln e = same_place names t.distinct m n lm ln e

named_end : (names : List Name) (c : Contents) (e : End) → IsEnd c e → Names names c.cells → IsNamed (length names) e.cell
named_end names c e h t = AreNamed-cell (length names) c.cells e.place.at e.cell t.named h.cell

pub atom-name : {f g : List ℕ} → Atom f ≡ Atom g → f ≡ g
atom-name e = cc

pub clash_constants : (c : Contents) (a b : End) (work : List (Ref × Ref)) → IsEnd c a → IsEnd c b → IsConstant a.cell → ((v : ℕ) → b.cell ≡ cell.Var v → ⊥) → constants_eq a.cell b.cell ≡ false → CellStep c a.cell b.cell work work Clash
clash_constants c a b work left right constant other apart = (refl, λ names t f h. go names f (named_end names c a left t) (named_end names c b right t) a.cell b.cell refl refl constant apart t h)
  where
    go : (names : List Name) (f : ℕ → Term) → IsNamed (length names) a.cell → IsNamed (length names) b.cell → (x y : Cell) → a.cell ≡ x → b.cell ≡ y → IsConstant x → constants_eq x y ≡ false → Names names c.cells → replaced f (shown_from names c.cells x) ≡ replaced f (shown_from names c.cells y) → ⊥
    go names f na nb x (cell.Var v) ex ey k n t h = other v ey
    go names f na nb (cell.Var w) y ex ey k n t h = k
    go names f na nb (cell.Comp name first count) y ex ey k n t h = k
    go names f na nb (cell.Int m) (cell.Int i) ex ey k n t h = let same : m ≡ i = cc in let e : true ≡ false = sym ((Decides-int_eq m i).1 same) ∙ n in absurd (cc)
    go names f na nb (cell.Int m) (cell.Atom i) ex ey k n t h = cc
    go names f na nb (cell.Int m) (cell.Comp name first count) ex ey k n t h = cc
    go names f na nb (cell.Atom m) (cell.Int i) ex ey k n t h = cc
    go names f na nb (cell.Atom m) (cell.Comp name first count) ex ey k n t h = cc
    go names f na nb (cell.Atom m) (cell.Atom i) ex ey k n t h =
        let same : m.at ≡ i.at = same_names names c a b m.at i.at t (rw ex at na) (rw ey at nb) (atom-name h) in
        let e : true ≡ false = sym (eq-eqb m.at i.at same) ∙ n in
        absurd (cc)

-- the same constant asks for nothing
pub same_constants : (c : Contents) (a b : Cell) (work : List (Ref × Ref)) → constants_eq a b ≡ true → CellStep c a b work work Same
same_constants c a b work e = same_cells c a b work (go a b e)
  where
    go : (x y : Cell) → constants_eq x y ≡ true → x ≡ y
    go (cell.Int m) (cell.Int n) e = ap cell.Int ((Decides-int_eq m n).0 e)
    go (cell.Atom m) (cell.Atom n) e = ap (λ i. cell.Atom (record { at = i })) (eqb-true m.at n.at e)
    go (cell.Var v) y e = absurd (cc)
    go (cell.Comp name first count) y e = absurd (cc)
    go (cell.Int m) (cell.Var v) e = absurd (cc)
    go (cell.Int m) (cell.Atom n) e = absurd (cc)
    go (cell.Int m) (cell.Comp name first count) e = absurd (cc)
    go (cell.Atom m) (cell.Var v) e = absurd (cc)
    go (cell.Atom m) (cell.Int n) e = absurd (cc)
    go (cell.Atom m) (cell.Comp name first count) e = absurd (cc)

pub comp-name : {f g : List ℕ} {ts us : Terms} → Comp f ts ≡ Comp g us → f ≡ g
comp-name e = cc

pub comp-args : {f g : List ℕ} {ts us : Terms} → Comp f ts ≡ Comp g us → ts ≡ us
comp-args e = cc

pub clash_names : (c : Contents) (a b : End) (m k : AtomId) (first second : Ref) (n i : ℕ) (work : List (Ref × Ref)) → IsEnd c a → IsEnd c b → a.cell ≡ cell.Comp m first n → b.cell ≡ cell.Comp k second i → m.at ≢ k.at → CellStep c a.cell b.cell work work Clash
clash_names c a b m k first second n i work left right ea eb apart = (
  refl,
  λ names t f h.
      let e : Comp (name_at names m.at) (all_replaced f (args_at names c.cells first.at n)) ≡ Comp (name_at names k.at) (all_replaced f (args_at names c.cells second.at i)) = rw (ea, eb) at h in
      let lm = named_end names c a left t in
      let lk = named_end names c b right t in
      apart (same_names names c a b m.at k.at t (rw ea at lm) (rw eb at lk) (comp-name e)),
)

pub clash_counts : (c : Contents) (a b : Cell) (m k : AtomId) (first second : Ref) (n i : ℕ) (work : List (Ref × Ref)) → a ≡ cell.Comp m first n → b ≡ cell.Comp k second i → n ≢ i → CellStep c a b work work Clash
clash_counts c a b m k first second n i work ea eb apart = (
  refl,
  λ names t f h.
      let e : Comp (name_at names m.at) (all_replaced f (args_at names c.cells first.at n)) ≡ Comp (name_at names k.at) (all_replaced f (args_at names c.cells second.at i)) = rw (ea, eb) at h in
      apart (sym (count-replaced f (args_at names c.cells first.at n) ∙ count-args_at names c.cells first.at n) ∙ ap count_of (comp-args e) ∙ count-replaced f (args_at names c.cells second.at i) ∙ count-args_at names c.cells second.at i),
)

-- compounds of one name and number of arguments ask for their pairs of arguments
pub same_compounds : (c : Contents) (a b : End) (m k : AtomId) (first second : Ref) (n : ℕ) (old new : List (Ref × Ref)) → IsEnd c a → IsEnd c b → a.cell ≡ cell.Comp m first n → b.cell ≡ cell.Comp k second n → m.at ≡ k.at → reverse new ≡ pairs_from first.at second.at n ++ reverse old → CellStep c a.cell b.cell old new Same
same_compounds c a b m k first second n old new left right ea eb e added =
    let pa : StandsBefore a.place.at (cell.Comp m first n) = subst (StandsBefore a.place.at) ea left.before in
    let pb : StandsBefore b.place.at (cell.Comp k second n) = subst (StandsBefore b.place.at) eb right.before in
    let la = left.place in
    let lb = right.place in
    let pairs : List (Ref × Ref) = pairs_from first.at second.at n in
    record {
      more = reverse pairs;
      added = from_reverse old new pairs added;
      places = ArePairsIn-reverse c.cells pairs (ArePairsIn-pairs_from c.cells first.at second.at n (omega (arith, pa.1)) (omega (arith, pb.1)));
      smaller = rw ea (omega (arith, pairs_size-reverse c pairs, pairs_size-pairs_from c first.at second.at n));
      same = λ names f.
          let r = Each-pairs_from f names c.cells first.at second.at n in
          let q = Each-reverse f names c.cells pairs in
          (λ h. q.0 (r.0 (comp-args (rw (ea, eb) at h))), λ h. rw (ea, eb) (ap (λ x. Comp x (all_replaced f (args_at names c.cells first.at n))) (ap (name_at names) e) ∙ ap (Comp (name_at names k.at)) (r.1 (q.1 h))));
    }

-- a compound's arguments are to be visited
pub visit_args : (c : Contents) (v : ℕ) (end : End) (old new : List Ref) (m : AtomId) (first : Ref) (n : ℕ) → IsEnd c end → end.cell ≡ cell.Comp m first n → new ≡ old ++ places_from first.at n → Visits c v end.cell old new
visit_args c v end old new m first n h e added =
    let before : StandsBefore end.place.at (cell.Comp m first n) = subst (StandsBefore end.place.at) e h.before in
    let within = h.place in
    record {
      more = places_from first.at n;
      added = added;
      places = AreIn-places_from c.cells first.at n (omega (arith, before.1));
      smaller = rw e (omega (arith, places_size-places_from c first.at n));
      same = λ names. rw e (occurs_each-places_from names c v first.at n);
    }

-- an unbound variable's cell shows that variable
variable_shows : (names : List Name) (c : Contents) (end : End) (w : ℕ) → IsStore c → IsEnd c end → end.cell ≡ cell.Var w → seen_cell names c end.cell ≡ Var w
variable_shows names c end w s h e = ap (seen_cell names c) e ∙ unbound w (subst_of names c) (unnamed names c.cells c.vars c.pairs w (s.chain names) free)
  where
    free : bound_in c.pairs w ≡ None
    free = let u = h.unbound in rw e at u

-- another variable doesn't occur there
pub other_variable : (c : Contents) (v : ℕ) (end : End) (w : ℕ) → IsStore c → IsEnd c end → end.cell ≡ cell.Var w → nat_eq w v ≡ false → (names : List Name) → occurs v (seen_cell names c end.cell) ≡ false
other_variable c v end w s h e apart names = ap (occurs v) (variable_shows names c end w s h e) ∙ flip_eq w v apart

-- a variable that is looked for, or another one
pub visit_variable : (c : Contents) (v : ℕ) (end : End) (w : ℕ) (work : List Ref) → IsStore c → IsEnd c end → end.cell ≡ cell.Var w → VisitStep c v end.cell work work (nat_eq w v)
visit_variable c v end w work s h e = go (nat_eq w v) refl
  where
    go : (b : Bool) → nat_eq w v ≡ b → VisitStep c v end.cell work work b
    go true same = λ names. ap (occurs v) (variable_shows names c end w s h e) ∙ eq-eqb v w (sym (eqb-true w v same))
    go false apart = record {
      more = [];
      added = sym (append-nil work);
      places = tt;
      smaller = has_size (seen_cell [] c end.cell);
      same = λ names. sym (other_variable c v end w s h e apart names);
    }

-- what is no variable is older than any
pub no_variable : (x : Cell) (v : ℕ) → ((w : ℕ) → x ≡ cell.Var w → ⊥) → rank x < v + 1
no_variable (cell.Var w) v h = absurd (h w refl)
no_variable (cell.Int value) v h = omega arith
no_variable (cell.Atom name) v h = omega arith
no_variable (cell.Comp name first count) v h = omega arith

-- the comparison of an end that is known by its cell
pub step_by_cell : (c : Contents) (a b : End) (x : Cell) (work : List (Ref × Ref)) (pair : Pair) → IsEnd c a → IsEnd c b → a.cell ≡ x → (IsEnd c (record { place = a.place; cell = x }) → IsEnd c b → CellStep c x b.cell work work pair) → CellStep c a.cell b.cell work work pair
step_by_cell c a b x work pair left right is step = subst (λ y. IsEnd c (record { place = a.place; cell = y }) → CellStep c y b.cell work work pair) (sym is) (λ l. step l right) left

-- a constant is older than any variable
pub constant_older : (x : Cell) (v : ℕ) → IsConstant x → rank x < v + 1
constant_older (cell.Var w) v h = absurd h
constant_older (cell.Int value) v h = omega arith
constant_older (cell.Atom name) v h = omega arith
constant_older (cell.Comp name first count) v h = absurd h

pub constant_left : (x : Cell) → ((v : ℕ) → x ≡ cell.Var v → ⊥) → ((name : AtomId) (first : Ref) (n : ℕ) → x ≡ cell.Comp name first n → ⊥) → IsConstant x
constant_left (cell.Var w) nv nc = nv w refl
constant_left (cell.Int value) nv nc = tt
constant_left (cell.Atom name) nv nc = tt
constant_left (cell.Comp name first count) nv nc = nc name first count refl

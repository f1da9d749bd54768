-- What lists show.
use Rattle.std.specs.Prelude.{Result, IfOk}
use Rattle.tp_terms.specs.declared.NoMemory.{NoMemory}
use Rattle.tp_build.proofs.RowAnswers.Heaps.{IfOk-map}
use Rattle.std.proofs.Common.{◌≡◌, ℕ, zero, suc, ◌+◌, ◌<◌, ◌^◌, Bool, true, false, nat_eq, List, [], ◌∷◌, ◌++◌, map, length, refl, sym, ap, subst, ◌∙◌, arith, append_assoc, append-nil, if◌then◌else◌, codes}
use Rattle.std.proofs.lemmas.Bool.{eq-eqb, ne_eqb}
use Rattle.std.proofs.lemmas.List.{map-append}
use Rattle.tp_terms.specs.declared.cells.AtomId.{AtomId}
use Rattle.tp_terms.specs.declared.cells.Ref.{Ref}
use Rattle.tp_terms.specs.declared.cells.Cell.{Cell}
use Rattle.tp_terms.specs.declared.cells.Cell.TheVariants as cell
use Rattle.tp_terms.specs.declared.symbols.TheConstants.{EMPTY_LIST}
use Rattle.tp_terms.specs.Term.{Name, Term, Terms, Var, Int, Atom, Comp, NoMore, More, names_eq, terms_in, list_term, term_size}
use Rattle.tp_terms.specs.Term as terms
use Rattle.tp_terms.specs.Shown.{name_at}
use Rattle.tp_terms.proofs.Naming.Start.{start-name_at, start-within, names_eq-start}
use Rattle.tp_terms.proofs.Naming.Constants.{start-list_cell, start-empty_list}
use Rattle.tp_meaning.specs.Subst.{apply}
use Rattle.tp_meaning.specs.Heap.{Heap, IsHeap, IsTop, IsUnbound, CanStand, Makes, seen, cell_seen, cell_shown}
use Rattle.tp_meaning.specs.Answers.{parts_list}
use Rattle.tp_meaning.proofs.Unification.Solved.{unbound}
use Rattle.tp_meaning.proofs.HeapsGrow.Cells.{adds-none, adds-trans, seen-kept}
use Rattle.tp_build.specs.declared.lists.End.{End}
use Rattle.tp_build.specs.declared.lists.End.TheVariants as end
use Rattle.tp_build.specs.declared.lists.Link.TheVariants as link
use Rattle.tp_build.specs.Answers.{args_seen}
use Rattle.tp_build.specs.Rows.{IsSimple}
use Rattle.tp_build.specs.Lists.{front, ending, IsLink, MakesSeen, place_seen}
use Rattle.tp_build.proofs.PlacesShow.Checked.{seen-variable}

-- a term that is no list cell ends a list so
abbrev EndsSo : Term → End → Type 0
EndsSo t e = (front t ≡ []) × (ending t ≡ e)

name-dot : (h : Heap) → IsHeap h → name_at h.names 0 ≡ codes "."
name-dot h is = start-name_at h.names is.table 0 (codes ".") start-list_cell

name-empty : (h : Heap) → IsHeap h → name_at h.names 1 ≡ codes "[]"
name-empty h is = start-name_at h.names is.table 1 (codes "[]") start-empty_list

-- ---- what a cell is to a list

-- a list cell
pub link-element : (h : Heap) (at : ℕ) (c : Cell) (name : AtomId) (first : Ref) (count : ℕ) → IsHeap h → IsTop h at c → c ≡ cell.Comp name first count → (name.at ≡ 0) × (count ≡ 2) → IsLink h at (link.Element first)
link-element h at c name first count is top e two = (
  (let before = u.stands.before.1 in omega arith),
  (let places : first.at + 2 < 2 ^ 64 = u.places in omega arith),
  sym u.same ∙ ap (λ f. Comp f (More (seen h first.at) (More (seen h (suc first.at)) NoMore))) (ap (name_at h.names) two.0 ∙ name-dot h is) ∙ ap (λ p. terms.cell (seen h first.at) (seen h p)) next_to,
)
  where
    u : IsTop h at (cell.Comp name first 2)
    u = subst (λ n. IsTop h at (cell.Comp name first n)) two.1 (subst (IsTop h at) e top)

    next_to : suc first.at ≡ first.at + 1
    next_to = omega arith

other-front : (h : Heap) (name : AtomId) (first : Ref) (count : ℕ) → names_eq (name_at h.names name.at) (codes ".") ≡ nat_eq name.at 0 → (name.at ≡ 0 → count ≡ 2 → ⊥) → EndsSo (cell_seen h (cell.Comp name first count)) end.NoList
other-front h name first zero e apart = (refl, refl)
other-front h name first (suc zero) e apart = (refl, refl)
other-front h name first (suc (suc zero)) e apart =
    let differs : names_eq (name_at h.names name.at) (codes ".") ≡ false = e ∙ ne_eqb name.at 0 (λ z. apart z refl) in (
      ap (λ b. if b then seen h first.at ∷ front (seen h (suc first.at)) else []) differs,
      ap (λ b. if b then ending (seen h (suc first.at)) else end.NoList) differs,
    )
other-front h name first (suc (suc (suc n))) e apart = (refl, refl)

-- any other compound is no list
pub link-compound : (h : Heap) (at : ℕ) (c : Cell) (name : AtomId) (first : Ref) (count : ℕ) → IsHeap h → IsTop h at c → c ≡ cell.Comp name first count → (name.at ≡ 0 → count ≡ 2 → ⊥) → IsLink h at (link.End end.NoList)
link-compound h at c name first count is top e apart =
    let u : IsTop h at (cell.Comp name first count) = subst (IsTop h at) e top in
    subst (λ t. EndsSo t end.NoList) u.same (other-front h name first count (names_eq-start h.names is.table name.at 0 (codes ".") u.stands.named start-list_cell) apart)

-- an unbound variable
pub link-variable : (h : Heap) (at v : ℕ) (c : Cell) → IsTop h at c → c ≡ cell.Var v → IsLink h at (link.End end.Open)
link-variable h at v c top e = subst (λ t. EndsSo t end.Open) (sym (seen-variable h at v c e top)) (refl, refl)

atom-ends : (f : Name) (b : Bool) → names_eq f (codes "[]") ≡ b → EndsSo (Atom f) (if b then end.Closed else end.NoList)
atom-ends f b e = (refl, ap (λ d. if d then end.Closed else end.NoList) e)

-- the empty list
pub link-empty : (h : Heap) (at : ℕ) (c : Cell) (name : AtomId) → IsHeap h → IsTop h at c → c ≡ cell.Atom name → name.at ≡ 1 → IsLink h at (link.End end.Closed)
link-empty h at c name is top e one =
    let u : IsTop h at (cell.Atom name) = subst (IsTop h at) e top in
    subst (λ t. EndsSo t end.Closed) u.same (atom-ends (name_at h.names name.at) true (names_eq-start h.names is.table name.at 1 (codes "[]") u.stands.named start-empty_list ∙ eq-eqb name.at 1 one))

-- any other atom is no list
pub link-atom : (h : Heap) (at : ℕ) (c : Cell) (name : AtomId) → IsHeap h → IsTop h at c → c ≡ cell.Atom name → (name.at ≡ 1 → ⊥) → IsLink h at (link.End end.NoList)
link-atom h at c name is top e other =
    let u : IsTop h at (cell.Atom name) = subst (IsTop h at) e top in
    subst (λ t. EndsSo t end.NoList) u.same (atom-ends (name_at h.names name.at) false (names_eq-start h.names is.table name.at 1 (codes "[]") u.stands.named start-empty_list ∙ ne_eqb name.at 1 other))

-- ---- a walk

-- an element more
pub walked-more : (h : Heap) (at : ℕ) (first : Ref) (places : List Ref) (all : List Term) → IsLink h at (link.Element first) → map (place_seen h) places ++ front (seen h at) ≡ all → map (place_seen h) (places ++ first ∷ []) ++ front (seen h (first.at + 1)) ≡ all
walked-more h at first places all k e =
    ap (λ xs. xs ++ front (seen h (first.at + 1))) (map-append (place_seen h) places (first ∷ []))
    ∙ append_assoc (map (place_seen h) places) (seen h first.at ∷ []) (front (seen h (first.at + 1)))
    ∙ ap (λ t. map (place_seen h) places ++ front t) (sym k.2)
    ∙ e

-- the walk at its end
pub walked-all : (xs ys all : List Term) → ys ≡ [] → xs ++ ys ≡ all → xs ≡ all
walked-all xs ys all e w = sym (append-nil xs) ∙ ap (λ zs. xs ++ zs) (sym e) ∙ w

-- a list ends as its tail does
pub ends-more : (h : Heap) (at : ℕ) (first : Ref) → IsLink h at (link.Element first) → ending (seen h at) ≡ ending (seen h (first.at + 1))
ends-more h at first k = ap ending k.2

-- ---- lists that are built

-- the cell of an element and a tail shows them
pub makes-link : (h k : Heap) (c element tail : Cell) → IsHeap h → Makes h k c (Comp (name_at h.names 0) (More (cell_shown h element) (More (cell_shown h tail) NoMore))) → MakesSeen h k c (terms.cell (cell_seen h element) (cell_seen h tail))
makes-link h k c element tail is m = record {
  adds = m.adds;
  stands = m.stands;
  term =
      ap (λ s. apply s (cell_shown k c)) m.adds.subst
      ∙ ap (apply h.subst) m.term
      ∙ ap (λ f. Comp f (More (cell_seen h element) (More (cell_seen h tail) NoMore))) (name-dot h is);
}

-- the empty list can be added
pub empty-stands : (h : Heap) → IsHeap h → CanStand h (cell.Atom EMPTY_LIST)
empty-stands h is = record { before = tt; named = start-within h.names is.table 1 (omega arith); numbered = tt }

-- and shows itself
pub empty-seen : (h : Heap) → IsHeap h → cell_seen h (cell.Atom EMPTY_LIST) ≡ terms.atom "[]"
empty-seen h is = ap Atom (name-empty h is)

-- the list of no places
pub places-none : (h : Heap) (p n : ℕ) → IsHeap h → n ≡ 0 → MakesSeen h h (cell.Atom EMPTY_LIST) (list_term (terms_in (args_seen h p n)))
places-none h p n is e = record {
  adds = adds-none h;
  stands = empty-stands h is;
  term = empty-seen h is ∙ ap (λ m. list_term (terms_in (args_seen h p m))) (sym e);
}

-- the list of one place more, in front
pub places-more : (h k l : Heap) (p q n m : ℕ) (element tail c : Cell) → q ≡ suc p → m ≡ suc n → p < length h.cells → MakesSeen h k tail (list_term (terms_in (args_seen h q n))) → IsTop k p element → MakesSeen k l c (terms.cell (cell_seen k element) (cell_seen k tail))
    → MakesSeen h l c (list_term (terms_in (args_seen h p m)))
places-more h k l p q n m element tail c eq em lt a top b = record {
  adds = adds-trans h k l a.adds b.adds;
  stands = b.stands;
  term =
      b.term
      ∙ ap (λ t. terms.cell t (cell_seen k tail)) (top.same ∙ seen-kept h k a.adds p lt)
      ∙ ap (terms.cell (seen h p)) (a.term ∙ ap (λ r. list_term (terms_in (args_seen h r n))) eq)
      ∙ ap (λ r. list_term (terms_in (args_seen h p r))) (sym em);
}

parts-simple : (h : Heap) (term : Cell) → IsUnbound h.subst term → IsSimple term → parts_list (cell_seen h term) ≡ terms.cell (cell_seen h term) (terms.atom "[]")
parts-simple h (cell.Var v) u other = subst (λ t. parts_list t ≡ terms.cell t (terms.atom "[]")) (sym (unbound v h.subst u)) refl
parts-simple h (cell.Int z) u other = refl
parts-simple h (cell.Atom a) u other = refl
parts-simple h (cell.Comp f first count) u other = absurd (other f first count refl)

-- the list of an atomic term
pub parts-atomic : (h k : Heap) (term c : Cell) → IsHeap h → IsUnbound h.subst term → IsSimple term → MakesSeen h k c (terms.cell (cell_seen h term) (cell_seen h (cell.Atom EMPTY_LIST))) → MakesSeen h k c (parts_list (cell_seen h term))
parts-atomic h k term c is u other b = record {
  adds = b.adds;
  stands = b.stands;
  term = b.term ∙ ap (terms.cell (cell_seen h term)) (empty-seen h is) ∙ sym (parts-simple h term u other);
}

-- the same, where memory may be refused
pub parts-default : (h k : Heap) (term : Cell) (r : Result Cell NoMemory) → IsHeap h → IsUnbound h.subst term → IsSimple term → IfOk r (λ c. MakesSeen h k c (terms.cell (cell_seen h term) (cell_seen h (cell.Atom EMPTY_LIST)))) → IfOk r (λ c. MakesSeen h k c (parts_list (cell_seen h term)))
parts-default h k term r is u other d =
    IfOk-map r (λ c. MakesSeen h k c (terms.cell (cell_seen h term) (cell_seen h (cell.Atom EMPTY_LIST)))) (λ c. MakesSeen h k c (parts_list (cell_seen h term))) (λ c b. parts-atomic h k term c is u other b) d

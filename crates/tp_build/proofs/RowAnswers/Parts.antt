-- What `=..` answers.
use Rattle.std.proofs.Common.{◌≡◌, ℕ, zero, suc, ◌+◌, ◌-◌, ◌<◌, List, [], ◌∷◌, map, length, take, drop, Ok, Err, IfOk, refl, sym, ap, subst, ◌∙◌, arith, below_more, if◌then◌else◌, codes, Bool, true, false}
use Rattle.std.specs.Prelude.{Result, slice_index_or}
use Rattle.std.proofs.Common.{length-append}
use Rattle.std.proofs.lemmas.List.{length-map, take_all}
use Rattle.tp_terms.specs.declared.NoMemory.{NoMemory}
use Rattle.tp_terms.specs.declared.cells.AtomId.{AtomId}
use Rattle.tp_terms.specs.declared.cells.Ref.{Ref}
use Rattle.tp_terms.specs.declared.cells.Cell.{Cell}
use Rattle.tp_terms.specs.declared.cells.Cell.TheVariants as cell
use Rattle.tp_terms.specs.declared.symbols.TheConstants.{EMPTY_LIST}
use Rattle.tp_terms.specs.Term.{Name, Term, Var, Int, Atom, Comp, NoMore, More, names_eq, terms_of}
use Rattle.tp_terms.specs.Shown.{name_at}
use Rattle.tp_meaning.specs.Subst.{Subst, apply}
use Rattle.tp_meaning.specs.Checks.{Checked, ◌>>=◌, ◌>>◌, bound, name_in, arity_fits, domain_error, type_error}
use Rattle.tp_meaning.specs.Heap.{Heap, IsHeap, IsTop, AddsCells, seen, shown, cell_seen, with_cell}
use Rattle.tp_meaning.specs.Answers.{Answer, unifies, elements, univ, univ_made, univ_of_variable, parts_list}
use Rattle.tp_meaning.proofs.HeapsGrow.Cells.{adds-cell, adds-trans, seen-kept, shown-placed}
use Rattle.tp_build.specs.declared.outcome.Outcome.{Outcome}
use Rattle.tp_build.specs.declared.errors.WantedDomain.TheVariants as domain
use Rattle.tp_build.specs.declared.errors.Fault as errors
use Rattle.tp_build.specs.declared.errors.Fault.TheVariants as fault
use Rattle.tp_build.specs.declared.lists.End.TheVariants as end
use Rattle.tp_build.specs.declared.lists.Walked.{Walked}
use Rattle.tp_build.specs.declared.parts.Head.{Head}
use Rattle.tp_build.specs.Answers.{Does, args_seen}
use Rattle.tp_build.specs.Errors.{IsFault, fault_kind}
use Rattle.tp_build.specs.Names.{fitting_arity}
use Rattle.tp_build.specs.Lists.{front, ending, closed_by, place_seen, AreWithin, IsWalked, MakesSeen}
use Rattle.tp_build.specs.Parts.{ShowsPlace, ShowsRow, ShowsCompound, IsHead, head_checked}
use Rattle.tp_build.proofs.PlacesShow.Checked.{past, past-value, fails-value, later, name-found, name-within, seen-variable}
use Rattle.tp_build.proofs.PlacesShow.Lists.{empty-seen}
use Rattle.tp_build.proofs.RowAnswers.Heaps.{IfOk-map, does-later}

-- ---- arguments side by side

longer-by-one : (h k : Heap) (c : Cell) → k ≡ with_cell h c → length k.cells ≡ length h.cells + 1
longer-by-one h k c e = ap (λ (q : Heap). length q.cells) e ∙ length-append h.cells (c ∷ [])

-- a new place is seen as its cell is
pub seen-placed : (h k : Heap) (c : Cell) (at : ℕ) → k ≡ with_cell h c → at ≡ length h.cells → seen k at ≡ cell_seen h c
seen-placed h k c at e place = ap (λ (q : Heap). apply q.subst (shown k at)) e ∙ ap (apply h.subst) (shown-placed h k c at e place)

-- a new place for the term of a place
pub place-shown : (h k : Heap) (c : Cell) (at : ℕ) → IsTop h at c → k ≡ with_cell h c → ShowsPlace h k at
place-shown h k c at top e = record { adds = adds-cell h k c e; one = longer-by-one h k c e; same = seen-placed h k c (length h.cells) e refl ∙ top.same }

-- a place more in a row
pub row-more : (h k l : Heap) (places : List Ref) (n m : ℕ) (x : Ref) → m ≡ n + 1 → ((d : Ref) → slice_index_or places n d ≡ x) → x.at < length h.cells → ShowsRow h k places n → ShowsPlace k l x.at → ShowsRow h l places m
row-more h k l places n m x em at lt a b = record {
  adds = adds-trans h k l a.adds b.adds;
  count = omega (arith, a.count, b.one);
  each = λ j d less. below_more P n (λ i lower q. old i q lower) here j (omega arith) d;
}
  where
    P : ℕ → Type 0
    P j = (d : Ref) → seen l (length h.cells + j) ≡ seen h (slice_index_or places j d).at

    old : (i : ℕ) (d : Ref) → i < n → seen l (length h.cells + i) ≡ seen h (slice_index_or places i d).at
    old i d lower = seen-kept k l b.adds (length h.cells + i) (omega (arith, a.count)) ∙ a.each i d lower

    here : (d : Ref) → seen l (length h.cells + n) ≡ seen h (slice_index_or places n d).at
    here d = ap (seen l) (sym a.count) ∙ b.same ∙ seen-kept h k a.adds x.at lt ∙ ap (λ (r : Ref). seen h r.at) (sym (at d))

row-args : (h k : Heap) (first : ℕ) (places : List Ref) → ((j : ℕ) (d : Ref) → j < length places → seen k (first + j) ≡ seen h (slice_index_or places j d).at) → args_seen k first (length places) ≡ terms_of (map (place_seen h) places)
row-args h k first [] each = refl
row-args h k first (x ∷ xs) each =
    let start : first + 0 ≡ first = omega arith in
    ap (λ t. More t (args_seen k (suc first) (length xs))) (ap (seen k) (sym start) ∙ each 0 x (omega arith))
    ∙ ap (More (seen h x.at)) (row-args h k (suc first) xs (λ j d lt. let step : suc first + j ≡ first + suc j = omega arith in ap (seen k) step ∙ each (suc j) d (omega arith)))

-- the compound of a row
pub row-compound : (h k l : Heap) (name : AtomId) (first : Ref) (count : ℕ) (places : List Ref) (at : ℕ) → first.at ≡ length h.cells → count ≡ length places → ShowsRow h k places (length places) → l ≡ with_cell k (cell.Comp name first count) → at ≡ length k.cells → ShowsCompound h l name.at places at
row-compound h k l name first count places at place ec a e at_end = record {
  adds = adds-trans h k l a.adds (adds-cell k l (cell.Comp name first count) e);
  within = omega (arith, longer-by-one k l (cell.Comp name first count) e);
  compound =
      seen-placed k l (cell.Comp name first count) at e at_end
      ∙ ap (λ names. Comp (name_at names name.at) (args_seen k first.at count)) a.adds.names
      ∙ ap (λ n. Comp (name_at h.names name.at) (args_seen k first.at n)) ec
      ∙ ap (λ p. Comp (name_at h.names name.at) (args_seen k p (length places))) place
      ∙ ap (Comp (name_at h.names name.at)) (row-args h k (length h.cells) places a.each);
}

-- ---- the name and the number of arguments

fits-value : (c : Checked (Unit {0})) (n k : ℕ) → (c >> Ok n) ≡ Ok k → (c ≡ Ok tt) × (k ≡ n)
fits-value (Ok x) n k e = (refl, cc)
fits-value (Err x) n k e = absurd (cc)

-- a name and a number of arguments that pass
pub head-found : (h : Heap) (at : ℕ) (c : Cell) (name : AtomId) (count k : ℕ) → IsTop h at c → bound (seen h at) ≡ Ok tt → c ≡ cell.Atom name → fitting_arity count ≡ Ok k → IsHead h at count (Ok (record { name = name; count = k }))
head-found h at c name count k top e1 e2 e3 =
    let f = fits-value (arity_fits count) count k e3 in
    (past (bound (seen h at)) _ e1 ∙ past-value (name_in (seen h at)) _ (name_at h.names name.at) (name-found h at c name e2 top) ∙ past (arity_fits count) _ f.0, name-within h at c name e2 top, f.1)

-- a name that doesn't
pub head-no_name : (h : Heap) (at : ℕ) (c : Cell) (count : ℕ) (f g : errors.Fault) → bound (seen h at) ≡ Ok tt → f ≡ g → IsFault h (name_in (seen h at)) g → IsHead h at count (Err f)
head-no_name h at c count f g e1 e i = later h (bound (seen h at)) _ f e1 (fails-value h (name_in (seen h at)) _ f (subst (IsFault h (name_in (seen h at))) (sym e) i))

in-two : (a : Checked (Unit {0})) (b : Checked Name) (c : Checked (Unit {0})) (g : Name → Answer) → (a >> (b >>= (λ f. c >> Ok (g f)))) ≡ ((a >> (b >>= (λ f. c >> Ok f))) >>= (λ f. Ok (g f)))
in-two (Err e) b c g = refl
in-two (Ok x) (Err e) c g = refl
in-two (Ok x) (Ok f) (Err e) g = refl
in-two (Ok x) (Ok f) (Ok y) g = refl

made-split : (s : Subst) (next : ℕ) (t e : Term) (es : List Term) → 0 < length es → univ_made s next t (e ∷ es) ≡ (head_checked e (length es) >>= (λ f. Ok (unifies s next t (Comp f (terms_of es)))))
made-split s next t e [] some = absurd (omega arith)
made-split s next t e (x ∷ xs) some = in-two (bound e) (name_in e) (arity_fits (length (x ∷ xs))) (λ f. unifies s next t (Comp f (terms_of (x ∷ xs))))

-- the compound is unified, or its head doesn't pass
pub compound-does : (h k l : Heap) (t n : ℕ) (places : List Ref) (head : Head) (at : ℕ) (r : Result Outcome NoMemory) → 0 < length places → IsHead h n (length places) (Ok head) → ShowsCompound h k head.name.at places at → t < length h.cells
    → IfOk r (Does k l (Ok (unifies k.subst k.next (seen k t) (seen k at)))) → IfOk r (Does h l (univ_made h.subst h.next (seen h t) (seen h n ∷ map (place_seen h) places)))
compound-does h k l t n places head at r some given a lt d =
    IfOk-map r (Does k l (Ok (unifies k.subst k.next (seen k t) (seen k at)))) (Does h l (univ_made h.subst h.next (seen h t) (seen h n ∷ map (place_seen h) places)))
    (λ o x. does-later h k l (unifies k.subst k.next (seen k t) (seen k at)) (univ_made h.subst h.next (seen h t) (seen h n ∷ map (place_seen h) places)) o a.adds.subst row x) d
  where
    es : List Term
    es = map (place_seen h) places

    long : length es ≡ length places
    long = length-map places (place_seen h)

    same : unifies k.subst k.next (seen k t) (seen k at) ≡ unifies h.subst h.next (seen h t) (Comp (name_at h.names head.name.at) (terms_of es))
    same =
        ap (λ s. unifies s k.next (seen k t) (seen k at)) a.adds.subst
        ∙ ap (λ m. unifies h.subst m (seen k t) (seen k at)) a.adds.next
        ∙ ap (λ y. unifies h.subst h.next y (seen k at)) (seen-kept h k a.adds t lt)
        ∙ ap (unifies h.subst h.next (seen h t)) a.compound

    row : univ_made h.subst h.next (seen h t) (seen h n ∷ es) ≡ Ok (unifies k.subst k.next (seen k t) (seen k at))
    row =
        made-split h.subst h.next (seen h t) (seen h n) es (omega (arith, long))
        ∙ ap (λ m. head_checked (seen h n) m >>= (λ f. Ok (unifies h.subst h.next (seen h t) (Comp f (terms_of es))))) long
        ∙ past-value (head_checked (seen h n) (length places)) (λ f. Ok (unifies h.subst h.next (seen h t) (Comp f (terms_of es)))) (name_at h.names head.name.at) given.0
        ∙ ap Ok (sym same)

pub compound-fails : (h l : Heap) (t : Term) (n : ℕ) (places : List Ref) (f : errors.Fault) (r : Result Outcome NoMemory) → 0 < length places → IsHead h n (length places) (Err f) → IfOk r (Does h l (Err (fault_kind h f))) → IfOk r (Does h l (univ_made h.subst h.next t (seen h n ∷ map (place_seen h) places)))
compound-fails h l t n places f r some given d = subst (λ c. IfOk r (Does h l c)) (sym row) d
  where
    es : List Term
    es = map (place_seen h) places

    long : length es ≡ length places
    long = length-map places (place_seen h)

    row : univ_made h.subst h.next t (seen h n ∷ es) ≡ Err (fault_kind h f)
    row =
        made-split h.subst h.next t (seen h n) es (omega (arith, long))
        ∙ ap (λ m. head_checked (seen h n) m >>= (λ g. Ok (unifies h.subst h.next t (Comp g (terms_of es))))) long
        ∙ (fails-value h (head_checked (seen h n) (length places)) (λ g. Ok (unifies h.subst h.next t (Comp g (terms_of es)))) f given).kind

-- ---- by the number of elements

-- a list of no elements
pub empty-does : (h l : Heap) (t : Term) (places : List Ref) (r : Result Outcome NoMemory) → IsHeap h → length places ≡ 0 → IfOk r (Does h l (Err (fault_kind h (fault.Domain domain.NonEmptyList (cell.Atom EMPTY_LIST))))) → IfOk r (Does h l (univ_made h.subst h.next t (map (place_seen h) places)))
empty-does h l t [] r is e d = subst (λ x. IfOk r (Does h l (Err (domain_error "non_empty_list" x)))) (empty-seen h is) d
empty-does h l t (x ∷ xs) r is e d = absurd (omega arith)

-- the element at a place of a list
pub same-at : (xs : List Ref) (i : ℕ) (d e : Ref) → i < length xs → slice_index_or xs i d ≡ slice_index_or xs i e
same-at [] i d e lt = absurd (omega arith)
same-at (x ∷ xs) zero d e lt = refl
same-at (x ∷ xs) (suc i) d e lt = same-at xs i d e (omega arith)

-- the elements behind the first are places of the heap
pub rest-within : (h : Heap) (xs : List Ref) → AreWithin h xs → AreWithin h (take (length xs - 1) (drop 1 xs))
rest-within h [] all = all
rest-within h (x ∷ xs) all =
    let n : length xs ≡ suc (length xs) - 1 = omega arith in
    let same : xs ≡ take (suc (length xs) - 1) xs = sym (take_all (length xs) xs (omega arith)) ∙ ap (λ m. take m xs) n in
    let each : AreWithin h xs = λ k d lt. all (suc k) d (omega arith) in
    subst (AreWithin h) same each

-- ---- an unbound variable

abbrev no_elements : Checked (List Term)
no_elements = Ok []

at_end : (whole : Term) (b : Bool) → (if b then no_elements else Err (type_error "list" whole)) ≡ (closed_by whole (if b then end.Closed else end.NoList) >> no_elements)
at_end whole true = refl
at_end whole false = refl

link-then : (whole h t : Term) (b : Bool) (r : Checked (List Term)) → r ≡ (closed_by whole (ending t) >> Ok (front t))
    → (if b then (r >>= (λ es. Ok (h ∷ es))) else Err (type_error "list" whole)) ≡ (closed_by whole (if b then ending t else end.NoList) >> Ok (if b then h ∷ front t else []))
link-then whole h t true r e = ap (λ q. q >>= (λ es. Ok (h ∷ es))) e ∙ go (closed_by whole (ending t))
  where
    go : (c : Checked (Unit {0})) → ((c >> Ok (front t)) >>= (λ es. Ok (h ∷ es))) ≡ (c >> Ok (h ∷ front t))
    go (Ok x) = refl
    go (Err x) = refl
link-then whole h t false r e = refl

-- the elements of a list are those at its front, where it ends in `[]`
elements-split : (whole t : Term) → elements whole t ≡ (closed_by whole (ending t) >> Ok (front t))
elements-split whole (Comp f (More h (More t NoMore))) = link-then whole h t (names_eq f (codes ".")) (elements whole t) (elements-split whole t)
elements-split whole (Comp f NoMore) = refl
elements-split whole (Comp f (More h NoMore)) = refl
elements-split whole (Comp f (More h (More t (More x ts)))) = refl
elements-split whole (Var v) = refl
elements-split whole (Int z) = refl
elements-split whole (Atom a) = at_end whole (names_eq a (codes "[]"))

-- a list that ends in `[]`, and one that doesn't
pub elements-does : (h l : Heap) (t : Term) (list : ℕ) (w : Walked) (places : List Ref) (r : Result Outcome NoMemory) → IsWalked h list w → closed_by (seen h list) w.end ≡ Ok tt → places ≡ w.elements.items → IfOk r (Does h l (univ_made h.subst h.next t (map (place_seen h) places)))
    → IfOk r (Does h l (univ_of_variable h.subst h.next t (seen h list)))
elements-does h l t list w places r is e ep d = subst (λ c. IfOk r (Does h l c)) (sym row) d
  where
    row : univ_of_variable h.subst h.next t (seen h list) ≡ univ_made h.subst h.next t (map (place_seen h) places)
    row =
        ap (λ c. c >>= univ_made h.subst h.next t) (elements-split (seen h list) (seen h list) ∙ past (closed_by (seen h list) (ending (seen h list))) (Ok (front (seen h list))) (ap (closed_by (seen h list)) is.ends ∙ e))
        ∙ ap (univ_made h.subst h.next t) (sym is.elements ∙ ap (map (place_seen h)) (sym ep))

pub elements-fail : (h l : Heap) (t : Term) (list : ℕ) (w : Walked) (f : errors.Fault) (r : Result Outcome NoMemory) → IsWalked h list w → IsFault h (closed_by (seen h list) w.end) f → IfOk r (Does h l (Err (fault_kind h f)))
    → IfOk r (Does h l (univ_of_variable h.subst h.next t (seen h list)))
elements-fail h l t list w f r is i d = subst (λ c. IfOk r (Does h l c)) (sym row) d
  where
    row : univ_of_variable h.subst h.next t (seen h list) ≡ Err (fault_kind h f)
    row =
        ap (λ c. c >>= univ_made h.subst h.next t) (elements-split (seen h list) (seen h list) ∙ ap (λ c. c >> Ok (front (seen h list))) (ap (closed_by (seen h list)) is.ends ∙ i.kind))

-- ---- the row, by the cell of the term

-- the row where the cell is a variable's
pub univ-variable : (h l : Heap) (t v : ℕ) (c : Cell) (x : Term) (r : Result Outcome NoMemory) → c ≡ cell.Var v → IsTop h t c → IfOk r (Does h l (univ_of_variable h.subst h.next (seen h t) x)) → IfOk r (Does h l (univ h.subst h.next (seen h t) x))
univ-variable h l t v c x r e top d =
    let is : seen h t ≡ Var v = seen-variable h t v c e top in
    subst (λ y. IfOk r (Does h l (univ h.subst h.next y x))) (sym is) (subst (λ y. IfOk r (Does h l (univ_of_variable h.subst h.next y x))) is d)

univ-known : (h : Heap) (c : Cell) (x : Term) → ((v : ℕ) → c ≡ cell.Var v → ⊥) → univ h.subst h.next (cell_seen h c) x ≡ Ok (unifies h.subst h.next x (parts_list (cell_seen h c)))
univ-known h (cell.Var v) x other = absurd (other v refl)
univ-known h (cell.Int z) x other = refl
univ-known h (cell.Atom a) x other = refl
univ-known h (cell.Comp f first count) x other = refl

-- the row where it is any other
pub parts-does : (h k m l : Heap) (t list : ℕ) (c parts : Cell) (at : ℕ) (r : Result Outcome NoMemory) → ((v : ℕ) → c ≡ cell.Var v → ⊥) → IsTop h t c → MakesSeen h k parts (parts_list (cell_seen h c)) → m ≡ with_cell k parts → at ≡ length k.cells → list < length h.cells
    → IfOk r (Does m l (Ok (unifies m.subst m.next (seen m list) (seen m at)))) → IfOk r (Does h l (univ h.subst h.next (seen h t) (seen h list)))
parts-does h k m l t list c parts at r other top a e at_end lt d =
    IfOk-map r (Does m l (Ok (unifies m.subst m.next (seen m list) (seen m at)))) (Does h l (univ h.subst h.next (seen h t) (seen h list)))
    (λ o x. does-later h m l (unifies m.subst m.next (seen m list) (seen m at)) (univ h.subst h.next (seen h t) (seen h list)) o all.subst row x) d
  where
    all : AddsCells h m
    all = adds-trans h k m a.adds (adds-cell k m parts e)

    same : unifies m.subst m.next (seen m list) (seen m at) ≡ unifies h.subst h.next (seen h list) (parts_list (cell_seen h c))
    same =
        ap (λ s. unifies s m.next (seen m list) (seen m at)) all.subst
        ∙ ap (λ n. unifies h.subst n (seen m list) (seen m at)) all.next
        ∙ ap (λ y. unifies h.subst h.next y (seen m at)) (seen-kept h m all list lt)
        ∙ ap (unifies h.subst h.next (seen h list)) (seen-placed k m parts at e at_end ∙ a.term)

    row : univ h.subst h.next (seen h t) (seen h list) ≡ Ok (unifies m.subst m.next (seen m list) (seen m at))
    row = ap (λ y. univ h.subst h.next y (seen h list)) (sym top.same) ∙ univ-known h c (seen h list) other ∙ ap Ok (sym same)

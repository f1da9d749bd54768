-- What `functor` answers.
use Rattle.std.proofs.Common.{◌≡◌, ℕ, zero, suc, ◌+◌, ◌<◌, [], ◌∷◌, ◌++◌, length, Some, None, Ok, Err, ℤ, pos, negsuc, IfOk, refl, sym, ap, subst, ◌∙◌, arith, append_assoc, length-append}
use Rattle.std.specs.Prelude.{List, Option, Result}
use Rattle.tp_terms.specs.declared.NoMemory.{NoMemory}
use Rattle.tp_terms.specs.declared.cells.AtomId.{AtomId}
use Rattle.tp_terms.specs.declared.cells.Ref.{Ref}
use Rattle.tp_terms.specs.declared.cells.Cell.{Cell}
use Rattle.tp_terms.specs.declared.cells.Cell.TheVariants as cell
use Rattle.tp_terms.specs.Term.{Name, Term, Var, Int, Atom, Comp, More, count_of, nat, all_replaced}
use Rattle.tp_terms.specs.Shown.{name_at, args_at, shows}
use Rattle.tp_terms.proofs.Places.Shown.{shows-append, shows-push}
use Rattle.tp_meaning.specs.Subst.{Subst, apply, mgu, value_at}
use Rattle.tp_meaning.specs.Checks.{Checked, ◌>>=◌, ◌>>◌, bound, integer, name_in, atomic, arity_fits}
use Rattle.tp_meaning.specs.Heap.{Heap, IsHeap, CanStand, IsTop, Makes, AddsCells, seen, shown, cell_seen, cell_shown, with_cell, with_fresh}
use Rattle.tp_meaning.specs.Answers.{Answer, Yes, No, unifies, then_unifies, variables_from, functor, functor_made, functor_of_variable}
use Rattle.tp_meaning.proofs.Unification.Applied.{apply-twice}
use Rattle.tp_meaning.proofs.Unification.Complete.{count-replaced}
use Rattle.tp_meaning.proofs.HeapsGrow.Cells.{adds-trans, seen-kept, cell_shown-kept, shown-placed}
use Rattle.tp_meaning.specs.Unifier.{IsConstant, pair}
use Rattle.tp_meaning.proofs.Unification.Pairs.{pairs}
use Rattle.tp_build.specs.declared.outcome.Outcome.{Outcome}
use Rattle.tp_build.specs.declared.errors.Fault as errors
use Rattle.tp_build.specs.Answers.{Does}
use Rattle.tp_build.specs.Errors.{IsFault, fault_kind}
use Rattle.tp_build.specs.Names.{natural_in, fitting_arity}
use Rattle.tp_build.specs.Functor.{MakesCompound, arity_wanted, variable_cells, with_variables}
use Rattle.tp_build.proofs.PlacesShow.Unified.{mgu-same}
use Rattle.tp_build.proofs.PlacesShow.Checked.{past, past-value, fails-value, seen-variable}
use Rattle.tp_build.proofs.RowAnswers.Heaps.{IfOk-map, does-later}

-- ---- the number of arguments

-- the checks in order, where all hold
pub wanted-is : (n a : Term) (z : ℤ) (k : ℕ) → bound n ≡ Ok tt → bound a ≡ Ok tt → integer a ≡ Ok z → atomic n ≡ Ok tt → natural_in a ≡ Ok k → arity_wanted n a ≡ fitting_arity k
wanted-is n a z k e1 e2 e3 e4 e5 = past (bound n) _ e1 ∙ past (bound a) _ e2 ∙ past-value (integer a) _ z e3 ∙ past (atomic n) _ e4 ∙ past-value (natural_in a) _ k e5

fits-then : (c : Checked (Unit {0})) (k : ℕ) (g : ℕ → Checked Answer) → (c >> g k) ≡ ((c >> Ok k) >>= g)
fits-then (Ok x) k g = refl
fits-then (Err e) k g = refl

-- the row of an unbound variable, in its two parts
pub functor-split : (s : Subst) (next : ℕ) (t n a : Term) → functor_of_variable s next t n a ≡ (arity_wanted n a >>= functor_made s next t n)
functor-split s next t (Var v) a = refl
functor-split s next t (Int m) (Var v) = refl
functor-split s next t (Int m) (Int (pos k)) = fits-then (arity_fits k) k (functor_made s next t (Int m))
functor-split s next t (Int m) (Int (negsuc k)) = refl
functor-split s next t (Int m) (Atom a) = refl
functor-split s next t (Int m) (Comp f ts) = refl
functor-split s next t (Atom m) (Var v) = refl
functor-split s next t (Atom m) (Int (pos k)) = fits-then (arity_fits k) k (functor_made s next t (Atom m))
functor-split s next t (Atom m) (Int (negsuc k)) = refl
functor-split s next t (Atom m) (Atom a) = refl
functor-split s next t (Atom m) (Comp f ts) = refl
functor-split s next t (Comp g us) (Var v) = refl
functor-split s next t (Comp g us) (Int z) = refl
functor-split s next t (Comp g us) (Atom a) = refl
functor-split s next t (Comp g us) (Comp f ts) = refl

-- the row where its checks hold, and where one fails
pub variable-does : (h l : Heap) (t n a : Term) (k : ℕ) (r : Result Outcome NoMemory) → arity_wanted n a ≡ Ok k → IfOk r (Does h l (functor_made h.subst h.next t n k)) → IfOk r (Does h l (functor_of_variable h.subst h.next t n a))
variable-does h l t n a k r e d = subst (λ c. IfOk r (Does h l c)) (sym (functor-split h.subst h.next t n a ∙ past-value (arity_wanted n a) (functor_made h.subst h.next t n) k e)) d

pub variable-fails : (h l : Heap) (t n a : Term) (f : errors.Fault) (r : Result Outcome NoMemory) → IsFault h (arity_wanted n a) f → IfOk r (Does h l (Err (fault_kind h f))) → IfOk r (Does h l (functor_of_variable h.subst h.next t n a))
variable-fails h l t n a f r i d = subst (λ c. IfOk r (Does h l c)) (sym (functor-split h.subst h.next t n a ∙ (fails-value h (arity_wanted n a) (functor_made h.subst h.next t n) f i).kind)) d

-- ---- new variables

length-variables : (v n : ℕ) → length (variable_cells v n) ≡ n
length-variables v zero = refl
length-variables v (suc n) = ap suc (length-variables (v + 1) n)

variables-last : (v n : ℕ) → variable_cells v n ++ cell.Var (v + n) ∷ [] ≡ variable_cells v (suc n)
variables-last v zero = let e : v + 0 ≡ v = omega arith in ap (λ m. cell.Var m ∷ []) e
variables-last v (suc n) =
    let e : v + suc n ≡ (v + 1) + n = omega arith in
    ap (λ m. cell.Var v ∷ (variable_cells (v + 1) n ++ cell.Var m ∷ [])) e ∙ ap (λ cs. cell.Var v ∷ cs) (variables-last (v + 1) n)

-- one variable more
pub variables-more : (h k l : Heap) (n m : ℕ) → m ≡ n + 1 → k ≡ with_variables h n → l ≡ with_fresh k → l ≡ with_variables h m
variables-more h k l n m em ek el =
    let suc-n : suc n ≡ m = omega arith in
    el ∙ ap with_fresh ek
    ∙ ap (λ cs. record h { cells = cs; next = h.next + n + 1 }) (append_assoc h.cells (variable_cells h.next n) (cell.Var (h.next + n) ∷ []) ∙ ap (λ cs. h.cells ++ cs) (variables-last h.next n))
    ∙ ap (λ x. record h { cells = h.cells ++ variable_cells h.next (suc n); next = x }) (let e : h.next + n + 1 ≡ h.next + suc n = omega arith in e)
    ∙ ap (with_variables h) suc-n

-- the places of new variables show them
args-variables : (names : List Name) (cells : List Cell) (v n : ℕ) → args_at names (cells ++ variable_cells v n) (length cells) n ≡ variables_from v n
args-variables names cells v zero = refl
args-variables names cells v (suc n) =
    ap (λ cs. args_at names cs (length cells) (suc n)) split
    ∙ ap (λ t. More t (args_at names (longer ++ variable_cells (v + 1) n) (suc (length cells)) n)) first
    ∙ ap (More (Var v)) (ap (λ m. args_at names (longer ++ variable_cells (v + 1) n) m n) (sym long) ∙ args-variables names longer (v + 1) n)
  where
    longer : List Cell
    longer = cells ++ cell.Var v ∷ []

    long : length longer ≡ suc (length cells)
    long = omega (arith, length-append cells (cell.Var v ∷ []))

    split : cells ++ variable_cells v (suc n) ≡ longer ++ variable_cells (v + 1) n
    split = sym (append_assoc cells (cell.Var v ∷ []) (variable_cells (v + 1) n))

    first : shows names (longer ++ variable_cells (v + 1) n) (length cells) ≡ Var v
    first = shows-append names longer (variable_cells (v + 1) n) (length cells) (omega (arith, long)) ∙ shows-push names cells (cell.Var v)

length-with : (h k : Heap) (n : ℕ) → k ≡ with_variables h n → length k.cells ≡ length h.cells + n
length-with h k n e = ap (λ (q : Heap). length q.cells) e ∙ length-append h.cells (variable_cells h.next n) ∙ ap (λ m. length h.cells + m) (length-variables h.next n)

-- the compound of new variables can be added
pub compound-stands : (h k : Heap) (name : AtomId) (first : Ref) (n : ℕ) → k ≡ with_variables h n → first.at ≡ length h.cells → name.at < length h.names → 0 < n → CanStand k (cell.Comp name first n)
compound-stands h k name first n e place named some = record {
  before = (some, omega (arith, length-with h k n e));
  named = subst (λ (q : Heap). name.at < length q.names) (sym e) named;
  numbered = tt;
}

-- its place shows it
pub compound-made : (h k l : Heap) (name : AtomId) (first : Ref) (n at : ℕ) → k ≡ with_variables h n → first.at ≡ length h.cells → l ≡ with_cell k (cell.Comp name first n) → at ≡ length k.cells → MakesCompound h l name.at n at
compound-made h k l name first n at ek place el at_end = record {
  more = variable_cells h.next n ++ cell.Comp name first n ∷ [];
  cells = ap (λ (q : Heap). q.cells) el ∙ ap (λ (q : Heap). q.cells ++ cell.Comp name first n ∷ []) ek ∙ append_assoc h.cells (variable_cells h.next n) (cell.Comp name first n ∷ []);
  subst = ap (λ (q : Heap). q.subst) el ∙ ap (λ (q : Heap). q.subst) ek;
  next = ap (λ (q : Heap). q.next) el ∙ ap (λ (q : Heap). q.next) ek;
  names = ap (λ (q : Heap). q.names) el ∙ ap (λ (q : Heap). q.names) ek;
  trail = ap (λ (q : Heap). q.trail) el ∙ ap (λ (q : Heap). q.trail) ek;
  within = let long : length l.cells ≡ suc (length k.cells) = ap (λ (q : Heap). length q.cells) el ∙ (let x : length (k.cells ++ cell.Comp name first n ∷ []) ≡ suc (length k.cells) = omega (arith, length-append k.cells (cell.Comp name first n ∷ [])) in x) in omega (arith, long);
  compound =
      shown-placed k l (cell.Comp name first n) at el at_end
      ∙ ap (λ (q : Heap). cell_shown q (cell.Comp name first n)) ek
      ∙ ap (λ m. Comp (name_at h.names name.at) (args_at h.names (h.cells ++ variable_cells h.next n) m n)) place
      ∙ ap (Comp (name_at h.names name.at)) (args-variables h.names h.cells h.next n);
}

-- a place that stood is seen as it was, where cells were added and numbers of variables taken
seen-still : (h k : Heap) (name count at x : ℕ) → MakesCompound h k name count at → x < length h.cells → seen k x ≡ seen h x
seen-still h k name count at x m lt = seen-kept h (record k { next = h.next }) (record { more = m.more; cells = m.cells; subst = m.subst; next = refl; names = m.names; trail = m.trail }) x lt

-- a term that is seen has the unifiers of the term
unifies-right : (s : Subst) (next : ℕ) (a b : Term) (h : Heap) → IsHeap h → s ≡ h.subst → unifies h.subst next a (apply h.subst b) ≡ unifies h.subst next a b
unifies-right s next a b h is e = ap (λ m. elim m as (λ q. Answer) [ None ↦ No | Some u ↦ Yes u next ]) (mgu-same h.subst a (apply h.subst b) a b refl (apply-twice h.subst b is.subst.idem))

-- it is unified, or its name is no atom's
pub made-does : (h k l : Heap) (t n : ℕ) (c : Cell) (name : AtomId) (count at : ℕ) (r : Result Outcome NoMemory) → IsHeap h → 0 < count → name_in (seen h n) ≡ Ok (name_at h.names name.at) → MakesCompound h k name.at count at → t < length h.cells
    → IfOk r (Does k l (Ok (unifies k.subst k.next (seen k t) (seen k at)))) → IfOk r (Does h l (functor_made h.subst h.next (seen h t) (seen h n) count))
made-does h k l t n c name zero at r is some named m lt d = absurd (omega arith)
made-does h k l t n c name (suc j) at r is some named m lt d =
    IfOk-map r (Does k l (Ok (unifies k.subst k.next (seen k t) (seen k at)))) (Does h l (functor_made h.subst h.next (seen h t) (seen h n) (suc j)))
    (λ o x. does-later h k l (unifies k.subst k.next (seen k t) (seen k at)) (functor_made h.subst h.next (seen h t) (seen h n) (suc j)) o m.subst
    (past-value (name_in (seen h n)) (λ f. Ok (unifies h.subst (h.next + suc j) (seen h t) (Comp f (variables_from h.next (suc j))))) (name_at h.names name.at) named ∙ ap Ok (sym same)) x) d
  where
    whole : Term
    whole = Comp (name_at h.names name.at) (variables_from h.next (suc j))

    same : unifies k.subst k.next (seen k t) (seen k at) ≡ unifies h.subst (h.next + suc j) (seen h t) whole
    same =
        ap (λ s. unifies s k.next (seen k t) (seen k at)) m.subst
        ∙ ap (λ x. unifies h.subst x (seen k t) (seen k at)) m.next
        ∙ ap (λ y. unifies h.subst (h.next + suc j) y (seen k at)) (seen-still h k name.at (suc j) at t m lt)
        ∙ ap (unifies h.subst (h.next + suc j) (seen h t)) (ap (λ s. apply s (shown k at)) m.subst ∙ ap (apply h.subst) m.compound)
        ∙ unifies-right h.subst (h.next + suc j) (seen h t) whole h is refl

pub made-fails : (h l : Heap) (t n : Term) (count : ℕ) (f : errors.Fault) (r : Result Outcome NoMemory) → 0 < count → IsFault h (name_in n) f → IfOk r (Does h l (Err (fault_kind h f))) → IfOk r (Does h l (functor_made h.subst h.next t n count))
made-fails h l t n zero f r some i d = absurd (omega arith)
made-fails h l t n (suc j) f r some i d =
    subst (λ c. IfOk r (Does h l c)) (sym (fails-value h (name_in n) (λ g. Ok (unifies h.subst (h.next + suc j) t (Comp g (variables_from h.next (suc j))))) f i).kind) d

-- ---- a term that is known

-- the place of a compound of two arguments shows it
pub pair-shown : (h k l : Heap) (c left right : Cell) (at : ℕ) → Makes h k c (pair (name_at h.names 0) (cell_shown h left) (cell_shown h right)) → l ≡ with_cell k c → at ≡ length k.cells → shown l at ≡ pair (name_at h.names 0) (cell_shown h left) (cell_shown h right)
pair-shown h k l c left right at m e place = shown-placed k l c at e place ∙ m.term

constant-seen : (s : Subst) (t : Term) → IsConstant t → apply s t ≡ t
constant-seen s (Atom a) k = refl
constant-seen s (Int z) k = refl
constant-seen s (Var v) k = absurd k
constant-seen s (Comp f ts) k = absurd k

-- two terms unified in turn are unified as two compounds are
unifies-pair : (s : Subst) (next : ℕ) (f : Name) (a b c d : Term) (h : Heap) → IsHeap h → IsConstant c → unifies h.subst next (pair f a b) (pair f c d) ≡ then_unifies (unifies h.subst next a c) b d
unifies-pair s next f a b c d h is k = ap (λ m. elim m as (λ _. Answer) [ None ↦ No | Some u ↦ Yes u next ]) (pairs h.subst f a b c d is.subst k) ∙ go (mgu h.subst a c)
  where
    go : (o : Option Subst) → elim (elim o as (λ _. Option Subst) [ None ↦ None | Some u ↦ mgu u b d ]) as (λ _. Answer) [ None ↦ No | Some u ↦ Yes u next ] ≡ then_unifies (elim o as (λ _. Answer) [ None ↦ No | Some u ↦ Yes u next ]) b d
    go None = refl
    go (Some u) = refl

-- the name and the number are unified at once
pub known-does : (h k l m : Heap) (name count : ℕ) (left right own : Cell) (z : ℤ) (at given : ℕ) (r : Result Outcome NoMemory) → IsHeap h → IsTop h name left → IsTop h count right → CanStand h own → IsConstant (cell_shown h own) → at < length k.cells
    → shown k at ≡ pair (name_at h.names 0) (cell_shown h left) (cell_shown h right) → AddsCells h k → shown l given ≡ pair (name_at k.names 0) (cell_shown k own) (Int z) → AddsCells k l
    → IfOk r (Does l m (Ok (unifies l.subst l.next (seen l at) (seen l given)))) → IfOk r (Does h m (Ok (then_unifies (unifies h.subst h.next (seen h name) (cell_shown h own)) (seen h count) (Int z))))
known-does h k l m name count left right own z at given r is tl tr stands constant within eat hk egiven kl d =
    IfOk-map r (Does l m (Ok (unifies l.subst l.next (seen l at) (seen l given)))) (Does h m (Ok (then_unifies (unifies h.subst h.next (seen h name) (cell_shown h own)) (seen h count) (Int z))))
    (λ o x. does-later h l m (unifies l.subst l.next (seen l at) (seen l given)) (Ok (then_unifies (unifies h.subst h.next (seen h name) (cell_shown h own)) (seen h count) (Int z))) o all.subst (ap Ok (sym same)) x) d
  where
    all : AddsCells h l
    all = adds-trans h k l hk kl

    f : Name
    f = name_at h.names 0

    left-seen : seen l at ≡ pair f (seen h name) (seen h count)
    left-seen =
        seen-kept k l kl at within
        ∙ ap (λ s. apply s (shown k at)) hk.subst
        ∙ ap (apply h.subst) eat
        ∙ ap (λ t. pair f t (cell_seen h right)) tl.same
        ∙ ap (pair f (seen h name)) tr.same

    right-seen : seen l given ≡ pair f (cell_shown h own) (Int z)
    right-seen =
        ap (λ s. apply s (shown l given)) all.subst
        ∙ ap (apply h.subst) (egiven ∙ ap (λ names. pair (name_at names 0) (cell_shown k own) (Int z)) hk.names ∙ ap (λ t. pair f t (Int z)) (cell_shown-kept h k hk own stands))
        ∙ ap (λ t. pair f t (Int z)) (constant-seen h.subst (cell_shown h own) constant)

    same : unifies l.subst l.next (seen l at) (seen l given) ≡ then_unifies (unifies h.subst h.next (seen h name) (cell_shown h own)) (seen h count) (Int z)
    same =
        ap (λ s. unifies s l.next (seen l at) (seen l given)) all.subst
        ∙ ap (λ n. unifies h.subst n (seen l at) (seen l given)) all.next
        ∙ ap (λ t. unifies h.subst h.next t (seen l given)) left-seen
        ∙ ap (unifies h.subst h.next (pair f (seen h name) (seen h count))) right-seen
        ∙ unifies-pair h.subst h.next f (seen h name) (seen h count) (cell_shown h own) (Int z) h is constant

-- ---- the row, by the cell of the term

-- the row where the cell is a variable's
pub functor-variable : (h l : Heap) (t v : ℕ) (c : Cell) (n a : Term) (r : Result Outcome NoMemory) → c ≡ cell.Var v → IsTop h t c → IfOk r (Does h l (functor_of_variable h.subst h.next (seen h t) n a)) → IfOk r (Does h l (functor h.subst h.next (seen h t) n a))
functor-variable h l t v c n a r e top d =
    let is : seen h t ≡ Var v = seen-variable h t v c e top in
    subst (λ x. IfOk r (Does h l (functor h.subst h.next x n a))) (sym is) (subst (λ x. IfOk r (Does h l (functor_of_variable h.subst h.next x n a))) is d)

count-args : (names : List Name) (cells : List Cell) (first n : ℕ) → count_of (args_at names cells first n) ≡ n
count-args names cells first zero = refl
count-args names cells first (suc n) = let e : count_of (args_at names cells (suc first) n) ≡ n = count-args names cells (suc first) n in omega (arith, e)

-- the row where it is a compound's
pub functor-compound : (h l : Heap) (t : ℕ) (c : Cell) (name : AtomId) (first : Ref) (count : ℕ) (n a : Term) (r : Result Outcome NoMemory) → c ≡ cell.Comp name first count → IsTop h t c
    → IfOk r (Does h l (Ok (then_unifies (unifies h.subst h.next n (Atom (name_at h.names name.at))) a (Int (pos count))))) → IfOk r (Does h l (functor h.subst h.next (seen h t) n a))
functor-compound h l t c name first count n a r e top d =
    let u : IsTop h t (cell.Comp name first count) = subst (IsTop h t) e top in
    let same : count_of (all_replaced (value_at h.subst) (args_at h.names h.cells first.at count)) ≡ count = count-replaced (value_at h.subst) (args_at h.names h.cells first.at count) ∙ count-args h.names h.cells first.at count in
    subst (λ x. IfOk r (Does h l (functor h.subst h.next x n a))) u.same
    (subst (λ k. IfOk r (Does h l (Ok (then_unifies (unifies h.subst h.next n (Atom (name_at h.names name.at))) a (nat k))))) (sym same) d)

-- What heaps show of a row's answer.
use Rattle.std.proofs.Common.{◌≡◌, ◌++◌, ℕ, Bool, true, false, not, Option, Some, None, Ok, Err, refl, sym, ap, subst, ◌∙◌, arith, append_assoc, ◌+◌, suc}
use Rattle.std.specs.Prelude.{ℤ, pos, ◌<◌, length, Result, IfOk, is_some, is_none, if◌then◌else◌}
use Rattle.tp_terms.specs.declared.cells.AtomId.{AtomId}
use Rattle.tp_terms.specs.declared.cells.Ref.{Ref}
use Rattle.tp_terms.specs.declared.cells.Cell.{Cell}
use Rattle.tp_terms.specs.declared.cells.Cell.TheVariants as cell
use Rattle.tp_terms.specs.Term.{Name, Term, Terms, Int, Comp}
use Rattle.tp_terms.specs.Names.{Grows, StandsAt}
use Rattle.tp_terms.proofs.Naming.Tables.{Grows-same, Grows-trans, name_at-slice_get}
use Rattle.tp_meaning.specs.Subst.{apply, mgu}
use Rattle.tp_meaning.specs.Copy.{copy_of}
use Rattle.tp_meaning.specs.Checks.{Checked, ◌>>=◌}
use Rattle.tp_meaning.specs.Arith.{compared, evaluated, value}
use Rattle.tp_meaning.proofs.Unification.Applied.{apply-twice}
use Rattle.tp_meaning.proofs.Unification.Solved.{unbound}
use Rattle.tp_meaning.proofs.HeapsGrow.Trails.{trail-same, trail-trans}
use Rattle.tp_meaning.proofs.HeapsGrow.Cells.{adds-cell, seen-kept, shown-placed}
use Rattle.tp_arith.specs.declared.Relation.{Relation}
use Rattle.tp_arith.specs.Values.{holds, Evaluates}
use Rattle.tp_arith.specs.declared.raising.Raise.{Raise}
use Rattle.tp_arith.specs.declared.raising.Raise.TheVariants.{Raised}
use Rattle.tp_meaning.specs.Heap.{IsTop, IsUnbound, cell_shown, cell_seen, with_cell, Heap, IsHeap, AddsCells, AddsBindings, Copies, FindsUnifier, IsUnifiable, shown, seen}
use Rattle.tp_build.specs.declared.outcome.Outcome.{Outcome}
use Rattle.tp_build.specs.declared.outcome.Outcome.TheVariants as outcome
use Rattle.tp_terms.specs.declared.NoMemory.{NoMemory}
use Rattle.tp_meaning.specs.declared.goals.BuiltId.{BuiltId}
use Rattle.tp_meaning.specs.Builtin.{of_args}
use Rattle.tp_build.specs.declared.families.GoalOfTwo.{GoalOfTwo}
use Rattle.tp_build.specs.declared.families.Family.TheVariants as family
use Rattle.tp_build.specs.Families.{IsOf, row_of_two, argument_count}
use Rattle.tp_build.specs.Answers.{Answer, Yes, No, unifies, Does, HeapGrows, args_seen}
use Rattle.tp_build.specs.declared.kinds.Kind.{Kind}
use Rattle.tp_build.specs.declared.kinds.Kind.TheVariants as kind
use Rattle.tp_meaning.specs.Answers.{succeeds, atom_length}
use Rattle.tp_build.specs.Names.{Measures}
use Rattle.tp_meaning.specs.Builtin.{copies, is_value}
use Rattle.tp_build.specs.Builtin.{compares, is_of}
use Rattle.tp_build.proofs.PlacesShow.Seen.{mgu-seen, unifies-seen}

same-names : (h k : Heap) → k.names ≡ h.names → Grows h.names k.names
same-names h k e = subst (λ names. Grows h.names names) (sym e) (Grows-same h.names)

-- cells were added, and maybe bindings
pub grows-cells : (h k : Heap) → AddsCells h k → HeapGrows h k
grows-cells h k a = record { more = a.more; cells = a.cells; names = same-names h k a.names; next = omega (arith, a.next); trail = trail-same h.trail k.trail a.trail }

pub grows-bindings : (h k : Heap) → AddsBindings h k → HeapGrows h k
grows-bindings h k a = record { more = a.more; cells = a.cells; names = same-names h k a.names; next = omega (arith, a.next); trail = a.trail }

-- a copy was made
pub grows-copy : (h k : Heap) (at place : ℕ) → Copies h k at place → HeapGrows h k
grows-copy h k at place a = record { more = a.more; cells = a.cells; names = same-names h k a.names; next = omega (arith, a.next); trail = trail-same h.trail k.trail a.trail }

pub grows-trans : (h k l : Heap) → HeapGrows h k → HeapGrows k l → HeapGrows h l
grows-trans h k l a b = record {
  more = a.more ++ b.more;
  cells = b.cells ∙ ap (λ cs. cs ++ b.more) a.cells ∙ append_assoc h.cells a.more b.more;
  names = Grows-trans h.names k.names l.names a.names b.names;
  next = let p = a.next in let q = b.next in omega arith;
  trail = trail-trans h.trail k.trail l.trail a.trail b.trail;
}

-- the terms of two places have this unifier, or none
pub unifies-found : (h k : Heap) (a b : ℕ) (found : Bool) → IsHeap h → FindsUnifier h k a b found → unifies h.subst h.next (seen h a) (seen h b) ≡ elim (if found then Some k.subst else None) as (λ q. Answer) [ None ↦ No | Some u ↦ Yes u h.next ]
unifies-found h k a b found is f =
    unifies-seen h.subst h.next (shown h a) (shown h b) is.subst
    ∙ ap (λ m. elim m as (λ q. Answer) [ None ↦ No | Some u ↦ Yes u h.next ]) f

pub does-found : (h k : Heap) (a b : ℕ) → IsHeap h → FindsUnifier h k a b true → AddsBindings h k → Does h k (Ok (unifies h.subst h.next (seen h a) (seen h b))) outcome.Yes
does-found h k a b is f adds = ap Ok (unifies-found h k a b true is f ∙ ap (Yes k.subst) (sym adds.next))

pub does-none : (h k : Heap) (a b : ℕ) → IsHeap h → FindsUnifier h k a b false → AddsCells h k → Does h k (Ok (unifies h.subst h.next (seen h a) (seen h b))) outcome.No
does-none h k a b is f adds = (ap Ok (unifies-found h k a b false is f), adds.subst)

-- no unifier
not-some : {A : Type 0} (o : Option A) → not (is_some o) ≡ is_none o
not-some None = refl
not-some (Some x) = refl

pub differs-found : (h : Heap) (a b : ℕ) (found : Bool) → IsHeap h → IsUnifiable h a b found → not found ≡ is_none (mgu h.subst (seen h a) (seen h b))
differs-found h a b found is f =
    ap not f ∙ not-some (mgu h.subst (shown h a) (shown h b)) ∙ ap is_none (sym (mgu-seen h.subst (shown h a) (shown h b) is.subst))

-- what is answered later is answered from the start, where nothing was bound before
pub does-later : (h k l : Heap) (a : Answer) (c : Checked Answer) (o : Outcome) → k.subst ≡ h.subst → c ≡ Ok a → Does k l (Ok a) o → Does h l c o
does-later h k l a c outcome.Yes e is d = is ∙ d
does-later h k l a c outcome.No e is d = (is ∙ d.0, d.1 ∙ e)
does-later h k l a c (outcome.Raise at) e is d = let p : Ok a ≡ Err (seen l at.at) = d.1 in absurd (cc)

pub false-not-true : {E : Type 0} (b : Bool) → b ≡ false → ◌≡◌ {A = Result Bool E} (Ok b) (Ok true) → ⊥
false-not-true b f p = absurd (cc)

-- a place that stood is seen as it was, and so is what a further term answers with it
pub unifies-kept : (h k : Heap) (x : ℕ) (t : Term) → AddsCells h k → x < length h.cells → unifies k.subst k.next (seen k x) t ≡ unifies h.subst h.next (seen h x) t
unifies-kept h k x t adds lt =
    ap (λ s. unifies s k.next (seen k x) t) adds.subst
    ∙ ap (λ n. unifies h.subst n (seen k x) t) adds.next
    ∙ ap (λ y. unifies h.subst h.next y t) (seen-kept h k adds x lt)

-- ---- numbers

-- the number of a new place is unified
pub does-number : (h k l : Heap) (x at : ℕ) (z : ℤ) (o : Outcome) → k ≡ with_cell h (cell.Int z) → at ≡ length h.cells → x < length h.cells → Does k l (Ok (unifies k.subst k.next (seen k x) (seen k at))) o → Does h l (Ok (unifies h.subst h.next (seen h x) (Int z))) o
does-number h k l x at z o e place lt d = does-later h k l (unifies k.subst k.next (seen k x) (seen k at)) (Ok (unifies h.subst h.next (seen h x) (Int z))) o adds.subst (ap Ok (sym same)) d
  where
    adds : AddsCells h k
    adds = adds-cell h k (cell.Int z) e

    number : seen k at ≡ Int z
    number = ap (apply k.subst) (shown-placed h k (cell.Int z) at e place)

    same : unifies k.subst k.next (seen k x) (seen k at) ≡ unifies h.subst h.next (seen h x) (Int z)
    same = ap (unifies k.subst k.next (seen k x)) number ∙ unifies-kept h k x (Int z) adds lt

-- the value of a term that is seen is the term's value
pub value-seen : (h : Heap) (at : ℕ) → IsHeap h → value h.subst (seen h at) ≡ value h.subst (shown h at)
value-seen h at is = ap evaluated (apply-twice h.subst (shown h at) is.subst.idem)

pub is-known : (h k l : Heap) (x e : ℕ) (z : ℤ) (o : Outcome) → IsHeap h → value h.subst (shown h e) ≡ Ok z → AddsCells h k → x < length h.cells → Does k l (Ok (unifies k.subst k.next (seen k x) (Int z))) o → Does h l (is_value h.subst h.next (seen h x) (seen h e)) o
is-known h k l x e z o is v adds lt d =
    does-later h k l (unifies k.subst k.next (seen k x) (Int z)) (is_value h.subst h.next (seen h x) (seen h e)) o adds.subst
    (ap (λ (m : Checked ℤ). m >>= (λ y. Ok (unifies h.subst h.next (seen h x) (Int y)))) (value-seen h e is ∙ v) ∙ ap Ok (sym (unifies-kept h k x (Int z) adds lt))) d

pub is-raised : (h k : Heap) (x e : ℕ) (at : Ref) → IsHeap h → at.at < length k.cells → value h.subst (shown h e) ≡ Err (seen k at.at) → AddsCells h k → Does h k (is_value h.subst h.next (seen h x) (seen h e)) (outcome.Raise at)
is-raised h k x e at is lt v adds =
    (lt, ap (λ (m : Checked ℤ). m >>= (λ y. Ok (unifies h.subst h.next (seen h x) (Int y)))) (value-seen h e is ∙ v), adds.subst, adds.next)

pub compared-seen : (h : Heap) (r : Relation) (x y : ℕ) → IsHeap h → compared (holds r) h.subst (seen h x) (seen h y) ≡ compared (holds r) h.subst (shown h x) (shown h y)
compared-seen h r x y is =
    ap (λ (m : Checked ℤ). m >>= (λ a. value h.subst (seen h y) >>= (λ b. Ok (holds r a b)))) (value-seen h x is)
    ∙ ap (λ (n : Checked ℤ). value h.subst (shown h x) >>= (λ a. n >>= (λ b. Ok (holds r a b)))) (value-seen h y is)

pub compares-known : (h : Heap) (r : Relation) (x y : ℕ) (b : Bool) → IsHeap h → compared (holds r) h.subst (shown h x) (shown h y) ≡ Ok b → compares r h.subst h.next (seen h x) (seen h y) ≡ Ok (succeeds b h.subst h.next)
compares-known h r x y b is v = ap (λ (m : Checked Bool). m >>= (λ c. Ok (succeeds c h.subst h.next))) (compared-seen h r x y is ∙ v)

pub compares-raised : (h k : Heap) (r : Relation) (x y : ℕ) (at : Ref) → IsHeap h → at.at < length k.cells → compared (holds r) h.subst (shown h x) (shown h y) ≡ Err (seen k at.at) → AddsCells h k → Does h k (compares r h.subst h.next (seen h x) (seen h y)) (outcome.Raise at)
compares-raised h k r x y at is lt v adds =
    (lt, ap (λ (m : Checked Bool). m >>= (λ c. Ok (succeeds c h.subst h.next))) (compared-seen h r x y is ∙ v), adds.subst, adds.next)

-- ---- copies

pub does-copy : (h k l : Heap) (t c at : ℕ) (o : Outcome) → Copies h k t at → c < length h.cells → Does k l (Ok (unifies k.subst k.next (seen k c) (seen k at))) o → Does h l (copies h.subst h.next (seen h t) (seen h c)) o
does-copy h k l t c at o copied lt d = does-later h k l (unifies k.subst k.next (seen k c) (seen k at)) (copies h.subst h.next (seen h t) (seen h c)) o copied.subst (ap Ok (sym same)) d
  where
    cells_only : Heap
    cells_only = record k { next = h.next }

    adds : AddsCells h cells_only
    adds = record { more = copied.more; cells = copied.cells; subst = copied.subst; next = refl; names = copied.names; trail = copied.trail }

    kept : seen k c ≡ seen h c
    kept = seen-kept h cells_only adds c lt

    same : unifies k.subst k.next (seen k c) (seen k at) ≡ unifies h.subst (h.next + (copy_of h.next (seen h t)).1) (seen h c) (copy_of h.next (seen h t)).0
    same =
        ap (λ s. unifies s k.next (seen k c) (seen k at)) copied.subst
        ∙ ap (λ n. unifies h.subst n (seen k c) (seen k at)) copied.next
        ∙ ap (λ y. unifies h.subst (h.next + (copy_of h.next (seen h t)).1) y (seen k at)) kept
        ∙ ap (λ y. unifies h.subst (h.next + (copy_of h.next (seen h t)).1) (seen h c) y) copied.copy

-- ---- kinds

kind-compound : (k : Kind) (f : Name) (ts us : Terms) → is_of k (Comp f ts) ≡ is_of k (Comp f us)
kind-compound kind.Variable f ts us = refl
kind-compound kind.Nonvariable f ts us = refl
kind-compound kind.Atom f ts us = refl
kind-compound kind.Integer f ts us = refl
kind-compound kind.Atomic f ts us = refl
kind-compound kind.Compound f ts us = refl
kind-compound kind.Callable f ts us = refl

kind-seen : (h : Heap) (k : Kind) (c : Cell) → IsUnbound h.subst c → is_of k (cell_shown h c) ≡ is_of k (cell_seen h c)
kind-seen h k (cell.Var v) u = ap (is_of k) (sym (unbound v h.subst u))
kind-seen h k (cell.Int z) u = refl
kind-seen h k (cell.Atom name) u = refl
kind-seen h k (cell.Comp name first count) u = kind-compound k _ _ _

-- the cell that a place shows has its kind
pub kind-top : (h : Heap) (k : Kind) (at : ℕ) (c : Cell) → IsTop h at c → is_of k (cell_shown h c) ≡ is_of k (seen h at)
kind-top h k at c top = kind-seen h k c top.unbound ∙ ap (is_of k) top.same

pub IfOk-map : {T E : Type 0} (r : Result T E) (P Q : T → Type 0) → ((x : T) → P x → Q x) → IfOk r P → IfOk r Q
IfOk-map (Ok x) P Q f h = f x h
IfOk-map (Err e) P Q f h = tt

-- the same, by the reason that is matched
pub is-raised-by : (h k : Heap) (x e : ℕ) (r : Raise) (at : Ref) → r ≡ Raised at → IsHeap h → Evaluates {A = ℤ} k (value h.subst (shown h e)) (Err r) → AddsCells h k → Does h k (is_value h.subst h.next (seen h x) (seen h e)) (outcome.Raise at)
is-raised-by h k x e r at eq is v adds = let w = subst (λ q. Evaluates {A = ℤ} k (value h.subst (shown h e)) (Err q)) eq v in is-raised h k x e at is w.0 w.1 adds

pub compares-raised-by : (h k : Heap) (s : Relation) (x y : ℕ) (r : Raise) (at : Ref) → r ≡ Raised at → IsHeap h → Evaluates {A = Bool} k (compared (holds s) h.subst (shown h x) (shown h y)) (Err r) → AddsCells h k → Does h k (compares s h.subst h.next (seen h x) (seen h y)) (outcome.Raise at)
compares-raised-by h k s x y r at eq is v adds = let w = subst (λ q. Evaluates {A = Bool} k (compared (holds s) h.subst (shown h x) (shown h y)) (Err q)) eq v in compares-raised h k s x y at is w.0 w.1 adds

-- ---- goals by the number of their arguments

-- the row of a goal with two arguments is that of the built-in
pub two-does : (h k : Heap) (id : BuiltId) (goal : GoalOfTwo) (first y : ℕ) (r : Result Outcome NoMemory) → IsOf id (family.Two goal) → y ≡ first + 1 → IfOk r (Does h k (row_of_two goal h.subst h.next (seen h first) (seen h y)))
    → IfOk r (Does h k (of_args id h.subst h.next (args_seen h first (argument_count id))))
two-does h k id goal first y r is e d = subst (λ c. IfOk r (Does h k c)) (sym same) d
  where
    next_to : suc first ≡ y
    next_to = omega arith

    same : of_args id h.subst h.next (args_seen h first (argument_count id)) ≡ row_of_two goal h.subst h.next (seen h first) (seen h y)
    same =
        ap (λ n. of_args id h.subst h.next (args_seen h first n)) is.0
        ∙ is.1 h.subst h.next (seen h first) (seen h (suc first))
        ∙ ap (λ p. row_of_two goal h.subst h.next (seen h first) (seen h p)) next_to

-- ---- lengths

-- the length of an atom is unified
pub length-does : (h l : Heap) (a n : ℕ) (name : AtomId) (text : Name) (z : ℤ) (r : Result Outcome NoMemory) → Measures h a n (Ok name) → StandsAt h.names name.at text → z ≡ pos (length text) → IfOk r (Does h l (Ok (unifies h.subst h.next (seen h n) (Int z))))
    → IfOk r (Does h l (atom_length h.subst h.next (seen h a) (seen h n)))
length-does h l a n name text z r m stands e d =
    subst (λ c. IfOk r (Does h l c)) (sym (m.1 h.subst h.next)) (subst (λ x. IfOk r (Does h l (Ok (unifies h.subst h.next (seen h n) (Int x))))) (e ∙ ap (λ name. pos (length name)) (sym (name_at-slice_get h.names name.at text stands))) d)

-- The kinds of errors, as they are built.
use Rattle.std.proofs.Common.{◌≡◌, ℕ, ◌<◌, List, [], ◌∷◌, length, Some, slice_get, refl, ap, ◌∙◌, arith, pos, codes, length-append}
use Rattle.tp_terms.specs.declared.cells.AtomId.{AtomId}
use Rattle.tp_terms.specs.declared.cells.Ref.{Ref}
use Rattle.tp_terms.specs.declared.cells.Cell.{Cell}
use Rattle.tp_terms.specs.declared.cells.Cell.TheVariants as cell
use Rattle.tp_terms.specs.declared.symbols.TheConstants.{EVALUABLE, EVALUATION_ERROR, INSTANTIATION_ERROR, INT_OVERFLOW, SLASH, TYPE_ERROR, UNDEFINED, ZERO_DIVISOR}
use Rattle.tp_terms.specs.Term.{Name, Atom, Comp, NoMore, More}
use Rattle.tp_terms.specs.Names.{IsTable}
use Rattle.tp_terms.specs.StartNames.{start_names}
use Rattle.tp_terms.specs.Shown.{name_at}
use Rattle.tp_terms.proofs.Naming.Start.{start-name_at, start-within}
use Rattle.tp_meaning.specs.Subst.{Subst, apply}
use Rattle.tp_meaning.specs.Checks.{unbound}
use Rattle.tp_meaning.specs.Arith.{not_evaluable}
use Rattle.tp_meaning.specs.Heap.{Heap, IsHeap, CanStand, Makes, cell_shown, with_cell}
use Rattle.tp_meaning.proofs.HeapsGrow.Cells.{adds-none, adds-trans, shown-placed}
use Rattle.tp_arith.specs.declared.stop.EvaluationError.{EvaluationError}
use Rattle.tp_arith.specs.declared.stop.EvaluationError.TheVariants.{Overflow, ZeroDivisor, Undefined}
use Rattle.tp_arith.specs.declared.stop.Fault as fault
use Rattle.tp_arith.specs.declared.stop.Fault.TheVariants.{Unbound, NotEvaluable, Evaluation}
use Rattle.tp_arith.specs.Errors.{evaluation_kind, fault_kind}
use Rattle.tp_arith.specs.Values.{Raises}

-- ---- words in every table of names

start-slash : slice_get start_names SLASH.at ≡ Some (codes "/")
unfolding start_names
start-slash = refl

start-instantiation_error : slice_get start_names INSTANTIATION_ERROR.at ≡ Some (codes "instantiation_error")
unfolding start_names
start-instantiation_error = refl

start-type_error : slice_get start_names TYPE_ERROR.at ≡ Some (codes "type_error")
unfolding start_names
start-type_error = refl

start-evaluation_error : slice_get start_names EVALUATION_ERROR.at ≡ Some (codes "evaluation_error")
unfolding start_names
start-evaluation_error = refl

start-evaluable : slice_get start_names EVALUABLE.at ≡ Some (codes "evaluable")
unfolding start_names
start-evaluable = refl

pub start-int_overflow : slice_get start_names INT_OVERFLOW.at ≡ Some (codes "int_overflow")
unfolding start_names
start-int_overflow = refl

pub start-zero_divisor : slice_get start_names ZERO_DIVISOR.at ≡ Some (codes "zero_divisor")
unfolding start_names
start-zero_divisor = refl

pub start-undefined : slice_get start_names UNDEFINED.at ≡ Some (codes "undefined")
unfolding start_names
start-undefined = refl

-- an evaluation error by its word
pub evaluation-word : (names : List Name) → IsTable names → (at : ℕ) (word : Name) → slice_get start_names at ≡ Some word → Comp (name_at names EVALUATION_ERROR.at) (More (Atom (name_at names at)) NoMore) ≡ Comp (codes "evaluation_error") (More (Atom word) NoMore)
evaluation-word names t at word e =
    ap (λ f. Comp f (More (Atom (name_at names at)) NoMore)) (start-name_at names t EVALUATION_ERROR.at (codes "evaluation_error") start-evaluation_error)
    ∙ ap (λ w. Comp (codes "evaluation_error") (More (Atom w) NoMore)) (start-name_at names t at word e)

-- an atom of the start can be added to every heap
pub start-stands : (h : Heap) → IsHeap h → (name : AtomId) → name.at < 103 → CanStand h (cell.Atom name)
start-stands h is name lt = record { before = tt; named = start-within h.names is.table name.at lt; numbered = tt }

pub unbound-made : (h : Heap) → IsHeap h → Makes h h (cell.Atom INSTANTIATION_ERROR) unbound
unbound-made h is = record {
  adds = adds-none h;
  stands = start-stands h is INSTANTIATION_ERROR (omega arith);
  term = ap Atom (start-name_at h.names is.table INSTANTIATION_ERROR.at (codes "instantiation_error") start-instantiation_error);
}

-- Name/Arity, and then the error
pub not_evaluable-made : (h k l : Heap) (indicator c number : Cell) (name : AtomId) (count : ℕ) → IsHeap h → IsHeap k → number ≡ cell.Int (pos count)
    → Makes h k indicator (Comp (name_at h.names SLASH.at) (More (cell_shown h (cell.Atom name)) (More (cell_shown h number) NoMore)))
    → Makes k l c (Comp (name_at k.names TYPE_ERROR.at) (More (cell_shown k (cell.Atom EVALUABLE)) (More (cell_shown k indicator) NoMore)))
    → Makes h l c (not_evaluable (name_at h.names name.at) count)
not_evaluable-made h k l indicator c number name count is is_k e first second =
    let f : Name = name_at h.names name.at in
    let slash = start-name_at h.names is.table SLASH.at (codes "/") start-slash in
    let type = start-name_at k.names is_k.table TYPE_ERROR.at (codes "type_error") start-type_error in
    let evaluable = start-name_at k.names is_k.table EVALUABLE.at (codes "evaluable") start-evaluable in
    record {
      adds = adds-trans h k l first.adds second.adds;
      stands = second.stands;
      term =
          second.term
          ∙ ap (λ g. Comp g (More (cell_shown k (cell.Atom EVALUABLE)) (More (cell_shown k indicator) NoMore))) type
          ∙ ap (λ w. Comp (codes "type_error") (More (Atom w) (More (cell_shown k indicator) NoMore))) evaluable
          ∙ ap (λ t. Comp (codes "type_error") (More (Atom (codes "evaluable")) (More t NoMore)))
          (first.term
          ∙ ap (λ g. Comp g (More (Atom f) (More (cell_shown h number) NoMore))) slash
          ∙ ap (λ x. Comp (codes "/") (More (Atom f) (More (cell_shown h x) NoMore))) e);
    }

-- ---- kinds have no variables

ground-evaluation : (s : Subst) (e : EvaluationError) → apply s (evaluation_kind e) ≡ evaluation_kind e
ground-evaluation s Overflow = refl
ground-evaluation s ZeroDivisor = refl
ground-evaluation s Undefined = refl

ground-fault : (s : Subst) (names : List Name) (f : fault.Fault) → apply s (fault_kind names f) ≡ fault_kind names f
ground-fault s names Unbound = refl
ground-fault s names (NotEvaluable name count) = refl
ground-fault s names (Evaluation e) = ground-evaluation s e

pub kind-placed : (h k l : Heap) (c : Cell) (f : fault.Fault) (at : Ref) → Makes h k c (fault_kind h.names f) → l ≡ with_cell k c → at.at ≡ length k.cells → Raises l (fault_kind h.names f) at
kind-placed h k l c f at made e place = record {
  within = omega (arith, ap (λ (q : Heap). length q.cells) e, length-append k.cells (c ∷ []));
  kind_is = ap (apply l.subst) (shown-placed k l c at.at e place ∙ made.term) ∙ ground-fault l.subst h.names f;
}

-- The words of error terms, and the kinds of errors as they are built.
use Rattle.std.proofs.Common.{◌≡◌, ◌<◌, [], ◌∷◌, length, Ok, Err, refl, sym, ap, subst, ◌∙◌, arith, codes, length-append}
use Rattle.std.proofs.lemmas.Option.{slice_get_within}
use Rattle.std.specs.Prelude.{Result, IfOk}
use Prim.Native.String.{String}
use Rattle.tp_terms.specs.declared.cells.AtomId.{AtomId}
use Rattle.tp_terms.specs.declared.cells.Ref.{Ref}
use Rattle.tp_terms.specs.declared.cells.Cell.{Cell}
use Rattle.tp_terms.specs.declared.cells.Cell.TheVariants as cell
use Rattle.tp_terms.specs.declared.symbols.TheConstants.{ATOM, ATOMIC, CHARACTER_CODE, COMPOUND, DOMAIN_ERROR, INSTANTIATION_ERROR, INTEGER, LIST, MAX_ARITY, NON_EMPTY_LIST, NOT_LESS_THAN_ZERO, REPRESENTATION_ERROR, TYPE_ERROR}
use Rattle.tp_terms.specs.Term.{Atom, Comp, NoMore, More}
use Rattle.tp_terms.specs.StartNames.{start_names}
use Rattle.tp_terms.specs.Shown.{name_at}
use Rattle.tp_terms.proofs.Naming.Start.{start-name_at, start-within, length-start_names}
use Rattle.tp_meaning.specs.Subst.{Subst, apply}
use Rattle.tp_meaning.specs.Checks.{unbound}
use Rattle.tp_meaning.specs.Heap.{Heap, IsHeap, CanStand, Makes, seen, cell_shown, with_cell}
use Rattle.tp_meaning.proofs.HeapsGrow.Cells.{adds-none, adds-trans, adds-cell, shown-placed}
use Rattle.tp_build.specs.declared.outcome.Outcome.TheVariants as outcome
use Rattle.tp_build.specs.declared.errors.WantedType.{WantedType}
use Rattle.tp_build.specs.declared.errors.WantedDomain.{WantedDomain}
use Rattle.tp_build.specs.declared.errors.Limit.{Limit}
use Rattle.tp_build.specs.declared.errors.Fault as errors
use Rattle.tp_build.specs.declared.errors.Fault.TheVariants as fault
use Rattle.tp_build.specs.Errors.{IsWord, fault_term, fault_kind, type_word, domain_word, limit_word}
use Rattle.tp_build.specs.Answers.{Does}

pub word-integer : IsWord INTEGER "integer"
unfolding start_names
word-integer = refl

pub word-atom : IsWord ATOM "atom"
unfolding start_names
word-atom = refl

pub word-atomic : IsWord ATOMIC "atomic"
unfolding start_names
word-atomic = refl

pub word-compound : IsWord COMPOUND "compound"
unfolding start_names
word-compound = refl

pub word-list : IsWord LIST "list"
unfolding start_names
word-list = refl

pub word-not_less_than_zero : IsWord NOT_LESS_THAN_ZERO "not_less_than_zero"
unfolding start_names
word-not_less_than_zero = refl

pub word-non_empty_list : IsWord NON_EMPTY_LIST "non_empty_list"
unfolding start_names
word-non_empty_list = refl

pub word-max_arity : IsWord MAX_ARITY "max_arity"
unfolding start_names
word-max_arity = refl

pub word-character_code : IsWord CHARACTER_CODE "character_code"
unfolding start_names
word-character_code = refl

word-instantiation_error : IsWord INSTANTIATION_ERROR "instantiation_error"
unfolding start_names
word-instantiation_error = refl

pub word-type_error : IsWord TYPE_ERROR "type_error"
unfolding start_names
word-type_error = refl

pub word-domain_error : IsWord DOMAIN_ERROR "domain_error"
unfolding start_names
word-domain_error = refl

pub word-representation_error : IsWord REPRESENTATION_ERROR "representation_error"
unfolding start_names
word-representation_error = refl

-- a word is in every table
pub word-within : (h : Heap) → IsHeap h → (a : AtomId) (w : String) → IsWord a w → a.at < length h.names
word-within h is a w e = start-within h.names is.table a.at (omega (arith, slice_get_within start_names a.at (codes w) e, length-start_names))

pub word-stands : (h : Heap) → IsHeap h → (a : AtomId) (w : String) → IsWord a w → CanStand h (cell.Atom a)
word-stands h is a w e = record { before = tt; named = word-within h is a w e; numbered = tt }

word-name : (h : Heap) → IsHeap h → (a : AtomId) (w : String) → IsWord a w → name_at h.names a.at ≡ codes w
word-name h is a w e = start-name_at h.names is.table a.at (codes w) e

pub unbound-made : (h : Heap) → IsHeap h → Makes h h (cell.Atom INSTANTIATION_ERROR) unbound
unbound-made h is = record {
  adds = adds-none h;
  stands = word-stands h is INSTANTIATION_ERROR "instantiation_error" word-instantiation_error;
  term = ap Atom (word-name h is INSTANTIATION_ERROR "instantiation_error" word-instantiation_error);
}

-- an error by its word and its culprit, and by its word alone
pub two-made : (h k : Heap) (error word : AtomId) (e w : String) (culprit c : Cell) → IsHeap h → IsWord error e → IsWord word w
    → Makes h k c (Comp (name_at h.names error.at) (More (cell_shown h (cell.Atom word)) (More (cell_shown h culprit) NoMore)))
    → Makes h k c (Comp (codes e) (More (Atom (codes w)) (More (cell_shown h culprit) NoMore)))
two-made h k error word e w culprit c is is_error is_word made = record {
  adds = made.adds;
  stands = made.stands;
  term =
      made.term
      ∙ ap (λ f. Comp f (More (Atom (name_at h.names word.at)) (More (cell_shown h culprit) NoMore))) (word-name h is error e is_error)
      ∙ ap (λ f. Comp (codes e) (More (Atom f) (More (cell_shown h culprit) NoMore))) (word-name h is word w is_word);
}

pub one-made : (h k : Heap) (error word : AtomId) (e w : String) (c : Cell) → IsHeap h → IsWord error e → IsWord word w
    → Makes h k c (Comp (name_at h.names error.at) (More (cell_shown h (cell.Atom word)) NoMore))
    → Makes h k c (Comp (codes e) (More (Atom (codes w)) NoMore))
one-made h k error word e w c is is_error is_word made = record {
  adds = made.adds;
  stands = made.stands;
  term =
      made.term
      ∙ ap (λ f. Comp f (More (Atom (name_at h.names word.at)) NoMore)) (word-name h is error e is_error)
      ∙ ap (λ f. Comp (codes e) (More (Atom f) NoMore)) (word-name h is word w is_word);
}

-- the kinds that compounds show
pub type-made : {E : Type 0} (h k : Heap) (f : errors.Fault) (wanted : WantedType) (culprit : Cell) (word : AtomId) (r : Result Cell E) → f ≡ fault.Type wanted culprit → IsHeap h → IsWord word (type_word wanted)
    → IfOk r (λ c. Makes h k c (Comp (name_at h.names TYPE_ERROR.at) (More (cell_shown h (cell.Atom word)) (More (cell_shown h culprit) NoMore))))
    → IfOk r (λ c. Makes h k c (fault_term (cell_shown h) f))
type-made h k f wanted culprit word (Ok c) e is is_word made =
    subst (λ x. Makes h k c (fault_term (cell_shown h) x)) (sym e) (two-made h k TYPE_ERROR word "type_error" (type_word wanted) culprit c is word-type_error is_word made)
type-made h k f wanted culprit word (Err x) e is is_word made = tt

pub domain-made : {E : Type 0} (h k : Heap) (f : errors.Fault) (wanted : WantedDomain) (culprit : Cell) (word : AtomId) (r : Result Cell E) → f ≡ fault.Domain wanted culprit → IsHeap h → IsWord word (domain_word wanted)
    → IfOk r (λ c. Makes h k c (Comp (name_at h.names DOMAIN_ERROR.at) (More (cell_shown h (cell.Atom word)) (More (cell_shown h culprit) NoMore))))
    → IfOk r (λ c. Makes h k c (fault_term (cell_shown h) f))
domain-made h k f wanted culprit word (Ok c) e is is_word made =
    subst (λ x. Makes h k c (fault_term (cell_shown h) x)) (sym e) (two-made h k DOMAIN_ERROR word "domain_error" (domain_word wanted) culprit c is word-domain_error is_word made)
domain-made h k f wanted culprit word (Err x) e is is_word made = tt

pub representation-made : {E : Type 0} (h k : Heap) (f : errors.Fault) (passed : Limit) (word : AtomId) (r : Result Cell E) → f ≡ fault.Representation passed → IsHeap h → IsWord word (limit_word passed)
    → IfOk r (λ c. Makes h k c (Comp (name_at h.names REPRESENTATION_ERROR.at) (More (cell_shown h (cell.Atom word)) NoMore)))
    → IfOk r (λ c. Makes h k c (fault_term (cell_shown h) f))
representation-made h k f passed word (Ok c) e is is_word made =
    subst (λ x. Makes h k c (fault_term (cell_shown h) x)) (sym e) (one-made h k REPRESENTATION_ERROR word "representation_error" (limit_word passed) c is word-representation_error is_word made)
representation-made h k f passed word (Err x) e is is_word made = tt

-- the culprit is seen where the kind is
seen-kind : (h : Heap) (s : Subst) (f : errors.Fault) → s ≡ h.subst → apply s (fault_term (cell_shown h) f) ≡ fault_kind h f
seen-kind h s fault.Unbound e = refl
seen-kind h s (fault.Type wanted culprit) e = ap (λ q. apply q (fault_term (cell_shown h) (fault.Type wanted culprit))) e
seen-kind h s (fault.Domain wanted culprit) e = ap (λ q. apply q (fault_term (cell_shown h) (fault.Domain wanted culprit))) e
seen-kind h s (fault.Representation limit) e = refl

-- a kind that was placed is raised
pub raised : (h k l : Heap) (c : Cell) (f : errors.Fault) (at : Ref) → Makes h k c (fault_term (cell_shown h) f) → l ≡ with_cell k c → at.at ≡ length k.cells → Does h l (Err (fault_kind h f)) (outcome.Raise at)
raised h k l c f at made e place =
    let to_l = adds-trans h k l made.adds (adds-cell k l c e) in
    let kind : seen l at.at ≡ fault_kind h f = ap (apply l.subst) (shown-placed k l c at.at e place ∙ made.term) ∙ seen-kind h l.subst f to_l.subst in
    (omega (arith, ap (λ (q : Heap). length q.cells) e, length-append k.cells (c ∷ []), place), ap Err (sym kind), to_l.subst, to_l.next)

-- Steps of an evaluation: what a place shows has a value, a fault, or an argument that is evaluated first.
use Rattle.std.proofs.Common.{◌≡◌, ℕ, zero, suc, ◌+◌, ◌<◌, ◌++◌, List, [], ◌∷◌, length, reverse, Option, Some, None, Ok, Err, refl, sym, ap, ◌∙◌, arith}
use Rattle.std.specs.Prelude.{ℤ, option_map}
use Rattle.std.proofs.lemmas.List.{reverse-append}
use Rattle.tp_terms.specs.declared.cells.AtomId.{AtomId}
use Rattle.tp_terms.specs.declared.cells.Ref.{Ref}
use Rattle.tp_terms.specs.declared.cells.Cell.TheVariants as cell
use Rattle.tp_terms.specs.Term.{Name, Term, Terms, Var, Int, Atom, Comp, NoMore, More, all_replaced, count_of, term_size}
use Rattle.tp_terms.specs.Shown.{name_at, args_at}
use Rattle.tp_meaning.specs.declared.evaluables.UnaryOperation.{UnaryOperation}
use Rattle.tp_meaning.specs.declared.evaluables.BinaryOperation.{BinaryOperation}
use Rattle.tp_meaning.specs.Subst.{value_at, bound_to}
use Rattle.tp_meaning.specs.Checks.{Checked, ◌>>=◌}
use Rattle.tp_meaning.specs.Arith.{operations_of, known, not_evaluable, unary_value, binary_value, evaluated}
use Rattle.tp_meaning.specs.Heap.{Heap, IsTop, seen, cell_seen}
use Rattle.tp_arith.specs.declared.evaluate.Operation.TheVariants as operation
use Rattle.tp_arith.specs.declared.evaluate.Waiting.{Waiting}
use Rattle.tp_arith.specs.declared.evaluate.Waiting.TheVariants.{Unary, Left}
use Rattle.tp_arith.specs.declared.evaluate.Next.TheVariants.{Look, Give}
use Rattle.tp_arith.specs.declared.stop.Fault as fault
use Rattle.tp_arith.specs.declared.stop.Stop.{Stop}
use Rattle.tp_arith.specs.declared.stop.Stop.TheVariants.{Fault, NoMemory}
use Rattle.std.specs.Option.{option_to_list}
use Rattle.tp_arith.specs.declared.stop.Fault.TheVariants.{Unbound, NotEvaluable}
use Rattle.tp_arith.specs.Errors.{IsFault, FaultStands, fault_kind}
use Rattle.tp_arith.specs.Work.{AreWaiting, GoesOn, StepTo, Gives, operation_in, finished, outcome, all_weight}

-- the newest comes first
pub newest : (ws : List Waiting) (w : Waiting) → reverse (ws ++ w ∷ []) ≡ w ∷ reverse ws
newest ws w = reverse-append ws (w ∷ [])

-- ---- checks in order

then_then : {A B C : Type 0} (m : Checked A) (f : A → Checked B) (g : B → Checked C) → (m >>= f) >>= g ≡ (m >>= (λ a. f a >>= g))
then_then (Ok a) f g = refl
then_then (Err e) f g = refl

pub size-some : (t : Term) → 0 < term_size t
size-some (Var v) = omega arith
size-some (Int z) = omega arith
size-some (Atom a) = omega arith
size-some (Comp f ts) = omega arith

-- ---- the value of a compound

unary-parts : (o : Option UnaryOperation) (op : UnaryOperation) → option_map operation.Unary o ≡ Some (operation.Unary op) → o ≡ Some op
unary-parts None op e = absurd (cc)
unary-parts (Some p) op e = let q : p ≡ op = cc in ap Some q

binary-parts : (o : Option BinaryOperation) (op : BinaryOperation) → option_map operation.Binary o ≡ Some (operation.Binary op) → o ≡ Some op
binary-parts None op e = absurd (cc)
binary-parts (Some p) op e = let q : p ≡ op = cc in ap Some q

not-unary : (o : Option UnaryOperation) (op : BinaryOperation) → option_map operation.Unary o ≡ Some (operation.Binary op) → ⊥
not-unary None op e = absurd (cc)
not-unary (Some p) op e = absurd (cc)

not-binary : (o : Option BinaryOperation) (op : UnaryOperation) → option_map operation.Binary o ≡ Some (operation.Unary op) → ⊥
not-binary None op e = absurd (cc)
not-binary (Some p) op e = absurd (cc)

is-unary : (f : Name) (n : ℕ) (op : UnaryOperation) → operation_in f n ≡ Some (operation.Unary op) → (n ≡ 1) × ((operations_of f).0 ≡ Some op)
is-unary f zero op e = absurd (cc)
is-unary f (suc zero) op e = (refl, unary-parts (operations_of f).0 op e)
is-unary f (suc (suc zero)) op e = absurd (not-binary (operations_of f).1 op e)
is-unary f (suc (suc (suc n))) op e = absurd (cc)

is-binary : (f : Name) (n : ℕ) (op : BinaryOperation) → operation_in f n ≡ Some (operation.Binary op) → (n ≡ 2) × ((operations_of f).1 ≡ Some op)
is-binary f zero op e = absurd (cc)
is-binary f (suc zero) op e = absurd (not-unary (operations_of f).0 op e)
is-binary f (suc (suc zero)) op e = (refl, binary-parts (operations_of f).1 op e)
is-binary f (suc (suc (suc n))) op e = absurd (cc)

none-unary : (o : Option UnaryOperation) → option_map operation.Unary o ≡ None → o ≡ None
none-unary None e = refl
none-unary (Some p) e = absurd (cc)

none-binary : (o : Option BinaryOperation) → option_map operation.Binary o ≡ None → o ≡ None
none-binary None e = refl
none-binary (Some p) e = absurd (cc)

evaluated-unary : (f : Name) (t : Term) (op : UnaryOperation) → (operations_of f).0 ≡ Some op → evaluated (Comp f (More t NoMore)) ≡ (evaluated t >>= unary_value op)
unfolding evaluated
evaluated-unary f t op e = ap (λ (o : Option UnaryOperation). known f 1 o >>= (λ p. evaluated t >>= unary_value p)) e

evaluated-binary : (f : Name) (t u : Term) (op : BinaryOperation) → (operations_of f).1 ≡ Some op → evaluated (Comp f (More t (More u NoMore))) ≡ (evaluated t >>= (λ a. evaluated u >>= binary_value op a))
unfolding evaluated
evaluated-binary f t u op e = ap (λ (o : Option BinaryOperation). known f 2 o >>= (λ p. evaluated t >>= (λ a. evaluated u >>= binary_value p a))) e

evaluated-none : (f : Name) (ts : Terms) → operation_in f (count_of ts) ≡ None → evaluated (Comp f ts) ≡ Err (not_evaluable f (count_of ts))
unfolding evaluated
evaluated-none f NoMore e = refl
evaluated-none f (More t NoMore) e = ap (λ (o : Option UnaryOperation). known f 1 o >>= (λ p. evaluated t >>= unary_value p)) (none-unary (operations_of f).0 e)
evaluated-none f (More t (More u NoMore)) e = ap (λ (o : Option BinaryOperation). known f 2 o >>= (λ p. evaluated t >>= (λ a. evaluated u >>= binary_value p a))) (none-binary (operations_of f).1 e)
evaluated-none f (More t (More u (More v ts))) e = refl

-- ---- what a place shows

module _ (h : Heap) (at : Ref) (ws : List Waiting) where
  abbrev Comes : Term → Type 0
  Comes t = t ≡ seen h at.at

  -- an integer is its own value
  pub looks-int : (z : ℤ) → IsTop h at.at (cell.Int z) → AreWaiting h ws → GoesOn h (outcome h (Look at) ws) (all_weight h (Look at) ws) (Give z) ws
  unfolding evaluated
  looks-int z t waiting = record {
    same = ap (λ u. evaluated u >>= finished h ws) t.same;
    next_stands = tt;
    waiting_stand = waiting;
    less = omega (arith, size-some (seen h at.at));
  }

  -- a fault is the fault of what is next
  fault_of : (f : fault.Fault) → evaluated (seen h at.at) ≡ Err (fault_kind h.names f) → FaultStands (length h.names) f → IsFault h.names (outcome h (Look at) ws) f
  fault_of f e stands = record { kind = ap (λ c. c >>= finished h ws) e; stands = stands }

  looks-variable : (v : ℕ) → bound_to h.subst v ≡ None → cell_seen h (cell.Var v) ≡ Var v
  looks-variable v e = go h.subst e
    where
      go : (s : Rattle.tp_meaning.specs.Subst.Subst) → bound_to s v ≡ None → value_at s v ≡ Var v
      go s e = Rattle.tp_meaning.proofs.Unification.Solved.unbound v s e

  pub looks-unbound : (v : ℕ) → IsTop h at.at (cell.Var v) → IsFault h.names (outcome h (Look at) ws) Unbound
  unfolding evaluated
  looks-unbound v t = fault_of Unbound (ap evaluated (sym t.same ∙ looks-variable v t.unbound)) tt

  pub looks-atom : (name : AtomId) → IsTop h at.at (cell.Atom name) → IsFault h.names (outcome h (Look at) ws) (NotEvaluable name 0)
  unfolding evaluated
  looks-atom name t = fault_of (NotEvaluable name 0) (ap evaluated (sym t.same)) t.stands.named

  count-args : (first n : ℕ) → count_of (all_replaced (value_at h.subst) (args_at h.names h.cells first n)) ≡ n
  count-args first zero = refl
  count-args first (suc n) = omega (arith, count-args (suc first) n)

  pub looks-none : (name : AtomId) (first : Ref) (count : ℕ) → IsTop h at.at (cell.Comp name first count) → None ≡ operation_in (name_at h.names name.at) count → IsFault h.names (outcome h (Look at) ws) (NotEvaluable name count)
  looks-none name first count t e =
      let ts : Terms = all_replaced (value_at h.subst) (args_at h.names h.cells first.at count) in
      let f : Name = name_at h.names name.at in
      fault_of (NotEvaluable name count)
      (ap evaluated (sym t.same)
      ∙ evaluated-none f ts (ap (operation_in f) (count-args first.at count) ∙ sym e)
      ∙ ap (λ n. Err (not_evaluable f n)) (count-args first.at count))
      t.stands.named

  -- an operation on one number: its argument comes first
  pub looks-unary : (name : AtomId) (first : Ref) (count : ℕ) (op : UnaryOperation) → IsTop h at.at (cell.Comp name first count) → Some (operation.Unary op) ≡ operation_in (name_at h.names name.at) count → AreWaiting h ws
      → GoesOn h (outcome h (Look at) ws) (all_weight h (Look at) ws) (Look first) (Unary op ∷ ws)
  looks-unary name first count op t e waiting =
      let f : Name = name_at h.names name.at in
      let is = is-unary f count op (sym e) in
      let shape : seen h at.at ≡ Comp f (More (seen h first.at) NoMore) = sym t.same ∙ ap (λ n. cell_seen h (cell.Comp name first n)) is.0 in
      let value = ap evaluated shape ∙ evaluated-unary f (seen h first.at) op is.1 in
      record {
        same = sym (ap (λ c. c >>= finished h ws) value ∙ then_then (evaluated (seen h first.at)) (unary_value op) (finished h ws));
        next_stands = omega (arith, t.stands.before, is.0);
        waiting_stand = (tt, waiting);
        less = omega (arith, ap term_size shape);
      }

  -- an operation on two numbers: the left argument comes first
  pub looks-binary : (name : AtomId) (first right : Ref) (count : ℕ) (op : BinaryOperation) → IsTop h at.at (cell.Comp name first count) → Some (operation.Binary op) ≡ operation_in (name_at h.names name.at) count → right.at ≡ first.at + 1 → AreWaiting h ws
      → GoesOn h (outcome h (Look at) ws) (all_weight h (Look at) ws) (Look first) (Left op right ∷ ws)
  looks-binary name first right count op t e behind waiting =
      let f : Name = name_at h.names name.at in
      let is = is-binary f count op (sym e) in
      let after : suc first.at ≡ right.at = omega arith in
      let shape : seen h at.at ≡ Comp f (More (seen h first.at) (More (seen h right.at) NoMore)) =
      sym t.same ∙ ap (λ n. cell_seen h (cell.Comp name first n)) is.0
      ∙ ap (λ n. Comp f (More (seen h first.at) (More (seen h n) NoMore))) after in
      let value = ap evaluated shape ∙ evaluated-binary f (seen h first.at) (seen h right.at) op is.1 in
      record {
        same = sym (ap (λ c. c >>= finished h ws) value ∙ then_then (evaluated (seen h first.at)) (λ a. evaluated (seen h right.at) >>= binary_value op a) (finished h ws));
        next_stands = omega (arith, t.stands.before, is.0);
        waiting_stand = (omega (arith, t.stands.before, is.0), waiting);
        less = omega (arith, ap term_size shape);
      }

-- ---- the newest operation that waits

-- a list by its last
pub newest-of : (ws rest : List Waiting) (o : Option Waiting) (w : Waiting) → ws ≡ rest ++ option_to_list o → o ≡ Some w → reverse ws ≡ w ∷ reverse rest
newest-of ws rest o w e is = ap reverse (e ∙ ap (λ v. rest ++ option_to_list v) is) ∙ newest rest w

-- what a step that stops tells
pub stopped-gives : (h : Heap) (c d : Checked ℤ) (weight : ℕ) (stop : Stop) (ws : List Waiting) → c ≡ d → StepTo h c weight (Err stop) ws → Gives h d (Err stop)
stopped-gives h c d weight (Fault fault) ws e f = record { kind = sym e ∙ f.kind; stands = f.stands }
stopped-gives h c d weight NoMemory ws e f = tt

-- What a most general unifier of two terms under a substitution is.
use Rattle.std.specs.Prelude.{◌≡◌, ◌≤◌, ◌↔◌, ℕ, true, false, ◌||◌, Some, None, is_some}
use Rattle.tp_terms.specs.Term.{Name, Term, Var, Int, Atom, Comp, NoMore, More, occurs}
use Rattle.tp_meaning.specs.Subst.{Subst, IsSubst, bound_to, apply, mgu}

-- u is a substitution over s under which both terms are the same
pub record Solves (s : Subst) (a b : Term) (u : Subst) : Type 0 where
  pub is_subst : IsSubst u
  pub over : (v : ℕ) → apply u (Var v) ≡ apply u (apply s (Var v))
  pub same : apply u a ≡ apply u b

-- Every other solution is u and then itself. What s binds is bound, and of the rest only variables
-- of the two terms. A class of unbound variables goes to its least number.
pub record Mgu (s : Subst) (a b : Term) (u : Subst) : Type 0 where
  pub solves : Solves s a b u
  pub most_general : (u2 : Subst) → Solves s a b u2 → (v : ℕ) →
      apply u2 (Var v) ≡ apply u2 (apply u (Var v))
  pub binds : (v : ℕ) → is_some (bound_to s v) ≡ true → is_some (bound_to u v) ≡ true
  pub binds_only : (v : ℕ) → is_some (bound_to u v) ≡ true → is_some (bound_to s v) ≡ false →
      (occurs v (apply s a) || occurs v (apply s b)) ≡ true
  pub least : (x v y : ℕ) → apply u (Var x) ≡ Var v → bound_to s y ≡ None →
      apply u (Var y) ≡ Var v → v ≤ y

-- The law of unifiers: what solving an equation gives is its most general unifier, of which there
-- is only one, and it gives none exactly where nothing solves.
pub record OneUnifier (s : Subst) (a b : Term) : Type 0 where
  pub unifier : (u : Subst) → (mgu s a b ≡ Some u) ↔ Mgu s a b u
  pub none : (mgu s a b ≡ None) ↔ ((u : Subst) → Solves s a b u → ⊥)

abbrev pub MguIsTheOneUnifier : Type 0
MguIsTheOneUnifier = (s : Subst) (a b : Term) → IsSubst s → OneUnifier s a b

-- ---- two equations at once

-- an atom or an integer
abbrev pub IsConstant : Term → Type 0
IsConstant (Atom a) = Unit {0}
IsConstant (Int z) = Unit {0}
IsConstant (Var v) = ⊥
IsConstant (Comp f ts) = ⊥

-- a compound of two arguments
abbrev pub pair : Name → Term → Term → Term
pair f a b = Comp f (More a (More b NoMore))

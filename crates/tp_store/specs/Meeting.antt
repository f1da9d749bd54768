-- The term of a place made equal to a term of other cells, which is seen where it stands.
use Rattle.std.specs.Prelude.{◌≡◌, ℕ, ◌+◌, ◌<◌, ◌≤◌, Bool, true, false, List, [], ◌∷◌, ◌++◌, length}
use Rattle.std.specs.Prelude.{reverse, take, None, ◌↔◌}
use Rattle.tp_terms.specs.declared.cells.Cell.{Cell}
use Rattle.tp_terms.specs.declared.cells.Cell.TheVariants as cell
use Rattle.tp_terms.specs.declared.cells.Ref.{Ref}
use Rattle.tp_terms.specs.Term.{Name, Term, Var, occurs, replaced, term_size}
use Rattle.tp_terms.specs.Shown.{shows, shown_from, AreNamed, IsNamed}
use Rattle.tp_terms.specs.Names.{AreDistinct}
use Rattle.tp_terms.specs.Binds.{Bindings}
use Rattle.tp_meaning.specs.Clauses.{renamed}
use Rattle.tp_meaning.specs.Subst.{Subst, Equations, value_at, bound_to}
use Rattle.tp_store.specs.declared.chains.Chains.{Chains}
use Rattle.tp_store.specs.Contents.{Contents, Names, subst_of}
use Rattle.tp_store.specs.Copy.{IsClaimed}
use Rattle.tp_store.specs.Work.{Extends, NoneSolves}

-- f makes the two sides of each equation equal
abbrev pub Holds : (ℕ → Term) → Equations → Type 0
Holds f [] = Unit {0}
Holds f (e ∷ es) = (replaced f e.0 ≡ replaced f e.1) × Holds f es

-- Pairs of a place of the store and a place of other cells stand for equations. The variables of
-- the other cells are numbered on from the base.
abbrev pub equations : List Name → List Cell → List Cell → ℕ → List (Ref × Ref) → Equations
equations names cells from base [] = []
equations names cells from base (p ∷ ps) =
    (shows names cells p.0.at, renamed base (shows names from p.1.at)) ∷
    equations names cells from base ps

-- all these are places, and the variables' numbers were claimed
abbrev pub AreMet : List Cell → ℕ → List Cell → ℕ → List (Ref × Ref) → Type 0
AreMet cells vars from base [] = Unit {0}
AreMet cells vars from base (p ∷ ps) = (p.0.at < length cells) × (p.1.at < length from) ×
    IsClaimed from p.1.at base vars × AreMet cells vars from base ps

-- how much of the other cells is left to look at; names are no matter here
abbrev pub heads_size : List Cell → List (Ref × Ref) → ℕ
heads_size from [] = 0
heads_size from (p ∷ ps) = term_size (shows [] from p.1.at) + heads_size from ps

-- The equation of a and b over s has the solutions that these equations have over u. What s binds
-- is bound, and a class of unbound variables goes to its least number.
pub record ComesTo (s : Subst) (a b : Term) (u : Subst) (left : Equations) : Type 0 where
  pub over : Extends s (value_at u)
  pub same : (f : ℕ → Term) →
      (Extends s f × (replaced f a ≡ replaced f b)) ↔ (Extends u f × Holds f left)
  pub binds : (v : ℕ) → bound_to u v ≡ None → bound_to s v ≡ None
  pub least : (y v : ℕ) → bound_to s y ≡ None → value_at u y ≡ Var v → v ≤ y

-- The equation of two terms comes to these equations under the new bindings, or nothing solves it.
-- Names are compared by their places in a table that has each atom of the old cells and the others.
abbrev pub Meets : Contents → Contents → List Cell → (List Name → Term) → (List Name → Term) →
    (List Name → Equations) → Bool → Type 0
Meets old new from a b left true = (names : List Name) →
    ComesTo (subst_of names old) (a names) (b names) (subst_of names new) (left names)
Meets old new from a b left false = (names : List Name) → Names names old.cells →
    AreNamed (length names) from → NoneSolves (subst_of names old) (a names) (b names)

-- the new store has further cells and bindings
pub record AddsBoth (old new : Contents) : Type 0 where
  pub more_cells : List Cell
  pub more : Bindings
  pub cells : new.cells ≡ old.cells ++ more_cells
  pub pairs : new.pairs ≡ more ++ old.pairs
  pub vars : new.vars ≡ old.vars

-- A cell of the store and one of other cells, whose variables are numbered on, are made equal
-- exactly by what makes these further pairs equal.
pub record Splits (cells from : List Cell) (base : ℕ) (x y : Cell) (old new : List (Ref × Ref))
    : Type 0 where
  pub more : List (Ref × Ref)
  pub added : reverse new ≡ more ++ reverse old
  pub met : (vars : ℕ) → ((v : ℕ) → occurs v (shown_from [] from y) ≡ true → v + base < vars) →
      AreMet cells vars from base more
  pub smaller : heads_size from more < term_size (shown_from [] from y)
  pub same : (names : List Name) (f : ℕ → Term) →
      (replaced f (shown_from names cells x) ≡ replaced f (renamed base (shown_from names from y)))
      ↔ Holds f (equations names cells from base more)

-- what the comparison of two such cells tells
abbrev pub SplitStep : List Cell → List Cell → ℕ → Cell → Cell → List (Ref × Ref) →
    List (Ref × Ref) → Bool → Type 0
SplitStep cells from base x y old new true = Splits cells from base x y old new
SplitStep cells from base x y old new false = (names : List Name) → AreDistinct names →
    IsNamed (length names) x → IsNamed (length names) y → (f : ℕ → Term) →
    replaced f (shown_from names cells x) ≡ replaced f (renamed base (shown_from names from y)) → ⊥

-- What is left once a pair was looked at: its equation comes to those of further pairs, or nothing
-- solves it.
pub record MeetStep (old new : Contents) (from : List Cell) (base : ℕ) (p : Ref × Ref)
    (before after : List (Ref × Ref)) : Type 0 where
  pub more : List (Ref × Ref)
  pub added : reverse after ≡ more ++ reverse before
  pub met : AreMet new.cells new.vars from base more
  pub smaller : heads_size from more < term_size (shows [] from p.1.at)
  pub comes : (names : List Name) → ComesTo (subst_of names old) (shows names old.cells p.0.at)
      (renamed base (shows names from p.1.at)) (subst_of names new)
      (equations names new.cells from base more)

-- what a look at a pair tells
abbrev pub Looked : Contents → Contents → List Cell → ℕ → Ref × Ref → List (Ref × Ref) →
    List (Ref × Ref) → Bool → Type 0
Looked old new from base p before after true = MeetStep old new from base p before after
Looked old new from base p before after false = (names : List Name) → Names names old.cells →
    AreNamed (length names) from →
    NoneSolves (subst_of names old) (shows names old.cells p.0.at)
    (renamed base (shows names from p.1.at))

-- no variable
abbrev pub IsNoVariable : Cell → Type 0
IsNoVariable x = (v : ℕ) → x ≡ cell.Var v → ⊥

-- the contents with the oldest bindings alone, so many of them
abbrev pub with_oldest : ℕ → Chains → Contents
with_oldest kept s = record {
  cells = s.cells.items;
  pairs = reverse (take kept s.trail.pairs);
  vars = length s.trail.bound;
}

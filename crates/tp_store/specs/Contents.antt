-- What a store holds, and the substitution that its bindings stand for.
use Rattle.std.specs.Prelude.{◌≡◌, ℕ, ◌+◌, ◌<◌, ◌≤◌, Bool, false, is_some, if◌then◌else◌, List, []}
use Rattle.std.specs.Prelude.{◌∷◌, ◌++◌, length, slice_get, take, Some, None}
use Rattle.tp_terms.specs.declared.cells.Cell.{Cell}
use Rattle.tp_terms.specs.declared.cells.Cell.TheVariants as cell
use Rattle.tp_terms.specs.declared.cells.Ref.{Ref}
use Rattle.tp_terms.specs.declared.world.StoreMark.{StoreMark}
use Rattle.tp_terms.specs.Term.{Name, Term, Terms, occurs, all_replaced}
use Rattle.tp_terms.specs.Shown.{shows, shown_from, args_at, AreBuilt, AreNamed}
use Rattle.tp_terms.specs.Names.{AreDistinct}
use Rattle.tp_terms.specs.Binds.{Bindings, bound_in}
use Rattle.tp_meaning.specs.Subst.{Subst, apply, extended, mgu, value_at}

-- the cells by their places; the bindings, the newest first; how many variable numbers were claimed
pub record Contents : Type 0 where
  pub cells : List Cell
  pub pairs : Bindings
  pub vars : ℕ

-- Each binding extends the substitution of those before it, by the term of its place seen under
-- them.
unfoldable pub chained : List Name → List Cell → Bindings → Subst
chained names cells [] = []
chained names cells (p ∷ pairs) =
    extended (chained names cells pairs) p.0
    (apply (chained names cells pairs) (shows names cells p.1.at))

-- the substitution that a store stands for
abbrev pub subst_of : List Name → Contents → Subst
subst_of names c = chained names c.cells c.pairs

-- the term of a place, under the bindings
abbrev pub seen : List Name → Contents → ℕ → Term
seen names c at = apply (subst_of names c) (shows names c.cells at)

-- the terms of so many adjacent places, under the bindings
abbrev pub args_seen : List Name → Contents → ℕ → ℕ → Terms
args_seen names c first count =
    all_replaced (value_at (subst_of names c)) (args_at names c.cells first count)

-- the term of a cell, under the bindings
abbrev pub seen_cell : List Name → Contents → Cell → Term
seen_cell names c x = apply (subst_of names c) (shown_from names c.cells x)

-- a table of names without repeats that has every atom of the cells
pub record Names (names : List Name) (cells : List Cell) : Type 0 where
  pub distinct : AreDistinct names
  pub named : AreNamed (length names) cells

-- a binding of a variable that was unbound, to a term in which it doesn't occur; of two variables
-- the younger is bound
pub record Adds (names : List Name) (cells : List Cell) (vars : ℕ) (pairs : Bindings) (v : ℕ)
    (place : Ref) : Type 0 where
  pub claimed : v < vars
  pub stands : place.at < length cells
  pub unbound : bound_in pairs v ≡ None
  pub apart : occurs v (apply (chained names cells pairs) (shows names cells place.at)) ≡ false
  pub older : (w : ℕ) → slice_get cells place.at ≡ Some (cell.Var w) → w < v

-- each binding was such a one
abbrev pub AreChained : List Name → List Cell → ℕ → Bindings → Type 0
AreChained names cells vars [] = Unit {0}
AreChained names cells vars (p ∷ pairs) =
    Adds names cells vars pairs p.0 p.1 × AreChained names cells vars pairs

-- each variable's number was claimed
abbrev pub AreNumbered : ℕ → List Cell → Type 0
AreNumbered vars cells = (at v : ℕ) → slice_get cells at ≡ Some (cell.Var v) → v < vars

-- the facts that hold of every store
pub record IsStore (c : Contents) : Type 0 where
  pub built : AreBuilt c.cells
  pub chain : (names : List Name) → AreChained names c.cells c.vars c.pairs
  pub numbered : AreNumbered c.vars c.cells

-- the number of a variable was claimed
abbrev pub IsNumbered : ℕ → Cell → Type 0
IsNumbered vars (cell.Var v) = v < vars
IsNumbered vars (cell.Int value) = Unit {0}
IsNumbered vars (cell.Atom name) = Unit {0}
IsNumbered vars (cell.Comp name first count) = Unit {0}

-- an integer or an atom
abbrev pub IsConstant : Cell → Type 0
IsConstant (cell.Var v) = ⊥
IsConstant (cell.Int value) = Unit {0}
IsConstant (cell.Atom name) = Unit {0}
IsConstant (cell.Comp name first count) = ⊥

-- no variable that is bound
abbrev pub IsUnbound : Bindings → Cell → Type 0
IsUnbound pairs (cell.Var v) = bound_in pairs v ≡ None
IsUnbound pairs (cell.Int value) = Unit {0}
IsUnbound pairs (cell.Atom name) = Unit {0}
IsUnbound pairs (cell.Comp name first count) = Unit {0}

-- The mark's numbers are at most the present ones, and nothing that stays speaks of what is cut
-- off.
pub record CanGoBack (c : Contents) (mark : StoreMark) : Type 0 where
  pub cells : mark.cells ≤ length c.cells
  pub vars : mark.vars ≤ c.vars
  pub numbers : (v : ℕ) → mark.vars ≤ v → bound_in c.pairs v ≡ None
  pub places : (v : ℕ) (place : Ref) → bound_in c.pairs v ≡ Some place → place.at < mark.cells
  pub variables : (at v : ℕ) → at < mark.cells → slice_get c.cells at ≡ Some (cell.Var v) →
      v < mark.vars

-- the contents with cells and variable numbers cut to the mark
abbrev pub cut_to_mark : Contents → StoreMark → Contents
cut_to_mark c mark = record { cells = take mark.cells c.cells; pairs = c.pairs; vars = mark.vars }

-- the contents with a further cell, with further variable numbers, and with a further binding
abbrev pub with_cell : Contents → Cell → Contents
with_cell c x = record { cells = c.cells ++ x ∷ []; pairs = c.pairs; vars = c.vars }

abbrev pub with_vars : Contents → ℕ → Contents
with_vars c n = record { cells = c.cells; pairs = c.pairs; vars = c.vars + n }

abbrev pub with_pair : Contents → ℕ → Ref → Contents
with_pair c v place = record { cells = c.cells; pairs = (v, place) ∷ c.pairs; vars = c.vars }

-- the new store has further cells
pub record AddsCells (old new : Contents) : Type 0 where
  pub more : List Cell
  pub cells : new.cells ≡ old.cells ++ more
  pub pairs : new.pairs ≡ old.pairs
  pub vars : new.vars ≡ old.vars

-- the new store has further bindings
pub record AddsPairs (old new : Contents) : Type 0 where
  pub more : Bindings
  pub pairs : new.pairs ≡ more ++ old.pairs
  pub cells : new.cells ≡ old.cells
  pub vars : new.vars ≡ old.vars

-- the places of the old store show the same terms in the new one, and the bindings stand for the
-- same
pub record Keeps (old new : Contents) : Type 0 where
  pub terms : (names : List Name) (at : ℕ) → at < length old.cells →
      shows names new.cells at ≡ shows names old.cells at
  pub bindings : (names : List Name) → subst_of names new ≡ subst_of names old

-- The terms of two places have the most general unifier that the new bindings are, or none. Names
-- are compared by their places, so this holds under each table of names that has each name once.
abbrev pub FindsUnifier : Contents → Contents → Ref → Ref → Bool → Type 0
FindsUnifier old new left right found =
    (names : List Name) → Names names old.cells →
    mgu (subst_of names old) (shows names old.cells left.at) (shows names old.cells right.at)
    ≡ (if found then Some (subst_of names new) else None)

-- whether the terms of two places have a unifier
abbrev pub IsUnifiable : Contents → Ref → Ref → Bool → Type 0
IsUnifiable c left right found =
    (names : List Name) → Names names c.cells →
    found ≡ is_some (mgu (subst_of names c) (shows names c.cells left.at)
    (shows names c.cells right.at))

-- Chained bindings, as the code keeps them.
use Rattle.std.specs.Prelude.{◌≡◌, ◌⊎◌, ℕ, ◌+◌, ◌^◌, ◌<◌, List, [], ◌∷◌, Option, Some, None, length}
use Rattle.std.specs.Prelude.{reverse, slice_get, slice_index_or}
use Rattle.tp_terms.specs.declared.cells.Cell.{Cell}
use Rattle.tp_terms.specs.declared.cells.Cell.TheVariants as cell
use Rattle.tp_terms.specs.declared.cells.Ref.{Ref}
use Rattle.tp_terms.specs.declared.world.StoreMark.{StoreMark}
use Rattle.tp_terms.specs.Term.{Name}
use Rattle.tp_terms.specs.Shown.{StandsBefore}
use Rattle.tp_terms.specs.Binds.{Bindings, bound_in}
use Rattle.tp_store.specs.declared.chains.Chains.{Chains}
use Rattle.tp_store.specs.declared.chains.End.{End}
use Rattle.tp_store.specs.Contents.{Contents, IsConstant, IsStore, IsUnbound, IsNumbered, seen}
use Rattle.tp_store.specs.Contents.{seen_cell}

-- what the bindings and cells hold; the list in memory has the newest binding last
abbrev pub contents_of : Chains → Contents
contents_of s =
    record { cells = s.cells.items; pairs = reverse s.trail.pairs; vars = length s.trail.bound }

-- the table by number has what the list has
pub record IsTable (bound : List (Option Ref)) (pairs : Bindings) : Type 0 where
  pub kept : (v : ℕ) → slice_index_or bound v None ≡ bound_in pairs v

-- a place before the mark, or the place of an integer or an atom
abbrev pub IsBefore : StoreMark → List Cell → Ref → Type 0
IsBefore mark cells place = (place.at < mark.cells) ⊎
    ((x : Cell) × (slice_get cells place.at ≡ Some x) × IsConstant x)

-- variables with numbers below the mark's are bound to such places
abbrev pub AreBefore : StoreMark → List Cell → Bindings → Type 0
AreBefore mark cells [] = Unit {0}
AreBefore mark cells (p ∷ pairs) =
    (p.0 < mark.vars → IsBefore mark cells p.1) × AreBefore mark cells pairs

-- The cells before the mark have variables below it alone, and so have the terms that these are
-- bound to.
pub record IsClosed (cells : List Cell) (pairs : Bindings) (mark : StoreMark) : Type 0 where
  pub variables : (at v : ℕ) → at < mark.cells → slice_get cells at ≡ Some (cell.Var v) →
      v < mark.vars
  pub bound : AreBefore mark cells pairs

pub record IsChains (s : Chains) : Type 0 where
  pub store : IsStore (contents_of s)
  pub table : IsTable s.trail.bound (reverse s.trail.pairs)
  pub closed : IsClosed s.cells.items (reverse s.trail.pairs) s.closed
  pub fits : length s.trail.bound < 2 ^ 64

-- a place at which a chain of bindings ends, and its cell
pub record IsEnd (c : Contents) (e : End) : Type 0 where
  pub place : e.place.at < length c.cells
  pub cell : slice_get c.cells e.place.at ≡ Some e.cell
  pub before : StandsBefore e.place.at e.cell
  pub unbound : IsUnbound c.pairs e.cell
  pub numbered : IsNumbered c.vars e.cell

-- how far a chain of variables can still fall
abbrev pub rank : Cell → ℕ
rank (cell.Var v) = v + 1
rank (cell.Int value) = 0
rank (cell.Atom name) = 0
rank (cell.Comp name first count) = 0

-- chains that begin at one place may end at another: it is the same, or one that a variable is
-- bound to
abbrev pub MayEndAt : Contents → Ref → Ref → Type 0
MayEndAt c at place = (place ≡ at) ⊎ ((v : ℕ) × (bound_in c.pairs v ≡ Some place))

-- a bound variable's place shows what the variable stands for, and a variable there is older
pub record LeadsOn (c : Contents) (x : Cell) (next : Ref) : Type 0 where
  pub bound : (v : ℕ) × (bound_in c.pairs v ≡ Some next)
  pub within : next.at < length c.cells
  pub same : (names : List Name) → seen names c next.at ≡ seen_cell names c x
  pub falls : (y : Cell) → slice_get c.cells next.at ≡ Some y → rank y < rank x

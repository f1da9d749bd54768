-- Copies of terms with new variables: what is left to do, and what that tells.
use Rattle.std.specs.Prelude.{◌≡◌, ℕ, ◌+◌, ◌<◌, ◌≤◌, List, [], ◌∷◌, ◌++◌, reverse}
use Rattle.tp_terms.specs.declared.cells.Cell.{Cell}
use Rattle.tp_terms.specs.declared.cells.Cell.TheVariants as cell
use Rattle.tp_terms.specs.declared.cells.Ref.{Ref}
use Rattle.tp_terms.specs.Shown.{shows}
use Rattle.tp_terms.specs.Term.{Name, Term, Var, replaced, term_size}
use Rattle.tp_meaning.specs.Copy.{copy_of, place_in, variables_after}
use Rattle.tp_store.specs.Contents.{Contents, seen, seen_cell}
use Rattle.tp_store.specs.Copy.{Copied}
use Rattle.tp_store.specs.Work.{AreIn, places_size}

-- the new store has further cells and variable numbers
pub record AddsTerms (old new : Contents) : Type 0 where
  pub more : List Cell
  pub cells : new.cells ≡ old.cells ++ more
  pub pairs : new.pairs ≡ old.pairs
  pub vars : old.vars ≤ new.vars

-- A place shows a copy of the term that another one showed. Its variables have the next numbers, in
-- order of first occurrence, and these alone were claimed.
pub record IsCopy (names : List Name) (old new : Contents) (root at : Ref) : Type 0 where
  pub term : seen names new at.at ≡ (copy_of old.vars (seen names old root.at)).0
  pub vars : new.vars ≡ old.vars + (copy_of old.vars (seen names old root.at)).1

-- whatever the names are
abbrev pub Copies : Contents → Contents → Ref → Ref → Type 0
Copies old new root at = (names : List Name) → IsCopy names old new root at

-- ---- the variables in order

-- the variables of a list, and then those of the terms of places
abbrev pub variables_each : List Name → Contents → List ℕ → List Ref → List ℕ
variables_each names c vs [] = vs
variables_each names c vs (r ∷ rs) =
    variables_each names c (variables_after vs (seen names c r.at)) rs

-- the variables of what stands in a cell are further variables, and then those of further places
pub record Collects (c : Contents) (x : Cell) (old new : List ℕ)
    (before after : List Ref) : Type 0 where
  pub more : List Ref
  pub added : reverse after ≡ more ++ reverse before
  pub places : AreIn c.cells more
  pub smaller : places_size c more < term_size (seen_cell [] c x)
  pub same : (names : List Name) →
      variables_each names c new more ≡ variables_after old (seen_cell names c x)

-- ---- the copy

-- a variable of a list has the number of its place, counted on from the base
abbrev pub by_place : ℕ → List ℕ → ℕ → Term
by_place base vs v = Var (base + place_in vs v)

-- a cell, its variable numbered so
abbrev pub renamed_by : ℕ → List ℕ → Cell → Cell
renamed_by base vs (cell.Var v) = cell.Var (base + place_in vs v)
renamed_by base vs (cell.Int value) = cell.Int value
renamed_by base vs (cell.Atom name) = cell.Atom name
renamed_by base vs (cell.Comp name first count) = cell.Comp name first count

-- each place copied, its variables numbered so
abbrev pub renaming : Contents → ℕ → List ℕ → Copied
renaming c base vs names at = replaced (by_place base vs) (seen names c at)

-- a place shows the term that another one showed, its variables numbered so
abbrev pub ShowsRenamed : Contents → ℕ → List ℕ → Ref → List Cell → Ref → Type 0
ShowsRenamed old base vs root cells at =
    (names : List Name) → shows names cells at.at ≡ renaming old base vs names root.at

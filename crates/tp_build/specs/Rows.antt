-- Arguments that stand side by side.
use Rattle.std.specs.Prelude.{◌≡◌, ℕ, Result, Ok, Err}
use Rattle.tp_terms.specs.declared.cells.AtomId.{AtomId}
use Rattle.tp_terms.specs.declared.cells.Ref.{Ref}
use Rattle.tp_terms.specs.declared.cells.Cell.{Cell}
use Rattle.tp_terms.specs.declared.cells.Cell.TheVariants as cell
use Rattle.tp_build.specs.declared.checks.Row.{Row}
use Rattle.tp_build.specs.declared.errors.WantedType.TheVariants as type
use Rattle.tp_build.specs.declared.errors.Fault.{Fault}
use Rattle.tp_build.specs.declared.errors.Fault.TheVariants as fault

-- a cell that is no compound
abbrev pub IsSimple : Cell → Type 0
IsSimple c = (name : AtomId) (first : Ref) (count : ℕ) → c ≡ cell.Comp name first count → ⊥

-- the places of a compound's arguments, or why there are none
abbrev pub IsRow : Cell → Result Row Fault → Type 0
IsRow c (Ok r) = (name : AtomId) × (c ≡ cell.Comp name r.first r.count)
IsRow c (Err f) = (f ≡ fault.Type type.Compound c) × IsSimple c

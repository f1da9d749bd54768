-- Checks of names and of numbers of arguments, and the lengths and characters of names.
use Rattle.std.specs.Prelude.{◌≡◌, ℕ, ◌<◌, length, Result, Ok, Err}
use Rattle.tp_terms.specs.declared.cells.AtomId.{AtomId}
use Rattle.tp_terms.specs.declared.cells.Cell.{Cell}
use Rattle.tp_terms.specs.declared.cells.Cell.TheVariants as cell
use Rattle.tp_terms.specs.Term.{Term, nat}
use Rattle.tp_terms.specs.Shown.{name_at}
use Rattle.tp_meaning.specs.Subst.{Subst}
use Rattle.tp_meaning.specs.Checks.{Checked, ◌>>=◌, ◌>>◌, integer, natural, arity_fits}
use Rattle.tp_meaning.specs.Heap.{Heap, seen}
use Rattle.tp_meaning.specs.Answers.{unifies, atom_length}
use Rattle.tp_build.specs.declared.errors.WantedType.TheVariants as type
use Rattle.tp_build.specs.declared.errors.Fault.{Fault}
use Rattle.tp_build.specs.declared.errors.Fault.TheVariants as fault
use Rattle.tp_build.specs.Errors.{IsFault}

-- the value of an integer that isn't negative
abbrev pub natural_in : Term → Checked ℕ
natural_in t = do
  z ← integer t
  natural z

-- a number of arguments, where a compound may have so many
abbrev pub fitting_arity : ℕ → Checked ℕ
fitting_arity n = do
  arity_fits n
  Ok n

-- a cell that is no atom
abbrev pub IsUnnamed : Cell → Type 0
IsUnnamed c = (name : AtomId) → c ≡ cell.Atom name → ⊥

-- the place of an atom's name, or why there is none
abbrev pub IsNameOf : Cell → Result AtomId Fault → Type 0
IsNameOf c (Ok name) = c ≡ cell.Atom name
IsNameOf c (Err f) = (f ≡ fault.Type type.Atom c) × IsUnnamed c

-- the atom whose length is asked for, or the goal's error
abbrev pub Measures : Heap → ℕ → ℕ → Result AtomId Fault → Type 0
Measures h a n (Ok name) =
    (name.at < length h.names)
    × ((s : Subst) (next : ℕ) → atom_length s next (seen h a) (seen h n)
    ≡ Ok (unifies s next (seen h n) (nat (length (name_at h.names name.at)))))
Measures h a n (Err f) =
    (s : Subst) (next : ℕ) → IsFault h (atom_length s next (seen h a) (seen h n)) f

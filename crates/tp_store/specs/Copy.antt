-- Copies of terms: what is left to do, and what that makes.
use Rattle.std.specs.Prelude.{◌≡◌, ℕ, zero, suc, ◌+◌, ◌<◌, ◌≤◌, true, List, [], ◌∷◌, ◌++◌, length}
use Rattle.std.specs.Prelude.{take, drop}
use Rattle.tp_terms.specs.declared.cells.Cell.{Cell}
use Rattle.tp_terms.specs.declared.cells.Cell.TheVariants as cell
use Rattle.tp_terms.specs.declared.cells.Ref.{Ref}
use Rattle.tp_terms.specs.Term.{Name, Term, Terms, Var, Int, Atom, Comp, NoMore, More, occurs}
use Rattle.tp_terms.specs.Term.{term_size, terms_of}
use Rattle.tp_terms.specs.Shown.{name_at, shows, AreNamed, IsNamed, StandsBefore}
use Rattle.tp_meaning.specs.Clauses.{renamed}
use Rattle.tp_meaning.specs.Valid.{Below}
use Rattle.tp_store.specs.declared.copy.Task.{Task}
use Rattle.tp_store.specs.declared.copy.Task.TheVariants.{Copy, Build}
use Rattle.tp_store.specs.Contents.{IsNumbered}

-- each variable of the term has a number that was claimed, once it is numbered on from the base
abbrev pub IsClaimed : List Cell → ℕ → ℕ → ℕ → Type 0
IsClaimed from at base vars = (v : ℕ) → occurs v (shows [] from at) ≡ true → v + base < vars

-- a place shows the term of another one, its variables numbered on from the base
abbrev pub ShowsCopy : List Cell → Ref → ℕ → List Cell → Ref → Type 0
ShowsCopy from root base cells at =
    (names : List Name) → shows names cells at.at ≡ renamed base (shows names from root.at)

-- a table of names that has every atom of both has every atom of the new cells
abbrev pub NamesBoth : List Cell → List Cell → List Cell → Type 0
NamesBoth from old new = (n : ℕ) → AreNamed n from → AreNamed n old → AreNamed n new

-- The last cell is a term's own, and no more cells were added than the term has variables,
-- integers, atoms and compounds.
pub record IsLast (old new : List Cell) (t : Term) (at : ℕ) : Type 0 where
  pub last : at + 1 ≡ length new
  pub few : length new ≤ length old + term_size t

-- ---- what places are copied as

-- the term that each place is copied as, under a table of names
abbrev pub Copied : Type 0
Copied = List Name → ℕ → Term

-- the copies of so many adjacent places
abbrev pub args_as : Copied → List Name → ℕ → ℕ → Terms
args_as t names first zero = NoMore
args_as t names first (suc n) = More (t names first) (args_as t names (suc first) n)

-- the copy that a cell stands for, the arguments of a compound being places that are to be copied
abbrev pub copied_from : Copied → List Name → Cell → Term
copied_from t names (cell.Var v) = Var v
copied_from t names (cell.Int value) = Int value
copied_from t names (cell.Atom name) = Atom (name_at names name.at)
copied_from t names (cell.Comp name first count) =
    Comp (name_at names name.at) (args_as t names first.at count)

-- a place of some cells is copied as this cell, whose arguments are places of these cells
pub record IsCopiedAs (from : List Cell) (t : Copied) (at : ℕ) (x : Cell) : Type 0 where
  pub same : (names : List Name) → t names at ≡ copied_from t names x
  pub within : StandsBefore (length from) x
  pub named : (n : ℕ) → AreNamed n from → IsNamed n x

-- a cell, its variable numbered on from the base
abbrev pub numbered_on : ℕ → Cell → Cell
numbered_on base (cell.Var v) = cell.Var (v + base)
numbered_on base (cell.Int value) = cell.Int value
numbered_on base (cell.Atom name) = cell.Atom name
numbered_on base (cell.Comp name first count) = cell.Comp name first count

-- each place of these cells copied, its variables numbered on from the base
abbrev pub on_from : List Cell → ℕ → Copied
on_from from base names at = renamed base (shows names from at)

-- ---- tasks

-- copies of so many adjacent places, the last one first
abbrev pub copies : ℕ → ℕ → List Task
copies first zero = []
copies first (suc n) = Copy (record { at = first + n }) ∷ copies first n

-- What tasks make behind the terms that are made already, the newest of both first. A compound
-- takes its arguments from the newest terms, the first argument being the newest.
abbrev pub made_by : Copied → List Name → List Task → List Term → List Term
made_by t names [] ts = ts
made_by t names (Copy at ∷ tasks) ts = made_by t names tasks (t names at.at ∷ ts)
made_by t names (Build name count ∷ tasks) ts = made_by t names tasks
    (Comp (name_at names name.at) (terms_of (take count ts)) ∷ drop count ts)

-- the tasks can be done with so many terms made, and one term is left
abbrev pub AreTasks : List Cell → Copied → ℕ → List Task → ℕ → Type 0
AreTasks from t vars [] made = made ≡ 1
AreTasks from t vars (Copy at ∷ tasks) made = (at.at < length from) ×
    Below vars (t [] at.at) × AreTasks from t vars tasks (suc made)
AreTasks from t vars (Build name count ∷ tasks) made =
    (0 < count) × ((rest : ℕ) × (made ≡ count + rest) × AreTasks from t vars tasks (suc rest))

-- cells that can stand behind so many cells
abbrev pub AreReady : ℕ → ℕ → List Cell → Type 0
AreReady n vars [] = Unit {0}
AreReady n vars (x ∷ xs) = StandsBefore n x × IsNumbered vars x × AreReady n vars xs

-- the tasks and the cells that are made once the cell was looked at that a place is copied as
abbrev pub looked_at : Cell → List Task → List Cell → List Task × List Cell
looked_at (cell.Var v) tasks made = (tasks, cell.Var v ∷ made)
looked_at (cell.Int value) tasks made = (tasks, cell.Int value ∷ made)
looked_at (cell.Atom name) tasks made = (tasks, cell.Atom name ∷ made)
looked_at (cell.Comp name first count) tasks made =
    (copies first.at count ++ Build name count ∷ tasks, made)

-- What a base keeps, and the clauses that it stands for.
use Rattle.std.specs.Prelude.{◌≡◌, ℕ, suc, Bool, false, nat_eq, ◌&&◌, List, [], ◌∷◌, map, length}
use Rattle.std.specs.Prelude.{Option, Some, option_map, slice_get, if◌then◌else◌, ◌<◌, All, IfSome}
use Rattle.std.specs.Prelude.{true}
use Rattle.tp_terms.specs.declared.cells.Cell.{Cell}
use Rattle.tp_terms.specs.declared.cells.Cell.TheVariants as cell
use Rattle.tp_terms.specs.declared.cells.Ref.{Ref}
use Rattle.tp_terms.specs.declared.cells.AtomId.{AtomId}
use Rattle.tp_terms.specs.Term.{Name, Term, Terms, Atom, Comp, NoMore, occurs}
use Rattle.tp_terms.specs.Names.{IsTable}
use Rattle.tp_terms.specs.Shown.{shows, AreBuilt, AreNamed}
use Rattle.tp_parse.specs.Ops.{Entries}
use Rattle.tp_meaning.specs.Clauses.{Clause, Base}
use Rattle.tp_clauses.specs.declared.base.ClauseView.{ClauseView}
use Rattle.tp_clauses.specs.declared.base.ClauseId.{ClauseId}

-- the cells of all clauses, the clauses in text order, and the last table of operators
pub record Contents : Type 0 where
  pub cells : List Cell
  pub clauses : List ClauseView
  pub ops : Entries

-- the name and the arguments of a head
abbrev pub head_name : Term → Name
head_name (Atom a) = a
head_name (Comp f ts) = f
head_name t = []

abbrev pub head_args : Term → Terms
head_args (Comp f ts) = ts
head_args t = NoMore

-- a clause by its head's term
abbrev pub clause_by : Term → Option Term → ℕ → Clause
clause_by head body vars =
    record { name = head_name head; args = head_args head; body = body; vars = vars }

-- the clause that a view shows
abbrev pub clause_of : List Name → List Cell → ClauseView → Clause
clause_of names cells v =
    clause_by (shows names cells v.head.at)
    (option_map (λ place. shows names cells place.at) v.body) v.vars

-- the clauses in text order
abbrev pub base_of : List Name → Contents → Base
base_of names c = map (clause_of names c.cells) c.clauses

-- the name's place and the number of arguments of a cell are these
abbrev pub is_of_by : AtomId → ℕ → Option Cell → Bool
is_of_by name arity (Some (cell.Atom a)) = nat_eq name.at a.at && nat_eq arity 0
is_of_by name arity (Some (cell.Comp f first count)) = nat_eq name.at f.at && nat_eq arity count
is_of_by name arity c = false

abbrev pub is_of : AtomId → ℕ → List Cell → ClauseView → Bool
is_of name arity cells v = is_of_by name arity (slice_get cells v.head.at)

-- the places of the clauses of a name and a number of arguments, from a place on
abbrev pub places_from : AtomId → ℕ → List Cell → ℕ → List ClauseView → List ClauseId
places_from name arity cells at [] = []
places_from name arity cells at (v ∷ vs) =
    if is_of name arity cells v then record { at = at } ∷ places_from name arity cells (suc at) vs
    else places_from name arity cells (suc at) vs

abbrev pub places_of : AtomId → ℕ → Contents → List ClauseId
places_of name arity c = places_from name arity c.cells 0 c.clauses

-- a head that is an atom or a compound
abbrev pub IsHead : Option Cell → Type 0
IsHead (Some (cell.Atom a)) = Unit {0}
IsHead (Some (cell.Comp f first count)) = Unit {0}
IsHead c = ⊥

-- every variable of the term of a place is below a number
abbrev pub AreBelow : List Cell → ℕ → Ref → Type 0
AreBelow cells vars place = (v : ℕ) → occurs v (shows [] cells place.at) ≡ true → v < vars

-- a clause's parts are places of the cells, its head names a predicate, and its variables are below
-- their number
pub record ViewFits (cells : List Cell) (v : ClauseView) : Type 0 where
  pub head : v.head.at < length cells
  pub named : IsHead (slice_get cells v.head.at)
  pub below : AreBelow cells v.vars v.head
  pub body : IfSome v.body (λ place. (place.at < length cells) × AreBelow cells v.vars place)

-- the arguments of every cell stand before it, and every clause fits
pub record IsBase (c : Contents) : Type 0 where
  pub built : AreBuilt c.cells
  pub clauses : All (ViewFits c.cells) c.clauses

-- the clauses at some places, none where no clause is there
abbrev pub clauses_at : List Name → Contents → List ClauseId → List (Option Clause)
clauses_at names c = map (λ id. option_map (clause_of names c.cells) (slice_get c.clauses id.at))

-- a table of names that has every atom of the cells
pub record HasNames (names : List Name) (cells : List Cell) : Type 0 where
  pub table : IsTable names
  pub named : AreNamed (length names) cells

-- there is one that has the atoms of these and of further cells
pub record AreNameable (first cells : List Cell) : Type 0 where
  pub names : List Name
  pub has : HasNames names cells
  pub known : AreNamed (length names) first

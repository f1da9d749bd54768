-- What is printed of an answer whose terms stand in cells, under bindings.
use Rattle.std.specs.Prelude.{ℕ, ◌<◌, List, length, map, Option, Some, None, ℤ}
use Rattle.std.specs.List.{AllByRecursion}
use Rattle.tp_terms.specs.declared.cells.AtomId.{AtomId}
use Rattle.tp_terms.specs.declared.cells.Cell.{Cell}
use Rattle.tp_terms.specs.declared.cells.Ref.{Ref}
use Rattle.tp_terms.specs.declared.text.Named.{Named}
use Rattle.tp_terms.specs.declared.world.Event.{Event}
use Rattle.tp_terms.specs.declared.world.EventKind.{EventKind}
use Rattle.tp_terms.specs.declared.world.EventKind.TheVariants as kind
use Rattle.tp_terms.specs.Term.{Name, Term, Var}
use Rattle.tp_terms.specs.Shown.{name_at, AreNamed}
use Rattle.tp_terms.specs.Binds.{Bindings, bound_in, Fits}
use Rattle.tp_terms.specs.Events.{KindStands, EventStands}
use Rattle.tp_meaning.specs.World as world
use Rattle.tp_parse.specs.Table.{Table}
use Rattle.tp_parse.specs.Ops.{Entries, table_of}
use Rattle.tp_write.specs.Under.{under}
use Rattle.tp_report.specs.Report.{Answer}
use Rattle.tp_report.specs.declared.scene.Scene.{Scene}

-- What a scene sees: the names, by their numbers; the bindings; the cells; the atoms that name the
-- processes, by the numbers of the processes; and the operators.
pub record Seen : Type 0 where
  pub names : List Name
  pub bindings : Bindings
  pub cells : List Cell
  pub processes : List AtomId
  pub ops : Table

-- names, bindings, cells, processes and operators, seen together
abbrev pub seen_in : List Name → Bindings → List Cell → List AtomId → Entries → Seen
seen_in names bindings cells processes ops = record {
  names = names;
  bindings = bindings;
  cells = cells;
  processes = processes;
  ops = table_of ops;
}

-- ---- what is there

-- The atoms of the cells and those of the processes are names that are there, and the bindings fit
-- the cells.
pub record Stands (s : Seen) : Type 0 where
  pub named_cells : AreNamed (length s.names) s.cells
  pub named_processes : AllByRecursion (λ a. a.at < length s.names) s.processes
  pub fits : Fits s.bindings s.cells

-- what a kind of event speaks of is there
abbrev pub HasKind : Seen → EventKind → Type 0
HasKind s = KindStands (length s.names) (length s.cells) (length s.processes)

-- what an event speaks of is there
abbrev pub HasEvent : Seen → Event → Type 0
HasEvent s = EventStands (length s.names) (length s.cells) (length s.processes)

-- ---- terms and names

-- the term of a place, with all bindings followed
abbrev pub term_seen : Seen → ℕ → Term
term_seen s = under s.names s.bindings s.cells

-- a variable's term: itself where it is unbound, and else the term of the place it is bound to
abbrev pub value_by : (ℕ → Term) → ℕ → Option Ref → Term
value_by seen v None = Var v
value_by seen v (Some place) = seen place.at

-- the term of a variable
abbrev pub value_seen : Seen → ℕ → Term
value_seen s v = value_by (term_seen s) v (bound_in s.bindings v)

-- a named variable of the goal with its term
abbrev pub variable_seen : Seen → Named → Name × Term
variable_seen s n = (n.name, value_seen s n.number)

-- the names of processes, each by its place in the table of names
abbrev pub process_names : List Name → List AtomId → List Name
process_names names = map (λ a. name_at names a.at)

-- the names of the processes
abbrev pub processes_seen : Seen → List Name
processes_seen s = process_names s.names s.processes

-- ---- events

-- a kind of event, by the names of atoms and the terms of places
abbrev pub kind_by : List Name → (ℕ → Term) → EventKind → world.EventKind
kind_by names seen (kind.New name start end) = world.New (name_at names name.at) start end
kind_by names seen kind.Start = world.Start
kind_by names seen (kind.Hold duration) = world.Hold duration
kind_by names seen (kind.Send message to) = world.Send (seen message.at) to
kind_by names seen (kind.Take message) = world.Take (seen message.at)
kind_by names seen (kind.Note term) = world.Note (seen term.at)
kind_by names seen kind.End = world.End

-- an event, by the names of atoms and the terms of places
abbrev pub event_by : List Name → (ℕ → Term) → Event → world.Event
event_by names seen e = record {
  time = e.time;
  process = e.pid;
  kind = kind_by names seen e.kind;
}

-- ---- answers

-- what is printed of an answer
abbrev pub answer_seen : Seen → ℕ → List Named → List Event → ℤ → ℕ → Answer
answer_seen s number named events clock steps = record {
  number = number;
  named = map (variable_seen s) named;
  names = processes_seen s;
  events = map (event_by s.names (term_seen s)) events;
  clock = clock;
  steps = steps;
}

-- ---- scenes

-- what a scene sees, where the bindings of what it has for them are these
abbrev pub seen_by : {B : Type 0} → (B → Bindings) → Scene B → Seen
seen_by bindings scene =
    seen_in scene.atoms.now (bindings scene.binds.now) scene.cells.now.items scene.processes.now
    scene.ops.now

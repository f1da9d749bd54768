-- What a machine meets before a step.
use Rattle.std.specs.Prelude.{◌≡◌, ℕ, true, false, ◌+◌, ◌<◌, ◌≤◌, ◌^◌, ◌-◌, List, ◌∷◌, length, map}
use Rattle.std.specs.Prelude.{drop, position, Option, Some, None, IfSome, Err}
use Rattle.std.specs.List.{list_any, position_from}
use Rattle.tp_terms.specs.declared.world.ItemId.{ItemId}
use Rattle.tp_terms.specs.declared.world.Slot.{Slot}
use Rattle.tp_terms.specs.declared.cells.Ref.{Ref}
use Rattle.tp_terms.specs.Term.{Name, Term, Terms, Var, Int, term_of}
use Rattle.tp_terms.specs.Shown.{name_at}
use Rattle.tp_meaning.specs.declared.goals.GoalKind.{GoalKind}
use Rattle.tp_meaning.specs.Goals.{goal_kind}
use Rattle.tp_meaning.specs.Turn.{Turn}
use Rattle.tp_meaning.specs.Clauses.{Base, Clause, predicate}
use Rattle.tp_meaning.specs.Step.{goal_step}
use Rattle.tp_meaning.specs.Checks.{Checked}
use Rattle.tp_store.specs.Contents.{Contents, seen, args_seen}
use Rattle.tp_control.specs.declared.frames.Item.{Item}
use Rattle.tp_control.specs.declared.frames.Item.TheVariants.{Goal}
use Rattle.tp_machine.specs.declared.machine.Machine.{Machine}
use Rattle.tp_machine.specs.declared.task.Task.{Task}
use Rattle.tp_machine.specs.declared.task.Call.{Call}
use Rattle.tp_machine.specs.declared.task.Met.{Met}
use Rattle.tp_machine.specs.declared.task.Met.TheVariants as met
use Rattle.tp_machine.specs.declared.errors.Cause.{Cause}
use Rattle.tp_procs.specs.Processes.{is_marked}
use Rattle.tp_state.specs.Acts.{is_late}
use Rattle.tp_control.specs.Lists.{items_at}
use Rattle.tp_state.specs.State.{plain_of}
use Rattle.tp_state.specs.Plain.{item_of}
use Rattle.tp_state.specs.Stands.{ItemStands}
use Rattle.tp_machine.specs.Causes.{CauseStands, HasCulprit, kind_seen}
use Rattle.tp_machine.specs.Heads.{hits}
use Rattle.tp_machine.specs.Machine.{IsMachine, IsStanding, base_in, items_in, world_in}

-- ---- where no process runs

-- a machine in which no process runs, and that may make a step more
pub record IsIdle (m : Machine) : Type 0 where
  pub machine : IsMachine m
  pub idle : m.state.running ≡ None
  pub few : m.stamp < 2 ^ 64 - 1

-- and no process is marked
pub record IsUnmarked (m : Machine) : Type 0 where
  pub idle : IsIdle m
  pub none : position is_marked m.state.procs ≡ None

-- and the calendar has a first entry, at whose time no process is late
pub record TakesEntry (m : Machine) : Type 0 where
  pub unmarked : IsUnmarked m
  pub entry : Slot
  pub more : List Slot
  pub slots : m.state.calendar.slots ≡ entry ∷ more
  pub timely : list_any (is_late entry.time) m.state.procs ≡ false

-- ---- where one runs

-- a machine whose running process has this number, and that may make a step more
pub record Runs (m : Machine) (process : ℕ) : Type 0 where
  pub machine : IsMachine m
  pub running : m.state.running ≡ Some process
  pub few : m.stamp < 2 ^ 64 - 1

-- the running process's first item is this one
pub record HasFirst (m : Machine) (process : ℕ) (item : Item)
    (behind : Option ItemId) : Type 0 where
  pub standing : IsStanding m
  pub running : m.state.running ≡ Some process
  pub few : m.stamp < 2 ^ 64 - 1
  pub list : items_in (plain_of m.state) ≡ item ∷ items_at m.state.frames behind
  pub stands : ItemStands (length m.state.store.cells) item
  pub rest : IfSome behind (λ i. i.at < length m.state.frames)

-- a goal
abbrev pub Meets : Machine → Task → Type 0
Meets m t = HasFirst m t.process (Goal t.goal t.barrier) t.rest

-- a place shows a goal with this name and these arguments
pub record IsCall (names : List Name) (c : Contents) (goal : Ref) (call : Call) : Type 0 where
  pub is : seen names c goal.at
      ≡ term_of (name_at names call.name.at) (args_seen names c call.first.at call.count)
  pub within : call.first.at + call.count ≤ length c.cells
  pub name : call.name.at < length names

-- what a place shows as a goal
abbrev pub IsMet : List Name → Contents → Ref → Met → Type 0
IsMet names c goal met.Unbound = (v : ℕ) × (seen names c goal.at ≡ Var v)
IsMet names c goal (met.Number value) = seen names c goal.at ≡ Int value
IsMet names c goal (met.Named call) = IsCall names c goal call

-- a goal with a name, of this kind
pub record Calls (m : Machine) (t : Task) (c : Call) (found : Option GoalKind) : Type 0 where
  pub meets : Meets m t
  pub call : IsCall m.atoms m.state.store t.goal c
  pub kind : goal_kind (name_at m.atoms c.name.at) c.count ≡ found

-- the clauses of a goal's name and number of arguments
abbrev pub clauses_of : Machine → Call → Base
clauses_of m c = predicate (base_in m) (name_at m.atoms c.name.at) c.count

-- the first of them, from a place on, whose head has a unifier with the goal
abbrev pub found_from : Machine → Task → Call → ℕ → Option ℕ
found_from m t c from =
    position_from (hits m.atoms m.state.store t.goal.at) from (drop from (clauses_of m c))

-- a goal whose clause at a place has a unifier with it
pub record Hits (m : Machine) (t : Task) (c : Call) (place : ℕ) : Type 0 where
  pub calls : Calls m t c None
  pub clause : Clause
  pub more : List Clause
  pub here : drop place (clauses_of m c) ≡ clause ∷ more
  pub hit : hits m.atoms m.state.store t.goal.at clause ≡ true

-- the running process at its goal
abbrev pub its_turn : Machine → Task → Turn
its_turn m t = record {
  world = world_in m;
  process = t.process;
  rest = map (item_of m.atoms m.state.store) (items_at m.state.frames t.rest);
}

-- the goal raises an error of this kind
abbrev pub GivesError : Machine → Task → Term → Type 0
GivesError m t kind =
    goal_step (base_in m) (its_turn m t) t.barrier (seen m.atoms m.state.store t.goal.at) ≡ Err kind

-- Why a goal raises an error. What the cause speaks of is there.
pub record IsCause (m : Machine) (t : Task) (why : Cause) : Type 0 where
  pub culprit : HasCulprit m.state.store.cells why
  pub stands : CauseStands m.atoms why
  pub gives : GivesError m t (kind_seen m.atoms m.state.store why)

-- checks end with the error of a cause, and what that speaks of is there
abbrev pub Fails : {A : Type 0} → Machine → Checked A → Cause → Type 0
Fails m checks why = HasCulprit m.state.store.cells why × CauseStands m.atoms why ×
    (checks ≡ Err (kind_seen m.atoms m.state.store why))

-- the running process stands at this goal
pub record HasCurrent (m : Machine) (t : Task) (c : Call) : Type 0 where
  pub running : m.state.running ≡ Some t.process
  pub list : items_in (plain_of m.state) ≡ Goal t.goal t.barrier ∷ items_at m.state.frames t.rest
  pub goal : t.goal.at < length m.state.store.cells
  pub rest : IfSome t.rest (λ i. i.at < length m.state.frames)
  pub call : IsCall m.atoms m.state.store t.goal c

-- The goal that the running process stands at, where it has a name; none where it stands at no goal
-- with a name.
abbrev pub IsCurrent : Machine → Option (Task × Call) → Type 0
IsCurrent m (Some at) = HasCurrent m at.0 at.1
IsCurrent m None =
    (g : Ref) (b : ℕ) (rest : List Item) (f : Name) (ts : Terms) →
    items_in (plain_of m.state) ≡ Goal g b ∷ rest →
    seen m.atoms m.state.store g.at ≡ term_of f ts → (p : ℕ) → m.state.running ≡ Some p → ⊥

-- The machine of the code: its world and choices, and what holds of them.
use Rattle.std.specs.Prelude.{◌≡◌, ℕ, Bool, true, false, ◌+◌, ◌<◌, ◌≤◌, ◌^◌, ◌-◌, List, [], ◌∷◌}
use Rattle.std.specs.Prelude.{◌++◌, map, reverse, drop, length, Option, Some, None, IsTrue, is_some}
use Rattle.tp_terms.specs.declared.cells.Ref.{Ref}
use Rattle.tp_terms.specs.Term.{Name, Term, Terms, term_of, count_of}
use Rattle.tp_terms.specs.Shown.{AreNamed}
use Rattle.tp_terms.specs.Names.{IsTable, Grows}
use Rattle.std.specs.List.{AllByRecursion}
use Rattle.tp_meaning.specs.World.{World, start}
use Rattle.tp_meaning.specs.Body.{body}
use Rattle.tp_meaning.specs.Goals.{goal_kind}
use Rattle.tp_meaning.specs.declared.goals.ControlGoal.{ControlGoal}
use Rattle.tp_meaning.specs.declared.goals.ControlGoal.TheVariants as control
use Rattle.tp_meaning.specs.declared.goals.GoalKind.TheVariants.{Control, Process}
use Rattle.tp_meaning.specs.declared.goals.ProcessGoal.TheVariants.{Wait, WaitFor}
use Rattle.tp_meaning.specs.Control.{arg}
use Rattle.tp_meaning.specs.Subst.{mgu}
use Rattle.tp_meaning.specs.Clauses.{Clause, Base, predicate}
use Rattle.tp_meaning.specs.Machine as machine
use Rattle.tp_meaning.specs.Machine.{IsChoice, stepped, rewound, resumed}
use Rattle.tp_meaning.specs.Step.{searched}
use Rattle.tp_meaning.specs.Machine.{HasStack}
use Rattle.tp_meaning.specs.Valid.{Valid}
use Rattle.tp_meaning.specs.Holds.{Holds, ChoiceHolds, Stands}
use Rattle.tp_mail.specs.Mail.{box_of}
use Rattle.tp_store.specs.Contents.{seen, subst_of}
use Rattle.tp_clauses.specs.Contents.{IsBase, base_of}
use Rattle.tp_control.specs.declared.frames.Item.{Item}
use Rattle.tp_control.specs.declared.frames.Item.TheVariants.{Goal, Retry}
use Rattle.tp_control.specs.declared.choices.Alt.{Alt}
use Rattle.tp_control.specs.declared.choices.Alt.TheVariants as alt
use Rattle.tp_control.specs.declared.choices.Choice.{Choice}
use Rattle.tp_machine.specs.declared.machine.Machine.{Machine}
use Rattle.tp_machine.specs.declared.stepped.Stepped.{Stepped}
use Rattle.tp_machine.specs.declared.stepped.Stepped.TheVariants as answer
use Rattle.tp_machine.specs.Program.{GoalFits, goal_term}
use Rattle.tp_control.specs.Lists.{items_at}
use Rattle.tp_machine.specs.Heads.{hits}
use Rattle.tp_state.specs.Plain.{Plain, world_of}
use Rattle.tp_state.specs.Stands.{PlainStands}
use Rattle.tp_state.specs.Going as going
use Rattle.tp_state.specs.Going.{Held, IsSafe, Within, Under}
use Rattle.tp_state.specs.State.{plain_of, held_of}
use Rattle.tp_machine.specs.Untried.{untried}

-- ---- the program

abbrev pub base_in : Machine → Base
base_in m = base_of m.atoms m.base.now

-- base and goal have their atoms in the machine's table
pub record IsProgram (m : Machine) : Type 0 where
  pub table : IsTable m.atoms
  pub base : IsBase m.base.now
  pub named : AreNamed (length m.atoms) m.base.now.cells
  pub goal : GoalFits m.atoms m.goal.now

-- no act changes base and goal, and names are only added
pub record SameProgram (old new : Machine) : Type 0 where
  pub base : new.base.now ≡ old.base.now
  pub goal : new.goal.now ≡ old.goal.now
  pub names : Grows old.atoms new.atoms

-- ---- worlds and choices

-- a choice's world and those that are left of it
abbrev pub open_at : Base → World → ℕ → Alt → machine.Choice World
open_at base w stamp next = record { stamp = stamp; world = w; untried = untried base w next }

-- a choice, whose world is that of the contents at its marks
abbrev pub choice_of : List Name → Base → Held → Choice → machine.Choice World
choice_of names base h c =
    open_at base (world_of names (going.rewound h c.marks) c.stamp) c.stamp c.next

-- the choices of a stack, the newest of which comes first
abbrev pub choices_of : List Name → Base → Held → List Choice → List (machine.Choice World)
choices_of names base h cs = map (choice_of names base h) (reverse cs)

-- after going back: the choice whose contents are those of the machine
abbrev pub waiting_of : Base → World → ℕ → Option Alt → List (machine.Choice World)
waiting_of base w stamp None = []
waiting_of base w stamp (Some next) = open_at base w stamp next ∷ []

abbrev pub world_in : Machine → World
world_in m = world_of m.atoms (plain_of m.state) m.stamp

-- the choices that stand open below the current world
abbrev pub choices_in : Machine → List (machine.Choice World)
choices_in m = choices_of m.atoms (base_in m) (held_of m.state) m.choices

abbrev pub open_in : Machine → List (machine.Choice World)
open_in m = waiting_of (base_in m) (world_in m) m.stamp m.waiting ++ choices_in m

abbrev pub state_in : Machine → machine.State World
state_in m = record { world = world_in m; choices = open_in m }

-- the answer of a step, an error by its term
abbrev pub answer_by : Machine → Stepped → machine.Stepped Term
answer_by m answer.Went = machine.Went
answer_by m answer.Success = machine.Success
answer_by m (answer.Dead cause) = machine.Dead cause
answer_by m (answer.Raised place) = machine.Raised (seen m.atoms m.state.store place.at)

-- ---- what is next in a choice

-- the items of the running process
abbrev pub items_in : Plain → List Item
items_in p = items_at p.frames p.items

-- the running process stands at a goal that clauses define, the one at a place having a unifier
-- with it
pub record IsHit (names : List Name) (base : Base) (p : Plain) (place : ℕ) : Type 0 where
  pub process : ℕ
  pub running : p.running ≡ Some process
  pub goal : Ref
  pub barrier : ℕ
  pub rest : List Item
  pub list : items_in p ≡ Goal goal barrier ∷ rest
  pub name : Name
  pub args : Terms
  pub is : seen names p.store goal.at ≡ term_of name args
  pub kind : goal_kind name (count_of args) ≡ None
  pub clause : Clause
  pub more : List Clause
  pub here : drop place (predicate base name (count_of args)) ≡ clause ∷ more
  pub hit : hits names p.store goal.at clause ≡ true
  pub few : place < 2 ^ 63

-- the running process stands at another try
pub record IsAgain (p : Plain) : Type 0 where
  pub process : ℕ
  pub running : p.running ≡ Some process
  pub goal : Ref
  pub rest : List Item
  pub list : items_in p ≡ Retry goal ∷ rest

-- control goals that give two worlds
abbrev pub has_second : ControlGoal → Bool
has_second control.Disjunction = true
has_second control.NotProvable = true
has_second control.Repeat = true
has_second control.Between = true
has_second goal = false

-- the running process stands at one of these
pub record IsChoosing (names : List Name) (p : Plain) : Type 0 where
  pub process : ℕ
  pub running : p.running ≡ Some process
  pub goal : Ref
  pub barrier : ℕ
  pub rest : List Item
  pub list : items_in p ≡ Goal goal barrier ∷ rest
  pub name : Name
  pub args : Terms
  pub is : seen names p.store goal.at ≡ term_of name args
  pub control : ControlGoal
  pub kind : goal_kind name (count_of args) ≡ Some (Control control)
  pub two : has_second control ≡ true

-- the running process stands at a `wait`
pub record IsWaiting (names : List Name) (p : Plain) : Type 0 where
  pub process : ℕ
  pub running : p.running ≡ Some process
  pub goal : Ref
  pub barrier : ℕ
  pub rest : List Item
  pub list : items_in p ≡ Goal goal barrier ∷ rest
  pub name : Name
  pub args : Terms
  pub is : seen names p.store goal.at ≡ term_of name args
  pub kind : goal_kind name (count_of args) ≡ Some (Process Wait)

-- the running process stands where the second of two worlds is next
pub data IsSecond (names : List Name) (p : Plain) : Type 0 where
  again : IsAgain p → IsSecond names p
  choosing : IsChoosing names p → IsSecond names p
  waiting : IsWaiting names p → IsSecond names p

-- the running process stands at a `wait_for`, and the message at a place of its box has a unifier
-- with the argument
pub record IsMail (names : List Name) (p : Plain) (place : ℕ) : Type 0 where
  pub process : ℕ
  pub running : p.running ≡ Some process
  pub goal : Ref
  pub barrier : ℕ
  pub rest : List Item
  pub list : items_in p ≡ Goal goal barrier ∷ rest
  pub name : Name
  pub args : Terms
  pub is : seen names p.store goal.at ≡ term_of name args
  pub kind : goal_kind name (count_of args) ≡ Some (Process WaitFor)
  pub message : Ref
  pub more : List Ref
  pub here : drop place (box_of p.boxes process) ≡ message ∷ more
  pub fits : is_some (mgu (subst_of names p.store) (seen names p.store message.at) (arg 0 args))
      ≡ true
  pub few : place < 2 ^ 64 - 1

-- what is next can be gone on with
abbrev pub GoesOn : List Name → Base → Plain → Alt → Type 0
GoesOn names base p (alt.Clause place) = IsHit names base p place
GoesOn names base p alt.Second = IsSecond names p
GoesOn names base p (alt.Message place) = IsMail names p place

-- A choice whose marks can be gone back to, and whose next world can be gone on with there.
pub record ChoiceFits (names : List Name) (base : Base) (h : Held) (c : Choice) : Type 0 where
  pub within : Within c.marks h
  pub stands : PlainStands names (going.rewound h c.marks)
  pub next : GoesOn names base (going.rewound h c.marks) c.next

-- no marks were made later than those of newer choices
abbrev pub MarksRise : List Choice → Type 0
MarksRise [] = Unit {0}
MarksRise (c ∷ cs) = AllByRecursion (λ (d : Choice). Under d.marks c.marks) cs × MarksRise cs

-- the stack of choices fits what is held
pub record ChoicesFit (names : List Name) (base : Base) (h : Held) (cs : List Choice) : Type 0 where
  pub fits : AllByRecursion (ChoiceFits names base h) cs
  pub rise : MarksRise cs

-- ---- the machine

-- a machine that may make a step
pub record IsMachine (m : Machine) : Type 0 where
  pub going : m.waiting ≡ None
  pub program : IsProgram m
  pub stands : PlainStands m.atoms (plain_of m.state)
  pub safe : IsSafe (held_of m.state)
  pub choices : ChoicesFit m.atoms (base_in m) (held_of m.state) m.choices
  pub worlds : Holds (Stands m.goal.now.vars) (state_in m)
  pub stack : HasStack (searched (base_in m)) (state_in m)

-- what holds of it whatever its choices are
pub record IsStanding (m : Machine) : Type 0 where
  pub program : IsProgram m
  pub stands : PlainStands m.atoms (plain_of m.state)
  pub valid : Valid (world_in m)

-- a machine that went back to its newest choice; without that one it might make a step
pub record IsBack (m : Machine) : Type 0 where
  pub next : Alt
  pub waits : m.waiting ≡ Some next
  pub machine : IsMachine (record m { waiting = None })
  pub goes_on : GoesOn m.atoms (base_in m) (plain_of m.state) next
  pub open_ : IsChoice (searched (base_in m)) (m.stamp + 1)
      (open_at (base_in m) (world_in m) m.stamp next)
  pub worlds : ChoiceHolds (Stands m.goal.now.vars) (open_at (base_in m) (world_in m) m.stamp next)

-- a machine at the start of the goal, which has a body
pub record IsBegun (m : Machine) : Type 0 where
  pub machine : IsMachine m
  pub world : world_in m ≡ start (goal_term m.atoms m.goal.now) m.goal.now.vars
  pub choices : m.choices ≡ []
  pub stamp : m.stamp ≡ 0
  pub body : IsTrue (is_some (body (goal_term m.atoms m.goal.now)))

-- the place of an error is one of the cells
abbrev pub ErrorStands : Machine → Stepped → Type 0
ErrorStands m answer.Went = Unit {0}
ErrorStands m answer.Success = Unit {0}
ErrorStands m (answer.Dead cause) = Unit {0}
ErrorStands m (answer.Raised place) = place.at < length m.state.store.cells

-- a step was made
pub record Steps (old new : Machine) (r : Stepped) : Type 0 where
  pub machine : IsMachine new
  pub same : SameProgram old new
  pub meaning : base_in new ≡ base_in old
  pub step : (answer_by new r, state_in new) ≡ stepped (searched (base_in old)) (state_in old)
  pub bound : new.stamp ≤ old.stamp + 1
  pub place : ErrorStands new r

-- nothing but the log was changed, and the machine stands where it stood
pub record Forgets (old new : Machine) : Type 0 where
  pub is : new ≡ record old { state = new.state }
  pub plain : plain_of new.state ≡ plain_of old.state
  pub state : state_in new ≡ state_in old
  pub machine : IsMachine new

-- after going back to a choice, and where there was none
abbrev pub RewindsTo : Machine → Bool → Machine → Type 0
RewindsTo old true new = IsBack new × (new.stamp < old.stamp)
RewindsTo old false new = IsMachine new × (new.stamp ≡ old.stamp)

-- it went back, where there was a choice
pub record Rewinds (old : Machine) (found : Bool) (new : Machine) : Type 0 where
  pub back : (found, state_in new) ≡ rewound (state_in old)
  pub same : SameProgram old new
  pub meaning : base_in new ≡ base_in old
  pub machine : RewindsTo old found new

-- it goes on with the first untried world of the choice that it went back to
pub record Resumes (old new : Machine) : Type 0 where
  pub machine : IsMachine new
  pub same : SameProgram old new
  pub meaning : base_in new ≡ base_in old
  pub resumed : state_in new ≡ resumed (state_in old)
  pub bound : new.stamp ≡ old.stamp + 1

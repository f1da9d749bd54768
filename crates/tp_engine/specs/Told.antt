-- What contracts see of an engine.
use Rattle.std.specs.Prelude.{◌≡◌, ℕ, ◌+◌, ◌-◌, ◌<◌, ◌^◌, IsTrue, List, [], length, All}
use Rattle.std.specs.List.{AllByRecursion}
use Rattle.tp_terms.specs.declared.cells.Ref.{Ref}
use Rattle.tp_terms.specs.declared.text.Named.{Named}
use Rattle.tp_terms.specs.Term.{Name, Term}
use Rattle.tp_terms.specs.Shown.{AreNamed}
use Rattle.tp_terms.specs.Names.{IsTable, Grows}
use Rattle.tp_terms.specs.Binds.{Fits}
use Rattle.tp_meaning.specs.World.{World, start}
use Rattle.tp_meaning.specs.Clauses.{Base}
use Rattle.tp_meaning.specs.Machine as machine
use Rattle.tp_meaning.specs.Machine.{IsStack}
use Rattle.tp_meaning.specs.Step.{searched}
use Rattle.tp_store.specs.Contents.{IsStore, seen}
use Rattle.tp_parse.specs.declared.read.ReadTerm.{ReadTerm}
use Rattle.tp_parse.specs.Ops.{Entries}
use Rattle.tp_clauses.specs.Contents as kept
use Rattle.tp_machine.specs.declared.machine.Machine.{Machine}
use Rattle.tp_engine.specs.declared.phase.Phase.{Phase}
use Rattle.tp_engine.specs.declared.phase.Phase.TheVariants as phase
use Rattle.tp_machine.specs.declared.stepped.Stepped.{Stepped}
use Rattle.tp_machine.specs.declared.stepped.Stepped.TheVariants as answer
use Rattle.tp_state.specs.Plain.{Plain, world_of}
use Rattle.tp_machine.specs.Program.{goal_term}
use Rattle.tp_terms.specs.Events.{EventStands}
use Rattle.tp_state.specs.State.{plain_of}
use Rattle.tp_machine.specs.Machine.{base_in, open_in}

-- an engine's own state: the table of names, the plain contents and the stamp of its world, how
-- many steps were answers, how many were made, the named variables of its goal, and the operators
-- of its model
pub record Snapshot : Type 0 where
  pub names : List Name
  pub plain : Plain
  pub stamp : ℕ
  pub number : ℕ
  pub steps : ℕ
  pub named : List Named
  pub ops : Entries

-- the world that it stands for
abbrev pub world_in : Snapshot → World
world_in s = world_of s.names s.plain s.stamp

-- the term of a place
abbrev pub seen_in : Snapshot → Ref → Term
seen_in s r = seen s.names s.plain.store r.at

-- What holds of an engine that met no want of memory: its store fits its cells, and all that it
-- speaks of is there.
pub record IsSound (s : Snapshot) : Type 0 where
  pub table : IsTable s.names
  pub store : IsStore s.plain.store
  pub fits : Fits s.plain.store.pairs s.plain.store.cells
  pub atoms : AreNamed (length s.names) s.plain.store.cells
  pub procs : AllByRecursion (λ q. q.name.at < length s.names) s.plain.procs
  pub events : AllByRecursion
      (EventStands (length s.names) (length s.plain.store.cells) (length s.plain.procs))
      s.plain.events
  pub named : All (λ n. n.number < s.plain.store.vars) s.named

-- an engine: its clauses, its state, the choices that stand open, the newest first, and which call
-- was the last
pub record Told : Type 0 where
  pub base : Base
  pub seen : Snapshot
  pub choices : List (machine.Choice World)
  pub phase : Phase

-- as the definitions of the machine see it
abbrev pub state_of : Told → machine.State World
state_of t = record { world = world_in t.seen; choices = t.choices }

-- what is seen of a machine, with the numbers of answers and of steps
abbrev pub seen_of : Machine → ℕ → ℕ → Snapshot
seen_of m number steps = record {
  names = m.atoms;
  plain = plain_of m.state;
  stamp = m.stamp;
  number = number;
  steps = steps;
  named = m.goal.now.named;
  ops = m.base.now.ops;
}

abbrev pub told_of : Phase → Machine → ℕ → ℕ → Told
told_of phase m number steps = record {
  base = base_in m;
  seen = seen_of m number steps;
  choices = open_in m;
  phase = phase;
}

-- ---- steps

-- the answer of a step, an error by its term
abbrev pub answer_of : Snapshot → Stepped → machine.Stepped Term
answer_of s answer.Went = machine.Went
answer_of s answer.Success = machine.Success
answer_of s (answer.Dead cause) = machine.Dead cause
answer_of s (answer.Raised place) = machine.Raised (seen_in s place)

-- the place of an error is one of the cells
abbrev pub PlaceStands : Snapshot → Stepped → Type 0
PlaceStands s (answer.Raised place) = place.at < length s.plain.store.cells
PlaceStands s _ = Unit {0}

-- how many answers there are after a step
abbrev pub number_after : Stepped → ℕ → ℕ
number_after answer.Success n = n + 1
number_after _ n = n

-- Each choice has untried worlds, which have the stamp after its own, and these stamps fall from
-- below this one.
abbrev pub IsStacked : Told → ℕ → Type 0
IsStacked t stamp = IsStack (searched t.base) stamp t.choices

-- No call changes base, named variables and operators, and names are only added.
pub record IsSame (old new : Told) : Type 0 where
  pub base : new.base ≡ old.base
  pub names : Grows old.seen.names new.seen.names
  pub named : new.seen.named ≡ old.seen.named
  pub ops : new.seen.ops ≡ old.seen.ops

-- the counts stay too
pub record IsUncounted (old new : Told) : Type 0 where
  pub same : IsSame old new
  pub number : new.seen.number ≡ old.seen.number
  pub steps : new.seen.steps ≡ old.seen.steps

-- one step more
pub record IsCounted (r : Stepped) (old new : Told) : Type 0 where
  pub same : IsSame old new
  pub number : new.seen.number ≡ number_after r old.seen.number
  pub steps : new.seen.steps ≡ old.seen.steps + 1

-- an engine at the start of a goal over a base
pub record IsStarted
    (table : List Name) (clauses : kept.Contents) (goal : ReadTerm) (t : Told) : Type 0 where
  pub base : t.base ≡ kept.base_of table clauses
  pub names : t.seen.names ≡ table
  pub named : t.seen.named ≡ goal.named
  pub ops : t.seen.ops ≡ clauses.ops
  pub state : state_of t ≡ record { world = start (goal_term table goal) goal.vars; choices = [] }
  pub number : t.seen.number ≡ 0
  pub steps : t.seen.steps ≡ 0
  pub phase : t.phase ≡ phase.New

-- ---- which call may come next

-- the engine met no want of memory
abbrev pub IsWhole : Phase → Type 0
IsWhole phase.Broken = ⊥
IsWhole _ = Unit {0}

abbrev pub HasGone : Stepped → Type 0
HasGone answer.Went = Unit {0}
HasGone _ = ⊥

abbrev pub HasStopped : Stepped → Type 0
HasStopped answer.Success = Unit {0}
HasStopped (answer.Dead cause) = Unit {0}
HasStopped _ = ⊥

-- A step may come after `new`, `resume`, or a step that went on. After want of memory it may always
-- come.
abbrev pub MayStep : Phase → ℕ → Type 0
MayStep phase.New steps = steps < 2 ^ 64 - 1
MayStep (phase.Stepped r) steps = HasGone r × (steps < 2 ^ 64 - 1)
MayStep phase.Resumed steps = steps < 2 ^ 64 - 1
MayStep phase.Broken steps = Unit {0}
MayStep _ steps = ⊥

-- rewinding may come after a step that answered Success or Dead
abbrev pub MayRewind : Phase → Type 0
MayRewind (phase.Stepped r) = HasStopped r
MayRewind _ = ⊥

-- resuming may come after rewinding to a choice, and after want of memory
abbrev pub MayResume : Phase → Type 0
MayResume (phase.Rewound found) = IsTrue found
MayResume phase.Broken = Unit {0}
MayResume _ = ⊥

-- a run may come after `new`, and after want of memory
abbrev pub MayRun : Phase → Type 0
MayRun phase.New = Unit {0}
MayRun phase.Broken = Unit {0}
MayRun _ = ⊥

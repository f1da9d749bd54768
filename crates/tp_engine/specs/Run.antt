-- A run under way.
use Rattle.std.specs.Prelude.{◌≡◌, ℕ, ◌+◌, ◌<◌, ◌≤◌, List, [], ◌∷◌, length, Option, Some, None}
use Rattle.std.specs.Prelude.{IfSome, ◌⊎◌}
use Rattle.tp_terms.specs.Term.{Term}
use Rattle.tp_meaning.specs.World.{World}
use Rattle.tp_meaning.specs.Search as search
use Rattle.tp_meaning.specs.Search.{Outcome, try}
use Rattle.tp_meaning.specs.Machine.{Turn, GoesOn, Ends, machine_of, started, ended, closed}
use Rattle.tp_meaning.specs.Machine.{one_more, answer_more, dead_more, turn_by, turned, back_to}
use Rattle.tp_meaning.specs.Step.{step, searched}
use Rattle.tp_meaning.specs.declared.DeadCause.{DeadCause}
use Rattle.tp_meaning.specs.declared.DeadCause.TheVariants.{Failed, Deadlock, Late}
use Rattle.tp_meaning.specs.Total.{total}
use Rattle.tp_engine.specs.declared.answers.AnswerFault.{AnswerFault}
use Rattle.tp_engine.specs.declared.answers.AnswerFault.TheVariants as why
use Rattle.tp_machine.specs.declared.machine.Machine.{Machine}
use Rattle.tp_engine.specs.declared.phase.Phase.TheVariants as phase
use Rattle.tp_machine.specs.declared.stepped.Stepped.{Stepped}
use Rattle.tp_machine.specs.declared.stepped.Stepped.TheVariants as answer
use Rattle.tp_engine.specs.declared.run.Ended.{Ended}
use Rattle.tp_engine.specs.declared.run.How.{How}
use Rattle.tp_engine.specs.declared.run.How.TheVariants.{NoMore, Stopped, Raised, Budget}
use Rattle.tp_engine.specs.declared.tally.Tally.{Tally}
use Rattle.tp_engine.specs.Answers.{Answer, Leaves, Takes, Took, numbered}
use Rattle.tp_engine.specs.Ended.{RaisedStands, after_turns, end_of}
use Rattle.tp_machine.specs.Machine.{IsMachine, SameProgram, answer_by, base_in, state_in, world_in}
use Rattle.tp_engine.specs.Told.{Told, seen_of, told_of}

-- ---- counts

abbrev pub died_in : DeadCause → Tally → Tally
died_in Failed c = record c { steps = c.steps + 1; failed = c.failed + 1 }
died_in Deadlock c = record c { steps = c.steps + 1; deadlock = c.deadlock + 1 }
died_in Late c = record c { steps = c.steps + 1; late = c.late + 1 }

-- the counts after a step with this answer
abbrev pub counted : Stepped → Tally → Tally
counted answer.Went c = record c { steps = c.steps + 1 }
counted answer.Success c = record c { steps = c.steps + 1; found = c.found + 1 }
counted (answer.Dead cause) c = died_in cause c
counted (answer.Raised place) c = record c { steps = c.steps + 1 }

-- no count is above the number of steps
pub record CountsFit (c : Tally) : Type 0 where
  pub found : c.found ≤ c.steps
  pub failed : c.failed ≤ c.steps
  pub deadlock : c.deadlock ≤ c.steps
  pub late : c.late ≤ c.steps

-- what was found so far, with these answers
abbrev pub tally_of : Tally → List (World × ℕ) → Outcome World Term
tally_of c answers = record {
  answers = answers;
  steps = c.steps;
  failed = c.failed;
  deadlock = c.deadlock;
  late = c.late;
  how = search.Fails None;
}

-- what is found after a step with this answer, which led to this world
abbrev pub found_by : Stepped → World → Outcome World Term → Outcome World Term
found_by answer.Went w t = one_more t
found_by answer.Success w t = answer_more w t
found_by (answer.Dead cause) w t = dead_more cause t
found_by (answer.Raised place) w t = one_more t

-- ---- turns

-- a turn that goes on with a machine, or ends where it stands
abbrev pub turn_to : Machine → Option How → Outcome World Term → Turn World Term
turn_to m None t = GoesOn (machine_of (state_in m) t)
turn_to m (Some how) t = Ends (ended (end_of (seen_of m (length t.answers) t.steps) how) t)

-- back at the newest choice and on with it, or at the end
pub record GoesBack (old : Machine) (how : Option How) (new : Machine) : Type 0 where
  pub machine : IsMachine new
  pub same : SameProgram old new
  pub meaning : base_in new ≡ base_in old
  pub bound : new.stamp ≤ old.stamp
  pub stays : IfSome how (λ h. (h ≡ NoMore) × (state_in new ≡ state_in old))
  pub turn : (t : Outcome World Term) → back_to t (state_in old) ≡ turn_to new how t

-- where a machine stands that ended a run after a step with this answer, which led to this world
abbrev pub EndsAt : Machine → Stepped → World → How → Type 0
EndsAt m r w NoMore = Unit {0}
EndsAt m r w Stopped = (r ≡ answer.Success) × (w ≡ world_in m)
EndsAt m r w (Raised term clock) = RaisedStands (seen_of m 0 0) (Raised term clock)
EndsAt m r w Budget = ⊥

-- a step with this answer is followed by what the definitions' machine does after it, where so many
-- answers were found
abbrev pub IsFollowed : Stepped → ℕ → ℕ → Machine → Option How → Machine → Type 0
IsFollowed r found wanted old how new =
    (t : Outcome World Term) → found ≡ length (found_by r (world_in old) t).answers →
    turned (searched (base_in old)) wanted (answer_by old r) (state_in old) t
    ≡ turn_to new how (found_by r (world_in old) t)

pub record Follows
    (r : Stepped) (found wanted : ℕ) (old : Machine) (how : Option How) (new : Machine)
    : Type 0 where
  pub machine : IsMachine new
  pub same : SameProgram old new
  pub meaning : base_in new ≡ base_in old
  pub bound : new.stamp ≤ old.stamp
  pub stays : IfSome how (λ _. (r ≡ answer.Went → ⊥) × (state_in new ≡ state_in old))
  pub ends : IfSome how (EndsAt new r (world_in old))
  pub turn : IsFollowed r found wanted old how new

-- the answer that is the next one of a machine, where a step leads to this world
abbrev pub next_answer : Machine → Tally → World → Answer
next_answer m c w = record {
  world = w;
  number = c.found + 1;
  steps = c.steps + 1;
  named = m.goal.now.named;
  ops = m.base.now.ops;
}

-- it is an answer where the step answered so
abbrev pub answers_by : Stepped → Answer → List Answer
answers_by answer.Success a = a ∷ []
answers_by _ a = []

-- a turn of the definitions' machine goes on with this machine, or ends there, after a step with
-- this answer that led to this world
abbrev pub IsTurn : ℕ → Machine → Tally → Stepped → World → Option How → Machine → Type 0
IsTurn wanted old c r w how new =
    (t : Outcome World Term) → length t.answers ≡ c.found →
    let m = machine_of (state_in old) t in
    turn_by (searched (base_in old)) wanted (step (base_in old) (world_in old)) m
    ≡ turn_to new how (found_by r w t)

-- a turn was made
pub record Turns {A : Type 0}
    (takes : Takes A) (wanted : ℕ) (old : Machine) (c : Tally) (before : A)
    (new : Machine) (d : Tally) (now : A) (how : Option How) : Type 0 where
  pub answer : Stepped
  pub world : World
  pub machine : IsMachine new
  pub same : SameProgram old new
  pub meaning : base_in new ≡ base_in old
  pub bound : new.stamp ≤ old.stamp + 1
  pub counts : d ≡ counted answer c
  pub fit : CountsFit d
  pub took : Took takes before (answers_by answer (next_answer old c world)) now
  pub stays : IfSome how (λ _. state_in new ≡ state_in old)
  pub ends : IfSome how (EndsAt new answer world)
  pub turn : IsTurn wanted old c answer world how new

-- this answer was taken, and then memory was refused; or it met a fault
abbrev pub MetFault : {A : Type 0} → Takes A → Leaves A → Answer → AnswerFault → A → A → Type 0
MetFault takes leaves a fault before now =
    ((fault ≡ why.NoMemory) × takes before a now) ⊎ leaves before a fault now

-- A turn met a fault: want of memory before its answer, or a fault at it or behind it.
abbrev pub IsCut :
    {A : Type 0} → Takes A → Leaves A → Machine → Answer → AnswerFault → A → A → Type 0
IsCut takes leaves old a fault before now =
    ((fault ≡ why.NoMemory) × (now ≡ before))
    ⊎ ((step (base_in old) (world_in old) ≡ search.Success)
    × MetFault takes leaves a fault before now)

pub record IsCutAt {A : Type 0}
    (takes : Takes A) (leaves : Leaves A) (old : Machine) (c : Tally) (fault : AnswerFault)
    (before now : A) (new : Machine) : Type 0 where
  pub same : SameProgram old new
  pub write : fault ≡ why.Write → IsMachine new
  pub cut : IsCut takes leaves old (next_answer old c (world_in old)) fault before now

-- ---- the run

-- with n more steps, the search from here finds what the search from the start finds in all
abbrev pub KeepsAll : Machine → ℕ → Machine → Tally → List (World × ℕ) → ℕ → Type 0
KeepsAll start wanted m c answers n =
    let x = searched (base_in start) in
    total x (machine_of (state_in m) (tally_of c answers)) n wanted
    ≡ closed (try x (world_in start) (c.steps + n) wanted)

-- as many turns of the definitions' machine lead here
abbrev pub IsThere : Machine → ℕ → Machine → Tally → List (World × ℕ) → Type 0
IsThere start wanted m c answers =
    after_turns (searched (base_in start)) wanted c.steps (started (world_in start))
    ≡ GoesOn (machine_of (state_in m) (tally_of c answers))

-- a run under way: these answers were found so far and taken
pub record IsRun {A : Type 0}
    (takes : Takes A) (start : Machine) (wanted : ℕ) (before : A) (m : Machine) (c : Tally)
    (now : A) : Type 0 where
  pub answers : List (World × ℕ)
  pub count : length answers ≡ c.found
  pub machine : IsMachine m
  pub same : SameProgram start m
  pub meaning : base_in m ≡ base_in start
  pub bound : m.stamp ≤ c.steps
  pub fit : CountsFit c
  pub few : c.found < wanted
  pub took : Took takes before (numbered start.goal.now.named start.base.now.ops 0 answers) now
  pub turns : IsThere start wanted m c answers
  pub kept : (n : ℕ) → KeepsAll start wanted m c answers n

-- ---- the whole run

abbrev pub at_start : Machine → Told
at_start m = told_of phase.New m 0 0

abbrev pub at_end : Machine → Ended → Told
at_end m e = told_of phase.Ran m e.found e.steps

-- what was found, with this end
abbrev pub ended_by : Tally → How → Ended
ended_by c how = record {
  steps = c.steps;
  found = c.found;
  failed = c.failed;
  deadlock = c.deadlock;
  late = c.late;
  how = how;
}

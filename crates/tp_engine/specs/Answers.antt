-- The answers of a run, and how they were taken.
use Rattle.std.specs.Prelude.{◌≡◌, ℕ, ◌+◌, List, [], ◌∷◌, ◌++◌, ◌⊎◌}
use Rattle.tp_terms.specs.declared.text.Named.{Named}
use Rattle.tp_meaning.specs.World.{World}
use Rattle.tp_parse.specs.Ops.{Entries}
use Rattle.tp_engine.specs.declared.answers.AnswerFault.{AnswerFault}
use Rattle.tp_engine.specs.declared.answers.AnswerFault.TheVariants as why
use Rattle.tp_engine.specs.Told.{Snapshot, world_in}

-- an answer: its world, its number from 1, how many steps were made up to it, the named variables
-- of the goal, and the operators of the model
pub record Answer : Type 0 where
  pub world : World
  pub number : ℕ
  pub steps : ℕ
  pub named : List Named
  pub ops : Entries

-- the answer that an engine stands at
abbrev pub answer_in : Snapshot → Answer
answer_in s = record {
  world = world_in s;
  number = s.number;
  steps = s.steps;
  named = s.named;
  ops = s.ops;
}

-- the answers that a search found, in their order, numbered from the number after this one
abbrev pub numbered : List Named → Entries → ℕ → List (World × ℕ) → List Answer
numbered named ops n [] = []
numbered named ops n (a ∷ answers) =
    record { world = a.0; number = n + 1; steps = a.1; named = named; ops = ops }
    ∷ numbered named ops (n + 1) answers

-- what stands after an answer was taken, and after a fault, by what stood before it
abbrev pub Takes : Type 0 → Type 1
Takes A = A → Answer → A → Type 0

abbrev pub Leaves : Type 0 → Type 1
Leaves A = A → Answer → AnswerFault → A → Type 0

-- these answers were taken, each once
abbrev pub Took : {A : Type 0} → Takes A → A → List Answer → A → Type 0
Took takes before [] now = now ≡ before
Took {A} takes before (a ∷ answers) now =
    (at : A) × takes before a at × Took takes at answers now

-- the first of these answers met a fault
abbrev pub WasLeft : {A : Type 0} → Leaves A → A → List Answer → AnswerFault → A → Type 0
WasLeft leaves before [] fault now = ⊥
WasLeft leaves before (a ∷ answers) fault now = leaves before a fault now

-- The first answers were taken. Then the engine met want of memory, or the next answer met a fault.
pub record IsCutShort {A : Type 0}
    (takes : Takes A) (leaves : Leaves A) (answers : List Answer) (fault : AnswerFault)
    (before now : A) : Type 0 where
  pub first : List Answer
  pub rest : List Answer
  pub is : answers ≡ first ++ rest
  pub at : A
  pub took : Took takes before first at
  pub cause : ((fault ≡ why.NoMemory) × (now ≡ at)) ⊎ WasLeft leaves at rest fault now

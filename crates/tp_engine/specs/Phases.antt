-- What holds of an engine, by the call that was the last.
use Rattle.std.specs.Prelude.{◌≡◌, ℕ, ◌<◌, ◌≤◌, true, []}
use Rattle.tp_engine.specs.declared.answers.AnswerFault.{AnswerFault}
use Rattle.tp_engine.specs.declared.answers.AnswerFault.TheVariants.{Write, NoMemory}
use Rattle.tp_machine.specs.declared.machine.Machine.{Machine}
use Rattle.tp_engine.specs.declared.phase.Phase.{Phase}
use Rattle.tp_engine.specs.declared.phase.Phase.TheVariants as phase
use Rattle.tp_machine.specs.Machine.{IsMachine, IsBack}

-- a machine that may go on; no stamp is above the number of steps
pub record IsReady (m : Machine) (number steps : ℕ) : Type 0 where
  pub machine : IsMachine m
  pub bound : m.stamp ≤ steps
  pub few : number ≤ steps

pub record IsFresh (m : Machine) (number steps : ℕ) : Type 0 where
  pub ready : IsReady m number steps
  pub none : steps ≡ 0
  pub choices : m.choices ≡ []

pub record IsRewound (m : Machine) (number steps : ℕ) : Type 0 where
  pub back : IsBack m
  pub bound : m.stamp < steps
  pub few : number ≤ steps

-- after a run only the state may be asked
abbrev pub Keeps : Phase → Machine → ℕ → ℕ → Type 0
Keeps phase.New m number steps = IsFresh m number steps
Keeps (phase.Rewound true) m number steps = IsRewound m number steps
Keeps phase.Ran m number steps = IsMachine m
Keeps phase.Broken m number steps = Unit {0}
Keeps _ m number steps = IsReady m number steps

-- After a run that met a fault of what takes answers, the view may be asked. After want of memory
-- nothing goes on.
abbrev pub phase_after : AnswerFault → Phase
phase_after Write = phase.Ran
phase_after NoMemory = phase.Broken

-- Messages that a process takes out of its box.
use Rattle.std.specs.Prelude.{◌≡◌, ℕ, ◌+◌, Bool, true, is_some, List, ◌∷◌, drop, Option, Some}
use Rattle.std.specs.List.{position_from}
use Rattle.tp_terms.specs.declared.cells.Ref.{Ref}
use Rattle.tp_meaning.specs.declared.goals.GoalKind.TheVariants.{Process}
use Rattle.tp_meaning.specs.declared.goals.ProcessGoal.TheVariants as goal
use Rattle.tp_meaning.specs.Subst.{mgu}
use Rattle.tp_store.specs.Contents.{seen, subst_of}
use Rattle.tp_mail.specs.Mail.{box_of}
use Rattle.tp_control.specs.declared.choices.Alt.TheVariants.{Message}
use Rattle.tp_machine.specs.declared.machine.Machine.{Machine}
use Rattle.tp_machine.specs.declared.task.Task.{Task}
use Rattle.tp_machine.specs.declared.task.Call.{Call}
use Rattle.tp_machine.specs.Machine.{world_in}
use Rattle.tp_machine.specs.Meets.{Calls}
use Rattle.tp_machine.specs.Goes.{Goes, untried_in}

-- the messages of the running process's box
abbrev pub box_in : Machine → Task → List Ref
box_in m t = box_of m.state.boxes.boxes t.process

-- a message has a unifier with the first argument of a goal
abbrev pub may_take : Machine → Call → Ref → Bool
may_take m c message = is_some (mgu (subst_of m.atoms m.state.store)
    (seen m.atoms m.state.store message.at) (seen m.atoms m.state.store c.first.at))

-- the place of the first such message, from a place of the box on
abbrev pub message_from : Machine → Task → Call → ℕ → Option ℕ
message_from m t c from = position_from (may_take m c) from (drop from (box_in m t))

-- the running process's goal is a `wait_for`, and may take the message at a place of the box
pub record MayTake (m : Machine) (t : Task) (c : Call) (place : ℕ) : Type 0 where
  pub calls : Calls m t c (Some (Process goal.WaitFor))
  pub message : Ref
  pub more : List Ref
  pub here : drop place (box_in m t) ≡ message ∷ more
  pub fits : may_take m c message ≡ true

-- the message at a place was taken: its world is the first of those from there on
pub record Takes (old : Machine) (place : ℕ) (new : Machine) : Type 0 where
  pub goes : Goes old new
  pub world : untried_in old (Message place) ≡ world_in new ∷ untried_in old (Message (place + 1))

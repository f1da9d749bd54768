-- Messages that a process sends.
use Rattle.std.specs.Prelude.{◌≡◌, ℕ, ◌+◌, ◌<◌, List, [], ◌∷◌, ◌++◌, fold, length, Some, Result, Ok}
use Rattle.std.specs.Prelude.{Err}
use Rattle.tp_terms.specs.declared.cells.Ref.{Ref}
use Rattle.tp_terms.specs.Term.{cell, term_size}
use Rattle.tp_meaning.specs.declared.goals.GoalKind.TheVariants.{Process}
use Rattle.tp_meaning.specs.declared.goals.ProcessGoal.TheVariants as goal
use Rattle.tp_meaning.specs.Checks.{Checked, ◌>>=◌}
use Rattle.tp_meaning.specs.Process.{receiver, receivers, receivers_in, sent}
use Rattle.tp_meaning.specs.Turn.{going}
use Rattle.tp_meaning.specs.Valid.{Below, Valid}
use Rattle.tp_store.specs.Contents.{seen}
use Rattle.tp_state.specs.declared.state.State.{State}
use Rattle.tp_state.specs.Acts.{resting}
use Rattle.tp_state.specs.Going.{Follows}
use Rattle.tp_state.specs.Plain.{world_of}
use Rattle.tp_state.specs.Stands.{PlainStands}
use Rattle.tp_state.specs.State.{held_of, plain_of}
use Rattle.tp_machine.specs.declared.errors.Cause.{Cause}
use Rattle.tp_machine.specs.declared.machine.Machine.{Machine}
use Rattle.tp_machine.specs.declared.send.Next.{Next}
use Rattle.tp_machine.specs.declared.send.Next.TheVariants as next
use Rattle.tp_machine.specs.declared.send.Receivers.{Receivers}
use Rattle.tp_machine.specs.declared.send.Receivers.TheVariants as these
use Rattle.tp_machine.specs.declared.task.Task.{Task}
use Rattle.tp_machine.specs.declared.task.Call.{Call}
use Rattle.tp_machine.specs.Machine.{world_in}
use Rattle.tp_machine.specs.Meets.{Calls, Fails, its_turn}

-- ---- receivers

-- the process that the term of a place names, or why it names none
abbrev pub FindsReceiver : Machine → Ref → Result ℕ Cause → Type 0
FindsReceiver m at (Ok p) = receiver (world_in m) (seen m.atoms m.state.store at.at) ≡ Ok p
FindsReceiver m at (Err why) =
    Fails m (receiver (world_in m) (seen m.atoms m.state.store at.at)) why

-- the processes of what is left of a list at the second place, the whole of which stands at the
-- first
abbrev pub left_of : Machine → Ref → Ref → Checked (List ℕ)
left_of m list at = receivers_in (world_in m) (seen m.atoms m.state.store list.at)
    (seen m.atoms m.state.store at.at)

-- processes that were found, in front of those of what is left
abbrev pub ahead : List ℕ → Checked (List ℕ) → Checked (List ℕ)
ahead found left = left >>= (λ more. Ok (found ++ more))

-- a place shows a list cell whose element stands at the second place, and its tail behind that
abbrev pub IsElement : Machine → Ref → Ref → Type 0
IsElement m at first = seen m.atoms m.state.store at.at
    ≡ cell (seen m.atoms m.state.store first.at) (seen m.atoms m.state.store (first.at + 1))

-- the next element of a list of names
abbrev pub IsNext : Machine → Ref → Ref → Next → Type 0
IsNext m list at (next.Process p tail) =
    (tail.at < length m.state.store.cells)
    × (term_size (seen m.atoms m.state.store tail.at)
    < term_size (seen m.atoms m.state.store at.at))
    × (left_of m list at ≡ ahead (p ∷ []) (left_of m list tail))
IsNext m list at next.End = left_of m list at ≡ Ok []
IsNext m list at (next.Refused why) = Fails m (left_of m list at) why

-- the receivers of a message that a check gives
abbrev pub AreReceivers : Machine → Checked (List ℕ) → Receivers → Type 0
AreReceivers m r (these.All all) = r ≡ Ok all.items
AreReceivers m r (these.Refused why) = Fails m r why

-- those that the term of a place names
abbrev pub receivers_at : Machine → Ref → Checked (List ℕ)
receivers_at m to = receivers (world_in m) (seen m.atoms m.state.store to.at)

-- ---- messages

-- the running process's goal is a `send` to these processes
pub record Sends (m : Machine) (t : Task) (c : Call) (all : List ℕ) : Type 0 where
  pub calls : Calls m t c (Some (Process goal.Send))
  pub all_are : receivers (world_in m) (seen m.atoms m.state.store (c.first.at + 1)) ≡ Ok all

-- the world with messages sent to the processes of a list
abbrev pub posted_all : Machine → Task → Call → List ℕ → Rattle.tp_meaning.specs.World.World
posted_all m t c all =
    fold (sent t.process (seen m.atoms m.state.store c.first.at))
    (going (its_turn m t) (its_turn m t).rest) all

-- Messages were sent to some of the processes. Once they are sent to those that are left, the world
-- is the one with all of them.
pub record Posts (m : Machine) (t : Task) (c : Call) (all left : List ℕ) (s : State) : Type 0 where
  pub follows : Follows (held_of m.state) (held_of s)
  pub store : s.store ≡ m.state.store
  pub frames : s.frames ≡ m.state.frames
  pub running : s.running ≡ m.state.running
  pub count : length s.procs ≡ length m.state.procs
  pub stands : PlainStands m.atoms (plain_of s)
  pub valid : Valid (world_of m.atoms (plain_of s) m.stamp)
  pub below : Below m.state.store.vars (seen m.atoms m.state.store c.first.at)
  pub world : fold (sent t.process (seen m.atoms m.state.store c.first.at))
      (world_of m.atoms (resting t.rest (plain_of s)) (m.stamp + 1)) left
      ≡ posted_all m t c all

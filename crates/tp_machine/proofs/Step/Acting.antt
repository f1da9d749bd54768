-- Steps of goals of processes.
use Rattle.std.proofs.Common.{◌≡◌, ℕ, ◌+◌, ◌<◌, ◌≤◌, length, Some, Ok, slice_get, refl, ap, sym, subst, ◌∙◌, arith}
use Rattle.tp_terms.specs.declared.cells.AtomId.{AtomId}
use Rattle.tp_terms.specs.declared.cells.Cell.TheVariants as cell
use Rattle.tp_terms.specs.declared.world.EventKind.TheVariants as event
use Rattle.tp_terms.specs.declared.world.Proc.{Proc}
use Rattle.tp_terms.specs.Term.{Name, Terms, Int, Atom}
use Rattle.tp_terms.specs.Shown.{name_at}
use Rattle.tp_terms.proofs.Naming.Tables.{Grows-same}
use Rattle.tp_meaning.specs.declared.goals.GoalKind.TheVariants.{Process}
use Rattle.tp_meaning.specs.declared.goals.ProcessGoal.{ProcessGoal}
use Rattle.tp_meaning.specs.declared.goals.ProcessGoal.TheVariants as goal
use Rattle.tp_meaning.specs.Control.{arg}
use Rattle.tp_meaning.specs.Process as meaning
use Rattle.tp_meaning.specs.World as world
use Rattle.tp_meaning.specs.World.{World, with_event}
use Rattle.tp_meaning.specs.Turn.{Turn, going, one, some, unified, raised_at}
use Rattle.tp_meaning.specs.Step.{step}
use Rattle.tp_meaning.proofs.OwnGoals.Counts.{fewest, fewest-fits}
use Rattle.tp_store.specs.Contents.{seen, args_seen}
use Rattle.tp_state.specs.declared.state.State.{State}
use Rattle.tp_state.specs.Acts.{noted, resting}
use Rattle.tp_state.specs.Going.{Follows}
use Rattle.tp_state.specs.Plain.{Plain, world_of}
use Rattle.tp_state.specs.Stands.{PlainStands}
use Rattle.tp_state.specs.State.{plain_of, held_of}
use Rattle.tp_machine.specs.declared.machine.Machine.{Machine}
use Rattle.tp_machine.specs.declared.stepped.Stepped.TheVariants as answer
use Rattle.tp_machine.specs.declared.task.Task.{Task}
use Rattle.tp_machine.specs.declared.task.Call.{Call}
use Rattle.tp_machine.specs.Acting.{Tells}
use Rattle.tp_machine.specs.Machine.{IsMachine, Steps, base_in, world_in}
use Rattle.tp_machine.specs.Meets.{Calls, Meets, its_turn}
use Rattle.tp_machine.proofs.Worlds.Items.{other-rest, other-stands, other-world}
use Rattle.tp_machine.proofs.Worlds.Procs.{noted-stands, noted-world}
use Rattle.tp_machine.proofs.Step.First.{call-gives, process_there, rest_in, there, turn_in}
use Rattle.tp_machine.proofs.Step.Parts.{to_one}
use Rattle.tp_machine.proofs.Step.Raise.{name-is, name_stands}
use Rattle.tp_machine.proofs.Step.Refuse.{first_arg}

-- the contents in which the running process has the items behind its goal
module _ (m : Machine) (t : Task) (is : IsMachine m) (h : Meets m t) where
  pub rested_stands : PlainStands m.atoms (resting t.rest (plain_of m.state))
  rested_stands = other-stands m.atoms (plain_of m.state) (resting t.rest (plain_of m.state)) is.stands (other-rest m.atoms (plain_of m.state) t.rest h.rest)

  pub rested_world : world_of m.atoms (resting t.rest (plain_of m.state)) (m.stamp + 1) ≡ going (turn_in m t.process t.rest) (rest_in m t.rest)
  rested_world = other-world m.atoms (plain_of m.state) (resting t.rest (plain_of m.state)) t.process m.stamp is.stands (other-rest m.atoms (plain_of m.state) t.rest h.rest) h.running

-- each goal of processes has an argument
one-least : (k : ProcessGoal) (n : ℕ) → fewest (Process k) ≤ n → 1 ≤ n
one-least goal.New n le = omega arith
one-least goal.Hold n le = le
one-least goal.Send n le = omega arith
one-least goal.WaitFor n le = le
one-least goal.Wait n le = le
one-least goal.Now n le = le
one-least goal.OwnName n le = le
one-least goal.Note n le = le

module _ (m : Machine) (t : Task) (c : Call) (k : ProcessGoal) (h : Calls m t c (Some (Process k))) where
  abbrev f : Name
  f = name_at m.atoms c.name.at

  abbrev args : Terms
  args = args_seen m.atoms m.state.store c.first.at c.count

  abbrev turn : Turn
  turn = turn_in m t.process t.rest

  some_arguments : 1 ≤ c.count
  some_arguments = one-least k c.count (fewest-fits (name_at m.atoms c.name.at) c.count (Process k) h.kind)

  pub first_there : c.first.at < length m.state.store.cells
  first_there = let le = some_arguments in let w = h.call.within in omega arith

  pub first_is : arg 0 (args_seen m.atoms m.state.store c.first.at c.count) ≡ seen m.atoms m.state.store c.first.at
  first_is = first_arg m.atoms m.state.store c.first.at c.count some_arguments

  pub act-gives : step (base_in m) (world_in m) ≡ raised_at (world_in m) t.process (meaning.act (turn_in m t.process t.rest) k (name_at m.atoms c.name.at) (args_seen m.atoms m.state.store c.first.at c.count))
  act-gives = call-gives m t c (Some (Process k)) h

  -- to one world
  pub acts_to : (s : State) (w : World) → IsMachine m → Follows (held_of m.state) (held_of s) → PlainStands m.atoms (plain_of s) → world_of m.atoms (plain_of s) (m.stamp + 1) ≡ w
      → meaning.act (turn_in m t.process t.rest) k (name_at m.atoms c.name.at) (args_seen m.atoms m.state.store c.first.at c.count) ≡ Ok (one w) → Steps m (record m { state = s; stamp = m.stamp + 1 }) answer.Went
  acts_to s w is fo stands e g =
      to_one m (record m { state = s; stamp = m.stamp + 1 }) is
      (record { same = refl; names = Grows-same m.atoms; table = is.program.table; stands = stands; follows = fo; stamp = refl })
      (act-gives ∙ ap (raised_at (world_in m) t.process) g ∙ ap one (sym e))

-- ---- note

pub notes : (m : Machine) (t : Task) (c : Call) (s : State) → IsMachine m → Calls m t c (Some (Process goal.Note)) → Follows (held_of m.state) (held_of s) → plain_of s ≡ noted t.process (event.Note c.first) (resting t.rest (plain_of m.state)) → Steps m (record m { state = s; stamp = m.stamp + 1 }) answer.Went
notes m t c s is h fo e =
    let names = m.atoms in
    let rested = resting t.rest (plain_of m.state) in
    let stands = noted-stands names rested t.process (event.Note c.first) (rested_stands m t is h.meets) (process_there m t.process h.meets.standing h.meets.running) (first_there m t c goal.Note h) in
    acts_to m t c goal.Note h s _ is fo (subst (PlainStands names) (sym e) stands)
    (ap (λ (x : Plain). world_of names x (m.stamp + 1)) e
    ∙ noted-world names rested t.process (m.stamp + 1) (event.Note c.first)
    ∙ ap (with_event t.process (world.Note (seen names m.state.store c.first.at))) (rested_world m t is h.meets))
    (ap (λ x. Ok (meaning.note (turn_in m t.process t.rest) x)) (first_is m t c goal.Note h))

-- ---- now and self

pub tells_time : (m : Machine) (t : Task) (c : Call) → Calls m t c (Some (Process goal.Now)) → Tells m t c goal.Now (cell.Int m.state.clock)
tells_time m t c h = record {
  calls = h;
  told = tt;
  gives = act-gives m t c goal.Now h ∙ ap (λ x. some (unified (its_turn m t) x (Int m.state.clock))) (first_is m t c goal.Now h);
}

pub tells_name : (m : Machine) (t : Task) (c : Call) (name : AtomId) → IsMachine m → Calls m t c (Some (Process goal.OwnName)) → ((q : Proc) → slice_get m.state.procs t.process ≡ Some q → name ≡ q.name) → Tells m t c goal.OwnName (cell.Atom name)
tells_name m t c name is h e =
    let q = there t.process m.state.procs (process_there m t.process h.meets.standing h.meets.running) in
    let same : name ≡ q.0.name = e q.0 q.1 in
    record {
      calls = h;
      told = subst (λ (a : AtomId). a.at < length m.atoms) (sym same) (name_stands m t is h.meets q.0 q.1);
      gives =
          act-gives m t c goal.OwnName h
          ∙ ap (λ x. some (unified (its_turn m t) x (Atom (world.name_at (world_in m).processes t.process)))) (first_is m t c goal.OwnName h)
          ∙ ap (λ n. some (unified (its_turn m t) (seen m.atoms m.state.store c.first.at) (Atom n))) (name-is m t is h.meets q.0 q.1)
          ∙ ap (λ (a : AtomId). some (unified (its_turn m t) (seen m.atoms m.state.store c.first.at) (Atom (name_at m.atoms a.at)))) (sym same);
    }

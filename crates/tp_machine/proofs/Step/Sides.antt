-- Steps of disjunctions.
use Rattle.std.proofs.Common.{◌≡◌, ◌+◌, ◌<◌, ◌≤◌, List, [], ◌∷◌, length, Some, None, refl, ap, sym, ◌∙◌, arith}
use Rattle.tp_terms.specs.declared.cells.Ref.{Ref}
use Rattle.tp_terms.specs.Term.{Terms}
use Rattle.tp_terms.specs.Shown.{name_at}
use Rattle.tp_meaning.specs.declared.goals.GoalKind.TheVariants.{Control}
use Rattle.tp_meaning.specs.declared.goals.ControlGoal.TheVariants as control
use Rattle.tp_meaning.specs.Control.{arg, first_of, if_then}
use Rattle.tp_meaning.specs.World as world
use Rattle.tp_meaning.specs.Turn.{Turn, going}
use Rattle.tp_store.specs.Contents.{seen, args_seen}
use Rattle.tp_control.specs.declared.choices.Alt.TheVariants.{Second}
use Rattle.tp_control.specs.declared.frames.Item.TheVariants.{Goal}
use Rattle.tp_state.specs.declared.state.State.{State}
use Rattle.tp_state.specs.Going.{Follows}
use Rattle.tp_state.specs.State.{plain_of, held_of}
use Rattle.tp_state.specs.Acts.{resting}
use Rattle.tp_machine.specs.declared.machine.Machine.{Machine}
use Rattle.tp_machine.specs.declared.stepped.Stepped.TheVariants as answer
use Rattle.tp_machine.specs.declared.task.Task.{Task}
use Rattle.tp_machine.specs.declared.task.Call.{Call}
use Rattle.tp_machine.specs.Conditions.{conditional, pushes}
use Rattle.tp_machine.specs.Parts.{HasParts}
use Rattle.tp_machine.specs.Machine.{IsMachine, Steps, Resumes}
use Rattle.tp_machine.specs.Meets.{Calls}
use Rattle.tp_machine.specs.Goes.{IsKept, Returns}
use Rattle.tp_machine.proofs.Step.First.{rest_in, turn_in}
use Rattle.tp_machine.proofs.Step.Refuse.{first_arg}
use Rattle.tp_machine.proofs.Step.Seconds.{branches, seconds}
use Rattle.tp_meaning.proofs.OwnGoals.Counts.{fewest-fits}
use Rattle.tp_machine.proofs.Step.Control.{arg-is}

module _ (m : Machine) (t : Task) (c : Call) (h : Calls m t c (Some (Control control.Disjunction))) where
  abbrev turn : Turn
  turn = turn_in m t.process t.rest

  abbrev args : Terms
  args = args_seen m.atoms m.state.store c.first.at c.count

  -- its arguments stand
  pub two_sides : 2 ≤ c.count
  two_sides = fewest-fits (name_at m.atoms c.name.at) c.count (Control control.Disjunction) h.kind

  first-is : arg 0 (args_seen m.atoms m.state.store c.first.at c.count) ≡ seen m.atoms m.state.store c.first.at
  first-is = let least = two_sides in first_arg m.atoms m.state.store c.first.at c.count (omega arith)

  pub first_there : c.first.at < length m.state.store.cells
  first_there = let least = two_sides in let within = h.call.within in omega arith

  -- the first side, where it is a condition
  pub chooses_if : (mid : Machine) (s : State) (condition goal : Ref) → IsMachine m → HasParts m.atoms m.state.store c.first (Some (condition, goal)) → IsKept m Second mid → Follows (held_of mid.state) (held_of s) → plain_of s ≡ pushes (conditional mid.stamp condition goal t.barrier) (resting t.rest (plain_of mid.state)) → Steps m (record mid { state = s; stamp = mid.stamp + 1 }) answer.Went
  chooses_if mid s condition goal i p kept fo e =
      branches m t c control.Disjunction h _ _ refl mid (conditional mid.stamp condition goal t.barrier) s i kept (p.1, (tt, (p.2, tt))) fo e
      (ap (λ x. going turn (first_of turn t.barrier x)) (first-is)
      ∙ ap (λ o. going turn (elim o as (λ _. List world.Item) [ None ↦ world.Goal (seen m.atoms m.state.store c.first.at) t.barrier ∷ rest_in m t.rest | Some q ↦ if_then turn t.barrier q.0 q.1 ])) p.0
      ∙ ap (λ d. going turn (world.Goal (seen m.atoms m.state.store condition.at) (d + 1) ∷ world.Commit d ∷ world.Goal (seen m.atoms m.state.store goal.at) t.barrier ∷ rest_in m t.rest)) (sym (ap (λ (x : Machine). x.stamp) kept.same)))

  -- and where it is any other goal
  pub chooses : (mid : Machine) (s : State) → IsMachine m → HasParts m.atoms m.state.store c.first None → IsKept m Second mid → Follows (held_of mid.state) (held_of s) → plain_of s ≡ pushes (Goal c.first t.barrier ∷ []) (resting t.rest (plain_of mid.state)) → Steps m (record mid { state = s; stamp = mid.stamp + 1 }) answer.Went
  chooses mid s i p kept fo e =
      branches m t c control.Disjunction h _ _ refl mid (Goal c.first t.barrier ∷ []) s i kept (first_there, tt) fo e
      (ap (λ x. going turn (first_of turn t.barrier x)) (first-is)
      ∙ ap (λ o. going turn (elim o as (λ _. List world.Item) [ None ↦ world.Goal (seen m.atoms m.state.store c.first.at) t.barrier ∷ rest_in m t.rest | Some q ↦ if_then turn t.barrier q.0 q.1 ])) p)

  -- the second side
  pub goes_aside : (s : State) (second : Ref) → Returns m Second → second.at ≡ c.first.at + 1 → Follows (held_of m.state) (held_of s) → plain_of s ≡ pushes (Goal second t.barrier ∷ []) (resting t.rest (plain_of m.state)) → Resumes (record m { waiting = Some Second }) (record m { state = s; stamp = m.stamp + 1 })
  goes_aside s second back es fo e =
      let least = two_sides in
      let within = h.call.within in
      seconds m t c control.Disjunction h _ _ refl (Goal second t.barrier ∷ []) s back ((let z : second.at < length m.state.store.cells = omega (arith, es) in z), tt) fo e
      (ap (λ x. going turn (world.Goal x t.barrier ∷ rest_in m t.rest)) (arg-is m.atoms m.state.store c.first.at c.count 1 (omega arith) ∙ ap (seen m.atoms m.state.store) (sym es)))

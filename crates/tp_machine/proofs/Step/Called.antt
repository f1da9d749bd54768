-- Steps of goals whose argument was entered.
use Rattle.std.proofs.Common.{◌≡◌, ◌+◌, [], ◌∷◌, length, Some, Ok, Err, refl, ap, sym, ◌∙◌, arith}
use Rattle.tp_terms.specs.declared.cells.Ref.{Ref}
use Rattle.tp_terms.specs.Term.{Name, Term, Terms, atom}
use Rattle.tp_terms.specs.Shown.{name_at}
use Rattle.tp_meaning.specs.declared.goals.GoalKind.TheVariants.{Control}
use Rattle.tp_meaning.specs.declared.goals.ControlGoal.TheVariants as control
use Rattle.tp_meaning.specs.Checks.{Checked, ◌>>=◌}
use Rattle.tp_meaning.specs.Body.{enter}
use Rattle.tp_meaning.specs.Control as meaning
use Rattle.tp_meaning.specs.Control.{arg, if_then}
use Rattle.tp_meaning.specs.World as world
use Rattle.tp_meaning.specs.World.{World}
use Rattle.tp_meaning.specs.Turn.{Turn, Gives, going, one, two, raised_at}
use Rattle.tp_store.specs.Contents.{seen, args_seen}
use Rattle.tp_control.specs.declared.choices.Alt.TheVariants.{Second}
use Rattle.tp_control.specs.declared.frames.Item.TheVariants.{Goal, Commit}
use Rattle.tp_state.specs.declared.state.State.{State}
use Rattle.tp_state.specs.Going.{Follows}
use Rattle.tp_state.specs.State.{plain_of, held_of}
use Rattle.tp_state.specs.Acts.{resting}
use Rattle.tp_machine.specs.declared.machine.Machine.{Machine}
use Rattle.tp_machine.specs.declared.stepped.Stepped.TheVariants as answer
use Rattle.tp_machine.specs.declared.task.Task.{Task}
use Rattle.tp_machine.specs.declared.task.Call.{Call}
use Rattle.tp_machine.specs.Conditions.{conditional, pushes}
use Rattle.tp_machine.specs.Enters.{FirstStands}
use Rattle.tp_machine.specs.Chooses.{HasFailure}
use Rattle.tp_machine.specs.Untried.{second_in}
use Rattle.tp_machine.specs.Machine.{IsMachine, Steps, Resumes, world_in}
use Rattle.tp_machine.specs.Meets.{Calls}
use Rattle.tp_machine.specs.Goes.{IsKept, Returns, untried_in}
use Rattle.tp_machine.proofs.Step.First.{call-gives, rest_in, turn_in}
use Rattle.tp_machine.proofs.Step.Refuse.{first_arg}
use Rattle.tp_machine.proofs.Step.Arrives.{arrives}
use Rattle.tp_machine.proofs.Step.Parts.{to_one}
use Rattle.tp_machine.proofs.Step.Seconds.{second_is, branches, seconds}
use Rattle.tp_meaning.proofs.OwnGoals.Counts.{fewest-fits}

module _ (m : Machine) (t : Task) (c : Call) where
  abbrev f : Name
  f = name_at m.atoms c.name.at

  abbrev args : Terms
  args = args_seen m.atoms m.state.store c.first.at c.count

  abbrev turn : Turn
  turn = turn_in m t.process t.rest

  abbrev argument : Term
  argument = seen m.atoms m.state.store c.first.at

  abbrev gives : Checked Gives → Gives
  gives = raised_at (world_in m) t.process

  -- `once`
  pub calls_once : (s : State) (place : Ref) → IsMachine m → FirstStands m t c control.Once place → Follows (held_of m.state) (held_of s) → plain_of s ≡ pushes (Goal place (m.stamp + 1) ∷ Commit m.stamp ∷ []) (resting t.rest (plain_of m.state)) → Steps m (record m { state = s; stamp = m.stamp + 1 }) answer.Went
  calls_once s place i h fo e =
      let a = arrives m t (Goal place (m.stamp + 1) ∷ Commit m.stamp ∷ []) s i h.calls.meets (h.within, (tt, tt)) fo e in
      let least = fewest-fits f c.count (Control control.Once) h.calls.kind in
      let onward : Term → Checked Gives = λ g. Ok (one (going turn (world.Goal g (m.stamp + 1) ∷ world.Commit m.stamp ∷ rest_in m t.rest))) in
      to_one m (record m { state = s; stamp = m.stamp + 1 }) i a.goes
      (call-gives m t c (Some (Control control.Once)) h.calls
      ∙ ap (λ x. gives (enter x >>= onward)) (first_arg m.atoms m.state.store c.first.at c.count least)
      ∙ ap (λ r. gives (r >>= onward)) h.is
      ∙ ap one (sym a.world))

  abbrev denying : Term → World
  denying g = going turn (if_then turn t.barrier g (atom "fail"))

  -- what `\+` gives, once its argument was entered
  pub denied_is : (g : Term) → enter (arg 0 (args_seen m.atoms m.state.store c.first.at c.count)) ≡ Ok g → meaning.control (turn_in m t.process t.rest) t.barrier control.NotProvable (name_at m.atoms c.name.at) (args_seen m.atoms m.state.store c.first.at c.count) ≡ Ok (two (going (turn_in m t.process t.rest) (if_then (turn_in m t.process t.rest) t.barrier g (atom "fail"))) (going (turn_in m t.process t.rest) (rest_in m t.rest)))
  denied_is g e = ap (λ r. r >>= (λ x. Ok (two (denying x) (going turn (rest_in m t.rest))))) e

  pub entered_arg : (place : Ref) → FirstStands m t c control.NotProvable place → enter (arg 0 (args_seen m.atoms m.state.store c.first.at c.count)) ≡ Ok (seen m.atoms m.state.store place.at)
  entered_arg place h = ap enter (first_arg m.atoms m.state.store c.first.at c.count (fewest-fits f c.count (Control control.NotProvable) h.calls.kind)) ∙ h.is

  -- the first world of `\+`
  pub denies : (mid : Machine) (s : State) (place failure : Ref) → IsMachine m → FirstStands m t c control.NotProvable place → HasFailure m failure → IsKept m Second mid → Follows (held_of mid.state) (held_of s) → plain_of s ≡ pushes (conditional mid.stamp place failure t.barrier) (resting t.rest (plain_of mid.state)) → Steps m (record mid { state = s; stamp = mid.stamp + 1 }) answer.Went
  denies mid s place failure i h fail kept fo e =
      let goal = seen m.atoms m.state.store place.at in
      branches m t c control.NotProvable h.calls _ _ (denied_is goal (entered_arg place h)) mid (conditional mid.stamp place failure t.barrier) s i kept (h.within, (tt, (fail.within, tt))) fo e
      (ap (λ x. going turn (world.Goal goal (m.stamp + 1) ∷ world.Commit m.stamp ∷ world.Goal x t.barrier ∷ rest_in m t.rest)) (sym fail.is)
      ∙ ap (λ d. going turn (world.Goal goal (d + 1) ∷ world.Commit d ∷ world.Goal (seen m.atoms m.state.store failure.at) t.barrier ∷ rest_in m t.rest)) (sym (ap (λ (x : Machine). x.stamp) kept.same)))

  -- and the second one
  pub goes_behind : (s : State) → Returns m Second → Calls m t c (Some (Control control.NotProvable)) → Follows (held_of m.state) (held_of s) → plain_of s ≡ resting t.rest (plain_of m.state) → Resumes (record m { waiting = Some Second }) (record m { state = s; stamp = m.stamp + 1 })
  goes_behind s back h fo e = by (enter (arg 0 args)) refl
    where
      by : (r : Checked Term) → enter (arg 0 (args_seen m.atoms m.state.store c.first.at c.count)) ≡ r → Resumes (record m { waiting = Some Second }) (record m { state = s; stamp = m.stamp + 1 })
      by (Ok g) is = seconds m t c control.NotProvable h _ _ (denied_is g is) [] s back tt fo e refl
      by (Err k) is =
          let none : untried_in m Second ≡ [] = second_is m t c control.NotProvable h ∙ ap (λ r. second_in (r >>= (λ x. Ok (two (denying x) (going turn (rest_in m t.rest)))))) is in
          absurd (let z = back.open_.some in omega (arith, z, ap length none))

-- Steps in which the running process awaits mail.
use Rattle.std.proofs.Common.{◌≡◌, ◌+◌, Some, Ok, slice_get, refl, ap, sym, subst, ◌∙◌}
use Rattle.tp_terms.specs.declared.ProcStatus.TheVariants.{AwaitsMail}
use Rattle.tp_terms.specs.declared.world.Proc.{Proc}
use Rattle.tp_meaning.specs.declared.goals.ProcessGoal.TheVariants as goal
use Rattle.tp_meaning.specs.Process.{received, takes}
use Rattle.tp_meaning.specs.World as world
use Rattle.tp_meaning.specs.World.{World, box_at, let_go, stamped, with_status}
use Rattle.tp_state.specs.declared.state.State.{State}
use Rattle.tp_state.specs.Acts.{left, mark_others}
use Rattle.tp_state.specs.Going.{Follows}
use Rattle.tp_state.specs.Plain.{Plain, world_of}
use Rattle.tp_state.specs.Stands.{PlainStands}
use Rattle.tp_state.specs.State.{plain_of, held_of}
use Rattle.tp_machine.specs.declared.machine.Machine.{Machine}
use Rattle.tp_machine.specs.declared.stepped.Stepped.TheVariants as answer
use Rattle.tp_machine.specs.declared.task.Task.{Task}
use Rattle.tp_machine.specs.declared.task.Call.{Call}
use Rattle.tp_machine.specs.Acting.{HasNoMail}
use Rattle.tp_machine.specs.Machine.{IsMachine, Steps, world_in}
use Rattle.tp_machine.proofs.Worlds.Procs.{left-stands, left-world, marked-stands, marked-world}
use Rattle.tp_machine.proofs.Step.Acting.{acts_to, first_is}
use Rattle.tp_machine.proofs.Step.First.{process_there, there, turn_in}

module _ (m : Machine) (t : Task) (c : Call) (is : IsMachine m) (h : HasNoMail m t c) where
  -- it lets go, and keeps its items
  pub awaits : (s1 s2 : State) → ((q : Proc) → slice_get m.state.procs t.process ≡ Some q → plain_of s1 ≡ left t.process q AwaitsMail (plain_of m.state)) → plain_of s2 ≡ record (plain_of s1) { procs = mark_others t.process s1.procs }
      → Follows (held_of m.state) (held_of s2) → Steps m (record m { state = s2; stamp = m.stamp + 1 }) answer.Went
  awaits s1 s2 e1 e2 fo =
      let names = m.atoms in
      let pid = t.process in
      let p = plain_of m.state in
      let q = there pid m.state.procs (process_there m pid h.calls.meets.standing h.calls.meets.running) in
      let i1 : plain_of s1 ≡ left t.process q.0 AwaitsMail (plain_of m.state) = e1 q.0 q.1 in
      let p1 = left pid q.0 AwaitsMail p in
      let i2 : plain_of s2 ≡ record p1 { procs = mark_others t.process p1.procs } = e2 ∙ ap (λ (x : Plain). record x { procs = mark_others pid x.procs }) i1 in
      let stands = marked-stands names p1 pid (left-stands names p pid q.0 AwaitsMail is.stands q.1) in
      let turn = turn_in m pid t.rest in
      let box = box_at (world_in m).boxes pid in
      acts_to m t c goal.WaitFor h.calls s2 (let_go pid (with_status pid AwaitsMail (stamped (world_in m)))) is fo (subst (PlainStands names) (sym i2) stands)
      (ap (λ (x : Plain). world_of names x (m.stamp + 1)) i2
      ∙ marked-world names p1 pid (m.stamp + 1) refl
      ∙ ap (λ (v : World). record v { processes = world.mark_others pid v.processes }) (left-world names p pid (m.stamp + 1) q.0 AwaitsMail h.calls.meets.running q.1))
      (ap (λ x. Ok (received turn (takes turn x 0 box))) (first_is m t c goal.WaitFor h.calls) ∙ ap (λ ws. Ok (received turn ws)) h.none)

-- Steps of `wait`: its condition is tried, and the process is parked where that fails.
use Rattle.std.proofs.Common.{◌≡◌, false, ◌+◌, List, [], ◌∷◌, map, length, Some, None, Ok, Err, slice_get, refl, ap, sym, subst, ◌∙◌, arith}
use Rattle.tp_terms.specs.declared.ProcStatus.TheVariants.{Parked}
use Rattle.tp_terms.specs.declared.cells.Ref.{Ref}
use Rattle.tp_terms.specs.declared.world.Proc.{Proc}
use Rattle.tp_terms.specs.Term.{Name, Term, Terms, count_of}
use Rattle.tp_terms.specs.Shown.{name_at}
use Rattle.tp_terms.proofs.Naming.Tables.{Grows-same}
use Rattle.tp_meaning.specs.declared.goals.GoalKind.TheVariants.{Process}
use Rattle.tp_meaning.specs.declared.goals.ProcessGoal.TheVariants as goal
use Rattle.tp_meaning.specs.Body.{enter}
use Rattle.tp_meaning.specs.Checks.{Checked, ◌>>=◌}
use Rattle.tp_meaning.specs.Goals.{goal_kind}
use Rattle.tp_meaning.specs.Process as meaning
use Rattle.tp_meaning.specs.Process.{await, parked, tried}
use Rattle.tp_meaning.specs.Search as search
use Rattle.tp_meaning.specs.World as world
use Rattle.tp_meaning.specs.World.{World, let_go, with_status}
use Rattle.tp_meaning.specs.Turn.{Turn, going, raised_at}
use Rattle.tp_store.specs.Contents.{Contents, IsStore, seen, args_seen}
use Rattle.tp_store.proofs.Standing.Facts.{count-seen}
use Rattle.tp_control.specs.Lists.{items_at}
use Rattle.tp_control.specs.declared.choices.Alt.TheVariants.{Second}
use Rattle.tp_control.specs.declared.frames.Item.TheVariants.{Goal, Commit, Retry}
use Rattle.tp_state.specs.declared.state.State.{State}
use Rattle.tp_state.specs.Acts.{left, mark_others, resting}
use Rattle.tp_state.specs.Going.{Follows}
use Rattle.tp_state.specs.Plain.{Plain, item_of, world_of}
use Rattle.tp_state.specs.Stands.{PlainStands}
use Rattle.tp_state.specs.State.{plain_of, held_of}
use Rattle.tp_machine.specs.declared.enter.Entered.{Entered}
use Rattle.tp_machine.specs.declared.enter.Entered.TheVariants as entered
use Rattle.tp_machine.specs.declared.errors.Cause.{Cause}
use Rattle.tp_machine.specs.declared.errors.Cause.TheVariants as cause
use Rattle.tp_machine.specs.declared.machine.Machine.{Machine}
use Rattle.tp_machine.specs.declared.stepped.Stepped.TheVariants as answer
use Rattle.tp_machine.specs.declared.task.Task.{Task}
use Rattle.tp_machine.specs.declared.task.Call.{Call}
use Rattle.tp_machine.specs.Acting.{ConditionEntered, ConditionStands}
use Rattle.tp_machine.specs.Conditions.{pushes}
use Rattle.tp_machine.specs.Enters.{Enters, HasEntered}
use Rattle.tp_machine.specs.Goes.{IsKept, MayKeep, Returns, untried_in}
use Rattle.tp_machine.specs.Machine.{IsMachine, Resumes, Steps, base_in, waiting, world_in}
use Rattle.tp_machine.specs.Meets.{Calls, IsCause, Meets}
use Rattle.tp_machine.specs.Untried.{second_in, untried_by, untried_goal, untried_named}
use Rattle.tp_machine.proofs.Enters.Entering.{refused_store}
use Rattle.tp_machine.proofs.Grows.Grown.{calls_still, entered_still, items_still, meets_still, rests, world_still}
use Rattle.tp_machine.proofs.Worlds.Items.{list_stands}
use Rattle.tp_machine.proofs.Worlds.Procs.{left-stands, left-world, marked-stands, marked-world}
use Rattle.tp_machine.proofs.Step.Acting.{act-gives, first_is, first_there}
use Rattle.tp_machine.proofs.Step.Arrives.{arrives}
use Rattle.tp_machine.proofs.Step.Clauses.{goal-untried}
use Rattle.tp_machine.proofs.Step.First.{items-there, process_there, rest_in, there, turn_in}
use Rattle.tp_machine.proofs.Step.Newest.{newest_below}
use Rattle.tp_machine.proofs.Step.Parts.{resumes, to_branch}
use Rattle.tp_machine.proofs.Step.Refuse.{refused}

module _ (m : Machine) (t : Task) (c : Call) (h : Calls m t c (Some (Process goal.Wait))) where
  abbrev f : Name
  f = name_at m.atoms c.name.at

  abbrev args : Terms
  args = args_seen m.atoms m.state.store c.first.at c.count

  abbrev turn : Turn
  turn = turn_in m t.process t.rest

  abbrev condition : Term
  condition = seen m.atoms m.state.store c.first.at

  -- what it gives, by what its argument is entered as
  wait-by : (w : Turn) (r : Checked Term) → enter (seen m.atoms m.state.store c.first.at) ≡ r → meaning.act w goal.Wait (name_at m.atoms c.name.at) (args_seen m.atoms m.state.store c.first.at c.count) ≡ (r >>= (λ g. Ok (await w g)))
  wait-by w r e = ap (λ x. enter x >>= (λ g. Ok (await w g))) (first_is m t c goal.Wait h) ∙ ap (λ r. r >>= (λ g. Ok (await w g))) e

  -- it is refused
  pub wait_refused : (why : Cause) (new : Contents) → Enters m.atoms m.state.store c.first (entered.Refused why) new → IsCause m t why
  wait_refused why new r = refused m t c (Process goal.Wait) c.first why new h (first_there m t c goal.Wait h) (λ e x w b. wait-by w (Err e) x) r

  -- and where it isn't, its argument was entered
  pub condition_entered : (s : State) (r : Entered) → IsMachine m → s ≡ record m.state { store = s.store } → IsStore s.store → Enters m.atoms m.state.store c.first r s.store → ConditionEntered (record m { state = s }) t c r
  condition_entered s (entered.Goal place) is e store r =
      subst (λ (q : State). ConditionStands (record m { state = q }) t c place) (sym e) (record {
        calls = calls_still m s.store is r.adds r.keeps store r.named t c (Some (Process goal.Wait)) h;
        is = entered_still m s.store c.first place is store (first_there m t c goal.Wait h) r;
        within = r.within;
      })
  condition_entered s (entered.Refused why) is e store r =
      let same : s ≡ m.state = e ∙ ap (λ d. record m.state { store = d }) (refused_store m.atoms m.state.store s.store c.first why r) in
      subst (λ (q : State). Meets (record m { state = q }) t × IsCause (record m { state = q }) t why) (sym same) (h.meets, wait_refused why s.store r)

  kind : goal_kind (name_at m.atoms c.name.at) (count_of (args_seen m.atoms m.state.store c.first.at c.count)) ≡ Some (Process goal.Wait)
  kind = ap (goal_kind f) (count-seen m.atoms m.state.store c.first.at c.count) ∙ h.kind

  items-are : world.items_at (world_in m).processes t.process ≡ world.Goal (seen m.atoms m.state.store t.goal.at) t.barrier ∷ rest_in m t.rest
  items-are =
      items-there m.atoms (plain_of m.state) t.process (process_there m t.process h.meets.standing h.meets.running) h.meets.running
      ∙ ap (map (item_of m.atoms m.state.store)) h.meets.list

  -- what is next is its second world
  second_is : untried_in m Second ≡ second_in (meaning.act (turn_in m t.process t.rest) goal.Wait (name_at m.atoms c.name.at) (args_seen m.atoms m.state.store c.first.at c.count))
  second_is =
      ap (λ o. elim o as (λ _. List World) [ None ↦ [] | Some p ↦ untried_by (base_in m) (world_in m) p (world.items_at (world_in m).processes p) Second ]) h.meets.running
      ∙ ap (λ is. untried_by (base_in m) (world_in m) t.process is Second) items-are
      ∙ ap (λ g. untried_goal (base_in m) turn t.barrier g Second) h.call.is
      ∙ goal-untried (base_in m) turn t.barrier f args Second
      ∙ ap (λ o. untried_named (base_in m) turn t.barrier f args o Second) kind

  second_by : (r : Checked Term) → enter (seen m.atoms m.state.store c.first.at) ≡ r → untried_in m Second ≡ second_in (r >>= (λ g. Ok (await (turn_in m t.process t.rest) g)))
  second_by r e = second_is ∙ ap second_in (wait-by turn r e)

  -- a choice of it may be kept
  pub may_wait : (g : Term) → IsMachine m → enter (seen m.atoms m.state.store c.first.at) ≡ Ok g → MayKeep m Second
  may_wait g i e = record {
    stands = i.stands;
    goes_on = waiting (record {
      process = t.process;
      running = h.meets.running;
      goal = t.goal;
      barrier = t.barrier;
      rest = items_at m.state.frames t.rest;
      list = h.meets.list;
      name = f;
      args = args;
      is = h.call.is;
      kind = kind;
    });
    safe = i.safe;
    choices = i.choices;
    below = newest_below m i;
    left = omega (arith, ap length (second_by (Ok g) e));
  }

  -- the condition is tried, and a choice was kept
  pub tries : (mid : Machine) (s : State) (place : Ref) → IsMachine m → ConditionStands m t c place → IsKept m Second mid → Follows (held_of mid.state) (held_of s) → plain_of s ≡ pushes (Goal place (mid.stamp + 1) ∷ Commit mid.stamp ∷ []) (resting t.rest (plain_of mid.state)) → Steps m (record mid { state = s; stamp = mid.stamp + 1 }) answer.Went
  tries mid s place i stands kept fo e = subst (λ (x : Machine). Steps m (record x { state = s; stamp = x.stamp + 1 }) answer.Went) (sym kept.same) at
    where
      state_same : mid.state ≡ m.state
      state_same = ap (λ (x : Machine). x.state) kept.same

      plain_is : plain_of s ≡ pushes (Goal place (m.stamp + 1) ∷ Commit m.stamp ∷ []) (resting t.rest (plain_of m.state))
      plain_is =
          e ∙ ap (λ d. pushes (Goal place (d + 1) ∷ Commit d ∷ []) (resting t.rest (plain_of mid.state))) (ap (λ (x : Machine). x.stamp) kept.same)
          ∙ ap (λ (x : State). pushes (Goal place (m.stamp + 1) ∷ Commit m.stamp ∷ []) (resting t.rest (plain_of x))) state_same

      at : Steps m (record m { state = s; stamp = m.stamp + 1; choices = mid.choices }) answer.Went
      at =
          let a = arrives m t (Goal place (m.stamp + 1) ∷ Commit m.stamp ∷ []) s i h.meets (stands.within, (tt, tt)) (subst (λ (x : State). Follows (held_of x) (held_of s)) state_same fo) plain_is in
          let g = a.goes in
          let shown = seen m.atoms m.state.store place.at in
          to_branch m (record m { choices = mid.choices }) (record m { state = s; stamp = m.stamp + 1; choices = mid.choices }) Second i (subst (IsKept m Second) kept.same kept)
          (record { same = refl; names = g.names; table = g.table; stands = g.stands; follows = g.follows; stamp = g.stamp })
          (act-gives m t c goal.Wait h
          ∙ ap (raised_at (world_in m) t.process) (wait-by turn (Ok shown) stands.is)
          ∙ ap (λ ws. search.Branch (tried turn shown) ws) (sym (second_by (Ok shown) stands.is))
          ∙ ap (λ v. search.Branch v (untried_in m Second)) (sym a.world))

  -- after going back it isn't refused
  pub not_refused : (why : Cause) (new : Contents) → Returns m Second → Enters m.atoms m.state.store c.first (entered.Refused why) new → ⊥
  not_refused why new back r = by why r
    where
      none : (e : Term) → enter (seen m.atoms m.state.store c.first.at) ≡ Err e → ⊥
      none e x = let z = back.open_.some in absurd (omega (arith, z, ap length (second_by (Err e) x)))

      by : (why : Cause) → Enters m.atoms m.state.store c.first (entered.Refused why) new → ⊥
      by cause.Unbound r = none _ r.is
      by (cause.NotCallable culprit) r = none _ r.1.is
      by _ r = r

  -- the process is parked
  pub parks : (s1 s2 s3 s4 : State) (place : Ref) → Returns m Second → s1 ≡ record m.state { store = s1.store } → IsStore s1.store → HasEntered m.atoms m.state.store c.first place s1.store
      → plain_of s2 ≡ pushes (Retry place ∷ []) (resting t.rest (plain_of s1)) → ((q : Proc) → slice_get s2.procs t.process ≡ Some q → plain_of s3 ≡ left t.process q (Parked false) (plain_of s2)) → plain_of s4 ≡ record (plain_of s3) { procs = mark_others t.process s3.procs }
      → Follows (held_of s1) (held_of s2) → Follows (held_of m.state) (held_of s4) → Resumes (record m { waiting = Some Second }) (record m { state = s4; stamp = m.stamp + 1 })
  parks s1 s2 s3 s4 place back e1 store r e2 e3 e4 fo follows =
      let names = m.atoms in
      let pid = t.process in
      let is = back.machine in
      let d = s1.store in
      let mid : Machine = record m { state = record m.state { store = d } } in
      let rested = rests m d is r.adds r.keeps store r.named in
      let met = meets_still m d is r.adds r.keeps store r.named t h.meets in
      let a = arrives mid t (Retry place ∷ []) s2 rested.machine met (r.within, tt) (subst (λ (x : State). Follows (held_of x) (held_of s2)) e1 fo) (e2 ∙ ap (λ (x : State). pushes (Retry place ∷ []) (resting t.rest (plain_of x))) e1) in
      let q = there pid m.state.procs (process_there m pid h.meets.standing h.meets.running) in
      let i2 : plain_of s2 ≡ pushes (Retry place ∷ []) (resting t.rest (plain_of (record m.state { store = s1.store }))) = e2 ∙ ap (λ (x : State). pushes (Retry place ∷ []) (resting t.rest (plain_of x))) e1 in
      let i3 : plain_of s3 ≡ left t.process q.0 (Parked false) (plain_of s2) = e3 q.0 (ap (λ (x : Plain). slice_get x.procs pid) i2 ∙ q.1) in
      let p3 = left pid q.0 (Parked false) (plain_of s2) in
      let there2 : slice_get (plain_of s2).procs t.process ≡ Some q.0 = ap (λ (x : Plain). slice_get x.procs pid) i2 ∙ q.1 in
      let running2 : (plain_of s2).running ≡ Some t.process = ap (λ (x : Plain). x.running) i2 ∙ h.meets.running in
      let i4 : plain_of s4 ≡ record p3 { procs = mark_others t.process p3.procs } = e4 ∙ ap (λ (x : Plain). record x { procs = mark_others pid x.procs }) i3 in
      let st4 = marked-stands names p3 pid (left-stands names (plain_of s2) pid q.0 (Parked false) a.stands there2) in
      let g = seen names d place.at in
      let rest = items_still m d is r.adds r.keeps store r.named (items_at m.state.frames t.rest) (list_stands (length m.state.store.cells) m.state.frames t.rest is.stands.lists h.meets.rest) in
      resumes m m (record m { state = s4; stamp = m.stamp + 1 }) Second [] back (record { same = refl; fits = is.choices; kept = refl })
      (record { same = refl; names = Grows-same names; table = is.program.table; stands = subst (PlainStands names) (sym i4) st4; follows = follows; stamp = refl })
      (second_by (Ok g) r.is
      ∙ ap (λ v. v ∷ []) (sym (
      ap (λ (x : Plain). world_of names x (m.stamp + 1)) i4
      ∙ marked-world names p3 pid (m.stamp + 1) refl
      ∙ ap (λ (v : World). record v { processes = world.mark_others pid v.processes }) (left-world names (plain_of s2) pid (m.stamp + 1) q.0 (Parked false) running2 there2)
      ∙ ap (λ (v : World). let_go pid (with_status pid (Parked false) v)) a.world
      ∙ ap (λ (v : World). let_go pid (with_status pid (Parked false) (going (record { world = v; process = pid; rest = rest_in mid t.rest }) (world.Retry g ∷ rest_in mid t.rest)))) (world_still m d is r.adds r.keeps store r.named)
      ∙ ap (λ l. let_go pid (with_status pid (Parked false) (going turn (world.Retry g ∷ l)))) rest)))

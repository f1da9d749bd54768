-- Steps of control goals.
use Rattle.std.proofs.Common.{◌≡◌, ℕ, zero, suc, ◌+◌, ◌<◌, ◌≤◌, List, [], ◌∷◌, map, take, length, Some, refl, ap, sym, subst, ◌∙◌, arith}
use Rattle.tp_terms.specs.declared.cells.Ref.{Ref}
use Rattle.tp_terms.specs.Term.{Name}
use Rattle.tp_terms.specs.Shown.{name_at}
use Rattle.tp_terms.proofs.Naming.Tables.{Grows-same}
use Rattle.tp_meaning.specs.Control.{arg, if_then}
use Rattle.tp_meaning.specs.declared.goals.GoalKind.TheVariants.{Control}
use Rattle.tp_meaning.specs.declared.goals.ControlGoal.TheVariants as control
use Rattle.tp_meaning.specs.World as world
use Rattle.tp_meaning.specs.World.{with_items, stamped}
use Rattle.tp_meaning.specs.Turn.{going, one}
use Rattle.tp_meaning.specs.Search as search
use Rattle.tp_meaning.specs.Search.{Dead}
use Rattle.tp_meaning.specs.declared.DeadCause.TheVariants.{Failed}
use Rattle.tp_meaning.specs.Machine as machine
use Rattle.tp_meaning.specs.Machine.{cut_from}
use Rattle.tp_control.specs.declared.choices.Choice.{Choice}
use Rattle.tp_meaning.proofs.OwnGoals.Counts.{fewest-fits}
use Rattle.tp_store.specs.Contents.{Contents, seen, args_seen}
use Rattle.tp_control.specs.declared.frames.Item.{Item}
use Rattle.tp_control.specs.declared.frames.Item.TheVariants.{Goal}
use Rattle.tp_machine.specs.declared.machine.Machine.{Machine}
use Rattle.tp_state.specs.declared.state.State.{State}
use Rattle.tp_machine.specs.declared.stepped.Stepped.TheVariants as answer
use Rattle.tp_machine.specs.declared.task.Task.{Task}
use Rattle.tp_machine.specs.declared.task.Call.{Call}
use Rattle.tp_state.specs.Going as going
use Rattle.tp_state.specs.State.{plain_of, held_of}
use Rattle.tp_control.specs.Lists.{items_at}
use Rattle.tp_state.specs.Plain.{Plain, item_of, world_of}
use Rattle.tp_state.specs.Acts.{pushed, resting}
use Rattle.tp_machine.specs.Conditions.{conditional, pushes}
use Rattle.tp_machine.specs.Machine.{IsMachine, Steps, base_in, choices_in, choices_of, world_in}
use Rattle.tp_machine.specs.Meets.{Calls, IsCall}
use Rattle.tp_machine.specs.Goes.{Goes}
use Rattle.tp_machine.proofs.Worlds.Items.{OtherItems, other-stands, other-world, other-rest, other-push, pushed-items}
use Rattle.tp_machine.proofs.Step.First.{call-gives, rest_in, turn_in}
use Rattle.tp_machine.proofs.Step.Arrives.{arrives}
use Rattle.tp_machine.proofs.Step.Parts.{to_one, to_none, to_commit}

-- the machine goes on with other items
pub other-goes : (m : Machine) (s : State) (n : ℕ) → IsMachine m → OtherItems m.atoms (plain_of m.state) (plain_of s) → going.Follows (held_of m.state) (held_of s) → n ≡ m.stamp + 1 → Goes m (record m { state = s; stamp = n })
other-goes m s n is o f e = record {
  same = refl;
  names = Grows-same m.atoms;
  table = is.program.table;
  stands = other-stands m.atoms (plain_of m.state) (plain_of s) is.stands o;
  follows = f;
  stamp = e;
}

-- to the world in which the running process has them
pub other-to : (m : Machine) (s : State) (n r : ℕ) (items : List Item) → IsMachine m → OtherItems m.atoms (plain_of m.state) (plain_of s) → n ≡ m.stamp + 1 → m.state.running ≡ Some r → items_at (plain_of s).frames (plain_of s).items ≡ items → world_in (record m { state = s; stamp = n }) ≡ with_items r (map (item_of m.atoms m.state.store) items) (stamped (world_in m))
other-to m s n r items is o e run ei =
    ap (world_of m.atoms (plain_of s)) e
    ∙ other-world m.atoms (plain_of m.state) (plain_of s) r m.stamp is.stands o run
    ∙ ap (λ (c : Contents). with_items r (map (item_of m.atoms c) (items_at (plain_of s).frames (plain_of s).items)) (stamped (world_in m))) (ap (λ (q : Plain). q.store) o.is)
    ∙ ap (λ l. with_items r (map (item_of m.atoms m.state.store) l) (stamped (world_in m))) ei

-- an argument of a goal
pub arg-is : (names : List Name) (c : Contents) (a n k : ℕ) → k < n → arg k (args_seen names c a n) ≡ seen names c (a + k)
arg-is names c a zero k lt = absurd (omega arith)
arg-is names c a (suc n) zero lt = ap (seen names c) (let z : a ≡ a + 0 = omega arith in z)
arg-is names c a (suc n) (suc k) lt = arg-is names c (suc a) n k (omega arith) ∙ ap (seen names c) (let z : suc a + k ≡ a + suc k = omega arith in z)

module _ (m : Machine) (t : Task) (c : Call) (is : IsMachine m) where
  -- `true`
  pub succeeds : (s : State) → Calls m t c (Some (Control control.True)) → going.Follows (held_of m.state) (held_of s) → plain_of s ≡ resting t.rest (plain_of m.state) → Steps m (record m { state = s; stamp = m.stamp + 1 }) answer.Went
  succeeds s h f e =
      let o = subst (OtherItems m.atoms (plain_of m.state)) (sym e) (other-rest m.atoms (plain_of m.state) t.rest h.meets.rest) in
      to_one m (record m { state = s; stamp = m.stamp + 1 }) is (other-goes m s (m.stamp + 1) is o f refl)
      (call-gives m t c (Some (Control control.True)) h
      ∙ ap one (sym (other-to m s (m.stamp + 1) t.process (items_at m.state.frames t.rest) is o refl h.meets.running (ap (λ (q : Plain). items_at q.frames q.items) e))))

  -- `fail`
  pub fails : Calls m t c (Some (Control control.Fail)) → Steps m m (answer.Dead Failed)
  fails h = to_none m (answer.Dead Failed) (machine.Dead Failed) (Dead Failed) is refl tt (call-gives m t c (Some (Control control.Fail)) h) refl

  -- the arguments of a conjunction stand
  pub two : Calls m t c (Some (Control control.Conjunction)) → 2 ≤ c.count
  two h = fewest-fits (name_at m.atoms c.name.at) c.count (Control control.Conjunction) h.kind

  -- `,`
  pub joins : (s s' : State) (second : Ref) → Calls m t c (Some (Control control.Conjunction)) → second.at ≡ c.first.at + 1 → going.Follows (held_of m.state) (held_of s') → plain_of s ≡ pushed (Goal second t.barrier) (resting t.rest (plain_of m.state)) → plain_of s' ≡ pushed (Goal c.first t.barrier) (plain_of s) → Steps m (record m { state = s'; stamp = m.stamp + 1 }) answer.Went
  joins s s' second h es f e e' =
      let p = plain_of m.state in
      let q = resting t.rest p in
      let n = length m.state.store.cells in
      let within = h.call.within in
      let least = two h in
      let o1 = other-rest m.atoms p t.rest h.meets.rest in
      let o2 = other-push m.atoms p q (Goal second t.barrier) is.stands o1 (let z : second.at < n = omega (arith, es) in z) in
      let o3 = other-push m.atoms p (pushed (Goal second t.barrier) q) (Goal c.first t.barrier) is.stands o2 (let z : c.first.at < n = omega arith in z) in
      let e3 : plain_of s' ≡ pushed (Goal c.first t.barrier) (pushed (Goal second t.barrier) q) = e' ∙ ap (pushed (Goal c.first t.barrier)) e in
      let o = subst (OtherItems m.atoms p) (sym e3) o3 in
      let items = Goal c.first t.barrier ∷ Goal second t.barrier ∷ items_at m.state.frames t.rest in
      let listed : items_at (plain_of s').frames (plain_of s').items ≡ items =
      ap (λ (x : Plain). items_at x.frames x.items) e3
      ∙ pushed-items (Goal c.first t.barrier) (pushed (Goal second t.barrier) q)
      ∙ ap (λ l. Goal c.first t.barrier ∷ l) (pushed-items (Goal second t.barrier) q) in
      let ts = args_seen m.atoms m.state.store c.first.at c.count in
      let first_is : arg 0 ts ≡ seen m.atoms m.state.store c.first.at = arg-is m.atoms m.state.store c.first.at c.count 0 (omega arith) ∙ ap (seen m.atoms m.state.store) (let z : c.first.at + 0 ≡ c.first.at = omega arith in z) in
      let second_is : arg 1 ts ≡ seen m.atoms m.state.store second.at = arg-is m.atoms m.state.store c.first.at c.count 1 (omega arith) ∙ ap (seen m.atoms m.state.store) (sym es) in
      to_one m (record m { state = s'; stamp = m.stamp + 1 }) is (other-goes m s' (m.stamp + 1) is o f refl)
      (call-gives m t c (Some (Control control.Conjunction)) h
      ∙ ap (λ x. one (going (turn_in m t.process t.rest) (world.Goal x t.barrier ∷ world.Goal (arg 1 ts) t.barrier ∷ rest_in m t.rest))) first_is
      ∙ ap (λ x. one (going (turn_in m t.process t.rest) (world.Goal (seen m.atoms m.state.store c.first.at) t.barrier ∷ world.Goal x t.barrier ∷ rest_in m t.rest))) second_is
      ∙ ap one (sym (other-to m s' (m.stamp + 1) t.process items is o refl h.meets.running listed)))

  -- `!`
  pub cuts : (s : State) (cs : List Choice) (n : ℕ) → Calls m t c (Some (Control control.Cut)) → going.Follows (held_of m.state) (held_of s) → plain_of s ≡ resting t.rest (plain_of m.state)
      → choices_of m.atoms (base_in m) (held_of m.state) cs ≡ cut_from t.barrier (choices_in m) → cs ≡ take n m.choices → Steps m (record m { state = s; choices = cs; stamp = m.stamp + 1 }) answer.Went
  cuts s cs n h f e cut first =
      let a = arrives m t [] s is h.meets tt f e in
      to_commit m (record m { state = s; choices = cs; stamp = m.stamp + 1 }) t.barrier n is refl refl a.stands f cut first
      (call-gives m t c (Some (Control control.Cut)) h ∙ ap (search.Commit t.barrier) (sym a.world))

  -- the two arguments of a goal that has two at least
  module _ (least : 2 ≤ c.count) (call : IsCall m.atoms m.state.store t.goal c) where
    first-arg : arg 0 (args_seen m.atoms m.state.store c.first.at c.count) ≡ seen m.atoms m.state.store c.first.at
    first-arg = arg-is m.atoms m.state.store c.first.at c.count 0 (omega arith) ∙ ap (seen m.atoms m.state.store) (let z : c.first.at + 0 ≡ c.first.at = omega arith in z)

    second-arg : (second : Ref) → second.at ≡ c.first.at + 1 → arg 1 (args_seen m.atoms m.state.store c.first.at c.count) ≡ seen m.atoms m.state.store second.at
    second-arg second es = arg-is m.atoms m.state.store c.first.at c.count 1 (omega arith) ∙ ap (seen m.atoms m.state.store) (sym es)

    first-there : c.first.at < length m.state.store.cells
    first-there = let w = call.within in omega arith

    second-there : (second : Ref) → second.at ≡ c.first.at + 1 → second.at < length m.state.store.cells
    second-there second es = let w = call.within in omega (arith, es)

  -- the arguments of a condition stand
  pub two_of_condition : Calls m t c (Some (Control control.IfThen)) → 2 ≤ c.count
  two_of_condition h = fewest-fits (name_at m.atoms c.name.at) c.count (Control control.IfThen) h.kind

  -- `->`
  pub conditions : (s : State) (second : Ref) → Calls m t c (Some (Control control.IfThen)) → second.at ≡ c.first.at + 1 → going.Follows (held_of m.state) (held_of s)
      → plain_of s ≡ pushes (conditional m.stamp c.first second t.barrier) (resting t.rest (plain_of m.state)) → Steps m (record m { state = s; stamp = m.stamp + 1 }) answer.Went
  conditions s second h es f e =
      let least = two_of_condition h in
      let a = arrives m t (conditional m.stamp c.first second t.barrier) s is h.meets (first-there least h.call, (tt, (second-there least h.call second es, tt))) f e in
      let turn = turn_in m t.process t.rest in
      to_one m (record m { state = s; stamp = m.stamp + 1 }) is a.goes
      (call-gives m t c (Some (Control control.IfThen)) h
      ∙ ap (λ x. one (going turn (if_then turn t.barrier x (arg 1 (args_seen m.atoms m.state.store c.first.at c.count))))) (first-arg least h.call)
      ∙ ap (λ x. one (going turn (if_then turn t.barrier (seen m.atoms m.state.store c.first.at) x))) (second-arg least h.call second es)
      ∙ ap one (sym a.world))

-- Steps of control goals that give two worlds, and on with the second one.
use Rattle.std.proofs.Common.{◌≡◌, ◌⊎◌, inl, inr, ℕ, true, ◌+◌, List, [], ◌∷◌, ◌++◌, map, length, Some, None, Ok, refl, ap, sym, subst, ◌∙◌, arith}
use Rattle.std.specs.List.{AllByRecursion}
use Rattle.tp_terms.specs.declared.cells.Ref.{Ref}
use Rattle.tp_terms.specs.Term.{Name, Terms, term_of, count_of}
use Rattle.tp_terms.specs.Shown.{name_at}
use Rattle.tp_meaning.specs.declared.goals.GoalKind.{GoalKind}
use Rattle.tp_meaning.specs.declared.goals.GoalKind.TheVariants.{Control, Process}
use Rattle.tp_meaning.specs.declared.goals.ProcessGoal.{ProcessGoal}
use Rattle.tp_meaning.specs.declared.goals.ProcessGoal.TheVariants.{Wait}
use Rattle.tp_meaning.specs.declared.goals.ControlGoal.{ControlGoal}
use Rattle.tp_meaning.specs.declared.goals.ControlGoal.TheVariants as control
use Rattle.tp_meaning.specs.Goals.{goal_kind}
use Rattle.tp_meaning.specs.Control as meaning
use Rattle.tp_meaning.specs.World as world
use Rattle.tp_meaning.specs.World.{World}
use Rattle.tp_meaning.specs.Turn.{Turn, going, two, raised_at}
use Rattle.tp_meaning.specs.Search as search
use Rattle.tp_store.specs.Contents.{seen, args_seen}
use Rattle.tp_store.proofs.Standing.Facts.{count-seen}
use Rattle.tp_control.specs.declared.choices.Alt.TheVariants.{Second}
use Rattle.tp_control.specs.declared.frames.Item.{Item}
use Rattle.tp_control.specs.declared.frames.Item.TheVariants.{Goal, Retry}
use Rattle.tp_control.specs.Lists.{items_at}
use Rattle.tp_state.specs.declared.state.State.{State}
use Rattle.tp_state.specs.Going.{Follows}
use Rattle.tp_state.specs.State.{plain_of, held_of}
use Rattle.tp_state.specs.Plain.{item_of}
use Rattle.tp_state.specs.Stands.{ItemStands}
use Rattle.tp_state.specs.Acts.{resting}
use Rattle.tp_machine.specs.declared.machine.Machine.{Machine}
use Rattle.tp_machine.specs.declared.stepped.Stepped.TheVariants as answer
use Rattle.tp_machine.specs.declared.task.Task.{Task}
use Rattle.tp_machine.specs.declared.task.Call.{Call}
use Rattle.tp_machine.specs.Conditions.{pushes}
use Rattle.tp_machine.specs.Untried.{untried_by, untried_goal, untried_named, second_in}
use Rattle.tp_machine.specs.Machine.{IsMachine, IsAgain, IsSecond, Steps, Resumes, again, choosing, waiting, base_in, has_second, world_in}
use Rattle.tp_machine.specs.Meets.{Calls, HasCurrent}
use Rattle.tp_machine.specs.Chooses.{Chooses, ChoosesBy, by_control, by_wait}
use Rattle.tp_machine.specs.Goes.{Goes, IsKept, MayKeep, Returns, untried_in}
use Rattle.tp_machine.proofs.Step.First.{call-gives, items-there, process_there, rest_in, standing, turn_in}
use Rattle.tp_machine.proofs.Step.Newest.{newest_below}
use Rattle.tp_machine.proofs.Step.Arrives.{arrives}
use Rattle.tp_machine.proofs.Step.Parts.{to_branch, resumes}
use Rattle.tp_machine.proofs.Step.Clauses.{goal-untried}
use Rattle.tp_machine.proofs.Step.Back.{args-same, name-same}

module _ (m : Machine) (t : Task) (c : Call) (k : ControlGoal) (h : Calls m t c (Some (Control k))) where
  abbrev f : Name
  f = name_at m.atoms c.name.at

  abbrev args : Terms
  args = args_seen m.atoms m.state.store c.first.at c.count

  abbrev turn : Turn
  turn = turn_in m t.process t.rest

  kind : goal_kind (name_at m.atoms c.name.at) (count_of (args_seen m.atoms m.state.store c.first.at c.count)) ≡ Some (Control k)
  kind = ap (goal_kind f) (count-seen m.atoms m.state.store c.first.at c.count) ∙ h.kind

  items-are : world.items_at (world_in m).processes t.process ≡ world.Goal (seen m.atoms m.state.store t.goal.at) t.barrier ∷ rest_in m t.rest
  items-are =
      items-there m.atoms (plain_of m.state) t.process (process_there m t.process h.meets.standing h.meets.running) h.meets.running
      ∙ ap (map (item_of m.atoms m.state.store)) h.meets.list

  -- what is next is the second world that the goal gives
  pub second_is : untried_in m Second ≡ second_in (meaning.control (turn_in m t.process t.rest) t.barrier k (name_at m.atoms c.name.at) (args_seen m.atoms m.state.store c.first.at c.count))
  second_is =
      ap (λ o. elim o as (λ _. List World) [ None ↦ [] | Some p ↦ untried_by (base_in m) (world_in m) p (world.items_at (world_in m).processes p) Second ]) h.meets.running
      ∙ ap (λ is. untried_by (base_in m) (world_in m) t.process is Second) items-are
      ∙ ap (λ g. untried_goal (base_in m) turn t.barrier g Second) h.call.is
      ∙ goal-untried (base_in m) turn t.barrier f args Second
      ∙ ap (λ o. untried_named (base_in m) turn t.barrier f args o Second) kind

  module _ (v w : World) (is : meaning.control (turn_in m t.process t.rest) t.barrier k (name_at m.atoms c.name.at) (args_seen m.atoms m.state.store c.first.at c.count) ≡ Ok (two v w)) where
    left-is : untried_in m Second ≡ w ∷ []
    left-is = second_is ∙ ap second_in is

    -- a choice of the second world may be kept
    pub may_choose : IsMachine m → has_second k ≡ true → MayKeep m Second
    may_choose i s = record {
      stands = i.stands;
      goes_on = choosing (record {
        process = t.process;
        running = h.meets.running;
        goal = t.goal;
        barrier = t.barrier;
        rest = items_at m.state.frames t.rest;
        list = h.meets.list;
        name = f;
        args = args;
        is = h.call.is;
        control = k;
        kind = kind;
        two = s;
      });
      safe = i.safe;
      choices = i.choices;
      below = newest_below m i;
      left = omega (arith, ap length left-is);
    }

    -- to the first world, after that choice was kept
    pub branches_to : (mid : Machine) (s : State) → IsMachine m → IsKept m Second mid → Goes m (record m { state = s; stamp = m.stamp + 1 }) → v ≡ world_in (record m { state = s; stamp = m.stamp + 1 }) → Steps m (record mid { state = s; stamp = mid.stamp + 1 }) answer.Went
    branches_to mid s i kept g first = subst (λ (x : Machine). Steps m (record x { state = s; stamp = x.stamp + 1 }) answer.Went) (sym kept.same) at
      where
        at : Steps m (record m { state = s; stamp = m.stamp + 1; choices = mid.choices }) answer.Went
        at =
            to_branch m (record m { choices = mid.choices }) (record m { state = s; stamp = m.stamp + 1; choices = mid.choices }) Second i (subst (IsKept m Second) kept.same kept)
            (record { same = refl; names = g.names; table = g.table; stands = g.stands; follows = g.follows; stamp = g.stamp })
            (call-gives m t c (Some (Control k)) h ∙ ap (raised_at (world_in m) t.process) is
            ∙ ap (λ ws. search.Branch v ws) (sym left-is) ∙ ap (λ x. search.Branch x (untried_in m Second)) first)

    -- where it has other items in front of the rest
    pub branches : (mid : Machine) (items : List Item) (s : State) → IsMachine m → IsKept m Second mid → AllByRecursion (ItemStands (length m.state.store.cells)) items → Follows (held_of mid.state) (held_of s) → plain_of s ≡ pushes items (resting t.rest (plain_of mid.state))
        → v ≡ going (turn_in m t.process t.rest) (map (item_of m.atoms m.state.store) items ++ rest_in m t.rest) → Steps m (record mid { state = s; stamp = mid.stamp + 1 }) answer.Went
    branches mid items s i kept stand fo e first =
        let same : mid.state ≡ m.state = ap (λ (x : Machine). x.state) kept.same in
        let a = arrives m t items s i h.meets stand (subst (λ (x : State). Follows (held_of x) (held_of s)) same fo) (e ∙ ap (λ (x : State). pushes items (resting t.rest (plain_of x))) same) in
        branches_to mid s i kept a.goes (first ∙ sym a.world)

    -- on with the second world
    pub seconds_to : (s : State) → Returns m Second → Goes m (record m { state = s; stamp = m.stamp + 1 }) → w ≡ world_in (record m { state = s; stamp = m.stamp + 1 }) → Resumes (record m { waiting = Some Second }) (record m { state = s; stamp = m.stamp + 1 })
    seconds_to s back g last =
        resumes m m (record m { state = s; stamp = m.stamp + 1 }) Second [] back (record { same = refl; fits = back.machine.choices; kept = refl }) g
        (left-is ∙ ap (λ x. x ∷ []) last)

    pub seconds : (items : List Item) (s : State) → Returns m Second → AllByRecursion (ItemStands (length m.state.store.cells)) items → Follows (held_of m.state) (held_of s) → plain_of s ≡ pushes items (resting t.rest (plain_of m.state))
        → w ≡ going (turn_in m t.process t.rest) (map (item_of m.atoms m.state.store) items ++ rest_in m t.rest) → Resumes (record m { waiting = Some Second }) (record m { state = s; stamp = m.stamp + 1 })
    seconds items s back stand fo e last =
        let a = arrives m t items s back.machine h.meets stand fo e in
        seconds_to s back a.goes (last ∙ sym a.world)

-- ---- after going back

-- the goal that the running process stands at is the one that gave two worlds
pub chooses : (m : Machine) (t : Task) (c : Call) → Returns m Second → HasCurrent m t c → ((k : ControlGoal) × Chooses m t c k) ⊎ Calls m t c (Some (Process Wait))
chooses m t c back at = by back.goes_on
  where
    first : (a b : Ref) (x y : ℕ) (xs ys : List Item) → ◌≡◌ {A = List Item} (Goal a x ∷ xs) (Goal b y ∷ ys) → a ≡ b
    first a b x y xs ys e = cc

    no-retry : (a b : Ref) (y : ℕ) (xs ys : List Item) → ◌≡◌ {A = List Item} (Retry a ∷ xs) (Goal b y ∷ ys) → ((k : ControlGoal) × Chooses m t c k) ⊎ Calls m t c (Some (Process Wait))
    no-retry a b y xs ys e = absurd (cc)

    calls : (goal : Ref) (barrier : ℕ) (rest : List Item) (name : Name) (args : Terms) (k : GoalKind) → items_at m.state.frames m.state.items ≡ Goal goal barrier ∷ rest → seen m.atoms m.state.store goal.at ≡ term_of name args → goal_kind name (count_of args) ≡ Some k → Calls m t c (Some k)
    calls goal barrier rest name args k list is kind =
        let goal-same : goal ≡ t.goal = first goal t.goal barrier t.barrier rest (items_at m.state.frames t.rest) (sym list ∙ at.list) in
        let f' = name_at m.atoms c.name.at in
        let ts = args_seen m.atoms m.state.store c.first.at c.count in
        let same : term_of name args ≡ term_of f' ts = sym is ∙ ap (λ (r : Ref). seen m.atoms m.state.store r.at) goal-same ∙ at.call.is in
        let named = name-same name f' args ts same in
        let counted : count_of args ≡ c.count = ap count_of (args-same name f' args ts same) ∙ count-seen m.atoms m.state.store c.first.at c.count in
        record {
          meets = record { standing = standing m back.machine; running = at.running; few = back.few; list = at.list; stands = at.goal; rest = at.rest };
          call = at.call;
          kind = ap (λ g. goal_kind g c.count) (sym named) ∙ ap (goal_kind name) (sym counted) ∙ kind;
        }

    by : IsSecond m.atoms (plain_of m.state) → ((k : ControlGoal) × Chooses m t c k) ⊎ Calls m t c (Some (Process Wait))
    by (again a) = no-retry a.goal t.goal t.barrier a.rest (items_at m.state.frames t.rest) (sym a.list ∙ at.list)
    by (choosing a) = inl (a.control, record { two = a.two; calls = calls a.goal a.barrier a.rest a.name a.args (Control a.control) a.list a.is a.kind })
    by (waiting a) = inr (calls a.goal a.barrier a.rest a.name a.args (Process Wait) a.list a.is a.kind)

-- by the kind that the table of goals has
pub control_of : (m : Machine) (t : Task) (c : Call) (k : GoalKind) (g : ControlGoal) → k ≡ Control g → ChoosesBy m t c k → Chooses m t c g
control_of m t c k g e (by_control h is x) = subst (Chooses m t c) (let z : Control h ≡ Control g = sym is ∙ e in cc) x
control_of m t c k g e (by_wait is x) = absurd (let z : Process Wait ≡ Control g = sym is ∙ e in cc)

pub wait_of : (m : Machine) (t : Task) (c : Call) (k : GoalKind) (g : ProcessGoal) → k ≡ Process g → ChoosesBy m t c k → Calls m t c (Some (Process Wait))
wait_of m t c k g e (by_control h is x) = absurd (let z : Control h ≡ Process g = sym is ∙ e in cc)
wait_of m t c k g e (by_wait is x) = x

pub neither : (m : Machine) (t : Task) (c : Call) (k : GoalKind) → ((g : ControlGoal) → k ≡ Control g → ⊥) → ((g : ProcessGoal) → k ≡ Process g → ⊥) → ChoosesBy m t c k → ⊥
neither m t c k x y (by_control h is z) = x h is
neither m t c k x y (by_wait is z) = y Wait is

-- where it stands at no goal with a name, it waits for a condition
pub waits : (m : Machine) (r : ℕ) → Returns m Second → m.state.running ≡ Some r → ((g : Ref) (b : ℕ) (rest : List Item) (f : Name) (ts : Terms) → items_at m.state.frames m.state.items ≡ Goal g b ∷ rest → seen m.atoms m.state.store g.at ≡ term_of f ts → (p : ℕ) → m.state.running ≡ Some p → ⊥) → IsAgain (plain_of m.state)
waits m r back run none = by back.goes_on
  where
    by : IsSecond m.atoms (plain_of m.state) → IsAgain (plain_of m.state)
    by (again a) = a
    by (choosing a) = absurd (none a.goal a.barrier a.rest a.name a.args a.list a.is r run)
    by (waiting a) = absurd (none a.goal a.barrier a.rest a.name a.args a.list a.is r run)

-- no other control goal gives two worlds
pub seconds_only : (k : ControlGoal) → has_second k ≡ true → (k ≡ control.Disjunction → ⊥) → (k ≡ control.NotProvable → ⊥) → (k ≡ control.Repeat → ⊥) → (k ≡ control.Between → ⊥) → ⊥
seconds_only control.Disjunction e x y z b = x refl
seconds_only control.NotProvable e x y z b = y refl
seconds_only control.Repeat e x y z b = z refl
seconds_only control.True e x y z b = cc
seconds_only control.Fail e x y z b = cc
seconds_only control.Conjunction e x y z b = cc
seconds_only control.Cut e x y z b = cc
seconds_only control.IfThen e x y z b = cc
seconds_only control.Call e x y z b = cc
seconds_only control.Once e x y z b = cc
seconds_only control.Between e x y z b = b refl

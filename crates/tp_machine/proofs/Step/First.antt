-- The first item of the running process decides the step.
use Rattle.std.proofs.Common.{◌≡◌, ℕ, zero, suc, ◌<◌, List, [], ◌∷◌, map, length, Option, Some, None, slice_get, refl, ap, ◌∙◌, arith}
use Rattle.std.specs.Option.{option_map}
use Rattle.tp_terms.specs.declared.world.ItemId.{ItemId}
use Rattle.tp_terms.specs.Term.{Name, Terms, NoMore, More, term_of, count_of}
use Rattle.tp_terms.specs.Shown.{name_at}
use Rattle.tp_meaning.specs.declared.goals.GoalKind.{GoalKind}
use Rattle.tp_meaning.specs.Goals.{goal_kind}
use Rattle.tp_meaning.specs.World as world
use Rattle.tp_meaning.specs.Turn.{Turn, Gives, raised_at}
use Rattle.tp_meaning.specs.Clauses.{Base}
use Rattle.tp_meaning.specs.Scheduler.{choose}
use Rattle.tp_meaning.specs.Step.{step, item_step, goal_step, goal_by}
use Rattle.tp_meaning.specs.Valid.{Valid}
use Rattle.tp_meaning.proofs.ValidWorlds.Leaves.{runs-there}
use Rattle.tp_meaning.proofs.ValidWorlds.Places.{get-at_place, length-at_place}
use Rattle.tp_store.specs.Contents.{seen, args_seen}
use Rattle.tp_store.proofs.Standing.Facts.{count-seen}
use Rattle.tp_control.specs.declared.frames.Item.{Item}
use Rattle.tp_control.specs.declared.frames.Item.TheVariants.{Goal}
use Rattle.tp_machine.specs.declared.machine.Machine.{Machine}
use Rattle.tp_machine.specs.declared.task.Task.{Task}
use Rattle.tp_machine.specs.declared.task.Call.{Call}
use Rattle.tp_state.specs.State.{plain_of}
use Rattle.tp_control.specs.Lists.{items_at}
use Rattle.tp_state.specs.Plain.{Plain, item_of, items_of, process_of, with_running, processes_of, world_of}
use Rattle.tp_machine.specs.Machine.{IsMachine, IsStanding, base_in, world_in}
use Rattle.tp_machine.specs.Meets.{HasFirst, Meets, Calls}

pub len-map : {A B : Type 0} (f : A → B) (xs : List A) → length (map f xs) ≡ length xs
len-map f [] = refl
len-map f (x ∷ xs) = ap suc (len-map f xs)

-- the running process is in the list
running-below : (names : List Name) (p : Plain) (r d : ℕ) → Valid (world_of names p d) → p.running ≡ Some r → r < length p.procs
running-below names p r d v e =
    let h : r < length (processes_of names p) = (runs-there (world_of names p d) r v e).below in
    omega (arith, h, len p.running, len-map (process_of names p) p.procs)
  where
    len : (o : Option ℕ) → length (with_running o (items_of names p p.items) (map (process_of names p) p.procs)) ≡ length (map (process_of names p) p.procs)
    len None = refl
    len (Some k) = length-at_place (λ (q : world.Process). record q { items = items_of names p p.items }) k (map (process_of names p) p.procs)

pub standing : (m : Machine) → IsMachine m → IsStanding m
standing m is = record { program = is.program; stands = is.stands; valid = is.worlds.world.valid }

pub process_there : (m : Machine) (r : ℕ) → IsStanding m → m.state.running ≡ Some r → r < length m.state.procs
process_there m r is e = running-below m.atoms (plain_of m.state) r m.stamp is.valid e

pub there : {A : Type 0} (n : ℕ) (xs : List A) → n < length xs → (x : A) × (slice_get xs n ≡ Some x)
there n [] h = absurd (omega arith)
there zero (x ∷ xs) h = (x, refl)
there (suc n) (x ∷ xs) h = there n xs (omega arith)

-- and has its items there
pub items-there : (names : List Name) (p : Plain) (r : ℕ) → r < length p.procs → p.running ≡ Some r → world.items_at (processes_of names p) r ≡ items_of names p p.items
items-there names p r lt e =
    let is = items_of names p p.items in
    let rows = map (process_of names p) p.procs in
    let x = there r rows (omega (arith, len-map (process_of names p) p.procs)) in
    ap (λ o. world.items_at (with_running o is rows) r) e
    ∙ ap (λ o. elim o as (λ _. List world.Item) [ None ↦ [] | Some q ↦ q.items ]) (get-at_place (λ (q : world.Process). record q { items = is }) r rows ∙ ap (option_map (λ (q : world.Process). record q { items = is })) x.1)

-- a step of the machine's world, where a process runs
pub first-step : (m : Machine) (r : ℕ) → IsStanding m → m.state.running ≡ Some r → step (base_in m) (world_in m) ≡ item_step (base_in m) (world_in m) r (items_of m.atoms (plain_of m.state) m.state.items)
unfolding step
first-step m r is e =
    ap (λ o. elim o as (λ _. Gives) [ None ↦ choose (world_in m) | Some p ↦ item_step (base_in m) (world_in m) p (world.items_at (world_in m).processes p) ]) e
    ∙ ap (item_step (base_in m) (world_in m) r) (items-there m.atoms (plain_of m.state) r (process_there m r is e) e)

-- the items behind the first
abbrev pub rest_in : Machine → Option ItemId → List world.Item
rest_in m rest = map (item_of m.atoms m.state.store) (items_at m.state.frames rest)

abbrev pub turn_in : Machine → ℕ → Option ItemId → Turn
turn_in m r rest = record { world = world_in m; process = r; rest = rest_in m rest }

pub item-step : (m : Machine) (r : ℕ) (i : Item) (rest : Option ItemId) → HasFirst m r i rest → step (base_in m) (world_in m) ≡ item_step (base_in m) (world_in m) r (item_of m.atoms m.state.store i ∷ rest_in m rest)
item-step m r i rest h =
    first-step m r h.standing h.running
    ∙ ap (λ is. item_step (base_in m) (world_in m) r (map (item_of m.atoms m.state.store) is)) h.list

-- ---- goals

pub goal-gives : (m : Machine) (t : Task) → Meets m t → step (base_in m) (world_in m) ≡ raised_at (world_in m) t.process (goal_step (base_in m) (turn_in m t.process t.rest) t.barrier (seen m.atoms m.state.store t.goal.at))
goal-gives m t h = item-step m t.process (Goal t.goal t.barrier) t.rest h

-- a goal by its kind
step-kind : (base : Base) (t : Turn) (b : ℕ) (f : Name) (ts : Terms) → goal_step base t b (term_of f ts) ≡ goal_by base t b f ts (goal_kind f (count_of ts))
step-kind base t b f NoMore = refl
step-kind base t b f (More x ts) = refl

-- a goal with a name, by its kind
pub named-gives : (m : Machine) (t : Task) (f : Name) (ts : Terms) (k : Option GoalKind) → Meets m t → seen m.atoms m.state.store t.goal.at ≡ term_of f ts → goal_kind f (count_of ts) ≡ k → step (base_in m) (world_in m) ≡ raised_at (world_in m) t.process (goal_by (base_in m) (turn_in m t.process t.rest) t.barrier f ts k)
named-gives m t f ts k h e ek =
    goal-gives m t h
    ∙ ap (λ g. raised_at (world_in m) t.process (goal_step (base_in m) (turn_in m t.process t.rest) t.barrier g)) e
    ∙ ap (raised_at (world_in m) t.process) (step-kind (base_in m) (turn_in m t.process t.rest) t.barrier f ts ∙ ap (goal_by (base_in m) (turn_in m t.process t.rest) t.barrier f ts) ek)

pub call-gives : (m : Machine) (t : Task) (c : Call) (k : Option GoalKind) → Calls m t c k → step (base_in m) (world_in m) ≡ raised_at (world_in m) t.process (goal_by (base_in m) (turn_in m t.process t.rest) t.barrier (name_at m.atoms c.name.at) (args_seen m.atoms m.state.store c.first.at c.count) k)
call-gives m t c k h =
    named-gives m t (name_at m.atoms c.name.at) (args_seen m.atoms m.state.store c.first.at c.count) k h.meets h.call.is
    (ap (goal_kind (name_at m.atoms c.name.at)) (count-seen m.atoms m.state.store c.first.at c.count) ∙ h.kind)

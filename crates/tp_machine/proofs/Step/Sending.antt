-- Steps in which messages are sent.
use Rattle.std.proofs.Common.{◌≡◌, ℕ, ◌+◌, ◌-◌, ◌<◌, ◌≤◌, ◌^◌, Bool, true, false, List, [], ◌∷◌, fold, length, map, Option, Some, None, Ok, IfOk, IfSome, slice_get, if◌then◌else◌, refl, ap, sym, subst, ◌∙◌, arith}
use Rattle.std.specs.List.{AllByRecursion}
use Rattle.std.proofs.lemmas.Bool.{eq-eqb}
use Rattle.std.proofs.lemmas.List.{length-set}
use Rattle.tp_terms.specs.declared.ProcStatus.TheVariants.{Scheduled}
use Rattle.tp_terms.specs.declared.cells.Ref.{Ref}
use Rattle.tp_terms.specs.declared.world.EventKind.TheVariants as event
use Rattle.tp_terms.specs.declared.world.ItemId.{ItemId}
use Rattle.tp_terms.specs.declared.world.Proc.{Proc}
use Rattle.tp_terms.specs.Term.{Name, Term, Terms, NoMore, More, term_of}
use Rattle.tp_terms.specs.Shown.{name_at}
use Rattle.tp_calendar.specs.Order.{IsFree}
use Rattle.tp_meaning.specs.declared.goals.GoalKind.TheVariants.{Process}
use Rattle.tp_meaning.specs.declared.goals.ProcessGoal.TheVariants as goal
use Rattle.tp_meaning.specs.Checks.{◌>>=◌}
use Rattle.tp_meaning.specs.Control.{arg}
use Rattle.tp_meaning.specs.Process as meaning
use Rattle.tp_meaning.specs.Process.{receivers, sent}
use Rattle.tp_meaning.specs.World as world
use Rattle.tp_meaning.specs.Turn.{Turn, going, one}
use Rattle.tp_meaning.specs.Valid.{AllBelow, Below, ItemsFit, Valid, busy, is_at}
use Rattle.tp_meaning.proofs.ValidWorlds.Keeps.{arg-below}
use Rattle.tp_meaning.proofs.ValidWorlds.Leaves.{runs-there}
use Rattle.tp_meaning.proofs.OwnGoals.Counts.{fewest-fits}
use Rattle.tp_meaning.proofs.ProcessGoals.Sends.{Known, receivers-known, sent-sent}
use Rattle.tp_store.specs.Contents.{Contents, seen, args_seen}
use Rattle.tp_control.specs.declared.frames.Item.{Item}
use Rattle.tp_state.specs.declared.state.State.{State}
use Rattle.tp_state.specs.Acts.{awaits_mail, changed, delivered, noted, planned, posted, resting, roused, slot_at}
use Rattle.tp_state.specs.Going.{Follows}
use Rattle.tp_state.specs.Plain.{Plain, box_of, item_of, processes_of, world_of}
use Rattle.tp_state.specs.Stands.{PlainStands, ProcStands}
use Rattle.tp_state.specs.State.{plain_of, held_of}
use Rattle.tp_state.proofs.GoingBack.Follows.{follows-same, follows-then}
use Rattle.tp_machine.specs.declared.errors.Cause.{Cause}
use Rattle.tp_machine.specs.declared.machine.Machine.{Machine}
use Rattle.tp_machine.specs.declared.stepped.Stepped.TheVariants as answer
use Rattle.tp_machine.specs.declared.task.Task.{Task}
use Rattle.tp_machine.specs.declared.task.Call.{Call}
use Rattle.tp_machine.specs.Causes.{kind_seen}
use Rattle.tp_machine.specs.Machine.{IsMachine, Steps, world_in}
use Rattle.tp_machine.specs.Meets.{Calls, Fails, IsCause}
use Rattle.tp_machine.specs.Sending.{Posts, Sends, posted_all, receivers_at}
use Rattle.tp_machine.proofs.Worlds.Items.{other-rest, other-stands}
use Rattle.tp_machine.proofs.Worlds.Made.{count-processes}
use Rattle.tp_machine.proofs.Worlds.Mail.{delivered-stands, posted-world}
use Rattle.tp_machine.proofs.Worlds.Plans.{busy-some, free-slot, planned-stands}
use Rattle.tp_machine.proofs.Worlds.Procs.{all-get, all-set, noted-stands, procs-stand}
use Rattle.tp_machine.proofs.Step.Acting.{acts_to, first_is, first_there, rested_world}
use Rattle.tp_machine.proofs.Step.Control.{arg-is}
use Rattle.tp_machine.proofs.Step.First.{items-there, len-map, process_there, rest_in, there, turn_in}
use Rattle.tp_machine.proofs.Step.Items.{rest-follows}
use Rattle.tp_machine.proofs.Step.Refuse.{gives_here}

-- ---- the contents after a message was sent

roused-by : {B : Type 0} (g : Plain → B) (pid : ℕ) (q : Proc) (p : Plain) (b : B) → g p ≡ b → g (planned pid p.clock (changed pid (record q { status = Scheduled }) p)) ≡ b → g (roused pid q p) ≡ b
roused-by {B = B} g pid q p b same more = go (awaits_mail q)
  where
    go : (t : Bool) → g (if t then planned pid p.clock (changed pid (record q { status = Scheduled }) p) else p) ≡ b
    go true = more
    go false = same

-- what sending leaves as it is
posted-store : (from : ℕ) (r : Ref) (to : ℕ) (q : Proc) (p : Plain) → (posted from r to q p).store ≡ p.store
posted-store from r to q p = roused-by (λ x. x.store) to q (noted from (event.Send r to) (delivered to r p)) p.store refl refl

posted-frames : (from : ℕ) (r : Ref) (to : ℕ) (q : Proc) (p : Plain) → (posted from r to q p).frames ≡ p.frames
posted-frames from r to q p = roused-by (λ x. x.frames) to q (noted from (event.Send r to) (delivered to r p)) p.frames refl refl

posted-running : (from : ℕ) (r : Ref) (to : ℕ) (q : Proc) (p : Plain) → (posted from r to q p).running ≡ p.running
posted-running from r to q p = roused-by (λ x. x.running) to q (noted from (event.Send r to) (delivered to r p)) p.running refl refl

posted-count : (from : ℕ) (r : Ref) (to : ℕ) (q : Proc) (p : Plain) → length (posted from r to q p).procs ≡ length p.procs
posted-count from r to q p = roused-by (λ x. length x.procs) to q (noted from (event.Send r to) (delivered to r p)) (length p.procs) refl (length-set p.procs to (record q { status = Scheduled }))

-- it doesn't see the items of the running process
posted-rest : (rest : Option ItemId) (from : ℕ) (r : Ref) (to : ℕ) (q : Proc) (p : Plain) → resting rest (posted from r to q p) ≡ posted from r to q (resting rest p)
posted-rest rest from r to q p = go (awaits_mail q)
  where
    y : Plain
    y = noted from (event.Send r to) (delivered to r p)

    go : (t : Bool) → resting rest (if t then planned to p.clock (changed to (record q { status = Scheduled }) (noted from (event.Send r to) (delivered to r p))) else noted from (event.Send r to) (delivered to r p))
        ≡ (if t then planned to p.clock (changed to (record q { status = Scheduled }) (noted from (event.Send r to) (delivered to r (resting rest p)))) else noted from (event.Send r to) (delivered to r (resting rest p)))
    go true = refl
    go false = refl

posted-stands : (names : List Name) (p : Plain) (from to : ℕ) (r : Ref) (q : Proc) → PlainStands names p → from < length p.procs → to < length p.procs → r.at < length p.store.cells → slice_get p.procs to ≡ Some q → PlainStands names (posted from r to q p)
posted-stands names p from to r q s lf lt lr e = go (awaits_mail q)
  where
    d : PlainStands names (noted from (event.Send r to) (delivered to r p))
    d = noted-stands names (delivered to r p) from (event.Send r to) (delivered-stands names p to r s lr) lf (lr, lt)

    P : Proc → Type 0
    P = ProcStands (length names) (length p.frames)

    has : ProcStands (length names) (length p.frames) q
    has = all-get (ProcStands (length names) (length p.frames)) p.procs to q e s.procs

    c : PlainStands names (changed to (record q { status = Scheduled }) (noted from (event.Send r to) (delivered to r p)))
    c =
        procs-stand names (noted from (event.Send r to) (delivered to r p)) _ d (length-set p.procs to (record q { status = Scheduled }))
        (all-set (ProcStands (length names) (length p.frames)) p.procs to (record q { status = Scheduled }) (record { name = has.name; items = has.items }) s.procs)

    go : (t : Bool) → PlainStands names (if t then planned to p.clock (changed to (record q { status = Scheduled }) (noted from (event.Send r to) (delivered to r p))) else noted from (event.Send r to) (delivered to r p))
    go true = planned-stands names (changed to (record q { status = Scheduled }) (noted from (event.Send r to) (delivered to r p))) to p.clock c
    go false = d

-- ---- the message

args-below : (n : ℕ) (f : Name) (ts : Terms) → Below n (term_of f ts) → AllBelow n ts
args-below n f NoMore h = h
args-below n f (More t ts) h = h

module _ (m : Machine) (t : Task) (c : Call) (is : IsMachine m) (h : Calls m t c (Some (Process goal.Send))) where
  abbrev message : Term
  message = seen m.atoms m.state.store c.first.at

  abbrev args : Terms
  args = args_seen m.atoms m.state.store c.first.at c.count

  abbrev turn : Turn
  turn = turn_in m t.process t.rest

  two-least : 2 ≤ c.count
  two-least = fewest-fits (name_at m.atoms c.name.at) c.count (Process goal.Send) h.kind

  -- its receivers stand behind it
  pub to_there : c.first.at + 1 < length m.state.store.cells
  to_there = let le = two-least in let w = h.call.within in omega arith

  second-is : arg 1 (args_seen m.atoms m.state.store c.first.at c.count) ≡ seen m.atoms m.state.store (c.first.at + 1)
  second-is = arg-is m.atoms m.state.store c.first.at c.count 1 (let le = two-least in omega arith)

  below : t.process < length m.state.procs
  below = process_there m t.process h.meets.standing h.meets.running

  -- its variables were claimed
  message-below : Below m.state.store.vars (seen m.atoms m.state.store c.first.at)
  message-below = subst (Below m.state.store.vars) (first_is m t c goal.Send h) (arg-below m.state.store.vars 0 args_seen' (args-below m.state.store.vars (name_at m.atoms c.name.at) args_seen' (subst (Below m.state.store.vars) h.call.is goal-below)))
    where
      args_seen' : Terms
      args_seen' = args_seen m.atoms m.state.store c.first.at c.count

      row : (x : world.Process) × (slice_get (world_in m).processes t.process ≡ Some x)
      row = there t.process (world_in m).processes (runs-there (world_in m) t.process is.worlds.world.valid h.meets.running).below

      items : world.items_at (world_in m).processes t.process ≡ world.Goal (seen m.atoms m.state.store t.goal.at) t.barrier ∷ rest_in m t.rest
      items = items-there m.atoms (plain_of m.state) t.process (process_there m t.process h.meets.standing h.meets.running) h.meets.running ∙ ap (map (item_of m.atoms m.state.store)) h.meets.list

      row-items : world.items_at (world_in m).processes t.process ≡ (row).0.items
      row-items = ap (λ o. elim o as (λ _. List world.Item) [ None ↦ [] | Some q ↦ q.items ]) (row).1

      goal-below : Below m.state.store.vars (seen m.atoms m.state.store t.goal.at)
      goal-below =
          let fits = all-get (λ (x : world.Process). ItemsFit (world_in m).next (world_in m).stamp x.items) (world_in m).processes t.process (row).0 (row).1 is.worlds.world.valid.todo in
          let first = subst (ItemsFit (world_in m).next (world_in m).stamp) (sym row-items ∙ items) fits in
          first.0.0

  -- ---- errors

  -- it has no receivers
  pub has_no_receivers : (to : Ref) → to.at ≡ c.first.at + 1 → (why : Cause) → Fails m (receivers_at m to) why → IsCause m t why
  has_no_receivers to behind why fails = record {
    culprit = fails.0;
    stands = fails.1;
    gives = gives_here m t c (Process goal.Send) (kind_seen m.atoms m.state.store why) h
        (ap (meaning.send turn (arg 0 args)) (second-is ∙ ap (seen m.atoms m.state.store) (sym behind))
        ∙ ap (λ r. r >>= (λ ps. Ok (one (fold (sent t.process (arg 0 args)) (going turn turn.rest) ps)))) fails.2);
  }

  -- it has these
  pub sends_to : (to : Ref) → to.at ≡ c.first.at + 1 → (all : List ℕ) → receivers_at m to ≡ Ok all → Sends m t c all
  sends_to to behind all e = record { calls = h; all_are = ap (λ k. receivers (world_in m) (seen m.atoms m.state.store k)) (sym behind) ∙ e }

-- ---- messages that are sent

module _ (m : Machine) (t : Task) (c : Call) (all : List ℕ) (is : IsMachine m) (h : Sends m t c all) where
  -- none so far
  pub posts_none : Posts m t c all all m.state
  posts_none = record {
    follows = follows-same (held_of m.state);
    store = refl;
    frames = refl;
    running = refl;
    count = refl;
    stands = is.stands;
    valid = is.worlds.world.valid;
    below = message-below m t c is h.calls;
    world = ap (λ w. fold (sent t.process (seen m.atoms m.state.store c.first.at)) w all) (rested_world m t is h.calls.meets);
  }

  known : AllByRecursion (λ p. p < length (world_in m).processes) all
  known = subst (λ r. IfOk r (Known (world_in m))) h.all_are (receivers-known (world_in m) (seen m.atoms m.state.store (c.first.at + 1)))

  module _ (s : State) (left : List ℕ) (b : Posts m t c all left s) where
    -- an entry of the next insertion number may be put in
    pub post_free : (to : ℕ) → IsFree (slot_at to s.clock (plain_of s)) s.calendar.slots
    post_free to = free-slot (length (processes_of m.atoms (plain_of s))) s.insertion to s.clock s.clock s.calendar.slots b.valid.entries

    pub post_few : s.insertion < 2 ^ 64 - 1
    post_few =
        let v = b.valid in
        let le : s.insertion + busy (processes_of m.atoms (plain_of s)) ≤ m.stamp + 1 = v.insertions in
        let some = busy-some (processes_of m.atoms (plain_of s)) t.process (v.one_runs t.process ∙ ap (λ o. is_at o t.process) (b.running ∙ h.calls.meets.running) ∙ eq-eqb t.process t.process refl) in
        let few = h.calls.meets.few in
        omega arith

    -- the receivers and their boxes are there
    pub post_there : (k to : ℕ) → slice_get all k ≡ Some to → to < length s.procs
    post_there k to e =
        let lt = all-get (λ p. p < length (world_in m).processes) all k to e known in
        omega (arith, lt, count-processes m.atoms (plain_of m.state), b.count)

    pub post_box : (k to : ℕ) → slice_get all k ≡ Some to → to < length s.boxes.boxes
    post_box k to e =
        let lt = post_there k to e in
        let each : length (map (box_of m.atoms s.store) s.boxes.boxes) ≡ length (processes_of m.atoms (plain_of s)) = b.valid.box_each in
        omega (arith, lt, each, len-map (box_of m.atoms s.store) s.boxes.boxes, count-processes m.atoms (plain_of s))

  -- one more
  pub posts_more : (s s' : State) (k to : ℕ) (left : List ℕ) → slice_get all k ≡ Some to → Posts m t c all (to ∷ left) s → ((q : Proc) → slice_get s.procs to ≡ Some q → plain_of s' ≡ posted t.process c.first to q (plain_of s)) → Follows (held_of s) (held_of s') → Posts m t c all left s'
  posts_more s s' k to left e b posted_is fo =
      let names = m.atoms in
      let pid = t.process in
      let p = plain_of s in
      let lt = post_there s (to ∷ left) b k to e in
      let q = there to s.procs lt in
      let is' : plain_of s' ≡ posted t.process c.first to q.0 (plain_of s) = posted_is q.0 q.1 in
      let from : t.process < length s.procs = let x = b.count in let y = process_there m t.process h.calls.meets.standing h.calls.meets.running in omega arith in
      let first = first_there m t c goal.Send h.calls in
      let cells : c.first.at < length s.store.cells = subst (λ (d : Contents). c.first.at < length d.cells) (sym b.store) first in
      let x = seen m.atoms m.state.store c.first.at in
      let shown : seen m.atoms s.store c.first.at ≡ x = ap (λ (d : Contents). seen m.atoms d c.first.at) b.store in
      let sent-one : world_of m.atoms (plain_of s') m.stamp ≡ sent t.process x (world_of m.atoms (plain_of s) m.stamp) to =
      ap (λ (y : Plain). world_of m.atoms y m.stamp) is' ∙ posted-world names p pid m.stamp to c.first q.0 q.1 ∙ ap (λ y. sent pid y (world_of m.atoms (plain_of s) m.stamp) to) shown in
      let now = sent-sent (world_of m.atoms (plain_of s) m.stamp) pid x to b.valid (omega (arith, from, count-processes names p)) (subst (λ (d : Contents). Below d.vars x) (sym b.store) b.below) (omega (arith, lt, count-processes names p)) in
      record {
        follows = follows-then _ _ _ b.follows fo;
        store = ap (λ (y : Plain). y.store) is' ∙ posted-store pid c.first to q.0 p ∙ b.store;
        frames = ap (λ (y : Plain). y.frames) is' ∙ posted-frames pid c.first to q.0 p ∙ b.frames;
        running = ap (λ (y : Plain). y.running) is' ∙ posted-running pid c.first to q.0 p ∙ b.running;
        count = ap (λ (y : Plain). length y.procs) is' ∙ posted-count pid c.first to q.0 p ∙ b.count;
        stands = subst (PlainStands names) (sym is') (posted-stands names p pid to c.first q.0 b.stands from lt cells q.1);
        valid = subst Valid (sym sent-one) now.valid;
        below = b.below;
        world =
            ap (λ w. fold (sent pid x) w left) (
            ap (λ (y : Plain). world_of m.atoms (resting t.rest y) (m.stamp + 1)) is'
            ∙ ap (λ (y : Plain). world_of m.atoms y (m.stamp + 1)) (posted-rest t.rest pid c.first to q.0 p)
            ∙ posted-world names (resting t.rest p) pid (m.stamp + 1) to c.first q.0 q.1
            ∙ ap (λ y. sent pid y (world_of m.atoms (resting t.rest (plain_of s)) (m.stamp + 1)) to) shown)
            ∙ b.world;
      }

  -- to all
  pub sends : (s : State) → Posts m t c all [] s → Steps m (record m { state = record s { items = t.rest }; stamp = m.stamp + 1 }) answer.Went
  sends s b =
      let p = plain_of s in
      let rest = subst (λ (fs : List (List Item)). IfSome t.rest (λ i. i.at < length fs)) (sym b.frames) h.calls.meets.rest in
      acts_to m t c goal.Send h.calls (record s { items = t.rest }) (posted_all m t c all) is (follows-then _ _ _ b.follows (rest-follows s t.rest))
      (other-stands m.atoms p (resting t.rest p) b.stands (other-rest m.atoms p t.rest rest))
      b.world
      (ap (meaning.send (turn_in m t.process t.rest) (arg 0 (args_seen m.atoms m.state.store c.first.at c.count))) (second-is m t c is h.calls)
      ∙ ap (λ x. meaning.send (turn_in m t.process t.rest) x (seen m.atoms m.state.store (c.first.at + 1))) (first_is m t c goal.Send h.calls)
      ∙ ap (λ r. r >>= (λ ps. Ok (one (fold (sent t.process (seen m.atoms m.state.store c.first.at)) (going (turn_in m t.process t.rest) (rest_in m t.rest)) ps)))) h.all_are)

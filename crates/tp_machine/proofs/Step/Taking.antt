-- Steps in which the running process takes a message out of its box.
use Rattle.std.proofs.Common.{◌≡◌, ℕ, zero, suc, ◌+◌, ◌-◌, ◌<◌, ◌≤◌, ◌^◌, Bool, true, false, cond, List, [], ◌∷◌, map, length, drop, remove, Option, Some, None, is_some, slice_get, if◌then◌else◌, refl, ap, sym, subst, ◌∙◌, arith}
use Rattle.std.specs.List.{AllByRecursion, position_from}
use Rattle.tp_terms.specs.declared.cells.Ref.{Ref}
use Rattle.tp_terms.specs.declared.world.EventKind.TheVariants as event
use Rattle.tp_terms.specs.Term.{Name, Term, Terms, term_of, count_of}
use Rattle.tp_terms.specs.Shown.{AreNamed, name_at, shows}
use Rattle.tp_terms.proofs.Naming.Tables.{Grows-same}
use Rattle.tp_meaning.specs.declared.goals.GoalKind.{GoalKind}
use Rattle.tp_meaning.specs.declared.goals.GoalKind.TheVariants.{Process}
use Rattle.tp_meaning.specs.declared.goals.ProcessGoal.TheVariants as goal
use Rattle.tp_meaning.specs.Subst.{Subst, IsSubst, apply, mgu}
use Rattle.tp_meaning.specs.Control.{arg}
use Rattle.tp_meaning.specs.Goals.{goal_kind}
use Rattle.tp_meaning.specs.Machine.{with_choice}
use Rattle.tp_meaning.specs.Process.{received, taken, takes}
use Rattle.tp_meaning.specs.Search.{Branch}
use Rattle.tp_meaning.specs.Step.{step}
use Rattle.tp_meaning.specs.World as world
use Rattle.tp_meaning.specs.World.{World, box_at, with_box, with_event, world_under}
use Rattle.tp_meaning.specs.Turn.{Turn}
use Rattle.tp_meaning.proofs.Unification.Applied.{mgu-solves, solves-over}
use Rattle.tp_meaning.proofs.ValidWorlds.Leaves.{runs-there}
use Rattle.tp_mail.specs.Mail.{box_of}
use Rattle.tp_store.specs.Contents.{Contents, FindsUnifier, IsStore, IsUnifiable, seen, args_seen, subst_of}
use Rattle.tp_store.specs.Logged.{Logs}
use Rattle.tp_store.proofs.Standing.Facts.{IsSubst-store, count-seen}
use Rattle.tp_control.specs.declared.choices.Alt.TheVariants as alt
use Rattle.tp_control.specs.declared.choices.Choice.{Choice}
use Rattle.tp_control.specs.declared.frames.Item.{Item}
use Rattle.tp_control.specs.declared.frames.Item.TheVariants.{Goal}
use Rattle.tp_control.specs.Lists.{items_at}
use Rattle.tp_state.specs.declared.state.State.{State}
use Rattle.tp_state.specs.Acts.{noted, resting, taken_out, with_store}
use Rattle.tp_state.specs.Going.{Follows}
use Rattle.tp_state.specs.Plain as plain
use Rattle.tp_state.specs.Plain.{Plain, item_of, processes_of, world_of}
use Rattle.tp_state.specs.Stands.{BoxStands, PlainStands}
use Rattle.tp_state.specs.State.{plain_of, held_of}
use Rattle.tp_machine.specs.declared.machine.Machine.{Machine}
use Rattle.tp_machine.specs.declared.task.Task.{Task}
use Rattle.tp_machine.specs.declared.task.Call.{Call}
use Rattle.tp_machine.specs.Acting.{HasNoMail}
use Rattle.tp_machine.specs.Goes.{IsKept, MayKeep, Returns, untried_in}
use Rattle.tp_machine.specs.Machine.{IsMachine, IsMail, IsStanding, Resumes, base_in, choices_in, world_in}
use Rattle.tp_machine.specs.Mail.{MayTake, Takes, box_in, may_take, message_from}
use Rattle.tp_machine.specs.Meets.{Calls, HasCurrent}
use Rattle.tp_machine.specs.Untried.{untried_by, untried_goal, untried_named}
use Rattle.tp_machine.proofs.Worlds.Items.{other-rest, other-stands, other-world}
use Rattle.tp_machine.proofs.Worlds.Mail.{map-drop, taken_out-stands, taken_out-world}
use Rattle.tp_machine.proofs.Worlds.Procs.{all-get, noted-stands, noted-world}
use Rattle.tp_machine.proofs.Worlds.Stores.{OtherStore, store-stands, under-world}
use Rattle.tp_machine.proofs.Step.Acting.{act-gives, first_is}
use Rattle.tp_machine.proofs.Step.Back.{args-same, name-same, untried-same}
use Rattle.tp_machine.proofs.Step.Clauses.{drop-drop, goal-untried}
use Rattle.tp_machine.proofs.Step.First.{items-there, len-map, process_there, rest_in, standing, turn_in}
use Rattle.tp_machine.proofs.Step.Newest.{newest_below}
use Rattle.tp_machine.proofs.Step.Parts.{resumes}
use Rattle.tp_machine.proofs.Step.United.{mgu-seen_both}

-- ---- lists

-- what is from a place on, and the element that stands there
pub drop_here : {A : Type 0} (xs : List A) (k : ℕ) (x : A) → slice_get xs k ≡ Some x → drop k xs ≡ x ∷ drop (k + 1) xs
drop_here [] k x e = absurd (cc)
drop_here (y ∷ ys) zero x e = let same : y ≡ x = cc in ap (λ z. z ∷ ys) same
drop_here (y ∷ ys) (suc k) x e = drop_here ys k x e ∙ ap (λ j. x ∷ drop j (y ∷ ys)) (let z : suc (k + 1) ≡ suc k + 1 = omega arith in z)

-- nothing is from the end on
pub drop_none : {A : Type 0} (xs : List A) (k : ℕ) → length xs ≤ k → drop k xs ≡ []
drop_none [] zero le = refl
drop_none [] (suc k) le = refl
drop_none (x ∷ xs) zero le = absurd (omega arith)
drop_none (x ∷ xs) (suc k) le = drop_none xs k (omega arith)

drop_get : {A : Type 0} (xs : List A) (k : ℕ) (x : A) (more : List A) → drop k xs ≡ x ∷ more → slice_get xs k ≡ Some x
drop_get [] zero x more e = absurd (cc)
drop_get [] (suc k) x more e = absurd (cc)
drop_get (y ∷ ys) zero x more e = let same : y ≡ x = cc in ap Some same
drop_get (y ∷ ys) (suc k) x more e = drop_get ys k x more e

-- ---- the messages that may be taken, from a place on

module _ (w : Turn) (x : Term) (g : Ref → Term) where
  by : ℕ → Term → List Term → Option Subst → List World
  by n y ts o = elim o [ None ↦ takes w x (n + 1) ts | Some u ↦ world_under u (taken w n y) ∷ takes w x (n + 1) ts ]

  taken_first : (n : ℕ) (r : Ref) (rs : List Ref) (u : Subst) → mgu w.world.subst (g r) x ≡ Some u → takes w x n (map g (r ∷ rs)) ≡ world_under u (taken w n (g r)) ∷ takes w x (n + 1) (map g rs)
  unfolding by
  taken_first n r rs u e = ap (by n (g r) (map g rs)) e

  none_taken : (n : ℕ) (rs : List Ref) → position_from (λ r. is_some (mgu w.world.subst (g r) x)) n rs ≡ None → takes w x n (map g rs) ≡ []
  unfolding by
  none_taken n [] e = refl
  none_taken n (r ∷ rs) e = go (mgu w.world.subst (g r) x) e (none_taken (n + 1) rs)
    where
      go : (o : Option Subst) → cond (is_some o) (Some n) (position_from (λ r. is_some (mgu w.world.subst (g r) x)) (n + 1) rs) ≡ None → (position_from (λ r. is_some (mgu w.world.subst (g r) x)) (n + 1) rs ≡ None → takes w x (n + 1) (map g rs) ≡ []) → by n (g r) (map g rs) o ≡ []
      go None h ih = ih h
      go (Some u) h ih = absurd (cc)

  -- where the first stands that may be taken
  record Found (n k : ℕ) (rs : List Ref) : Type 0 where
    later : n ≤ k
    message : Ref
    more : List Ref
    here : drop (k - n) rs ≡ message ∷ more
    hit : is_some (mgu w.world.subst (g message) x) ≡ true
    left : takes w x n (map g rs) ≡ takes w x k (map g (message ∷ more))

  some_taken : (n k : ℕ) (rs : List Ref) → position_from (λ r. is_some (mgu w.world.subst (g r) x)) n rs ≡ Some k → Found n k rs
  unfolding by
  some_taken n k [] e = absurd (cc)
  some_taken n k (r ∷ rs) e = go (mgu w.world.subst (g r) x) refl e (some_taken (n + 1) k rs)
    where
      go : (o : Option Subst) → mgu w.world.subst (g r) x ≡ o → cond (is_some o) (Some n) (position_from (λ r. is_some (mgu w.world.subst (g r) x)) (n + 1) rs) ≡ Some k → (position_from (λ r. is_some (mgu w.world.subst (g r) x)) (n + 1) rs ≡ Some k → Found (n + 1) k rs) → Found n k (r ∷ rs)
      go (Some u) eo h ih =
          let same_place : n ≡ k = cc in
          record { later = omega arith; message = r; more = rs; here = ap (λ j. drop j (r ∷ rs)) (let z : k - n ≡ 0 = omega arith in z); hit = ap is_some eo; left = ap (λ j. takes w x j (map g (r ∷ rs))) same_place }
      go None eo h ih =
          let found = ih h in
          let up : n + 1 ≤ k = found.later in
          record {
            later = omega arith;
            message = found.message;
            more = found.more;
            here = ap (λ j. drop j (r ∷ rs)) (let z : k - n ≡ suc (k - (n + 1)) = omega arith in z) ∙ found.here;
            hit = found.hit;
            left = ap (by n (g r) (map g rs)) eo ∙ found.left;
          }

  taken_left : (k : ℕ) (r : Ref) (rs : List Ref) → is_some (mgu w.world.subst (g r) x) ≡ true → 0 < length (takes w x k (map g (r ∷ rs)))
  unfolding by
  taken_left k r rs e = go (mgu w.world.subst (g r) x) e
    where
      go : (o : Option Subst) → is_some o ≡ true → 0 < length (by k (g r) (map g rs) o)
      go None h = absurd (cc)
      go (Some u) h = omega arith

-- ---- the box of the running process

-- the running process has a box
pub box_there : (m : Machine) (r : ℕ) → IsStanding m → m.state.running ≡ Some r → r < length m.state.boxes.boxes
box_there m r is e =
    let below : r < length (processes_of m.atoms (plain_of m.state)) = (runs-there (world_in m) r is.valid e).below in
    let each : length (world_in m).boxes ≡ length (world_in m).processes = is.valid.box_each in
    omega (arith, below, each, len-map (plain.box_of m.atoms m.state.store) m.state.boxes.boxes)

box-shown : (names : List Name) (c : Contents) (bs : List (List Ref)) (n : ℕ) → n < length bs → box_at (map (plain.box_of names c) bs) n ≡ map (λ (r : Ref). seen names c r.at) (box_of bs n)
box-shown names c [] n lt = absurd (omega arith)
box-shown names c (b ∷ bs) zero lt = refl
box-shown names c (b ∷ bs) (suc n) lt = box-shown names c bs n (omega arith)

box-stands : (n : ℕ) (bs : List (List Ref)) (pid : ℕ) → pid < length bs → AllByRecursion (BoxStands n) bs → BoxStands n (box_of bs pid)
box-stands n [] pid lt h = absurd (omega arith)
box-stands n (b ∷ bs) zero lt h = h.0
box-stands n (b ∷ bs) (suc pid) lt h = box-stands n bs pid (omega arith) h.1

-- whether a message has a unifier with the argument, as the store finds it
pub may_take-is : (m : Machine) (c : Call) (message : Ref) → IsStanding m → (found : Bool) → IsUnifiable m.state.store message c.first found → may_take m c message ≡ found
may_take-is m c message is found h =
    ap is_some (mgu-seen_both (subst_of m.atoms m.state.store) (shows m.atoms m.state.store.cells message.at) (shows m.atoms m.state.store.cells c.first.at) (IsSubst-store m.atoms m.state.store is.stands.store))
    ∙ sym (h m.atoms (record { distinct = is.program.table.distinct; named = is.stands.atoms }))

module _ (m : Machine) (t : Task) (c : Call) (h : Calls m t c (Some (Process goal.WaitFor))) where
  abbrev f : Name
  f = name_at m.atoms c.name.at

  abbrev args : Terms
  args = args_seen m.atoms m.state.store c.first.at c.count

  abbrev turn : Turn
  turn = turn_in m t.process t.rest

  abbrev wanted : Term
  wanted = seen m.atoms m.state.store c.first.at

  abbrev shown : Ref → Term
  shown r = seen m.atoms m.state.store r.at

  kind : goal_kind (name_at m.atoms c.name.at) (count_of (args_seen m.atoms m.state.store c.first.at c.count)) ≡ Some (Process goal.WaitFor)
  kind = ap (goal_kind f) (count-seen m.atoms m.state.store c.first.at c.count) ∙ h.kind

  pub own_box : t.process < length m.state.boxes.boxes
  own_box = box_there m t.process h.meets.standing h.meets.running

  items-are : world.items_at (world_in m).processes t.process ≡ world.Goal (seen m.atoms m.state.store t.goal.at) t.barrier ∷ rest_in m t.rest
  items-are =
      items-there m.atoms (plain_of m.state) t.process (process_there m t.process h.meets.standing h.meets.running) h.meets.running
      ∙ ap (map (item_of m.atoms m.state.store)) h.meets.list

  -- a message of it stands at one of the cells
  pub message_stands : (place : ℕ) (message : Ref) → slice_get (box_in m t) place ≡ Some message → message.at < length m.state.store.cells
  message_stands place message e = all-get (λ (r : Ref). r.at < length m.state.store.cells) (box_of m.state.boxes.boxes t.process) place message e
      (box-stands (length m.state.store.cells) m.state.boxes.boxes t.process own_box h.meets.standing.stands.boxes)

  box-is : box_at (world_in m).boxes t.process ≡ map (λ (r : Ref). seen m.atoms m.state.store r.at) (box_in m t)
  box-is = box-shown m.atoms m.state.store m.state.boxes.boxes t.process own_box

  untried_is : (k : ℕ) → untried_in m (alt.Message k) ≡ takes (turn_in m t.process t.rest) (seen m.atoms m.state.store c.first.at) k (map (λ (r : Ref). seen m.atoms m.state.store r.at) (drop k (box_in m t)))
  untried_is k =
      ap (λ o. elim o as (λ _. List World) [ None ↦ [] | Some p ↦ untried_by (base_in m) (world_in m) p (world.items_at (world_in m).processes p) (alt.Message k) ]) h.meets.running
      ∙ ap (λ is. untried_by (base_in m) (world_in m) t.process is (alt.Message k)) items-are
      ∙ ap (λ g. untried_goal (base_in m) turn t.barrier g (alt.Message k)) h.call.is
      ∙ goal-untried (base_in m) turn t.barrier f args (alt.Message k)
      ∙ ap (λ o. untried_named (base_in m) turn t.barrier f args o (alt.Message k)) kind
      ∙ ap (λ x. takes turn x k (drop k (box_at (world_in m).boxes t.process))) (first_is m t c goal.WaitFor h)
      ∙ ap (λ b. takes turn wanted k (drop k b)) box-is
      ∙ ap (takes turn wanted k) (sym (map-drop shown k (box_in m t)))

  -- no message is left that may be taken
  pub none_untried : (n : ℕ) → message_from m t c n ≡ None → untried_in m (alt.Message n) ≡ []
  none_untried n e = untried_is n ∙ none_taken turn wanted shown n (drop n (box_in m t)) e

  -- the next message that may be
  pub record NextMessage (n k : ℕ) : Type 0 where
    pub hit : MayTake m t c k
    pub same : untried_in m (alt.Message n) ≡ untried_in m (alt.Message k)
    pub left : 0 < length (untried_in m (alt.Message k))

  pub next_untried : (n k : ℕ) → message_from m t c n ≡ Some k → NextMessage n k
  next_untried n k e =
      let found = some_taken turn wanted shown n k (drop n (box_in m t)) e in
      let up : n ≤ k = found.later in
      let here : drop k (box_in m t) ≡ found.message ∷ found.more = ap (λ j. drop j (box_in m t)) (let z : k ≡ n + (k - n) = omega arith in z) ∙ sym (drop-drop n (k - n) (box_in m t)) ∙ found.here in
      let these : untried_in m (alt.Message k) ≡ takes turn wanted k (map shown (found.message ∷ found.more)) = untried_is k ∙ ap (λ rs. takes turn wanted k (map shown rs)) here in
      record {
        hit = record { calls = h; message = found.message; more = found.more; here = here; fits = found.hit };
        same = untried_is n ∙ found.left ∙ sym these;
        left = omega (arith, ap length these, taken_left turn wanted shown k found.message found.more found.hit);
      }

  -- a choice of it may be kept
  pub may_message : (k : ℕ) → IsMachine m → MayTake m t c k → k < 2 ^ 64 - 1 → 0 < length (untried_in m (alt.Message k)) → MayKeep m (alt.Message k)
  may_message k is hit few left = record {
    stands = h.meets.standing.stands;
    goes_on = record {
      process = t.process;
      running = h.meets.running;
      goal = t.goal;
      barrier = t.barrier;
      rest = items_at m.state.frames t.rest;
      list = h.meets.list;
      name = f;
      args = args;
      is = h.call.is;
      kind = kind;
      message = hit.message;
      more = hit.more;
      here = hit.here;
      fits = ap (λ x. is_some (mgu (subst_of m.atoms m.state.store) (seen m.atoms m.state.store hit.message.at) x)) (first_is m t c goal.WaitFor h) ∙ hit.fits;
      few = few;
    };
    safe = is.safe;
    choices = is.choices;
    below = newest_below m is;
    left = left;
  }

  -- and it is the choice of an earlier place
  pub kept_from : (n k : ℕ) (new : Machine) → untried_in m (alt.Message n) ≡ untried_in m (alt.Message k) → IsKept m (alt.Message k) new → IsKept m (alt.Message n) new
  kept_from n k new e i = record {
    same = i.same;
    fits = i.fits;
    kept = i.kept ∙ ap (λ ws. with_choice m.stamp (world_in m) ws (choices_in m)) (sym e);
  }

  pub kept_none : (n : ℕ) → IsMachine m → message_from m t c n ≡ None → IsKept m (alt.Message n) m
  kept_none n is e = record {
    same = refl;
    fits = is.choices;
    kept = sym (ap (λ ws. with_choice m.stamp (world_in m) ws (choices_in m)) (none_untried n e));
  }

  -- ---- steps

  -- no message of the box may be taken
  pub has_none : message_from m t c 0 ≡ None → HasNoMail m t c
  has_none e = record {
    calls = h;
    none = ap (takes turn wanted 0) box-is ∙ none_taken turn wanted shown 0 (box_in m t) e;
  }

  -- one may be
  pub waits_for : (k : ℕ) (v : World) → message_from m t c 0 ≡ Some k → untried_in m (alt.Message k) ≡ v ∷ untried_in m (alt.Message (k + 1)) → step (base_in m) (world_in m) ≡ Branch v (untried_in m (alt.Message (k + 1)))
  waits_for k v found these =
      act-gives m t c goal.WaitFor h
      ∙ ap (λ x. received turn (takes turn x 0 (box_at (world_in m).boxes t.process))) (first_is m t c goal.WaitFor h)
      ∙ ap (λ b. received turn (takes turn wanted 0 b)) box-is
      ∙ ap (received turn) (sym (untried_is 0) ∙ (next_untried 0 k found).same ∙ these)

-- ---- a message that is taken

module _ (m : Machine) (t : Task) (c : Call) (place : ℕ) (h : MayTake m t c place) (message : Ref) (stood : slice_get (box_of m.state.boxes.boxes t.process) place ≡ Some message) where
  abbrev s : Subst
  s = subst_of m.atoms m.state.store

  abbrev p : Plain
  p = plain_of m.state

  abbrev rested : Plain
  rested = resting t.rest (plain_of m.state)

  abbrev without : Plain
  without = taken_out t.process place (resting t.rest (plain_of m.state))

  abbrev told : Plain
  told = noted t.process (event.Take message) (taken_out t.process place (resting t.rest (plain_of m.state)))

  abbrev turn' : Turn
  turn' = turn_in m t.process t.rest

  abbrev x : Term
  x = seen m.atoms m.state.store c.first.at

  message-is : h.message ≡ message
  message-is = let e : Some h.message ≡ Some message = sym (drop_get (box_in m t) place h.message h.more h.here) ∙ stood in cc

  -- it stands at one of the cells
  pub message_there : message.at < length m.state.store.cells
  message_there = message_stands m t c h.calls place message stood

  rested-stands : PlainStands m.atoms (resting t.rest (plain_of m.state))
  rested-stands = other-stands m.atoms p rested h.calls.meets.standing.stands (other-rest m.atoms p t.rest h.calls.meets.rest)

  told-stands : PlainStands m.atoms (noted t.process (event.Take message) (taken_out t.process place (resting t.rest (plain_of m.state))))
  told-stands = noted-stands m.atoms without t.process (event.Take message) (taken_out-stands m.atoms rested t.process place rested-stands) (process_there m t.process h.calls.meets.standing h.calls.meets.running) message_there

  told-world : world_of m.atoms (noted t.process (event.Take message) (taken_out t.process place (resting t.rest (plain_of m.state)))) (m.stamp + 1) ≡ taken (turn_in m t.process t.rest) place (seen m.atoms m.state.store message.at)
  told-world =
      noted-world m.atoms without t.process (m.stamp + 1) (event.Take message)
      ∙ ap (with_event t.process (world.Take (seen m.atoms m.state.store message.at))) (taken_out-world m.atoms rested t.process place (m.stamp + 1))
      ∙ ap (λ v. with_event t.process (world.Take (seen m.atoms m.state.store message.at)) (with_box t.process (λ b. remove b place) v))
      (other-world m.atoms p rested t.process m.stamp h.calls.meets.standing.stands (other-rest m.atoms p t.rest h.calls.meets.rest) h.calls.meets.running)

  is_subst : IsSubst (subst_of m.atoms m.state.store)
  is_subst = IsSubst-store m.atoms m.state.store h.calls.meets.standing.stands.store

  module _ (d : Contents) (met : Bool) (found : FindsUnifier m.state.store d message c.first met) (cells : d.cells ≡ m.state.store.cells) (vars : d.vars ≡ m.state.store.vars) (store : IsStore d) where
    abbrev u : Subst
    u = subst_of m.atoms d

    abbrev a : Term
    a = shows m.atoms m.state.store.cells message.at

    abbrev b : Term
    b = shows m.atoms m.state.store.cells c.first.at

    seen-same : mgu (subst_of m.atoms m.state.store) (seen m.atoms m.state.store message.at) (seen m.atoms m.state.store c.first.at) ≡ mgu (subst_of m.atoms m.state.store) (shows m.atoms m.state.store.cells message.at) (shows m.atoms m.state.store.cells c.first.at)
    seen-same = mgu-seen_both s a b is_subst

    unifier : mgu (subst_of m.atoms m.state.store) (shows m.atoms m.state.store.cells message.at) (shows m.atoms m.state.store.cells c.first.at) ≡ Some (subst_of m.atoms d)
    unifier = go met (found m.atoms (record { distinct = h.calls.meets.standing.program.table.distinct; named = h.calls.meets.standing.stands.atoms }))
      where
        some : is_some (mgu (subst_of m.atoms m.state.store) (shows m.atoms m.state.store.cells message.at) (shows m.atoms m.state.store.cells c.first.at)) ≡ true
        some = ap is_some (sym seen-same) ∙ ap (λ (r : Ref). may_take m c r) (sym message-is) ∙ h.fits

        go : (met : Bool) → mgu (subst_of m.atoms m.state.store) (shows m.atoms m.state.store.cells message.at) (shows m.atoms m.state.store.cells c.first.at) ≡ (if met then Some (subst_of m.atoms d) else None) → mgu (subst_of m.atoms m.state.store) (shows m.atoms m.state.store.cells message.at) (shows m.atoms m.state.store.cells c.first.at) ≡ Some (subst_of m.atoms d)
        go true e = e
        go false e = let no : false ≡ true = ap is_some (sym e) ∙ some in absurd (cc)

    over : (y : Term) → apply (subst_of m.atoms d) (apply (subst_of m.atoms m.state.store) y) ≡ apply (subst_of m.atoms d) y
    over y = solves-over s a b u (mgu-solves s a b u is_subst unifier) y

    other : OtherStore m.atoms (apply (subst_of m.atoms d)) m.state.store d
    other = record {
      store = store;
      atoms = subst (AreNamed (length m.atoms)) (sym cells) h.calls.meets.standing.stands.atoms;
      longer = omega (arith, ap length cells);
      terms = λ k lt. ap (λ cs. apply u (shows m.atoms cs k)) cells ∙ sym (over (shows m.atoms m.state.store.cells k));
    }

    met-world : world_of m.atoms (record (noted t.process (event.Take message) (taken_out t.process place (resting t.rest (plain_of m.state)))) { store = d }) (m.stamp + 1) ≡ world_under (subst_of m.atoms d) (taken (turn_in m t.process t.rest) place (seen m.atoms m.state.store message.at))
    met-world =
        under-world m.atoms told d (m.stamp + 1) told-stands other
        ∙ ap (λ v. world_under u (record v { next = d.vars })) told-world
        ∙ ap (λ n. world_under u (record (taken turn' place (seen m.atoms m.state.store message.at)) { next = n })) vars

    pub message_taken : (st : State) → Follows (held_of m.state) (held_of st) → plain_of st ≡ record (noted t.process (event.Take message) (taken_out t.process place (resting t.rest (plain_of m.state)))) { store = d } → Takes m place (record m { state = st; stamp = m.stamp + 1 })
    message_taken st fo e =
        let shown' : Ref → Term = λ r. seen m.atoms m.state.store r.at in
        let here : world_of m.atoms (plain_of st) (m.stamp + 1) ≡ world_under u (taken turn' place (seen m.atoms m.state.store message.at)) = ap (λ (q : Plain). world_of m.atoms q (m.stamp + 1)) e ∙ met-world in
        record {
          goes = record {
            same = refl;
            names = Grows-same m.atoms;
            table = h.calls.meets.standing.program.table;
            stands = subst (PlainStands m.atoms) (sym e) (store-stands m.atoms (apply u) told d told-stands other);
            follows = fo;
            stamp = refl;
          };
          world =
              untried_is m t c h.calls place
              ∙ ap (λ rs. takes turn' x place (map shown' rs)) (drop_here (box_in m t) place message stood)
              ∙ taken_first turn' x shown' place message (drop (place + 1) (box_in m t)) u (seen-same ∙ unifier)
              ∙ ap (λ v. v ∷ takes turn' x (place + 1) (map shown' (drop (place + 1) (box_in m t)))) (sym here)
              ∙ ap (λ ws. world_of m.atoms (plain_of st) (m.stamp + 1) ∷ ws) (sym (untried_is m t c h.calls (place + 1)));
        }

  -- by the acts of the state
  pub taking : (s1 s2 s3 : State) (met : Bool) → plain_of s1 ≡ taken_out t.process place (resting t.rest (plain_of m.state)) → plain_of s2 ≡ noted t.process (event.Take message) (plain_of s1) → FindsUnifier s2.store s3.store message c.first met → Logs s2.store s3.store s2.log s3.log → IsStore s3.store
      → plain_of s3 ≡ with_store s3.store (plain_of s2) → Follows (held_of m.state) (held_of s3) → Takes m place (record m { state = s3; stamp = m.stamp + 1 })
  taking s1 s2 s3 met e1 e2 found logged store e3 fo =
      let i2 : plain_of s2 ≡ noted t.process (event.Take message) (taken_out t.process place (resting t.rest (plain_of m.state))) = e2 ∙ ap (noted t.process (event.Take message)) e1 in
      let es : s2.store ≡ m.state.store = ap (λ (q : Plain). q.store) i2 in
      message_taken s3.store met (subst (λ (q : Contents). FindsUnifier q s3.store message c.first met) es found)
      (logged.cells ∙ ap (λ (q : Contents). q.cells) es) (logged.vars ∙ ap (λ (q : Contents). q.vars) es) store s3 fo (e3 ∙ ap (with_store s3.store) i2)

-- ---- after going back

module _ (m : Machine) (place : ℕ) (back : Returns m (alt.Message place)) (t : Task) (c : Call) (at : HasCurrent m t c) where
  mail : IsMail m.atoms (plain_of m.state) place
  mail = back.goes_on

  process-same : mail.process ≡ t.process
  process-same = let e : Some mail.process ≡ Some t.process = sym mail.running ∙ at.running in cc

  goal-same : mail.goal ≡ t.goal
  goal-same = first mail.goal t.goal mail.barrier t.barrier mail.rest (items_at m.state.frames t.rest) (sym mail.list ∙ at.list)
    where
      first : (a b : Ref) (x y : ℕ) (xs ys : List Item) → Goal a x ∷ xs ≡ Goal b y ∷ ys → a ≡ b
      first a b x y xs ys e = cc

  same-term : term_of mail.name mail.args ≡ term_of (name_at m.atoms c.name.at) (args_seen m.atoms m.state.store c.first.at c.count)
  same-term = sym mail.is ∙ ap (λ (r : Ref). seen m.atoms m.state.store r.at) goal-same ∙ at.call.is

  args-are : mail.args ≡ args_seen m.atoms m.state.store c.first.at c.count
  args-are = args-same mail.name (name_at m.atoms c.name.at) mail.args (args_seen m.atoms m.state.store c.first.at c.count) same-term

  pub calls_back : Calls m t c (Some (Process goal.WaitFor))
  calls_back = record {
    meets = record { standing = standing m back.machine; running = at.running; few = back.few; list = at.list; stands = at.goal; rest = at.rest };
    call = at.call;
    kind =
        ap (λ n. goal_kind n c.count) (sym (name-same mail.name (name_at m.atoms c.name.at) mail.args (args_seen m.atoms m.state.store c.first.at c.count) same-term))
        ∙ ap (goal_kind mail.name) (sym (ap count_of args-are ∙ count-seen m.atoms m.state.store c.first.at c.count))
        ∙ mail.kind;
  }

  pub takes_back : MayTake m t c place
  takes_back = record {
    calls = calls_back;
    message = mail.message;
    more = mail.more;
    here = ap (λ n. drop place (box_of m.state.boxes.boxes n)) (sym process-same) ∙ mail.here;
    fits =
        ap (λ x. is_some (mgu (subst_of m.atoms m.state.store) (seen m.atoms m.state.store mail.message.at) x)) (sym (ap (arg 0) args-are ∙ first_is m t c goal.WaitFor calls_back))
        ∙ mail.fits;
  }

-- a choice that was kept doesn't change what is called
pub calls_kept : (m mid : Machine) (next : _) (k : Option GoalKind) → IsKept m next mid → (t : Task) (c : Call) → Calls m t c k → Calls mid t c k
calls_kept m mid next k kept t c h = subst (λ (x : Machine). Calls x t c k) (sym kept.same) (at mid.choices)
  where
    at : (cs : List Choice) → Calls (record m { choices = cs }) t c k
    at cs = let f = h.meets in record {
      meets = record {
        standing = record {
          program = record { table = f.standing.program.table; base = f.standing.program.base; named = f.standing.program.named; goal = f.standing.program.goal };
          stands = f.standing.stands;
          valid = f.standing.valid;
        };
        running = f.running;
        few = f.few;
        list = f.list;
        stands = f.stands;
        rest = f.rest;
      };
      call = h.call;
      kind = h.kind;
    }

pub takes_kept : (m mid : Machine) (next : _) → IsKept m next mid → (t : Task) (c : Call) (place : ℕ) → MayTake m t c place → MayTake mid t c place
takes_kept m mid next kept t c place h = record {
  calls = calls_kept m mid next (Some (Process goal.WaitFor)) kept t c h.calls;
  message = h.message;
  more = h.more;
  here = subst (λ (x : Machine). drop place (box_in x t) ≡ h.message ∷ h.more) (sym kept.same) h.here;
  fits = subst (λ (x : Machine). may_take x c h.message ≡ true) (sym kept.same) h.fits;
}

pub resumes_message : (m mid new : Machine) (place : ℕ) → Returns m (alt.Message place) → IsKept m (alt.Message (place + 1)) mid → Takes mid place new → Resumes (record m { waiting = Some (alt.Message place) }) new
resumes_message m mid new place back k e =
    resumes m mid new (alt.Message place) (untried_in m (alt.Message (place + 1))) back k e.goes
    (sym (untried-same m mid (alt.Message (place + 1)) k (alt.Message place)) ∙ e.world ∙ ap (λ ws. world_in new ∷ ws) (untried-same m mid (alt.Message (place + 1)) k (alt.Message (place + 1))))

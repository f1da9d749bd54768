-- Worlds that a process goes on to are valid.
use Rattle.std.proofs.Common.{◌≡◌, ℕ, ◌+◌, ◌≤◌, ◌<◌, List, ◌∷◌, length, Some, refl, arith, false}
use Rattle.tp_terms.specs.Term.{Term}
use Rattle.tp_meaning.specs.World.{World, Ended, Parked, Item, Goal, Commit, Retry, End, with_event, with_status, stamped, let_go}
use Rattle.tp_meaning.specs.Turn.{Turn, going}
use Rattle.tp_meaning.specs.Process.{tried, await_again}
use Rattle.tp_meaning.specs.Valid.{Below, busy, ItemsFit, Valid, Follows, EachFollows}
use Rattle.tp_meaning.proofs.ValidWorlds.Places.{all-weaker}
use Rattle.tp_meaning.proofs.ValidWorlds.Keeps.{items-later, going-follows}
use Rattle.tp_meaning.proofs.ValidWorlds.Leaves.{event-valid, runs-there, leave-valid, let_go-valid}

-- ---- a turn of a valid world

pub record TurnFits (t : Turn) : Type 0 where
  pub valid : Valid t.world
  pub running : t.world.running ≡ Some t.process
  pub rest : ItemsFit t.world.next t.world.stamp t.rest

pub later : (t : Turn) → TurnFits t → ItemsFit t.world.next (t.world.stamp + 1) t.rest
later t f = items-later t.world.next t.world.stamp t.rest f.rest

pub goes : (t : Turn) (items : List Item) → TurnFits t → ItemsFit t.world.next (t.world.stamp + 1) items → Valid (going t items)
goes t items f h = (going-follows t items f.valid h).valid

pub known_in : (t : Turn) (items : List Item) → TurnFits t → ItemsFit t.world.next (t.world.stamp + 1) items → t.process < length (going t items).processes
known_in t items f h = (runs-there (going t items) t.process (goes t items f h) f.running).below

pub stamped-valid : (w : World) → Valid w → Valid (stamped w)
stamped-valid w v = record {
  distinct = v.distinct;
  box_each = v.box_each;
  entries = v.entries;
  in_order = v.in_order;
  placed = v.placed;
  one_runs = v.one_runs;
  from_zero = v.from_zero;
  none_late = v.none_late;
  events = v.events;
  todo = all-weaker _ (λ q. ItemsFit w.next (w.stamp + 1) q.items) (λ q h. items-later w.next w.stamp q.items h) w.processes v.todo;
  mail = v.mail;
  bindings = v.bindings;
  is_subst = v.is_subst;
  insertions = let i : w.insertion + busy w.processes ≤ w.stamp + 1 = v.insertions in omega arith;
}

-- ---- the end

pub ended-valid : (w : World) (p : ℕ) → Valid w → w.running ≡ Some p → Valid (let_go p (with_event p End (with_status p Ended (stamped w))))
ended-valid w p v r =
    let s : Valid (stamped w) = stamped-valid w v in
    let e : Valid (with_event p End (stamped w)) = event-valid (stamped w) p End s (runs-there (stamped w) p s r).below tt in
    let_go-valid (with_event p End (stamped w)) p Ended e r refl refl (omega arith)

-- ---- wait

-- the world in which the condition is tried follows
pub tried-follows : (t : Turn) (g : Term) → TurnFits t → Below t.world.next g → Follows t.world (tried t g)
tried-follows t g f h = going-follows t (Goal g (t.world.stamp + 1) ∷ Commit t.world.stamp ∷ t.rest) f.valid ((h, omega arith), (omega arith, later t f))

-- the world with the condition to be tried again is valid
pub parks : (t : Turn) (g : Term) → TurnFits t → Below t.world.next g → Valid (going t (Retry g ∷ t.rest))
parks t g f h = goes t (Retry g ∷ t.rest) f (h, later t f)

pub await_again-follows : (t : Turn) (g : Term) → TurnFits t → Below t.world.next g → EachFollows t.world (await_again t g)
await_again-follows t g f h = (tried-follows t g f h, (record { valid = leave-valid (going t (Retry g ∷ t.rest)) t.process (Parked false) (parks t g f h) f.running refl refl (omega arith); stamp = refl; next = omega arith }, tt))

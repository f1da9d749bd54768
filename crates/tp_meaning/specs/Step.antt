-- One step of a world.
use Rattle.std.specs.Prelude.{ℕ, List, [], ◌∷◌, Option, Some, None, Ok, Err}
use Rattle.tp_terms.specs.Term.{Name, Term, Terms, Var, Int, Atom, Comp, NoMore, count_of}
use Rattle.tp_meaning.specs.Checks.{Checked, ◌>>=◌, unbound, type_error, unknown}
use Rattle.tp_meaning.specs.Answers.{Answer, Yes, No}
use Rattle.tp_meaning.specs.Builtin.{of_args}
use Rattle.tp_meaning.specs.declared.goals.BuiltId.{BuiltId}
use Rattle.tp_meaning.specs.World.{World, Item, Goal, Retry, Ended, End, start, world_under}
use Rattle.tp_meaning.specs.World.{with_status, with_event, let_go, stamped, items_at}
use Rattle.tp_meaning.specs.World as item
use Rattle.tp_meaning.specs.Search.{Failed, Dead, Commit, Searched, Outcome, try}
use Rattle.tp_meaning.specs.Turn.{Turn, Gives, going, one, raised_at}
use Rattle.tp_meaning.specs.Goals.{GoalKind, Control, Process, BuiltIn, goal_kind}
use Rattle.tp_meaning.specs.Control.{control}
use Rattle.tp_meaning.specs.Process.{act, await_again}
use Rattle.tp_meaning.specs.Clauses.{Base, user_goal}
use Rattle.tp_meaning.specs.Scheduler.{choose}

-- what an answer gives: where the goal succeeds, the process goes on under what it bound
abbrev pub answered : Turn → Answer → Gives
answered t No = Dead Failed
answered t (Yes u next) = one (record (world_under u (going t t.rest)) { next = next })

-- what a built-in gives
abbrev pub built_in : Turn → BuiltId → Terms → Checked Gives
built_in t k ts = do
  a ← of_args k t.world.subst t.world.next ts
  Ok (answered t a)

-- what a goal gives, by its kind
abbrev pub goal_by : Base → Turn → ℕ → Name → Terms → Option GoalKind → Checked Gives
goal_by base t b f ts (Some (Control k)) = control t b k f ts
goal_by base t b f ts (Some (Process k)) = act t k f ts
goal_by base t b f ts (Some (BuiltIn k)) = built_in t k ts
goal_by base t b f ts None = user_goal base t f ts

-- no item holds a variable or an integer as its goal
abbrev pub goal_step : Base → Turn → ℕ → Term → Checked Gives
goal_step base t b (Var v) = Err unbound
goal_step base t b (Int z) = Err (type_error "callable" (Int z))
goal_step base t b (Atom f) = goal_by base t b f NoMore (goal_kind f 0)
goal_step base t b (Comp f ts) = goal_by base t b f ts (goal_kind f (count_of ts))

-- the end of a process
abbrev pub ended : World → ℕ → World
ended w p = let_go p (with_event p End (with_status p Ended (stamped w)))

-- what the first item of the running process gives
abbrev pub item_step : Base → World → ℕ → List Item → Gives
item_step base w p [] = one (ended w p)
item_step base w p (Goal g b ∷ rest) =
    raised_at w p (goal_step base (record { world = w; process = p; rest = rest }) b g)
item_step base w p (item.Commit c ∷ rest) =
    Commit c (going (record { world = w; process = p; rest = rest }) rest)
item_step base w p (Retry g ∷ rest) = await_again (record { world = w; process = p; rest = rest }) g

-- One step: where no process runs, the scheduler acts, and else the running process takes its first
-- item.
unfoldable pub step : Base → World → Gives
step base w =
    elim (w.running) [ None ↦ choose w | Some p ↦ item_step base w p (items_at w.processes p) ]

-- the search of a model's worlds
abbrev pub searched : Base → Searched World Term
searched base = record { step = step base; stamp = λ w. w.stamp }

-- A goal with so many variables, searched with n steps for k answers. Its end is called no more
-- where it fails, with a stamp or with none.
unfoldable pub search : Base → Term → ℕ → ℕ → ℕ → Outcome World Term
search base goal vars n k = try (searched base) (start goal vars) n k

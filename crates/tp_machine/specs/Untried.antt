-- The worlds that a step leaves to be tried later, by their place.
use Rattle.std.specs.Prelude.{ℕ, List, [], ◌∷◌, drop, Option, Some, None, Ok, Err}
use Rattle.tp_terms.specs.Term.{Name, Term, Terms, Var, Int, Atom, Comp, NoMore, count_of, term_of}
use Rattle.tp_meaning.specs.World.{World, Item, Goal, Commit, Retry, box_at, items_at}
use Rattle.tp_meaning.specs.Search as search
use Rattle.tp_meaning.specs.Turn.{Turn, Gives}
use Rattle.tp_meaning.specs.declared.goals.GoalKind.{GoalKind}
use Rattle.tp_meaning.specs.declared.goals.GoalKind.TheVariants.{Control, Process}
use Rattle.tp_meaning.specs.declared.goals.ProcessGoal.TheVariants.{Wait, WaitFor}
use Rattle.tp_meaning.specs.Checks.{Checked}
use Rattle.tp_meaning.specs.Control.{arg, control}
use Rattle.tp_meaning.specs.Goals.{goal_kind}
use Rattle.tp_meaning.specs.Process.{act, await_again, takes}
use Rattle.tp_meaning.specs.Clauses.{Base, predicate, worlds_of}
use Rattle.tp_control.specs.declared.choices.Alt.{Alt}
use Rattle.tp_control.specs.declared.choices.Alt.TheVariants.{Clause, Second, Message}

-- the second of two worlds
abbrev pub second_of : Gives → List World
second_of (search.Branch v (w ∷ [])) = w ∷ []
second_of g = []

abbrev pub second_in : Checked Gives → List World
second_in (Ok g) = second_of g
second_in (Err kind) = []

-- the worlds of a goal's clauses from a place on, where clauses define it; the second world of a
-- control goal or of `wait`; and the worlds of the messages that a `wait_for` may take, from a
-- place of the box on
abbrev pub untried_named : Base → Turn → ℕ → Name → Terms → Option GoalKind → Alt → List World
untried_named base t b f ts None (Clause place) =
    worlds_of t (term_of f ts) (drop place (predicate base f (count_of ts)))
untried_named base t b f ts (Some (Control k)) Second = second_in (control t b k f ts)
untried_named base t b f ts (Some (Process Wait)) Second = second_in (act t Wait f ts)
untried_named base t b f ts (Some (Process WaitFor)) (Message place) =
    takes t (arg 0 ts) place (drop place (box_at t.world.boxes t.process))
untried_named base t b f ts kind alt = []

abbrev pub untried_goal : Base → Turn → ℕ → Term → Alt → List World
untried_goal base t b (Var v) alt = []
untried_goal base t b (Int z) alt = []
untried_goal base t b (Atom f) alt = untried_named base t b f NoMore (goal_kind f 0) alt
untried_goal base t b (Comp f ts) alt = untried_named base t b f ts (goal_kind f (count_of ts)) alt

abbrev pub untried_again : Turn → Term → Alt → List World
untried_again t g Second = second_of (await_again t g)
untried_again t g (Clause place) = []
untried_again t g (Message place) = []

-- by the first item and what is next; none where they don't belong together
abbrev pub untried_by : Base → World → ℕ → List Item → Alt → List World
untried_by base w p [] alt = []
untried_by base w p (Goal g b ∷ rest) alt =
    untried_goal base (record { world = w; process = p; rest = rest }) b g alt
untried_by base w p (Commit c ∷ rest) alt = []
untried_by base w p (Retry g ∷ rest) alt =
    untried_again (record { world = w; process = p; rest = rest }) g alt

-- The part of the worlds of a step from a place on: of the clauses of the goal that is the running
-- process's first item, or of the messages that it may take, or the second world of a control goal,
-- of `wait` or of another try.
abbrev pub untried : Base → World → Alt → List World
untried base w alt =
    elim (w.running) [ None ↦ [] | Some p ↦ untried_by base w p (items_at w.processes p) alt ]

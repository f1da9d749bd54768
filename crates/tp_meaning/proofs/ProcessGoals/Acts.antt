-- The worlds of a process goal follow.
use Rattle.std.proofs.Common.{ℕ, IfOk}
use Rattle.tp_terms.specs.Term.{Name, Term, Terms, Int, Atom}
use Rattle.tp_meaning.specs.declared.goals.ProcessGoal.{ProcessGoal}
use Rattle.tp_meaning.specs.declared.goals.ProcessGoal.TheVariants as goal
use Rattle.tp_meaning.specs.World.{name_at}
use Rattle.tp_meaning.specs.Turn.{Turn, some, unified}
use Rattle.tp_meaning.specs.Control.{arg}
use Rattle.tp_meaning.specs.Process.{act}
use Rattle.tp_meaning.specs.Valid.{Below, AllBelow, EachFollows}
use Rattle.tp_meaning.proofs.ValidWorlds.Keeps.{arg-below, some-follow, unified-follows}
use Rattle.tp_meaning.proofs.ValidWorlds.Goes.{TurnFits, later}
use Rattle.tp_meaning.proofs.ProcessGoals.Waits.{hold-follows, wait-follows, wait_for-follows, note-follows}
use Rattle.tp_meaning.proofs.ProcessGoals.Creates.{create-follows}
use Rattle.tp_meaning.proofs.ProcessGoals.Sends.{send-follows}

-- the worlds of a process goal whose arguments have variables below the next one
pub act-follows : (t : Turn) (k : ProcessGoal) (f : Name) (ts : Terms) → TurnFits t → AllBelow t.world.next ts → IfOk (act t k f ts) (EachFollows t.world)
act-follows t k f ts fit h = go k
  where
    below : (n : ℕ) → Below t.world.next (arg n ts)
    below n = arg-below t.world.next n ts h

    equal : (x y : Term) → Below t.world.next x → Below t.world.next y → EachFollows t.world (some (unified t x y))
    equal x y a b = some-follow t.world (unified t x y) (unified-follows t x y fit.valid a b (later t fit))

    go : (k : ProcessGoal) → IfOk (act t k f ts) (EachFollows t.world)
    go goal.New = create-follows t (arg 0 ts) (arg 1 ts) (arg 2 ts) (arg 3 ts) fit (below 0)
    go goal.Hold = hold-follows t (arg 0 ts) fit
    go goal.Send = send-follows t (arg 0 ts) (arg 1 ts) fit (below 0)
    go goal.WaitFor = wait_for-follows t (arg 0 ts) fit (below 0)
    go goal.Wait = wait-follows t (arg 0 ts) fit (below 0)
    go goal.Now = equal (arg 0 ts) (Int t.world.clock) (below 0) tt
    go goal.OwnName = equal (arg 0 ts) (Atom (name_at t.world.processes t.process)) (below 0) tt
    go goal.Note = note-follows t (arg 0 ts) fit (below 0)

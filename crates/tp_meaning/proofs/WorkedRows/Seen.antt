-- Models as they are written, and what of a search is compared with a worked row.
use Rattle.std.proofs.Common.{ℕ, List, map, Some, None, ℤ, pos}
use Prim.Native.String.{String}
use Rattle.std.specs.Prelude.{codes}
use Rattle.tp_terms.specs.Term.{Term, terms_of}
use Rattle.tp_meaning.specs.Subst.{mgu, value_at}
use Rattle.tp_meaning.specs.World.{World, Event, EventKind}
use Rattle.tp_meaning.specs.Search.{Outcome, End, Fails, Stopped, Raised, Budget, try, try_within}
use Rattle.tp_meaning.specs.Machine.{closed_end}
use Rattle.tp_meaning.specs.Clauses.{Base, Clause}
use Rattle.tp_meaning.specs.Step.{step, search}
use Rattle.tp_meaning.specs.Goals.{goal_kind, goals}

abbrev pub fact : String → List Term → ℕ → Clause
fact f ts n = record { name = codes f; args = terms_of ts; body = None; vars = n }

abbrev pub rule : String → List Term → Term → ℕ → Clause
rule f ts b n = record { name = codes f; args = terms_of ts; body = Some b; vars = n }

abbrev pub at : ℕ → ℕ → EventKind → Event
at t p k = record { time = pos t; process = p; kind = k }

-- steps; failures, deadlocks and late ends; and end
abbrev pub Counted : Type 0
Counted = ℕ × (ℕ × ℕ × ℕ) × End ℤ Term

-- an end, an error by its clock
abbrev pub clocked : End World Term → End ℤ Term
clocked (Fails s) = Fails s
clocked Stopped = Stopped
clocked (Raised e w) = Raised e w.clock
clocked Budget = Budget

abbrev pub counted_in : Outcome World Term → Counted
counted_in r = (r.steps, (r.failed, r.deadlock, r.late), clocked (closed_end r.how))

abbrev pub counted : Base → Term → ℕ → ℕ → ℕ → Counted
counted base goal vars n k = counted_in (search base goal vars n k)

-- of each answer the steps, the clock, values of variables, and the history
abbrev pub Told : Type 0
Told = List (ℕ × ℤ × List Term × List Event)

abbrev pub told_in : List ℕ → World × ℕ → ℕ × ℤ × List Term × List Event
told_in vs a = (a.1, a.0.clock, map (value_at a.0.subst) vs, a.0.history)

abbrev pub told_of : List ℕ → Outcome World Term → Told
told_of vs r = map (told_in vs) r.answers

abbrev pub told : List ℕ → Base → Term → ℕ → ℕ → ℕ → Told
told vs base goal vars n k = told_of vs (search base goal vars n k)

-- whatever unfolds this unfolds all that a search computes with
unfoldable pub computed : Unit {0}
unfolding search try try_within step mgu goal_kind goals
computed = tt

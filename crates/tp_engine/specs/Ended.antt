-- How a run ends.
use Rattle.std.specs.Prelude.{◌≡◌, ℕ, ◌-◌, ◌<◌, zero, suc, List, [], ◌∷◌, length, Option, Some}
use Rattle.std.specs.Prelude.{None}
use Rattle.tp_terms.specs.Term.{Term}
use Rattle.tp_meaning.specs.World.{World}
use Rattle.tp_meaning.specs.Search as search
use Rattle.tp_meaning.specs.Search.{Searched, Outcome, try}
use Rattle.tp_meaning.specs.Machine as machine
use Rattle.tp_meaning.specs.Machine.{Turn, GoesOn, Ends, machine_of, started, turn_by, closed}
use Rattle.tp_meaning.specs.Step.{searched}
use Rattle.tp_engine.specs.declared.run.How.{How}
use Rattle.tp_engine.specs.declared.run.How.TheVariants.{NoMore, Stopped, Raised, Budget}
use Rattle.tp_engine.specs.declared.run.Ended.{Ended}
use Rattle.tp_engine.specs.Answers.{Answer, numbered}
use Rattle.tp_engine.specs.Told.{Told, Snapshot, state_of, world_in, seen_in}

-- what a search from an engine's world finds with so many steps for so many answers
abbrev pub outcome_of : Told → ℕ → ℕ → Outcome World Term
outcome_of t budget wanted = closed (try (searched t.base) (world_in t.seen) budget wanted)

-- its answers, as they are handed over
abbrev pub answers_of : Told → ℕ → ℕ → List Answer
answers_of t budget wanted =
    numbered t.seen.named t.seen.ops 0 (outcome_of t budget wanted).answers

-- an end as the search has it: an error by its term, and with the world whose step raised it
abbrev pub end_of : Snapshot → How → search.End World Term
end_of s NoMore = search.Fails None
end_of s Stopped = search.Stopped
end_of s (Raised term clock) = search.Raised (seen_in s term) (world_in s)
end_of s Budget = search.Budget

-- the place of an error's term is one of the engine's cells, and the time is the engine's
abbrev pub RaisedStands : Snapshot → How → Type 0
RaisedStands s (Raised term clock) =
    (term.at < length s.plain.store.cells) × (clock ≡ s.plain.clock)
RaisedStands s _ = Unit {0}

-- the world of the last answer
abbrev pub last_world : List (World × ℕ) → Option World
last_world [] = None
last_world (a ∷ []) = Some a.0
last_world (a ∷ b ∷ answers) = last_world (b ∷ answers)

-- the last answer that was wanted is that of the engine's world
abbrev pub AnswerStands : Snapshot → List (World × ℕ) → How → Type 0
AnswerStands s answers Stopped = last_world answers ≡ Some (world_in s)
AnswerStands s answers _ = Unit {0}

-- steps, counts and end are those of the search, and the engine's counts are these
pub record Finds (o : Outcome World Term) (t : Told) (e : Ended) : Type 0 where
  pub steps : e.steps ≡ o.steps
  pub found : e.found ≡ length o.answers
  pub failed : e.failed ≡ o.failed
  pub deadlock : e.deadlock ≡ o.deadlock
  pub late : e.late ≡ o.late
  pub how : end_of t.seen e.how ≡ o.how
  pub answer : AnswerStands t.seen o.answers e.how
  pub raised : RaisedStands t.seen e.how
  pub number : t.seen.number ≡ e.found
  pub made : t.seen.steps ≡ e.steps

-- ---- where the engine stands

-- where so many turns of the definitions' machine lead
abbrev pub after_turns : {W E : Type 0} → Searched W E → ℕ → ℕ → machine.Machine W E → Turn W E
after_turns x k zero m = GoesOn m
after_turns x k (suc n) m = elim (after_turns x k n m) [
  | GoesOn m' ↦ turn_by x k (x.step m'.world) m'
  | Ends o ↦ Ends o
]

-- how many turns went on
abbrev pub turns_of : Ended → How → ℕ
turns_of e Budget = e.steps
turns_of e _ = e.steps - 1

-- The engine stands where that many turns lead. The turn that ended the search made its step there.
abbrev pub Reaches : Told → ℕ → Told → Ended → Type 0
Reaches old wanted t e =
    let start = started (world_in old.seen) in
    let turns = after_turns (searched old.base) wanted (turns_of e e.how) start in
    (tally : Outcome World Term) × (turns ≡ GoesOn (machine_of (state_of t) tally))

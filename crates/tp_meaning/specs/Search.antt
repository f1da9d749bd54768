-- What a depth-first search of worlds finds, whatever a world and a step of it are.
use Rattle.std.specs.Prelude.{ℕ, zero, suc, ◌+◌, ◌-◌, min, Bool, true, false, nat_eq, nat_lt}
use Rattle.std.specs.Prelude.{if◌then◌else◌, List, [], ◌∷◌, ◌++◌, map, length, Option, Some, None}
pub use Rattle.tp_meaning.specs.declared.DeadCause.{DeadCause}
pub use Rattle.tp_meaning.specs.declared.DeadCause.TheVariants.{Failed, Deadlock, Late}

-- what one step of a world gives
pub data Step (W E : Type 0) : Type 0 where
  Success : Step W E
  Dead : DeadCause → Step W E
  Raise : E → Step W E
  Commit : ℕ → W → Step W E
  -- the first world, and the others in order
  Branch : W → List W → Step W E

-- worlds that are searched: their steps, and for each its stamp
pub record Searched (W E : Type 0) : Type 0 where
  pub step : W → Step W E
  pub stamp : W → ℕ

-- how a search ends; a failure may carry a stamp, and an error comes with the world whose step
-- raised it
pub data End (W E : Type 0) : Type 0 where
  Fails : Option ℕ → End W E
  Stopped : End W E
  Raised : E → W → End W E
  Budget : End W E

-- an answer is a world and the number of steps up to it
pub record Outcome (W E : Type 0) : Type 0 where
  pub answers : List (W × ℕ)
  pub steps : ℕ
  pub failed : ℕ
  pub deadlock : ℕ
  pub late : ℕ
  pub how : End W E

-- an outcome of this many steps without an answer
abbrev pub after : {W E : Type 0} → ℕ → End W E → Outcome W E
after n how = record { answers = []; steps = n; failed = 0; deadlock = 0; late = 0; how = how }

-- an answer found after n steps more
abbrev pub later : {W : Type 0} → ℕ → W × ℕ → W × ℕ
later n a = (a.0, n + a.1)

-- the first outcome, and then the second, whose end is the end
abbrev pub followed_by : {W E : Type 0} → Outcome W E → Outcome W E → Outcome W E
followed_by r q = record {
  answers = r.answers ++ map (later r.steps) q.answers;
  steps = r.steps + q.steps;
  failed = r.failed + q.failed;
  deadlock = r.deadlock + q.deadlock;
  late = r.late + q.late;
  how = q.how;
}

-- one step, and then an outcome
abbrev pub with_step : {W E : Type 0} → Outcome W E → Outcome W E
with_step r = followed_by (after 1 (Fails None)) r

-- one step to a dead end
abbrev pub dead_end : {W E : Type 0} → DeadCause → Outcome W E
dead_end Failed =
    record { answers = []; steps = 1; failed = 1; deadlock = 0; late = 0; how = Fails None }
dead_end Deadlock =
    record { answers = []; steps = 1; failed = 0; deadlock = 1; late = 0; how = Fails None }
dead_end Late =
    record { answers = []; steps = 1; failed = 0; deadlock = 0; late = 1; how = Fails None }

-- the answer w; the last one that is wanted ends the search
abbrev pub answer : {W E : Type 0} → W → ℕ → Outcome W E
answer w wanted =
    record {
      answers = (w, 1) ∷ [];
      steps = 1;
      failed = 0;
      deadlock = 0;
      late = 0;
      how =
          if nat_eq wanted 1 then Stopped else Fails None;
    }

-- the lesser of two stamps, a missing one counting as greater
abbrev pub lesser : ℕ → Option ℕ → ℕ
lesser c None = c
lesser c (Some x) = min c x

-- a failure below a commit carries the lesser of its own stamp and the commit's
abbrev pub capped_end : {W E : Type 0} → ℕ → End W E → End W E
capped_end c (Fails x) = Fails (Some (lesser c x))
capped_end c Stopped = Stopped
capped_end c (Raised e w) = Raised e w
capped_end c Budget = Budget

abbrev pub capped : {W E : Type 0} → ℕ → Outcome W E → Outcome W E
capped c r = record r { how = capped_end c r.how }

-- the end is a failure that doesn't skip the other worlds of a branch made at this stamp
abbrev pub goes_on : {W E : Type 0} → ℕ → End W E → Bool
goes_on s (Fails None) = true
goes_on s (Fails (Some x)) = nat_lt s x
goes_on s Stopped = false
goes_on s (Raised e w) = false
goes_on s Budget = false

-- searches worlds in order, each by the given search of n steps and k answers
abbrev pub each : {W E : Type 0} → (W → ℕ → ℕ → Outcome W E) → List W → ℕ → ℕ → ℕ → Outcome W E
each search [] s n k = after 0 (Fails None)
each search (v ∷ more) s n k =
    let r = search v n k in
    elim (goes_on s r.how) [
      | true ↦ followed_by r (each search more s (n - r.steps) (k - length r.answers))
      | false ↦ r
    ]

-- what a step leads to, with n more steps
abbrev pub goes : {W E : Type 0} → (W → ℕ → ℕ → Outcome W E) → Searched W E → W → Step W E → ℕ →
    ℕ → Outcome W E
goes search x w Success n k = answer w k
goes search x w (Dead c) n k = dead_end c
goes search x w (Raise e) n k = after 1 (Raised e w)
goes search x w (Commit c v) n k = capped c (with_step (search v n k))
goes search x w (Branch v more) n k = with_step (each search (v ∷ more) (x.stamp w) n k)

-- The search of a world with n steps left and k answers wanted. The first number bounds how deep
-- the definition goes; any bound from n on gives the same.
unfoldable pub try_within : {W E : Type 0} → Searched W E → ℕ → W → ℕ → ℕ → Outcome W E
try_within x d w zero k = after 0 Budget
try_within x zero w (suc n) k = after 0 Budget
try_within x (suc d) w (suc n) k = goes (try_within x d) x w (x.step w) n k

-- the search with n steps left and k answers wanted, k at least 1
unfoldable pub try : {W E : Type 0} → Searched W E → W → ℕ → ℕ → Outcome W E
try x w n k = try_within x n w n k

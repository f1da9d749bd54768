-- A machine that searches: one current world, and the choices that stand open.
use Rattle.std.specs.Prelude.{◌≡◌, ℕ, ◌+◌, ◌<◌, Bool, true, false, nat_lt, if◌then◌else◌, List, []}
use Rattle.std.specs.Prelude.{◌∷◌, ◌++◌, length, Option, Some, None}
use Rattle.std.specs.List.{AllByRecursion}
use Rattle.tp_meaning.specs.Search.{DeadCause, Failed, Deadlock, Late, Step, Searched, End, Fails}
use Rattle.tp_meaning.specs.Search.{Stopped, Outcome, after, try}
use Rattle.tp_meaning.specs.Search as search

-- a choice: a world that branched, its stamp, and its worlds that are untried, in order
pub record Choice (W : Type 0) : Type 0 where
  pub stamp : ℕ
  pub world : W
  pub untried : List W

-- the current world, and the choices, the newest first
pub record State (W : Type 0) : Type 0 where
  pub world : W
  pub choices : List (Choice W)

-- what a step answers
pub data Stepped (E : Type 0) : Type 0 where
  Went Success : Stepped E
  Dead : DeadCause → Stepped E
  Raised : E → Stepped E

-- the choices with this one, where it has an untried world
abbrev pub with_choice : {W : Type 0} → ℕ → W → List W → List (Choice W) → List (Choice W)
with_choice s w [] cs = cs
with_choice s w (v ∷ more) cs = record { stamp = s; world = w; untried = v ∷ more } ∷ cs

-- the choices that a commit with this stamp leaves
abbrev pub cut_from : {W : Type 0} → ℕ → List (Choice W) → List (Choice W)
cut_from c [] = []
cut_from c (x ∷ xs) = if nat_lt x.stamp c then x ∷ xs else cut_from c xs

-- the answer of one step, and the state after it
abbrev pub stepped_by : {W E : Type 0} → Searched W E → Step W E → State W → Stepped E × State W
stepped_by x search.Success s = (Success, s)
stepped_by x (search.Dead c) s = (Dead c, s)
stepped_by x (search.Raise e) s = (Raised e, s)
stepped_by x (search.Commit c v) s = (Went, record { world = v; choices = cut_from c s.choices })
stepped_by x (search.Branch v more) s =
    (Went, record { world = v; choices = with_choice (x.stamp s.world) s.world more s.choices })

abbrev pub stepped : {W E : Type 0} → Searched W E → State W → Stepped E × State W
stepped x s = stepped_by x (x.step s.world) s

-- the last choice's world becomes the current one, where there is a choice
abbrev pub rewound_to : {W : Type 0} → State W → List (Choice W) → Bool × State W
rewound_to s [] = (false, s)
rewound_to s (c ∷ cs) = (true, record s { world = c.world })

abbrev pub rewound : {W : Type 0} → State W → Bool × State W
rewound s = rewound_to s s.choices

-- The first untried world of the last choice becomes the current one. The choice keeps the rest,
-- and is gone where there is no rest.
abbrev pub resumed_by : {W : Type 0} → State W → Choice W → List W → List (Choice W) → State W
resumed_by s c [] cs = record s { choices = cs }
resumed_by s c (v ∷ more) cs = record { world = v; choices = with_choice c.stamp c.world more cs }

abbrev pub resumed_from : {W : Type 0} → State W → List (Choice W) → State W
resumed_from s [] = s
resumed_from s (c ∷ cs) = resumed_by s c c.untried cs

abbrev pub resumed : {W : Type 0} → State W → State W
resumed s = resumed_from s s.choices

-- rewinding, and then resuming
abbrev pub back : {W : Type 0} → State W → Option (State W)
back s = let r = rewound s in if r.0 then Some (resumed r.1) else None

-- ---- the machine, with what was found so far

pub record Machine (W E : Type 0) : Type 0 where
  pub world : W
  pub choices : List (Choice W)
  pub tally : Outcome W E

abbrev pub state_of : {W E : Type 0} → Machine W E → State W
state_of m = record { world = m.world; choices = m.choices }

abbrev pub machine_of : {W E : Type 0} → State W → Outcome W E → Machine W E
machine_of s t = record { world = s.world; choices = s.choices; tally = t }

-- a machine at its start
abbrev pub started : {W E : Type 0} → W → Machine W E
started w = record { world = w; choices = []; tally = after 0 (Fails None) }

-- a turn goes on, or ends with all that was found
pub data Turn (W E : Type 0) : Type 0 where
  GoesOn : Machine W E → Turn W E
  Ends : Outcome W E → Turn W E

abbrev pub one_more : {W E : Type 0} → Outcome W E → Outcome W E
one_more t = record t { steps = t.steps + 1 }

abbrev pub dead_more : {W E : Type 0} → DeadCause → Outcome W E → Outcome W E
dead_more Failed t = record t { steps = t.steps + 1; failed = t.failed + 1 }
dead_more Deadlock t = record t { steps = t.steps + 1; deadlock = t.deadlock + 1 }
dead_more Late t = record t { steps = t.steps + 1; late = t.late + 1 }

abbrev pub answer_more : {W E : Type 0} → W → Outcome W E → Outcome W E
answer_more w t = record t { answers = t.answers ++ (w, t.steps + 1) ∷ []; steps = t.steps + 1 }

abbrev pub ended : {W E : Type 0} → End W E → Outcome W E → Outcome W E
ended how t = record t { how = how }

-- back to the last choice, and an end where there is none
abbrev pub back_to : {W E : Type 0} → Outcome W E → State W → Turn W E
back_to t s =
    elim (back s) [ None ↦ Ends (ended (Fails None) t) | Some r ↦ GoesOn (machine_of r t) ]

-- what is done after a step with this answer, k answers being wanted
abbrev pub turned : {W E : Type 0} → Searched W E → ℕ → Stepped E → State W → Outcome W E → Turn W E
turned x k Went s t = GoesOn (machine_of s (one_more t))
turned x k Success s t =
    if nat_lt (length t.answers + 1) k then back_to (answer_more s.world t) s
    else Ends (ended Stopped (answer_more s.world t))
turned x k (Dead c) s t = back_to (dead_more c t) s
turned x k (Raised e) s t = Ends (ended (search.Raised e s.world) (one_more t))

-- one step of a machine, and back to a choice where it fails
abbrev pub turn_by : {W E : Type 0} → Searched W E → ℕ → Step W E → Machine W E → Turn W E
turn_by x k g m = let r = stepped_by x g (state_of m) in turned x k r.0 r.1 m.tally

-- ---- stacks of choices

-- a choice below a stamp: it has that of its world, and worlds left, which have the next
pub record IsChoice {W E : Type 0} (x : Searched W E) (s : ℕ) (c : Choice W) : Type 0 where
  pub below : c.stamp < s
  pub own : x.stamp c.world ≡ c.stamp
  pub some : 0 < length c.untried
  pub next : AllByRecursion (λ w. x.stamp w ≡ c.stamp + 1) c.untried

-- choices whose stamps fall from below this one
abbrev pub IsStack : {W E : Type 0} → Searched W E → ℕ → List (Choice W) → Type 0
IsStack x s [] = Unit {0}
IsStack x s (c ∷ cs) = IsChoice x s c × IsStack x c.stamp cs

-- choices below the stamp of the current world
abbrev pub HasStack : {W E : Type 0} → Searched W E → State W → Type 0
HasStack x s = IsStack x (x.stamp s.world) s.choices

-- the current world is that of the last choice
abbrev pub IsLast : {W : Type 0} → W → List (Choice W) → Type 0
IsLast w [] = ⊥
IsLast w (c ∷ cs) = w ≡ c.world

abbrev pub IsRewound : {W : Type 0} → State W → Type 0
IsRewound s = IsLast s.world s.choices

-- choices up to the stamp of the current world, as rewinding leaves them
abbrev pub HasStackUpTo : {W E : Type 0} → Searched W E → State W → Type 0
HasStackUpTo x s = IsStack x (x.stamp s.world + 1) s.choices

-- each world that a step gives has the next stamp
abbrev pub Rises : {W E : Type 0} → Searched W E → W → Step W E → Type 0
Rises x w search.Success = Unit {0}
Rises x w (search.Dead c) = Unit {0}
Rises x w (search.Raise e) = Unit {0}
Rises x w (search.Commit c v) = x.stamp v ≡ x.stamp w + 1
Rises x w (search.Branch v more) =
    (x.stamp v ≡ x.stamp w + 1) × AllByRecursion (λ u. x.stamp u ≡ x.stamp w + 1) more

-- ---- whole searches

-- a failed end whose stamp is forgotten
abbrev pub closed_end : {W E : Type 0} → End W E → End W E
closed_end (Fails s) = Fails None
closed_end Stopped = Stopped
closed_end (search.Raised e w) = search.Raised e w
closed_end search.Budget = search.Budget

-- the whole search, for which it doesn't matter what stamp a failure carries
abbrev pub closed : {W E : Type 0} → Outcome W E → Outcome W E
closed r = record r { how = closed_end r.how }

-- the choices that stand below a stamp, the newest first
abbrev pub Descends : {W : Type 0} → ℕ → List (Choice W) → Type 0
Descends s [] = Unit {0}
Descends s (c ∷ cs) = (c.stamp < s) × Descends c.stamp cs

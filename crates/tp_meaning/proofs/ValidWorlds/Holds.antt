-- What holds of each world of a state stays.
use Rattle.std.proofs.Common.{◌≡◌, ℕ, ◌+◌, ◌≤◌, arith, Bool, true, false, cond, nat_lt, List, [], ◌∷◌}
use Rattle.std.specs.List.{AllByRecursion}
use Rattle.tp_meaning.specs.Search.{Searched, Step, Success, Dead, Raise, Commit, Branch}
use Rattle.tp_meaning.specs.Machine.{Choice, State, stepped_by, stepped, rewound, rewound_to, resumed, resumed_by, resumed_from, with_choice, cut_from, Rises}
use Rattle.tp_meaning.specs.World.{World}
use Rattle.tp_meaning.specs.Turn.{Gives}
use Rattle.tp_meaning.specs.Valid.{Valid, Follows, EachFollows, ClauseFits}
use Rattle.tp_meaning.specs.Clauses.{Base}
use Rattle.tp_meaning.specs.Step.{step, searched}
pub use Rattle.tp_meaning.specs.Holds.{EachHolds, ChoiceHolds, Holds, Stands}
use Rattle.tp_meaning.proofs.ValidWorlds.Places.{all-weaker}
use Rattle.tp_meaning.proofs.ValidWorlds.Rise.{stamps_rise}

choice-with : {W : Type 0} (P : W → Type 0) (d : ℕ) (w : W) (more : List W) (cs : List (Choice W)) → P w → AllByRecursion P more → AllByRecursion (ChoiceHolds P) cs → AllByRecursion (ChoiceHolds P) (with_choice d w more cs)
choice-with P d w [] cs p a h = h
choice-with P d w (v ∷ more) cs p a h = ((p, a), h)

choice-cut : {W : Type 0} (P : W → Type 0) (c : ℕ) (cs : List (Choice W)) → AllByRecursion (ChoiceHolds P) cs → AllByRecursion (ChoiceHolds P) (cut_from c cs)
choice-cut P c [] h = tt
choice-cut P c (y ∷ ys) h = go (nat_lt y.stamp c) (choice-cut P c ys h.1)
  where
    go : (b : Bool) → AllByRecursion (ChoiceHolds P) (cut_from c ys) → AllByRecursion (ChoiceHolds P) (cond b (y ∷ ys) (cut_from c ys))
    go true k = h
    go false k = k

pub stepped_by-holds : {W E : Type 0} (P : W → Type 0) (x : Searched W E) (g : Step W E) (s : State W) → EachHolds P g → Holds P s → Holds P (stepped_by x g s).1
stepped_by-holds P x Success s e h = h
stepped_by-holds P x (Dead c) s e h = h
stepped_by-holds P x (Raise r) s e h = h
stepped_by-holds P x (Commit c v) s e h = record { world = e; choices = choice-cut P c s.choices h.choices }
stepped_by-holds P x (Branch v more) s e h = record { world = e.0; choices = choice-with P (x.stamp s.world) s.world more s.choices h.world e.1 h.choices }

pub stepped-holds : {W E : Type 0} (P : W → Type 0) (x : Searched W E) (s : State W) → EachHolds P (x.step s.world) → Holds P s → Holds P (stepped x s).1
stepped-holds P x s e h = stepped_by-holds P x (x.step s.world) s e h

rewound_to-holds : {W : Type 0} (P : W → Type 0) (s : State W) (cs : List (Choice W)) → AllByRecursion (ChoiceHolds P) cs → Holds P s → Holds P (rewound_to s cs).1
rewound_to-holds P s [] a h = h
rewound_to-holds P s (c ∷ cs) a h = record { world = a.0.0; choices = h.choices }

pub rewound-holds : {W : Type 0} (P : W → Type 0) (s : State W) → Holds P s → Holds P (rewound s).1
rewound-holds P s h = rewound_to-holds P s s.choices h.choices h

resumed_by-holds : {W : Type 0} (P : W → Type 0) (s : State W) (c : Choice W) (ws : List W) (cs : List (Choice W)) → P s.world → P c.world → AllByRecursion P ws → AllByRecursion (ChoiceHolds P) cs → Holds P (resumed_by s c ws cs)
resumed_by-holds P s c [] cs p q a h = record { world = p; choices = h }
resumed_by-holds P s c (v ∷ more) cs p q a h = record { world = a.0; choices = choice-with P c.stamp c.world more cs q a.1 h }

resumed_from-holds : {W : Type 0} (P : W → Type 0) (s : State W) (cs : List (Choice W)) → AllByRecursion (ChoiceHolds P) cs → Holds P s → Holds P (resumed_from s cs)
resumed_from-holds P s [] a h = h
resumed_from-holds P s (c ∷ cs) a h = resumed_by-holds P s c c.untried cs h.world a.0.0 a.0.1 a.1

pub resumed-holds : {W : Type 0} (P : W → Type 0) (s : State W) → Holds P s → Holds P (resumed s)
resumed-holds P s h = resumed_from-holds P s s.choices h.choices h

-- ---- valid worlds

follow-stand : (n : ℕ) (w : World) (g : Gives) → n ≤ w.next → EachFollows w g → EachHolds (Stands n) g
follow-stand n w Success le h = tt
follow-stand n w (Dead c) le h = tt
follow-stand n w (Raise e) le h = tt
follow-stand n w (Commit c v) le h = record { valid = h.valid; vars = omega (arith, h.next) }
follow-stand n w (Branch v more) le h = (
  record { valid = h.0.valid; vars = omega (arith, h.0.next) },
  all-weaker (Follows w) (Stands n) (λ u k. record { valid = k.valid; vars = omega (arith, k.next) }) more h.1,
)

-- each world that a step gives has the next stamp
pub follow-rise : (base : Base) (w : World) (g : Gives) → EachFollows w g → Rises (searched base) w g
follow-rise base w Success h = tt
follow-rise base w (Dead c) h = tt
follow-rise base w (Raise e) h = tt
follow-rise base w (Commit c v) h = h.stamp
follow-rise base w (Branch v more) h = (h.0.stamp, all-weaker (Follows w) (λ u. u.stamp ≡ w.stamp + 1) (λ u k. k.stamp) more h.1)

-- a step of a state whose worlds are valid gives such a state, and its worlds rise
pub stepped-stands : (base : Base) (n : ℕ) (s : State World) → AllByRecursion ClauseFits base → Holds (Stands n) s → Holds (Stands n) (stepped (searched base) s).1
stepped-stands base n s a h = stepped-holds (Stands n) (searched base) s (follow-stand n s.world (step base s.world) h.world.vars (stamps_rise base s.world a h.world.valid)) h

pub step-rises : (base : Base) (w : World) → AllByRecursion ClauseFits base → Valid w → Rises (searched base) w (step base w)
step-rises base w a v = follow-rise base w (step base w) (stamps_rise base w a v)

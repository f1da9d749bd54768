-- Laws of stacks of choices, and of states that have one.
use Rattle.std.proofs.Common.{◌≡◌, ℕ, ◌+◌, ◌<◌, ◌≤◌, Bool, true, false, cond, nat_lt, if◌then◌else◌, Some, None, List, [], ◌∷◌, length, arith, ap, sym, refl}
use mathlib.Core.Path.{subst}
use Rattle.std.specs.List.{AllByRecursion}
use Rattle.tp_meaning.specs.Search.{Searched, Step, Success, Dead, Raise, Commit, Branch}
pub use Rattle.tp_meaning.specs.Machine.{HasStack, HasStackUpTo, IsLast, IsRewound}
use Rattle.tp_meaning.specs.Machine.{Choice, State, stepped_by, stepped, rewound, rewound_to, resumed, resumed_by, resumed_from, back, with_choice, Descends, cut_from, IsStack, Rises}

-- choices below a stamp are below a greater one
pub stack_above : {W E : Type 0} → (x : Searched W E) → (s t : ℕ) → (cs : List (Choice W)) → s ≤ t → IsStack x s cs → IsStack x t cs
stack_above x s t [] le h = tt
stack_above x s t (c ∷ cs) le h = (record { below = (let lt : c.stamp < s = h.0.below in omega arith); own = h.0.own; some = h.0.some; next = h.0.next }, h.1)

-- each choice has an untried world
pub stack_full : {W E : Type 0} → (x : Searched W E) → (s : ℕ) → (cs : List (Choice W)) → IsStack x s cs → AllByRecursion (λ (c : Choice W). 0 < length c.untried) cs
stack_full x s [] h = tt
stack_full x s (c ∷ cs) h = (h.0.some, stack_full x c.stamp cs h.1)

pub stack_descends : {W E : Type 0} → (x : Searched W E) → (s : ℕ) → (cs : List (Choice W)) → IsStack x s cs → Descends s cs
stack_descends x s [] h = tt
stack_descends x s (c ∷ cs) h = (h.0.below, stack_descends x c.stamp cs h.1)

-- a choice added where it has worlds left, under the first of its worlds
pub stack_with : {W E : Type 0} → (x : Searched W E) → (s : ℕ) → (w v : W) → (more : List W) → (cs : List (Choice W)) → x.stamp w ≡ s → x.stamp v ≡ s + 1 → AllByRecursion (λ u. x.stamp u ≡ s + 1) more → IsStack x s cs → IsStack x (x.stamp v) (with_choice s w more cs)
stack_with x s w v [] cs own e all h = stack_above x s (x.stamp v) cs (omega arith) h
stack_with x s w v (u ∷ more) cs own e all h = (record { below = omega arith; own = own; some = omega arith; next = all }, h)

pub stack_cut : {W E : Type 0} → (x : Searched W E) → (c s t : ℕ) → (cs : List (Choice W)) → s ≤ t → IsStack x s cs → IsStack x t (cut_from c cs)
stack_cut x c s t [] le h = tt
stack_cut x c s t (y ∷ ys) le h = go (nat_lt y.stamp c) (stack_cut x c y.stamp t ys (let lt : y.stamp < s = h.0.below in omega arith) h.1)
  where
    go : (b : Bool) → IsStack x t (cut_from c ys) → IsStack x t (cond b (y ∷ ys) (cut_from c ys))
    go true k = stack_above x s t (y ∷ ys) le h
    go false k = k

-- ---- states

pub stepped_by-stack : {W E : Type 0} → (x : Searched W E) → (g : Step W E) → (s : State W) → Rises x s.world g → HasStack x s → HasStack x (stepped_by x g s).1
stepped_by-stack x Success s r h = h
stepped_by-stack x (Dead c) s r h = h
stepped_by-stack x (Raise e) s r h = h
stepped_by-stack x (Commit c v) s r h = stack_cut x c (x.stamp s.world) (x.stamp v) s.choices (let up : x.stamp v ≡ x.stamp s.world + 1 = r in omega arith) h
stepped_by-stack x (Branch v more) s r h = stack_with x (x.stamp s.world) s.world v more s.choices refl r.0 r.1 h

pub stepped-stack : {W E : Type 0} → (x : Searched W E) → (s : State W) → Rises x s.world (x.step s.world) → HasStack x s → HasStack x (stepped x s).1
stepped-stack x s r h = stepped_by-stack x (x.step s.world) s r h

rewound_to-stack : {W E : Type 0} → (x : Searched W E) → (s : State W) → (cs : List (Choice W)) → s.choices ≡ cs → IsStack x (x.stamp s.world + 1) cs → HasStackUpTo x (rewound_to s cs).1
rewound_to-stack x s [] e k = subst (IsStack x (x.stamp s.world + 1)) (sym e) tt
rewound_to-stack x s (c ∷ cs) e k = subst (IsStack x (x.stamp c.world + 1)) (sym e) (record { below = (let o : x.stamp c.world ≡ c.stamp = k.0.own in omega arith); own = k.0.own; some = k.0.some; next = k.0.next }, k.1)

pub rewound-stack : {W E : Type 0} → (x : Searched W E) → (s : State W) → HasStackUpTo x s → HasStackUpTo x (rewound s).1
rewound-stack x s h = rewound_to-stack x s s.choices refl h

-- where there is a choice, its world is the current one after rewinding
rewound_to-is : {W : Type 0} → (s : State W) → (cs : List (Choice W)) → s.choices ≡ cs → (rewound_to s cs).0 ≡ true → IsRewound (rewound_to s cs).1
rewound_to-is s [] e t = absurd (cc)
rewound_to-is s (c ∷ cs) e t = subst (IsLast c.world) (sym e) refl

pub rewound-is : {W : Type 0} → (s : State W) → (rewound s).0 ≡ true → IsRewound (rewound s).1
rewound-is s t = rewound_to-is s s.choices refl t

resumed_by-stack : {W E : Type 0} → (x : Searched W E) → (s : State W) → (c : Choice W) → (ws : List W) → (cs : List (Choice W)) → x.stamp c.world ≡ c.stamp → AllByRecursion (λ w. x.stamp w ≡ c.stamp + 1) ws → 0 < length ws → IsStack x c.stamp cs → HasStack x (resumed_by s c ws cs)
resumed_by-stack x s c [] cs own all l st = absurd (omega arith)
resumed_by-stack x s c (v ∷ more) cs own all l st = stack_with x c.stamp c.world v more cs own all.0 all.1 st

resumed_from-stack : {W E : Type 0} → (x : Searched W E) → (s : State W) → (cs : List (Choice W)) → IsStack x (x.stamp s.world + 1) cs → IsLast s.world cs → HasStack x (resumed_from s cs)
resumed_from-stack x s [] k e = absurd e
resumed_from-stack x s (c ∷ cs) k e = resumed_by-stack x s c c.untried cs k.0.own k.0.next k.0.some k.1

-- resuming after rewinding leaves choices below the current world
pub resumed-stack : {W E : Type 0} → (x : Searched W E) → (s : State W) → HasStackUpTo x s → IsRewound s → HasStack x (resumed s)
resumed-stack x s h r = resumed_from-stack x s s.choices h r

-- ---- rewinding and then resuming

pub back-some : {W : Type 0} → (s r : State W) → (true, r) ≡ rewound s → back s ≡ Some (resumed r)
back-some s r e = ap (λ (z : Bool × State _). if z.0 then Some (resumed z.1) else None) (sym e)

pub back-none : {W : Type 0} → (s r : State W) → (false, r) ≡ rewound s → back s ≡ None
back-none s r e = ap (λ (z : Bool × State _). if z.0 then Some (resumed z.1) else None) (sym e)

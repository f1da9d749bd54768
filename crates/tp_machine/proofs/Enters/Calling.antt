-- `call`, whose goal gets the further arguments at its end.
use Rattle.std.proofs.Common.{◌≡◌, ℕ, zero, suc, ◌+◌, ◌-◌, ◌<◌, ◌≤◌, Bool, true, false, nat_eq, eqb-true, if◌then◌else◌, List, [], ◌∷◌, length, Some, Ok, Err, refl, ap, sym, subst, ◌∙◌, arith}
use Rattle.std.proofs.lemmas.Bool.{le-ltb, lt-ltb}
use Rattle.tp_terms.specs.declared.cells.Ref.{Ref}
use Rattle.tp_terms.specs.Term.{Name, Term, Terms, Var, Int, NoMore, More, term_of, count_of, args_of, with_args}
use Rattle.tp_terms.specs.Shown.{name_at, AreNamed}
use Rattle.tp_meaning.specs.declared.goals.GoalKind.TheVariants.{Control}
use Rattle.tp_meaning.specs.declared.goals.ControlGoal.TheVariants as control
use Rattle.tp_meaning.specs.Body.{enter}
use Rattle.tp_meaning.specs.Checks.{Checked, ◌>>=◌, ◌>>◌, ◌if◌, arity_fits, type_error, unbound, representation_error}
use Rattle.tp_meaning.specs.Control as meaning
use Rattle.tp_meaning.specs.Control.{arg, behind_first, called, called_with}
use Rattle.tp_meaning.specs.Turn.{Turn, Gives, going, one, raised_at}
use Rattle.tp_meaning.specs.World as world
use Rattle.tp_meaning.proofs.OwnGoals.Counts.{fewest-fits}
use Rattle.tp_store.specs.Contents.{Contents, AddsCells, IsStore, Keeps, seen, args_seen}
use Rattle.tp_store.specs.Joined.{HasRoom, IsCallable, ShowsMore, is_callable}
use Rattle.tp_store.proofs.Standing.Nameless.{callable-any_names, count-any_names}
use Rattle.tp_store.proofs.Standing.Facts.{count-seen}
use Rattle.tp_control.specs.declared.frames.Item.TheVariants.{Goal}
use Rattle.tp_state.specs.declared.state.State.{State}
use Rattle.tp_state.specs.Acts.{resting}
use Rattle.tp_state.specs.Going.{Follows}
use Rattle.tp_state.specs.State.{plain_of, held_of}
use Rattle.tp_machine.specs.declared.enter.Entered.{Entered}
use Rattle.tp_machine.specs.declared.enter.Entered.TheVariants as entered
use Rattle.tp_machine.specs.declared.errors.Cause.{Cause}
use Rattle.tp_machine.specs.declared.errors.Cause.TheVariants as cause
use Rattle.tp_machine.specs.declared.machine.Machine.{Machine}
use Rattle.tp_machine.specs.declared.stepped.Stepped.TheVariants as answer
use Rattle.tp_machine.specs.declared.task.Task.{Task}
use Rattle.tp_machine.specs.declared.task.Call.{Call}
use Rattle.tp_machine.specs.Calling.{CallsGoal, CallStands, CallEntered, call_gives}
use Rattle.tp_machine.specs.Conditions.{pushes}
use Rattle.tp_machine.specs.Enters.{Enters}
use Rattle.tp_machine.specs.Machine.{IsMachine, Steps, world_in}
use Rattle.tp_machine.specs.Meets.{Calls, GivesError, IsCall, IsCause, Meets}
use Rattle.tp_machine.proofs.Enters.Entering.{refused_store}
use Rattle.tp_machine.proofs.Grows.Grown.{calls_still, args_still}
use Rattle.tp_machine.proofs.Step.Arrives.{arrives}
use Rattle.tp_machine.proofs.Step.First.{call-gives, turn_in}
use Rattle.tp_machine.proofs.Step.Parts.{to_one}
use Rattle.tp_machine.proofs.Step.Refuse.{first_arg, gives_error}

-- a goal with a name takes further arguments where there aren't too many
named_with : (w : Turn) (f : Name) (ts us : Terms) → called_with w (term_of f ts) us ≡ (arity_fits (count_of ts + count_of us) >> called w (with_args (term_of f ts) us))
named_with w f NoMore us = refl
named_with w f (More t ts) us = refl

few_fit : (n : ℕ) → n ≤ 255 → arity_fits n ≡ Ok tt
few_fit n le = ap (λ (b : Bool). representation_error "max_arity" if b) (le-ltb 255 n le)

many_raise : (n : ℕ) → 255 < n → arity_fits n ≡ Err (representation_error "max_arity")
many_raise n lt = ap (λ (b : Bool). representation_error "max_arity" if b) (lt-ltb 255 n lt)

-- the further arguments, and how many there are
behind_args : (names : List Name) (c : Contents) (a n : ℕ) → 1 ≤ n → behind_first (args_seen names c a n) ≡ args_seen names c (a + 1) (n - 1)
behind_args names c a zero le = absurd (omega arith)
behind_args names c a (suc n) le = ap (λ k. args_seen names c k n) (let z : suc a ≡ a + 1 = omega arith in z) ∙ ap (args_seen names c (a + 1)) (let z : n ≡ suc n - 1 = omega arith in z)

module _ (m : Machine) (t : Task) (c : Call) (h : Calls m t c (Some (Control control.Call))) where
  abbrev args : Terms
  args = args_seen m.atoms m.state.store c.first.at c.count

  number : count_of (args_seen m.atoms m.state.store c.first.at c.count) ≡ c.count
  number = count-seen m.atoms m.state.store c.first.at c.count

  pub least : 1 ≤ c.count
  least = fewest-fits (name_at m.atoms c.name.at) c.count (Control control.Call) h.kind

  -- its goal stands at a place
  pub more_there : c.first.at < length m.state.store.cells
  more_there = let le = least in let w = h.call.within in omega arith

  by_count : Turn → ℕ → Checked Gives
  by_count w n = if nat_eq n 1 then called w (arg 0 args) else called_with w (arg 0 args) (behind_first args)

  -- alone
  pub calls_alone : c.count ≡ 1 → CallsGoal m t c c.first
  unfolding by_count
  calls_alone single = record {
    calls = h;
    within = more_there;
    is = λ w b. ap (by_count w) (number ∙ single) ∙ ap (called w) (first_arg m.atoms m.state.store c.first.at c.count least);
  }

  -- with further arguments
  pub with_more : (c.count ≡ 1 → ⊥) → (w : Turn) (b : ℕ) → call_gives m c w b ≡ called_with w (seen m.atoms m.state.store c.first.at) (behind_first (args_seen m.atoms m.state.store c.first.at c.count))
  unfolding by_count
  with_more more w b =
      ap (λ (o : Bool). if o then called w (arg 0 args) else called_with w (arg 0 args) (behind_first args)) (ap (λ n. nat_eq n 1) number ∙ other (nat_eq c.count 1) refl)
      ∙ ap (λ g. called_with w g (behind_first args)) (first_arg m.atoms m.state.store c.first.at c.count least)
    where
      other : (b : Bool) → nat_eq c.count 1 ≡ b → nat_eq c.count 1 ≡ false
      other true e = absurd (more (eqb-true c.count 1 e))
      other false e = e

  -- a variable, an integer, and too many arguments
  pub unbound_refused : (c.count ≡ 1 → ⊥) → (v : ℕ) → seen m.atoms m.state.store c.first.at ≡ Var v → IsCause m t cause.Unbound
  unbound_refused more v e = record { culprit = tt; stands = tt; gives = gives_error m t c (Control control.Call) unbound h (λ w b. with_more more w b ∙ ap (λ g. called_with w g (behind_first args)) e) }

  pub number_refused : (c.count ≡ 1 → ⊥) → (z : _) → seen m.atoms m.state.store c.first.at ≡ Int z → IsCause m t (cause.NotCallable c.first)
  number_refused more z e = record { culprit = more_there; stands = tt; gives = subst (λ g. GivesError m t (type_error "callable" g)) (sym e) (gives_error m t c (Control control.Call) (type_error "callable" (Int z)) h (λ w b. with_more more w b ∙ ap (λ g. called_with w g (behind_first args)) e)) }

  -- the goal that gets them, by its name and its own arguments
  module _ (g : Call) (more : c.count ≡ 1 → ⊥) (is : IsCall m.atoms m.state.store c.first g) where
    abbrev its_args : Terms
    its_args = args_seen m.atoms m.state.store g.first.at g.count

    abbrev added : Terms
    added = args_seen m.atoms m.state.store (c.first.at + 1) (c.count - 1)

    in_all : count_of (args_seen m.atoms m.state.store g.first.at g.count) + count_of (args_seen m.atoms m.state.store (c.first.at + 1) (c.count - 1)) ≡ g.count + (c.count - 1)
    in_all = omega (arith, count-seen m.atoms m.state.store g.first.at g.count, count-seen m.atoms m.state.store (c.first.at + 1) (c.count - 1))

    named_gives : (w : Turn) (b : ℕ) → call_gives m c w b ≡ (arity_fits (g.count + (c.count - 1)) >> called w (with_args (term_of (name_at m.atoms g.name.at) its_args) added))
    named_gives w b =
        with_more more w b
        ∙ ap (λ x. called_with w x (behind_first args)) is.is
        ∙ ap (called_with w (term_of (name_at m.atoms g.name.at) its_args)) (behind_args m.atoms m.state.store c.first.at c.count least)
        ∙ named_with w (name_at m.atoms g.name.at) its_args added
        ∙ ap (λ n. arity_fits n >> called w (with_args (term_of (name_at m.atoms g.name.at) its_args) added)) in_all

    pub too_many : 256 < g.count + c.count → IsCause m t cause.TooManyArguments
    too_many lt = record { culprit = tt; stands = tt; gives = gives_error m t c (Control control.Call) (representation_error "max_arity") h (λ w b. named_gives w b ∙ ap (λ r. r >> called w (with_args (term_of (name_at m.atoms g.name.at) its_args) added)) (many_raise (g.count + (c.count - 1)) (let le = least in omega arith))) }

    -- the goal of a place that shows it with them
    pub joined_gives : g.count + c.count ≤ 256 → (goal : Term) → goal ≡ with_args (seen m.atoms m.state.store c.first.at) (args_seen m.atoms m.state.store (c.first.at + 1) (c.count - 1)) → (w : Turn) (b : ℕ) → call_gives m c w b ≡ called w goal
    joined_gives few goal e w b =
        named_gives w b
        ∙ ap (λ r. r >> called w (with_args (term_of (name_at m.atoms g.name.at) its_args) added)) (few_fit (g.count + (c.count - 1)) (let le = least in omega arith))
        ∙ ap (λ x. called w (with_args x added)) (sym is.is)
        ∙ ap (called w) (sym e)

    -- it can be joined
    pub goal_callable : IsCallable m.state.store c.first
    goal_callable = callable-any_names m.atoms m.state.store c.first.at ∙ ap is_callable is.is ∙ by its_args
      where
        by : (ts : Terms) → is_callable (term_of (name_at m.atoms g.name.at) ts) ≡ true
        by NoMore = refl
        by (More t ts) = refl

    pub has_room : g.count + c.count ≤ 256 → HasRoom m.state.store c.first (c.count - 1)
    has_room few =
        let le = least in
        omega (arith, count-any_names m.atoms m.state.store c.first.at ∙ ap (λ x. count_of (args_of x)) is.is ∙ by its_args ∙ count-seen m.atoms m.state.store g.first.at g.count)
      where
        by : (ts : Terms) → count_of (args_of (term_of (name_at m.atoms g.name.at) ts)) ≡ count_of ts
        by NoMore = refl
        by (More t ts) = refl

    -- `call` gives what it gives of the place that shows it
    pub joins : (d : Contents) (first place : Ref) → IsMachine m → AddsCells m.state.store d → Keeps m.state.store d → IsStore d → AreNamed (length m.atoms) d.cells → g.count + c.count ≤ 256 → first.at ≡ c.first.at + 1 → place.at < length d.cells → ShowsMore m.state.store d c.first first (c.count - 1) place → CallsGoal (record m { state = record m.state { store = d } }) t c place
    joins d first place i adds keeps store named few e within shown = record {
      calls = calls_still m d i adds keeps store named t c (Some (Control control.Call)) h;
      within = within;
      is = λ w b.
          ap (λ ts. meaning.control w b control.Call (name_at m.atoms c.name.at) ts) (args_still m d i adds keeps store named c.first.at c.count h.call.within)
          ∙ joined_gives few (seen m.atoms d place.at) (shown m.atoms ∙ ap (λ k. with_args (seen m.atoms m.state.store c.first.at) (args_seen m.atoms m.state.store k (c.count - 1))) e) w b;
    }

  -- the further arguments stand
  pub further_there : (first : Ref) → (c.count ≡ 1 → ⊥) → first.at ≡ c.first.at + 1 → (first.at + (c.count - 1) ≤ length m.state.store.cells) × (0 < c.count - 1)
  further_there first more e = let le = least in let w = h.call.within in let two = above c.count least more in (omega (arith, e), omega arith)
    where
      above : (n : ℕ) → 1 ≤ n → (n ≡ 1 → ⊥) → 2 ≤ n
      above zero le x = absurd (omega arith)
      above (suc zero) le x = absurd (x refl)
      above (suc (suc n)) le x = omega arith

  pub second_there : (c.count ≡ 1 → ⊥) → c.first.at + 1 < length m.state.store.cells
  second_there more = let f = further_there (record { at = c.first.at + 1 }) more refl in let x = f.0 in let y = f.1 in omega arith

-- ---- the goal is entered

module _ (m : Machine) (t : Task) (c : Call) (goal : Ref) (h : CallsGoal m t c goal) where
  -- where its goal is refused, so is `call`
  refused_goal : (e : Term) → enter (seen m.atoms m.state.store goal.at) ≡ Err e → (w : Turn) (b : ℕ) → call_gives m c w b ≡ Err e
  refused_goal e x w b = h.is w b ∙ ap (λ r. r >>= (λ g. Ok (one (going w (world.Goal g (w.world.stamp + 1) ∷ w.rest))))) x

  goal_refused : (why : Cause) (new : Contents) → Enters m.atoms m.state.store goal (entered.Refused why) new → IsCause m t why
  goal_refused cause.Unbound new r = record { culprit = tt; stands = tt; gives = gives_error m t c (Control control.Call) _ h.calls (refused_goal _ r.is) }
  goal_refused (cause.NotCallable culprit) new r =
      subst (λ (p : Ref). IsCause m t (cause.NotCallable p)) (sym r.0) (record { culprit = h.within; stands = tt; gives = gives_error m t c (Control control.Call) _ h.calls (refused_goal _ r.1.is) })
  goal_refused _ new r = absurd r

  -- it is entered, or the goal raises an error
  pub call_entered : (s : State) (r : Entered) → IsMachine m → s ≡ record m.state { store = s.store } → IsStore s.store → Enters m.atoms m.state.store goal r s.store → CallEntered (record m { state = s }) t c r
  call_entered s (entered.Goal place) is e store r =
      subst (λ (q : State). CallStands (record m { state = q }) t c place) (sym e) (record {
        calls = calls_still m s.store is r.adds r.keeps store r.named t c (Some (Control control.Call)) h.calls;
        within = r.within;
        is = λ w b. ap (λ ts. meaning.control w b control.Call (name_at m.atoms c.name.at) ts) (args_still m s.store is r.adds r.keeps store r.named c.first.at c.count h.calls.call.within)
            ∙ h.is w b
            ∙ ap (λ x. x >>= (λ g. Ok (one (going w (world.Goal g (w.world.stamp + 1) ∷ w.rest))))) r.is;
      })
  call_entered s (entered.Refused why) is e store r =
      let same : s ≡ m.state = e ∙ ap (λ d. record m.state { store = d }) (refused_store m.atoms m.state.store s.store goal why r) in
      subst (λ (q : State). Meets (record m { state = q }) t × IsCause (record m { state = q }) t why) (sym same) (h.calls.meets, goal_refused why s.store r)

-- `call` goes on with its goal
pub calls_goal : (m : Machine) (t : Task) (c : Call) (s : State) (place : Ref) → IsMachine m → CallStands m t c place → Follows (held_of m.state) (held_of s) → plain_of s ≡ pushes (Goal place (m.stamp + 1) ∷ []) (resting t.rest (plain_of m.state)) → Steps m (record m { state = s; stamp = m.stamp + 1 }) answer.Went
calls_goal m t c s place i h fo e =
    let a = arrives m t (Goal place (m.stamp + 1) ∷ []) s i h.calls.meets (h.within, tt) fo e in
    to_one m (record m { state = s; stamp = m.stamp + 1 }) i a.goes
    (call-gives m t c (Some (Control control.Call)) h.calls
    ∙ ap (raised_at (world_in m) t.process) (h.is (turn_in m t.process t.rest) t.barrier)
    ∙ ap one (sym a.world))

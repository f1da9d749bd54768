-- Steps of `between`.
use Rattle.std.proofs.Common.{◌≡◌, ℕ, zero, suc, ◌+◌, ◌<◌, ◌≤◌, Bool, true, false, ◌&&◌, List, [], ◌∷◌, ◌++◌, length, Option, Some, None, is_some, Ok, Err, ℤ, pos, negsuc, int_lt, int_le, if◌then◌else◌, refl, ap, sym, subst, ◌∙◌, arith}
use Rattle.std.specs.Ordering.{int_eq}
use Rattle.std.specs.Prelude.{◌+ℤ◌}
use Rattle.std.proofs.lemmas.Bool.{ltb-true, ltb-false, lt-ltb, le-ltb}
use Rattle.std.proofs.lemmas.Bool.Decides.{Decides-int_eq}
use Rattle.tp_terms.specs.declared.cells.Ref.{Ref}
use Rattle.tp_terms.specs.Term.{Name, Term, Terms, Var, Int, Atom, Comp, NoMore, More, term_of}
use Rattle.tp_terms.specs.Shown.{name_at, shows}
use Rattle.tp_meaning.specs.declared.DeadCause.TheVariants.{Failed}
use Rattle.tp_meaning.specs.declared.goals.GoalKind.TheVariants.{Control}
use Rattle.tp_meaning.specs.declared.goals.ControlGoal.TheVariants as control
use Rattle.tp_meaning.specs.Checks.{Checked, ◌>>=◌, integer_given, type_error, unbound}
use Rattle.tp_meaning.specs.Control as meaning
use Rattle.tp_meaning.specs.Control.{arg, counted, from_next, numbered}
use Rattle.tp_meaning.specs.Search.{Dead}
use Rattle.tp_meaning.specs.Subst.{Subst, apply, extended, mgu, value_at}
use Rattle.tp_meaning.specs.Turn.{Turn, Gives, going, one, two, some, unified, raised_at}
use Rattle.tp_meaning.specs.World as world
use Rattle.tp_meaning.specs.World.{World, stamped, with_items, world_under}
use Rattle.tp_meaning.specs.Step.{step}
use Rattle.tp_meaning.specs.Machine as machine
use Rattle.tp_meaning.proofs.Unification.Applied.{apply-twice}
use Rattle.tp_meaning.proofs.OwnGoals.Counts.{fewest-fits}
use Rattle.tp_store.specs.Contents.{Contents, IsStore, seen, subst_of, args_seen}
use Rattle.tp_store.proofs.Standing.Facts.{IsSubst-store}
use Rattle.tp_control.specs.declared.choices.Alt.TheVariants.{Second}
use Rattle.tp_control.specs.declared.frames.Item.TheVariants.{Goal}
use Rattle.tp_state.specs.declared.state.State.{State}
use Rattle.tp_state.specs.Acts.{resting}
use Rattle.tp_state.specs.Going.{Follows}
use Rattle.tp_control.specs.Lists.{items_at}
use Rattle.tp_state.specs.State.{plain_of, held_of}
use Rattle.tp_state.proofs.GoingBack.Follows.{follows-then}
use Rattle.tp_machine.specs.declared.errors.Cause.{Cause}
use Rattle.tp_machine.specs.declared.errors.Cause.TheVariants as cause
use Rattle.tp_machine.specs.declared.machine.Machine.{Machine}
use Rattle.tp_machine.specs.declared.numbers.Bounds.{Bounds}
use Rattle.tp_machine.specs.declared.stepped.Stepped.TheVariants as answer
use Rattle.tp_machine.specs.declared.task.Task.{Task}
use Rattle.tp_machine.specs.declared.task.Call.{Call}
use Rattle.tp_machine.specs.Between.{Bounded, Counts, Equals, IsGiven, Unbounded, next_term}
use Rattle.tp_machine.specs.Built.{Built}
use Rattle.tp_machine.specs.Conditions.{pushes}
use Rattle.tp_machine.specs.Goes.{IsKept, MayKeep, Returns}
use Rattle.tp_machine.specs.Machine.{IsMachine, Resumes, Steps, base_in, world_in}
use Rattle.tp_machine.specs.Meets.{Calls, IsCall, IsCause}
use Rattle.tp_machine.specs.Untried.{second_in}
use Rattle.tp_machine.proofs.Enters.Entered.{cells-follow}
use Rattle.tp_machine.proofs.Grows.Grown.{items_still, meets_still, rests, world_still}
use Rattle.tp_machine.proofs.Worlds.Items.{list_stands}
use Rattle.tp_machine.proofs.Step.Arrives.{arrives}
use Rattle.tp_machine.proofs.Step.Control.{arg-is}
use Rattle.tp_machine.proofs.Step.Equal.{equal_unifier, equalled, number-unifier}
use Rattle.tp_machine.proofs.Step.First.{call-gives, rest_in, turn_in}
use Rattle.tp_machine.proofs.Step.Parts.{to_none, to_one}
use Rattle.tp_machine.proofs.Step.Refuse.{gives_error}
use Rattle.tp_machine.proofs.Step.Seconds.{branches_to, may_choose, second_is, seconds_to}

-- ---- numbers in their order

above : (a b : ℕ) → a ≤ b → (a ≡ b → ⊥) → a < b
above zero zero le ne = absurd (ne refl)
above zero (suc b) le ne = omega arith
above (suc a) zero le ne = absurd (omega arith)
above (suc a) (suc b) le ne = let r = above a b (omega arith) (λ e. ne (ap suc e)) in omega arith

apart : (l h : ℤ) → int_eq l h ≡ false → l ≡ h → ⊥
apart l h y e = let z : int_eq l h ≡ true = (Decides-int_eq l h).1 e in cc

pub counts_up : (l h : ℤ) → int_lt h l ≡ false → int_eq l h ≡ false → int_lt l h ≡ true
counts_up (pos a) (pos b) x y = lt-ltb a b (above a b (ltb-false b a x) (λ e. apart (pos a) (pos b) y (ap pos e)))
counts_up (pos a) (negsuc b) x y = absurd (cc)
counts_up (negsuc a) (pos b) x y = refl
counts_up (negsuc a) (negsuc b) x y = lt-ltb b a (above b a (ltb-false a b x) (λ e. apart (negsuc a) (negsuc b) y (ap negsuc (sym e))))

not_down : (l h : ℤ) → int_lt l h ≡ true → int_lt h l ≡ false
not_down (pos a) (pos b) x = le-ltb b a (let y = ltb-true a b x in omega arith)
not_down (pos a) (negsuc b) x = absurd (cc)
not_down (negsuc a) (pos b) x = refl
not_down (negsuc a) (negsuc b) x = le-ltb a b (let y = ltb-true b a x in omega arith)

not_same : (l h : ℤ) → int_lt l h ≡ true → int_eq l h ≡ false
not_same l h x = by (int_eq l h) refl
  where
    self : (a : ℤ) → int_lt a a ≡ true → ⊥
    self (pos a) e = let y = ltb-true a a e in omega arith
    self (negsuc a) e = let y = ltb-true a a e in omega arith

    by : (b : Bool) → int_eq l h ≡ b → int_eq l h ≡ false
    by true e = absurd (self l (ap (int_lt l) ((Decides-int_eq l h).0 e) ∙ x))
    by false e = e

not_below : (l h : ℤ) → int_eq l h ≡ true → int_lt h l ≡ false
not_below l h e = ap (λ a. int_lt a l) (sym ((Decides-int_eq l h).0 e)) ∙ self l
  where
    self : (a : ℤ) → int_lt a a ≡ false
    self (pos a) = le-ltb a a (omega arith)
    self (negsuc a) = le-ltb a a (omega arith)

-- an integer is given, or none is
pub given_unbound : (x : Term) → (v : ℕ) × (x ≡ Var v) → integer_given x ≡ Err unbound
given_unbound x h = ap integer_given h.1

-- no number is one that isn't an integer
not_counted : (w : Turn) (b : ℕ) (f : Name) (l h : ℤ) (g : Name) (ts : Terms) → counted w b f l h (term_of g ts) ≡ Err (type_error "integer" (term_of g ts))
not_counted w b f l h g NoMore = refl
not_counted w b f l h g (More t ts) = refl

module _ (m : Machine) (t : Task) (c : Call) (h : Calls m t c (Some (Control control.Between))) where
  abbrev f : Name
  f = name_at m.atoms c.name.at

  abbrev args : Terms
  args = args_seen m.atoms m.state.store c.first.at c.count

  abbrev turn : Turn
  turn = turn_in m t.process t.rest

  abbrev shown : ℕ → Term
  shown n = seen m.atoms m.state.store (c.first.at + n)

  three : 3 ≤ c.count
  three = fewest-fits (name_at m.atoms c.name.at) c.count (Control control.Between) h.kind

  -- its arguments stand
  pub arguments_there : (n : ℕ) → n < 3 → c.first.at + n < length m.state.store.cells
  arguments_there n lt = let le = three in let w = h.call.within in omega arith

  pub first_there : c.first.at < length m.state.store.cells
  first_there = let le = three in let w = h.call.within in omega arith

  abbrev by_two : Turn → ℕ → Term → ℤ → Checked Gives
  by_two w b x l = integer_given (seen m.atoms m.state.store (c.first.at + 1)) >>= (λ h. counted w b f l h x)

  -- what it gives, by what its arguments show
  between_is : (w : Turn) (b : ℕ) → meaning.control w b control.Between (name_at m.atoms c.name.at) (args_seen m.atoms m.state.store c.first.at c.count)
      ≡ (integer_given (seen m.atoms m.state.store c.first.at) >>= (λ l. integer_given (seen m.atoms m.state.store (c.first.at + 1)) >>= (λ h. counted w b (name_at m.atoms c.name.at) l h (seen m.atoms m.state.store (c.first.at + 2)))))
  between_is w b =
      let le = three in
      ap (λ x. integer_given x >>= (λ l. integer_given (arg 1 args) >>= (λ h. counted w b f l h (arg 2 args)))) (arg-is m.atoms m.state.store c.first.at c.count 0 (omega arith) ∙ ap (seen m.atoms m.state.store) (let z : c.first.at + 0 ≡ c.first.at = omega arith in z))
      ∙ ap (λ x. integer_given (seen m.atoms m.state.store c.first.at) >>= (λ l. integer_given x >>= (λ h. counted w b f l h (arg 2 args)))) (arg-is m.atoms m.state.store c.first.at c.count 1 (omega arith))
      ∙ ap (λ x. integer_given (seen m.atoms m.state.store c.first.at) >>= (λ l. integer_given (shown 1) >>= (λ h. counted w b f l h x))) (arg-is m.atoms m.state.store c.first.at c.count 2 (omega arith))

  -- it raises an error
  refuses : (why : Cause) (e : Term) → IsCause m t why → ((w : Turn) (b : ℕ) → meaning.control w b control.Between (name_at m.atoms c.name.at) (args_seen m.atoms m.state.store c.first.at c.count) ≡ Err e) → Unbounded m t c why
  refuses why e is g = record { cause = is; kind = e; gives = g }

  -- where a place shows no integer
  place_refused : (at : Ref) (why : Cause) → at.at < length m.state.store.cells → ((e : Term) → integer_given (seen m.atoms m.state.store at.at) ≡ Err e → (w : Turn) (b : ℕ) → meaning.control w b control.Between (name_at m.atoms c.name.at) (args_seen m.atoms m.state.store c.first.at c.count) ≡ Err e)
      → IsGiven m.atoms m.state.store at (Err why) → Unbounded m t c why
  place_refused at cause.Unbound lt by g = refuses cause.Unbound unbound (record { culprit = tt; stands = tt; gives = gives_error m t c (Control control.Between) unbound h (by unbound g) }) (by unbound g)
  place_refused at (cause.NotInteger term) lt by g =
      let e = type_error "integer" (seen m.atoms m.state.store at.at) in
      subst (λ (p : Ref). Unbounded m t c (cause.NotInteger p)) (sym g.0)
      (refuses (cause.NotInteger at) e (record { culprit = lt; stands = tt; gives = gives_error m t c (Control control.Between) e h (by e g.1) }) (by e g.1))
  place_refused at _ lt by g = absurd g

  -- its first argument
  pub low_refused : (why : Cause) → IsGiven m.atoms m.state.store c.first (Err why) → Unbounded m t c why
  low_refused why g = place_refused c.first why first_there (λ e x w b. between_is w b ∙ ap (λ r. r >>= by_two w b (shown 2)) x) g

  module _ (l : ℤ) (low : seen m.atoms m.state.store c.first.at ≡ Int l) where
    from_low : (w : Turn) (b : ℕ) → meaning.control w b control.Between (name_at m.atoms c.name.at) (args_seen m.atoms m.state.store c.first.at c.count)
        ≡ (integer_given (seen m.atoms m.state.store (c.first.at + 1)) >>= (λ h. counted w b (name_at m.atoms c.name.at) l h (seen m.atoms m.state.store (c.first.at + 2))))
    from_low w b = between_is w b ∙ ap (λ x. integer_given x >>= by_two w b (shown 2)) low

    -- its second argument
    pub high_refused : (second : Ref) (why : Cause) → second.at ≡ c.first.at + 1 → IsGiven m.atoms m.state.store second (Err why) → Unbounded m t c why
    high_refused second why e g = place_refused second why (subst (λ k. k < length m.state.store.cells) (sym e) (arguments_there 1 (omega arith)))
        (λ x y w b. from_low w b ∙ ap (λ r. r >>= (λ h. counted w b f l h (shown 2))) (ap (λ k. integer_given (seen m.atoms m.state.store k)) (sym e) ∙ y)) g

-- ---- with both its numbers

module _ (m : Machine) (t : Task) (c : Call) (b : Bounds) (h : Bounded m t c b) where
  abbrev its_name : Name
  its_name = name_at m.atoms c.name.at

  abbrev third : Term
  third = seen m.atoms m.state.store (c.first.at + 2)

  counted_is : (w : Turn) (k : ℕ) → meaning.control w k control.Between (name_at m.atoms c.name.at) (args_seen m.atoms m.state.store c.first.at c.count) ≡ counted w k (name_at m.atoms c.name.at) b.low b.high (seen m.atoms m.state.store (c.first.at + 2))
  counted_is w k = from_low m t c h.calls b.low h.low w k ∙ ap (λ x. integer_given x >>= (λ z. counted w k its_name b.low z third)) h.high

  step_is : step (base_in m) (world_in m) ≡ raised_at (world_in m) t.process (counted (turn_in m t.process t.rest) t.barrier (name_at m.atoms c.name.at) b.low b.high (seen m.atoms m.state.store (c.first.at + 2)))
  step_is = call-gives m t c (Some (Control control.Between)) h.calls ∙ ap (raised_at (world_in m) t.process) (counted_is (turn_in m t.process t.rest) t.barrier)

  -- its third argument is no number and no variable
  pub third_refused : (place : Ref) (g : Call) → place.at ≡ c.first.at + 2 → IsCall m.atoms m.state.store place g → IsCause m t (cause.NotInteger place)
  third_refused place g e is = record {
    culprit = subst (λ k. k < length m.state.store.cells) (sym e) (arguments_there m t c h.calls 2 (omega arith));
    stands = tt;
    gives = gives_error m t c (Control control.Between) _ h.calls (λ w k.
        counted_is w k
        ∙ ap (λ n. counted w k its_name b.low b.high (seen m.atoms m.state.store n)) (sym e)
        ∙ ap (counted w k its_name b.low b.high) is.is
        ∙ not_counted w k its_name b.low b.high (name_at m.atoms g.name.at) (args_seen m.atoms m.state.store g.first.at g.count)
        ∙ ap (λ x. Err (type_error "integer" x)) (sym is.is));
  }

  abbrev tested : Bool → Gives
  tested x = if x then one (going (turn_in m t.process t.rest) (rest_in m t.rest)) else Dead Failed

  -- a number is between them, or not
  pub passes : (z : ℤ) (s : State) → IsMachine m → seen m.atoms m.state.store (c.first.at + 2) ≡ Int z → (int_le b.low z && int_le z b.high) ≡ true → Follows (held_of m.state) (held_of s) → plain_of s ≡ resting t.rest (plain_of m.state) → Steps m (record m { state = s; stamp = m.stamp + 1 }) answer.Went
  passes z s i e within fo es =
      let a = arrives m t [] s i h.calls.meets tt fo es in
      to_one m (record m { state = s; stamp = m.stamp + 1 }) i a.goes
      (step_is ∙ ap (λ x. raised_at (world_in m) t.process (counted (turn_in m t.process t.rest) t.barrier its_name b.low b.high x)) e ∙ ap tested within ∙ ap one (sym a.world))

  pub misses : (z : ℤ) → IsMachine m → seen m.atoms m.state.store (c.first.at + 2) ≡ Int z → (int_le b.low z && int_le z b.high) ≡ false → Steps m m (answer.Dead Failed)
  misses z i e outside =
      to_none m (answer.Dead Failed) (machine.Dead Failed) (Dead Failed) i refl tt
      (step_is ∙ ap (λ x. raised_at (world_in m) t.process (counted (turn_in m t.process t.rest) t.barrier its_name b.low b.high x)) e ∙ ap tested outside) refl

-- ---- a variable

module _ (m : Machine) (t : Task) (c : Call) (b : Bounds) (x : Ref) (h : Counts m t c b x) where
  abbrev name : Name
  name = name_at m.atoms c.name.at

  abbrev at_turn : Turn
  at_turn = turn_in m t.process t.rest

  abbrev number : ℕ
  number = h.unbound.0

  abbrev s : Subst
  s = subst_of m.atoms m.state.store

  third_is : seen m.atoms m.state.store (c.first.at + 2) ≡ Var h.unbound.0
  third_is = ap (seen m.atoms m.state.store) (sym h.place) ∙ h.unbound.1

  pub variable_there : x.at < length m.state.store.cells
  variable_there = subst (λ k. k < length m.state.store.cells) (sym h.place) (arguments_there m t c h.bounded.calls 2 (omega arith))

  unbound_value : value_at (subst_of m.atoms m.state.store) h.unbound.0 ≡ Var h.unbound.0
  unbound_value =
      ap (apply s) (sym h.unbound.1)
      ∙ apply-twice s (shows m.atoms m.state.store.cells x.at) (IsSubst-store m.atoms m.state.store h.bounded.calls.meets.standing.stands.store).idem
      ∙ h.unbound.1

  first_unifier : mgu (subst_of m.atoms m.state.store) (Var h.unbound.0) (Int b.low) ≡ Some (extended (subst_of m.atoms m.state.store) h.unbound.0 (Int b.low))
  first_unifier = number-unifier s number b.low unbound_value

  pub have_unifier : is_some (mgu (subst_of m.atoms m.state.store) (seen m.atoms m.state.store x.at) (Int b.low)) ≡ true
  have_unifier = ap (λ y. is_some (mgu s y (Int b.low))) h.unbound.1 ∙ ap is_some first_unifier

  counts_is : (w : Turn) (k : ℕ) → meaning.control w k control.Between (name_at m.atoms c.name.at) (args_seen m.atoms m.state.store c.first.at c.count) ≡ Ok (some (numbered w k (name_at m.atoms c.name.at) b.low b.high (Var h.unbound.0)))
  counts_is w k = counted_is m t c b h.bounded w k ∙ ap (counted w k name b.low b.high) third_is

  abbrev first_world : Subst → World
  first_world u = world_under u (going (turn_in m t.process t.rest) (rest_in m t.rest))

  -- the worlds, by the tests
  by_tests : ℕ → Bool → Bool → List World
  by_tests k down same = if down then [] else if same then unified at_turn (Var number) (Int b.low) else unified at_turn (Var number) (Int b.low) ++ from_next at_turn k name b.low b.high (Var number) ∷ []

  first_is : unified (turn_in m t.process t.rest) (Var h.unbound.0) (Int b.low) ≡ first_world (extended (subst_of m.atoms m.state.store) h.unbound.0 (Int b.low)) ∷ []
  first_is = ap (λ o. elim o as (λ _. List World) [ None ↦ [] | Some u ↦ first_world u ∷ [] ]) first_unifier

  -- there are none
  pub counts_none : IsMachine m → int_lt b.high b.low ≡ true → Steps m m (answer.Dead Failed)
  unfolding by_tests
  counts_none i down =
      to_none m (answer.Dead Failed) (machine.Dead Failed) (Dead Failed) i refl tt
      (call-gives m t c (Some (Control control.Between)) h.bounded.calls
      ∙ ap (raised_at (world_in m) t.process) (counts_is at_turn t.barrier)
      ∙ ap (λ d. some (by_tests t.barrier d (int_eq b.low b.high))) down) refl

  -- there is one
  pub counts_last : (st : State) (d : Contents) → IsMachine m → int_eq b.low b.high ≡ true → IsStore d → Equals m.atoms x.at (Int b.low) m.state.store d → Follows (held_of m.state) (held_of st) → plain_of st ≡ record (resting t.rest (plain_of m.state)) { store = d } → Steps m (record m { state = st; stamp = m.stamp + 1 }) answer.Went
  unfolding by_tests
  counts_last st d i last store e fo es =
      let meets = h.bounded.calls.meets in
      let a = equalled m t i meets x.at (Int b.low) d store e have_unifier st fo es in
      let u = equal_unifier m t i meets x.at (Int b.low) d store e have_unifier in
      to_one m (record m { state = st; stamp = m.stamp + 1 }) i a.goes
      (call-gives m t c (Some (Control control.Between)) h.bounded.calls
      ∙ ap (raised_at (world_in m) t.process) (counts_is at_turn t.barrier)
      ∙ ap (λ d. some (by_tests t.barrier d (int_eq b.low b.high))) (not_below b.low b.high last)
      ∙ ap (λ d. some (by_tests t.barrier false d)) last
      ∙ ap (λ o. some (elim o as (λ _. List World) [ None ↦ [] | Some u ↦ first_world u ∷ [] ])) (ap (λ y. mgu s y (Int b.low)) (sym h.unbound.1) ∙ u)
      ∙ ap one (sym a.world))

  -- there are more
  module _ (up : int_lt b.low b.high ≡ true) where
    pub both_are : meaning.control (turn_in m t.process t.rest) t.barrier control.Between (name_at m.atoms c.name.at) (args_seen m.atoms m.state.store c.first.at c.count)
        ≡ Ok (two (first_world (extended (subst_of m.atoms m.state.store) h.unbound.0 (Int b.low))) (from_next (turn_in m t.process t.rest) t.barrier (name_at m.atoms c.name.at) b.low b.high (Var h.unbound.0)))
    unfolding by_tests
    both_are =
        counts_is at_turn t.barrier
        ∙ ap (λ d. Ok (some (by_tests t.barrier d (int_eq b.low b.high)))) (not_down b.low b.high up)
        ∙ ap (λ d. Ok (some (by_tests t.barrier false d))) (not_same b.low b.high up)
        ∙ ap (λ ws. Ok (some (ws ++ from_next at_turn t.barrier name b.low b.high (Var number) ∷ []))) first_is

    pub may_count : IsMachine m → MayKeep m Second
    may_count i = may_choose m t c control.Between h.bounded.calls _ _ both_are i refl

    pub counts_first : (mid : Machine) (st : State) (d : Contents) → IsMachine m → IsKept m Second mid → IsStore d → Equals m.atoms x.at (Int b.low) mid.state.store d → Follows (held_of mid.state) (held_of st) → plain_of st ≡ record (resting t.rest (plain_of mid.state)) { store = d } → Steps m (record mid { state = st; stamp = mid.stamp + 1 }) answer.Went
    counts_first mid st d i kept store e fo es =
        let meets = h.bounded.calls.meets in
        let same : mid.state ≡ m.state = ap (λ (q : Machine). q.state) kept.same in
        let e' = subst (λ (q : State). Equals m.atoms x.at (Int b.low) q.store d) same e in
        let a = equalled m t i meets x.at (Int b.low) d store e' have_unifier st (subst (λ (q : State). Follows (held_of q) (held_of st)) same fo) (es ∙ ap (λ (q : State). record (resting t.rest (plain_of q)) { store = d }) same) in
        let u : mgu s (Var number) (Int b.low) ≡ Some (subst_of m.atoms d) = ap (λ y. mgu s y (Int b.low)) (sym h.unbound.1) ∙ equal_unifier m t i meets x.at (Int b.low) d store e' have_unifier in
        branches_to m t c control.Between h.bounded.calls _ _ both_are mid st i kept a.goes (ap first_world (same_some _ _ (sym first_unifier ∙ u)) ∙ sym a.world)
      where
        same_some : (v w : Subst) → Some v ≡ Some w → v ≡ w
        same_some v w e = cc

    -- on with the others
    pub counts_on : (st : State) (d : Contents) (place : Ref) → Returns m Second → Built m.atoms m.state.store d place.at (next_term m.atoms m.state.store c b) → Follows (held_of (record m.state { store = d })) (held_of st) → plain_of st ≡ pushes (Goal place t.barrier ∷ []) (resting t.rest (plain_of (record m.state { store = d }))) → Resumes (record m { waiting = Some Second }) (record m { state = st; stamp = m.stamp + 1 })
    counts_on st d place back built fo es =
        let meets = h.bounded.calls.meets in
        let is = back.machine in
        let mid : Machine = record m { state = record m.state { store = d } } in
        let r = rests m d is built.adds built.keeps built.store built.named in
        let met = meets_still m d is built.adds built.keeps built.store built.named t meets in
        let last = built.last in
        let a = arrives mid t (Goal place t.barrier ∷ []) st r.machine met ((let z : place.at < length d.cells = omega arith in z), tt) fo es in
        let rest = items_still m d is built.adds built.keeps built.store built.named (items_at m.state.frames t.rest) (list_stands (length m.state.store.cells) m.state.frames t.rest is.stands.lists meets.rest) in
        let shown : seen m.atoms d place.at ≡ Comp name (More (Int (b.low +ℤ pos 1)) (More (Int b.high) (More (Var number) NoMore))) =
        ap (apply (subst_of m.atoms d)) built.shown
        ∙ ap (λ u. apply u (next_term m.atoms m.state.store c b)) (built.keeps.bindings m.atoms)
        ∙ ap (λ y. Comp name (More (Int (b.low +ℤ pos 1)) (More (Int b.high) (More y NoMore)))) third_is in
        seconds_to m t c control.Between h.bounded.calls _ _ both_are st back
        (record { same = refl; names = a.goes.names; table = a.goes.table; stands = a.goes.stands; follows = follows-then _ _ _ (cells-follow m.state d built.adds) fo; stamp = refl })
        (ap (λ x. with_items t.process (world.Goal x t.barrier ∷ rest_in m t.rest) (stamped (world_in m))) (sym shown)
        ∙ ap (λ l. with_items t.process (world.Goal (seen m.atoms d place.at) t.barrier ∷ l) (stamped (world_in m))) (sym rest)
        ∙ ap (λ w. with_items t.process (world.Goal (seen m.atoms d place.at) t.barrier ∷ rest_in mid t.rest) (stamped w)) (sym (world_still m d is built.adds built.keeps built.store built.named))
        ∙ sym a.world)

-- ---- where a second world is left

module _ (m : Machine) (t : Task) (c : Call) (h : Calls m t c (Some (Control control.Between))) (back : Returns m Second) where
  left : 0 < length (second_in (meaning.control (turn_in m t.process t.rest) t.barrier control.Between (name_at m.atoms c.name.at) (args_seen m.atoms m.state.store c.first.at c.count)))
  left = let z = back.open_.some in omega (arith, z, ap length (second_is m t c control.Between h))

  -- no error was raised
  pub is_bounded : (why : Cause) → Unbounded m t c why → ⊥
  is_bounded why u = let z = left in omega (arith, z, ap (λ r. length (second_in r)) (u.gives (turn_in m t.process t.rest) t.barrier))

  -- a variable is counted for, and there are more numbers
  pub record Continues (b : Bounds) : Type 0 where
    pub counts : Counts m t c b (record { at = c.first.at + 2 })
    pub up : int_lt b.low b.high ≡ true

  abbrev at : Turn
  at = turn_in m t.process t.rest

  abbrev called : Name
  called = name_at m.atoms c.name.at

  abbrev some_left : Checked Gives → Type 0
  some_left r = 0 < length (second_in r)

  pub continues : (b : Bounds) → Bounded m t c b → Continues b
  continues b bounded = by_third (seen m.atoms m.state.store (c.first.at + 2)) refl
    where
      left_here : (x : Term) → seen m.atoms m.state.store (c.first.at + 2) ≡ x → some_left (counted at t.barrier called b.low b.high x)
      left_here x e = let z = left in omega (arith, z, ap (λ r. length (second_in r)) (counted_is m t c b bounded at t.barrier ∙ ap (counted at t.barrier called b.low b.high) e))

      none_tested : (q : Bool) → some_left (Ok (if q then one (going at at.rest) else Dead Failed)) → ⊥
      none_tested true lt = omega arith
      none_tested false lt = omega arith

      none_last : (o : Option Subst) → some_left (Ok (some (elim o as (λ _. List World) [ None ↦ [] | Some u ↦ world_under u (going at at.rest) ∷ [] ]))) → ⊥
      none_last None lt = omega arith
      none_last (Some u) lt = omega arith

      by_order : (v : ℕ) (down same : Bool) → int_lt b.high b.low ≡ down → int_eq b.low b.high ≡ same
          → some_left (Ok (some (if down then [] else if same then unified at (Var v) (Int b.low) else unified at (Var v) (Int b.low) ++ from_next at t.barrier called b.low b.high (Var v) ∷ []))) → int_lt b.low b.high ≡ true
      by_order v true same x y lt = absurd (omega arith)
      by_order v false true x y lt = absurd (none_last (mgu at.world.subst (Var v) (Int b.low)) lt)
      by_order v false false x y lt = counts_up b.low b.high x y

      by_third : (x : Term) → seen m.atoms m.state.store (c.first.at + 2) ≡ x → Continues b
      by_third (Var v) e = record {
        counts = record { bounded = bounded; place = refl; unbound = (v, e) };
        up = by_order v (int_lt b.high b.low) (int_eq b.low b.high) refl refl (left_here (Var v) e);
      }
      by_third (Int z) e = absurd (none_tested (int_le b.low z && int_le z b.high) (left_here (Int z) e))
      by_third (Atom a) e = absurd (let z = left_here (Atom a) e in omega arith)
      by_third (Comp g ts) e = absurd (let z = left_here (Comp g ts) e in omega arith)

-- Steps of goals that clauses define.
use Rattle.std.proofs.Common.{◌≡◌, ℕ, zero, suc, ◌+◌, ◌-◌, ◌<◌, ◌≤◌, ◌^◌, Bool, true, false, cond, List, [], ◌∷◌, ◌++◌, map, length, drop, Option, Some, None, Ok, Err, is_some, refl, ap, sym, subst, ◌∙◌, arith, IfSome}
use Rattle.std.specs.List.{position_from, filter_map, cons_option}
use Rattle.std.specs.Option.{option_map}
use Rattle.tp_terms.specs.declared.cells.Cell.{Cell}
use Rattle.tp_terms.specs.declared.cells.Ref.{Ref}
use Rattle.tp_terms.specs.Term.{Name, Term, Terms, NoMore, More, term_of, count_of, term_size}
use Rattle.tp_terms.specs.Shown.{name_at, shows}
use Rattle.tp_terms.proofs.Naming.Tables.{Grows-same}
use Rattle.tp_meaning.specs.Subst.{Subst, IsSubst, Next, apply, mgu, rounds, walk, solve_pair}
use Rattle.tp_meaning.specs.declared.DeadCause.TheVariants.{Failed}
use Rattle.tp_meaning.specs.Goals.{goal_kind}
use Rattle.tp_meaning.specs.Checks.{Checked, unknown}
use Rattle.tp_meaning.specs.World as world
use Rattle.tp_meaning.specs.World.{World, at_place, with_items, world_under, item_under, process_under}
use Rattle.tp_meaning.specs.Search.{Dead, Branch}
use Rattle.tp_meaning.specs.Turn.{Turn, Gives, some, raised_at}
use Rattle.tp_meaning.specs.Clauses as clauses
use Rattle.tp_meaning.specs.Clauses.{Base, Clause, predicate, renamed, head_of, by_clause, try_clause, worlds_of}
use Rattle.tp_meaning.specs.Step.{step, goal_by, goal_step}
use Rattle.tp_meaning.specs.Machine as machine
use Rattle.tp_meaning.specs.Machine.{with_choice}
use Rattle.tp_meaning.proofs.Unification.Applied.{apply-twice, mgu-solves, solves-over}
use Rattle.tp_meaning.proofs.ValidWorlds.Places.{at_place-map, at_place-over}
use Rattle.tp_store.specs.Contents.{Contents, IsStore, subst_of, seen, args_seen}
use Rattle.tp_store.proofs.Standing.Facts.{IsSubst-store, count-seen}
use Rattle.tp_clauses.specs.declared.base.ClauseView.{ClauseView}
use Rattle.tp_clauses.specs.Contents.{clause_of}
use Rattle.tp_control.specs.declared.frames.Item.{Item}
use Rattle.tp_control.specs.declared.frames.Item.TheVariants.{Goal}
use Rattle.tp_control.specs.declared.choices.Alt.{Alt}
use Rattle.tp_control.specs.declared.choices.Alt.TheVariants as alt
use Rattle.tp_machine.specs.declared.machine.Machine.{Machine}
use Rattle.tp_state.specs.declared.state.State.{State}
use Rattle.tp_machine.specs.declared.stepped.Stepped.TheVariants as answer
use Rattle.tp_machine.specs.declared.task.Task.{Task}
use Rattle.tp_machine.specs.declared.task.Call.{Call}
use Rattle.tp_state.specs.Going as going
use Rattle.tp_state.specs.State.{plain_of, held_of}
use Rattle.tp_machine.specs.Program.{head_term}
use Rattle.tp_control.specs.Lists.{items_at}
use Rattle.tp_state.specs.Plain.{Plain, item_of, items_of, world_of}
use Rattle.tp_state.specs.Stands.{PlainStands}
use Rattle.tp_state.specs.Acts.{resting, bodied}
use Rattle.tp_machine.specs.Heads.{unifier, hits, EntersClause}
use Rattle.tp_machine.specs.Untried.{untried_by, untried_goal, untried_named}
use Rattle.tp_machine.specs.Machine.{IsMachine, Steps, base_in, world_in, choices_in}
use Rattle.tp_machine.proofs.Step.Newest.{newest_below}
use Rattle.tp_machine.specs.Meets.{Calls, Hits, IsCause, clauses_of, found_from, its_turn}
use Rattle.tp_machine.specs.Goes.{MayKeep, IsKept, Enters, untried_in}
use Rattle.tp_machine.proofs.Worlds.Items.{OtherItems, other-stands, other-world, other-rest, other-push, pushed-items, list_stands}
use Rattle.tp_machine.proofs.Worlds.Stores.{OtherStore, store-stands, under-world, items-by}
use Rattle.tp_machine.proofs.Step.First.{process_there, items-there, call-gives, rest_in, turn_in}
use Rattle.tp_machine.specs.declared.errors.Cause.TheVariants as cause
use Rattle.tp_machine.proofs.Step.Refuse.{by_kind}
use Rattle.tp_machine.proofs.Step.Parts.{to_none}

-- ---- searching the clauses of a goal

module _ {A B : Type 0} (t : A → Bool) (f : A → Option B) (same : (x : A) → t x ≡ is_some (f x)) where
  cons_none : (o : Option B) (ys : List B) → is_some o ≡ false → cons_option o ys ≡ ys
  cons_none None ys e = refl
  cons_none (Some y) ys e = absurd (cc)

  found_none : (n : ℕ) (xs : List A) → position_from t n xs ≡ None → filter_map f xs ≡ []
  found_none n [] e = refl
  found_none n (x ∷ xs) e = go (t x) refl e (found_none (n + 1) xs)
    where
      go : (b : Bool) → t x ≡ b → cond b (Some n) (position_from t (n + 1) xs) ≡ None → (position_from t (n + 1) xs ≡ None → filter_map f xs ≡ []) → cons_option (f x) (filter_map f xs) ≡ []
      go true et h ih = absurd (cc)
      go false et h ih = cons_none (f x) (filter_map f xs) (sym (same x) ∙ et) ∙ ih h

  -- where the first hit stands
  record Found (n k : ℕ) (xs : List A) : Type 0 where
    later : n ≤ k
    element : A
    more : List A
    here : drop (k - n) xs ≡ element ∷ more
    hit : t element ≡ true
    left : filter_map f xs ≡ filter_map f (element ∷ more)

  found_some : (n k : ℕ) (xs : List A) → position_from t n xs ≡ Some k → Found n k xs
  found_some n k [] e = absurd (cc)
  found_some n k (x ∷ xs) e = go (t x) refl e (found_some (n + 1) k xs)
    where
      go : (b : Bool) → t x ≡ b → cond b (Some n) (position_from t (n + 1) xs) ≡ Some k → (position_from t (n + 1) xs ≡ Some k → Found (n + 1) k xs) → Found n k (x ∷ xs)
      go true et h ih =
          let same_place : n ≡ k = cc in
          record { later = omega arith; element = x; more = xs; here = ap (λ j. drop j (x ∷ xs)) (let z : k - n ≡ 0 = omega arith in z); hit = et; left = refl }
      go false et h ih =
          let found = ih h in
          let up : n + 1 ≤ k = found.later in
          record {
            later = omega arith;
            element = found.element;
            more = found.more;
            here = ap (λ j. drop j (x ∷ xs)) (let z : k - n ≡ suc (k - (n + 1)) = omega arith in z) ∙ found.here;
            hit = found.hit;
            left = cons_none (f x) (filter_map f xs) (sym (same x) ∙ et) ∙ found.left;
          }

drop-nil : {A : Type 0} (k : ℕ) → ◌≡◌ {A = List A} (drop k []) []
drop-nil zero = refl
drop-nil (suc k) = refl

-- what is behind a place that is behind another
pub drop-drop : {A : Type 0} (n m : ℕ) (xs : List A) → drop m (drop n xs) ≡ drop (n + m) xs
drop-drop n m [] = ap (drop m) (drop-nil n) ∙ drop-nil m ∙ sym (drop-nil (n + m))
drop-drop zero m (x ∷ xs) = ap (λ k. drop k (x ∷ xs)) (let z : m ≡ 0 + m = omega arith in z)
drop-drop (suc n) m (x ∷ xs) = drop-drop n m xs ∙ ap (λ k. drop k (x ∷ xs)) (let z : suc (n + m) ≡ suc n + m = omega arith in z)

some_of : {A B : Type 0} (g : A → B) (o : Option A) → is_some (elim o as (λ q. Option B) [ None ↦ None | Some x ↦ Some (g x) ]) ≡ is_some o
some_of g None = refl
some_of g (Some x) = refl

some-left : (o : Option World) (ws : List World) → is_some o ≡ true → 0 < length (cons_option o ws)
some-left None ws e = absurd (cc)
some-left (Some v) ws e = omega arith

-- ---- unifiers of goals that are seen

-- a goal may be seen under the bindings before
pub mgu-seen : (s : Subst) (a c : Term) → IsSubst s → mgu s (apply s a) c ≡ mgu s a c
unfolding mgu
mgu-seen s a c is =
    let e : apply s (apply s a) ≡ apply s a = apply-twice s a is.idem in
    ap (λ t. rounds (term_size t + term_size (apply s c)) ((apply s a, c) ∷ []) s) e ∙ seen_rounds (term_size (apply s a) + term_size (apply s c)) e
  where
    seen_walk : (next : Next) (z : ℕ) → apply s (apply s a) ≡ apply s a → walk next z ((apply s a, c) ∷ []) s ≡ walk next z ((a, c) ∷ []) s
    seen_walk next zero e = refl
    seen_walk next (suc z) e = ap (λ t. solve_pair (walk next z) next t (apply s c) [] s) e

    seen_rounds : (k : ℕ) → apply s (apply s a) ≡ apply s a → rounds k ((apply s a, c) ∷ []) s ≡ rounds k ((a, c) ∷ []) s
    seen_rounds zero e = ap (λ t. walk (λ es s'. None) (term_size t + 0) ((apply s a, c) ∷ []) s) e ∙ seen_walk (λ es s'. None) (term_size (apply s a) + 0) e
    seen_rounds (suc k) e = ap (λ t. walk (rounds k) (term_size t + 0) ((apply s a, c) ∷ []) s) e ∙ seen_walk (rounds k) (term_size (apply s a) + 0) e

-- ---- a goal and its clauses

pub goal-untried : (base : Base) (t : Turn) (b : ℕ) (f : Name) (ts : Terms) (next : Alt) → untried_goal base t b (term_of f ts) next ≡ untried_named base t b f ts (goal_kind f (count_of ts)) next
goal-untried base t b f NoMore next = refl
goal-untried base t b f (More x ts) next = refl

module _ (m : Machine) (t : Task) (c : Call) (h : Calls m t c None) where
  abbrev goal : Term
  goal = seen m.atoms m.state.store t.goal.at

  abbrev f : Name
  f = name_at m.atoms c.name.at

  abbrev args : Terms
  args = args_seen m.atoms m.state.store c.first.at c.count

  abbrev turn : Turn
  turn = turn_in m t.process t.rest

  number : count_of (args_seen m.atoms m.state.store c.first.at c.count) ≡ c.count
  number = count-seen m.atoms m.state.store c.first.at c.count

  kind : goal_kind (name_at m.atoms c.name.at) (count_of (args_seen m.atoms m.state.store c.first.at c.count)) ≡ None
  kind = ap (goal_kind f) number ∙ h.kind

  items-are : world.items_at (world_in m).processes t.process ≡ world.Goal goal t.barrier ∷ rest_in m t.rest
  items-are =
      items-there m.atoms (plain_of m.state) t.process (process_there m t.process h.meets.standing h.meets.running) h.meets.running
      ∙ ap (map (item_of m.atoms m.state.store)) h.meets.list

  pub untried_is : (k : ℕ) → untried_in m (alt.Clause k) ≡ worlds_of (turn_in m t.process t.rest) (seen m.atoms m.state.store t.goal.at) (drop k (clauses_of m c))
  untried_is k =
      ap (λ o. elim o as (λ _. List World) [ None ↦ [] | Some p ↦ untried_by (base_in m) (world_in m) p (world.items_at (world_in m).processes p) (alt.Clause k) ]) h.meets.running
      ∙ ap (λ is. untried_by (base_in m) (world_in m) t.process is (alt.Clause k)) items-are
      ∙ ap (λ g. untried_goal (base_in m) turn t.barrier g (alt.Clause k)) h.call.is
      ∙ goal-untried (base_in m) turn t.barrier f args (alt.Clause k)
      ∙ ap (λ o. untried_named (base_in m) turn t.barrier f args o (alt.Clause k)) kind
      ∙ ap (λ n. worlds_of turn (term_of f args) (drop k (predicate (base_in m) f n))) number
      ∙ ap (λ g. worlds_of turn g (drop k (clauses_of m c))) (sym h.call.is)

  hits-try : (d : Clause) → hits m.atoms m.state.store t.goal.at d ≡ is_some (try_clause (turn_in m t.process t.rest) (seen m.atoms m.state.store t.goal.at) d)
  hits-try d =
      let s = subst_of m.atoms m.state.store in
      ap is_some (sym (mgu-seen s (shows m.atoms m.state.store.cells t.goal.at) (renamed m.state.store.vars (head_of d)) (IsSubst-store m.atoms m.state.store h.meets.standing.stands.store)))
      ∙ sym (some_of (λ u. world_under u (by_clause turn d)) (mgu s goal (renamed m.state.store.vars (head_of d))))

  -- no clause is left that has a unifier with the goal
  pub none_untried : (n : ℕ) → found_from m t c n ≡ None → untried_in m (alt.Clause n) ≡ []
  none_untried n e = untried_is n ∙ found_none (hits m.atoms m.state.store t.goal.at) (try_clause turn goal) hits-try n (drop n (clauses_of m c)) e

  -- the next clause that has one
  pub record NextHit (n k : ℕ) : Type 0 where
    pub hit : Hits m t c k
    pub same : untried_in m (alt.Clause n) ≡ untried_in m (alt.Clause k)
    pub left : 0 < length (untried_in m (alt.Clause k))

  pub next_untried : (n k : ℕ) → found_from m t c n ≡ Some k → NextHit n k
  next_untried n k e =
      let found = found_some (hits m.atoms m.state.store t.goal.at) (try_clause turn goal) hits-try n k (drop n (clauses_of m c)) e in
      let up : n ≤ k = found.later in
      let here : drop k (clauses_of m c) ≡ found.element ∷ found.more = ap (λ j. drop j (clauses_of m c)) (let z : k ≡ n + (k - n) = omega arith in z) ∙ sym (drop-drop n (k - n) (clauses_of m c)) ∙ found.here in
      let these : untried_in m (alt.Clause k) ≡ cons_option (try_clause turn goal found.element) (filter_map (try_clause turn goal) found.more) = untried_is k ∙ ap (filter_map (try_clause turn goal)) here in
      record {
        hit = record { calls = h; clause = found.element; more = found.more; here = here; hit = found.hit };
        same = untried_is n ∙ found.left ∙ ap (filter_map (try_clause turn goal)) (sym here) ∙ sym (untried_is k);
        left = omega (arith, ap length these, some-left (try_clause turn goal found.element) (filter_map (try_clause turn goal) found.more) (sym (hits-try found.element) ∙ found.hit));
      }

  -- a choice of it may be kept
  pub may_clause : (k : ℕ) → IsMachine m → Hits m t c k → k < 2 ^ 63 → 0 < length (untried_in m (alt.Clause k)) → MayKeep m (alt.Clause k)
  may_clause k is hit few left = record {
    stands = h.meets.standing.stands;
    goes_on = record {
      process = t.process;
      running = h.meets.running;
      goal = t.goal;
      barrier = t.barrier;
      rest = items_at m.state.frames t.rest;
      list = h.meets.list;
      name = f;
      args = args;
      is = h.call.is;
      kind = kind;
      clause = hit.clause;
      more = hit.more;
      here = ap (λ n. drop k (predicate (base_in m) f n)) number ∙ hit.here;
      hit = hit.hit;
      few = few;
    };
    safe = is.safe;
    choices = is.choices;
    below = newest_below m is;
    left = left;
  }

  -- and it is the choice of an earlier place
  pub kept_from : (n k : ℕ) (new : Machine) → untried_in m (alt.Clause n) ≡ untried_in m (alt.Clause k) → IsKept m (alt.Clause k) new → IsKept m (alt.Clause n) new
  kept_from n k new e i = record {
    same = i.same;
    fits = i.fits;
    kept = i.kept ∙ ap (λ ws. with_choice m.stamp (world_in m) ws (choices_in m)) (sym e);
  }

  pub kept_none : (n : ℕ) → IsMachine m → found_from m t c n ≡ None → IsKept m (alt.Clause n) m
  kept_none n is e = record {
    same = refl;
    fits = is.choices;
    kept = sym (ap (λ ws. with_choice m.stamp (world_in m) ws (choices_in m)) (none_untried n e));
  }

  -- ---- steps

  clauses-seen : predicate (base_in m) (name_at m.atoms c.name.at) (count_of (args_seen m.atoms m.state.store c.first.at c.count)) ≡ clauses_of m c
  clauses-seen = ap (predicate (base_in m) f) number

  by : Base → Checked Gives
  by q = elim q [ [] ↦ Err (unknown f (count_of args)) | d ∷ ds ↦ Ok (some (worlds_of turn (term_of f args) (d ∷ ds))) ]

  -- there is no clause
  pub is_unknown : clauses_of m c ≡ [] → IsCause m t (cause.Unknown c.name c.count)
  unfolding by
  is_unknown e = record {
    culprit = tt;
    stands = h.call.name;
    gives = ap (goal_step (base_in m) (its_turn m t) t.barrier) h.call.is
        ∙ by_kind (base_in m) (its_turn m t) t.barrier f args
        ∙ ap (goal_by (base_in m) (its_turn m t) t.barrier f args) kind
        ∙ ap (λ q. elim q as (λ _. Checked Gives) [ [] ↦ Err (unknown f (count_of args)) | d ∷ ds ↦ Ok (some (worlds_of (its_turn m t) (term_of f args) (d ∷ ds))) ]) (clauses-seen ∙ e)
        ∙ ap (λ n. Err (unknown f n)) number;
  }

  -- there are some
  pub user-step : (d : Clause) (ds : Base) → clauses_of m c ≡ d ∷ ds → step (base_in m) (world_in m) ≡ some (untried_in m (alt.Clause 0))
  unfolding by
  user-step d ds e =
      call-gives m t c None h
      ∙ ap (λ q. raised_at (world_in m) t.process (by q)) (clauses-seen ∙ e)
      ∙ ap (λ q. some (worlds_of turn (term_of f args) q)) (sym e)
      ∙ ap (λ g. some (worlds_of turn g (clauses_of m c))) (sym h.call.is)
      ∙ ap some (sym (untried_is 0))

  pub runs_none : (d : Clause) (ds : Base) → IsMachine m → clauses_of m c ≡ d ∷ ds → found_from m t c 0 ≡ None → Steps m m (answer.Dead Failed)
  runs_none d ds is e none = to_none m (answer.Dead Failed) (machine.Dead Failed) (Dead Failed) is refl tt (user-step d ds e ∙ ap some (none_untried 0 none)) refl

  pub runs_some : (d : Clause) (ds : Base) (k : ℕ) (v : World) → clauses_of m c ≡ d ∷ ds → found_from m t c 0 ≡ Some k → untried_in m (alt.Clause k) ≡ v ∷ untried_in m (alt.Clause (k + 1)) → step (base_in m) (world_in m) ≡ Branch v (untried_in m (alt.Clause (k + 1)))
  runs_some d ds k v e found these = user-step d ds e ∙ ap some ((next_untried 0 k found).same ∙ these)

-- ---- a clause that is entered

abbrev body_list : Option Ref → ℕ → List Item
body_list None barrier = []
body_list (Some r) barrier = Goal r barrier ∷ []

other-bodied : (names : List Name) (p : Plain) (body : Option Ref) (b : ℕ) → PlainStands names p → IfSome body (λ r. r.at < length p.store.cells) → OtherItems names p (bodied body b p)
other-bodied names p None b s w = other-rest names p p.items s.items
other-bodied names p (Some r) b s w = other-push names p p (Goal r b) s (other-rest names p p.items s.items) w

bodied-items : (body : Option Ref) (b : ℕ) (p : Plain) → items_at (bodied body b p).frames (bodied body b p).items ≡ body_list body b ++ items_at p.frames p.items
bodied-items None b p = refl
bodied-items (Some r) b p = pushed-items (Goal r b) p

bodied-running : (body : Option Ref) (b : ℕ) (p : Plain) → (bodied body b p).running ≡ p.running
bodied-running None b p = refl
bodied-running (Some r) b p = refl

bodied-store : (body : Option Ref) (b : ℕ) (p : Plain) → (bodied body b p).store ≡ p.store
bodied-store None b p = refl
bodied-store (Some r) b p = refl

module _ (m : Machine) (t : Task) (c : Call) (place : ℕ) (h : Hits m t c place) (cells : List Cell) (view : ClauseView)
    (next : drop place (clauses_of m c) ≡ clause_of m.atoms cells view ∷ drop (place + 1) (clauses_of m c)) (head : head_term m.atoms cells view ≡ head_of (clause_of m.atoms cells view)) where
  abbrev d : Clause
  d = clause_of m.atoms cells view

  first-same : (a b : Clause) (xs ys : List Clause) → a ∷ xs ≡ b ∷ ys → a ≡ b
  first-same a b xs ys e = cc

  hit_here : is_some (unifier m.atoms m.state.store t.goal.at (head_term m.atoms cells view)) ≡ true
  hit_here =
      ap (λ x. is_some (unifier m.atoms m.state.store t.goal.at x)) head
      ∙ ap (hits m.atoms m.state.store t.goal.at) (sym (first-same h.clause d h.more (drop (place + 1) (clauses_of m c)) (sym h.here ∙ next))) ∙ h.hit

  module _ (body : Option Ref) (new : Contents) (store : IsStore new) (e : EntersClause m.atoms t.goal.at cells view m.state.store body new) where
    abbrev u : Subst
    u = subst_of m.atoms new

    abbrev p : Plain
    p = plain_of m.state

    abbrev rested : Plain
    rested = resting t.rest p

    abbrev stored : Plain
    stored = record (resting t.rest (plain_of m.state)) { store = new }

    mgu_is : mgu (subst_of m.atoms m.state.store) (shows m.atoms m.state.store.cells t.goal.at) (renamed m.state.store.vars (head_of (clause_of m.atoms cells view))) ≡ Some (subst_of m.atoms new)
    mgu_is = ap (unifier m.atoms m.state.store t.goal.at) (sym head) ∙ e.unified hit_here

    is_subst : IsSubst (subst_of m.atoms m.state.store)
    is_subst = IsSubst-store m.atoms m.state.store h.calls.meets.standing.stands.store

    over : (x : Term) → apply (subst_of m.atoms new) (apply (subst_of m.atoms m.state.store) x) ≡ apply (subst_of m.atoms new) x
    over x =
        let s = subst_of m.atoms m.state.store in
        let a = shows m.atoms m.state.store.cells t.goal.at in
        let b = renamed m.state.store.vars (head_of d) in
        solves-over s a b u (mgu-solves s a b u is_subst mgu_is) x

    other : OtherStore m.atoms (apply (subst_of m.atoms new)) m.state.store new
    other = record {
      store = store;
      atoms = e.atoms;
      longer = e.longer;
      terms = λ at lt. ap (apply u) (e.kept at lt) ∙ sym (over (shows m.atoms m.state.store.cells at));
    }

    stands1 : PlainStands m.atoms (resting t.rest (plain_of m.state))
    stands1 = other-stands m.atoms p rested h.calls.meets.standing.stands (other-rest m.atoms p t.rest h.calls.meets.rest)

    stands2 : PlainStands m.atoms (record (resting t.rest (plain_of m.state)) { store = new })
    stands2 = store-stands m.atoms (apply u) rested new stands1 other

    other3 : OtherItems m.atoms (record (resting t.rest (plain_of m.state)) { store = new }) (bodied body m.stamp (record (resting t.rest (plain_of m.state)) { store = new }))
    other3 = other-bodied m.atoms stored body m.stamp stands2 e.within

    -- the items of the world that is gone on to
    body-is : (o : Option Ref) (b : Option Term) → option_map (λ r. shows m.atoms new.cells r.at) o ≡ option_map (renamed m.state.store.vars) b → map (item_of m.atoms new) (body_list o m.stamp) ≡ map (item_under u) (elim b as (λ _. List world.Item) [ None ↦ [] | Some x ↦ world.Goal (renamed m.state.store.vars x) m.stamp ∷ [] ])
    body-is None None q = refl
    body-is None (Some x) q = absurd (cc)
    body-is (Some r) None q = absurd (cc)
    body-is (Some r) (Some x) q = let same : shows m.atoms new.cells r.at ≡ renamed m.state.store.vars x = cc in ap (λ y. world.Goal (apply u y) m.stamp ∷ []) same

    map-split : (xs ys : List Item) → map (item_of m.atoms new) (xs ++ ys) ≡ map (item_of m.atoms new) xs ++ map (item_of m.atoms new) ys
    map-split [] ys = refl
    map-split (x ∷ xs) ys = ap (λ zs. item_of m.atoms new x ∷ zs) (map-split xs ys)

    under-split : (xs ys : List world.Item) → map (item_under u) xs ++ map (item_under u) ys ≡ map (item_under u) (xs ++ ys)
    under-split [] ys = refl
    under-split (x ∷ xs) ys = ap (λ zs. item_under u x ∷ zs) (under-split xs ys)

    abbrev these : List world.Item
    these = clauses.body_items d (world_in m) ++ rest_in m t.rest

    items-under : map (item_of m.atoms new) (body_list body m.stamp ++ items_at m.state.frames t.rest) ≡ map (item_under u) these
    items-under =
        map-split (body_list body m.stamp) (items_at m.state.frames t.rest)
        ∙ ap (λ xs. xs ++ map (item_of m.atoms new) (items_at m.state.frames t.rest)) (body-is body d.body e.body)
        ∙ ap (λ ys. map (item_under u) (clauses.body_items d (world_in m)) ++ ys)
        (items-by m.atoms (apply u) m.state.store new other.terms (items_at m.state.frames t.rest) (list_stands (length m.state.store.cells) m.state.frames t.rest h.calls.meets.standing.stands.lists h.calls.meets.rest))
        ∙ under-split (clauses.body_items d (world_in m)) (rest_in m t.rest)

    entered-world : world_of m.atoms (bodied body m.stamp (record (resting t.rest (plain_of m.state)) { store = new })) (m.stamp + 1) ≡ world_under u (by_clause (turn_in m t.process t.rest) d)
    entered-world =
        let r = t.process in
        let run = h.calls.meets.running in
        let w = world_of m.atoms p (m.stamp + 1) in
        let rest = rest_in m t.rest in
        let last = items_of m.atoms (bodied body m.stamp stored) (bodied body m.stamp stored).items in
        let listed : last ≡ map (item_under u) these =
        ap (λ (x : Contents). map (item_of m.atoms x) (items_at (bodied body m.stamp stored).frames (bodied body m.stamp stored).items)) (bodied-store body m.stamp stored)
        ∙ ap (map (item_of m.atoms new)) (bodied-items body m.stamp stored) ∙ items-under in
        other-world m.atoms stored (bodied body m.stamp stored) r m.stamp stands2 other3 run
        ∙ ap (λ is. with_items r is (world_of m.atoms stored (m.stamp + 1))) listed
        ∙ ap (with_items r (map (item_under u) these)) (under-world m.atoms rested new (m.stamp + 1) stands1 other)
        ∙ ap (λ v. with_items r (map (item_under u) these) (world_under u (record v { next = new.vars }))) (other-world m.atoms p rested r m.stamp h.calls.meets.standing.stands (other-rest m.atoms p t.rest h.calls.meets.rest) run)
        ∙ ap (λ n. with_items r (map (item_under u) these) (world_under u (record (with_items r rest w) { next = n }))) e.vars
        ∙ ap (λ ps. record (world_under u (record w { next = m.state.store.vars + d.vars })) { processes = ps }) (
        ap (at_place r (λ (x : world.Process). record x { items = map (item_under u) these }))
        (at_place-map (process_under u) (λ (x : world.Process). record x { items = rest }) (λ (x : world.Process). record x { items = map (item_under u) rest }) (λ x. refl) r w.processes)
        ∙ at_place-over (λ (x : world.Process). record x { items = map (item_under u) these }) (λ (x : world.Process). record x { items = map (item_under u) rest }) (λ x. refl) r (map (process_under u) w.processes)
        ∙ sym (at_place-map (process_under u) (λ (x : world.Process). record x { items = these }) (λ (x : world.Process). record x { items = map (item_under u) these }) (λ x. refl) r w.processes)
        )

    pub enters : (s : State) → going.Follows (held_of m.state) (held_of s) → plain_of s ≡ bodied body m.stamp (record (resting t.rest (plain_of m.state)) { store = new }) → Enters m place (record m { state = s; stamp = m.stamp + 1 })
    enters s f es =
        let goal = seen m.atoms m.state.store t.goal.at in
        let turn = turn_in m t.process t.rest in
        let found : mgu (subst_of m.atoms m.state.store) goal (renamed m.state.store.vars (head_of d)) ≡ Some u = mgu-seen (subst_of m.atoms m.state.store) (shows m.atoms m.state.store.cells t.goal.at) (renamed m.state.store.vars (head_of d)) is_subst ∙ mgu_is in
        let first : try_clause turn goal d ≡ Some (world_under u (by_clause turn d)) = ap (λ o. elim o as (λ _. Option World) [ None ↦ None | Some v ↦ Some (world_under v (by_clause turn d)) ]) found in
        let world_is : world_of m.atoms (plain_of s) (m.stamp + 1) ≡ world_under u (by_clause turn d) = ap (λ (x : Plain). world_of m.atoms x (m.stamp + 1)) es ∙ entered-world in
        record {
          goes = record { same = refl; names = Grows-same m.atoms; table = h.calls.meets.standing.program.table; stands = subst (PlainStands m.atoms) (sym es) (other-stands m.atoms stored (bodied body m.stamp stored) stands2 other3); follows = f; stamp = refl };
          world = untried_is m t c h.calls place ∙ ap (filter_map (try_clause turn goal)) next
              ∙ ap (λ o. cons_option o (filter_map (try_clause turn goal) (drop (place + 1) (clauses_of m c)))) (first ∙ ap Some (sym world_is))
              ∙ ap (λ ws. world_of m.atoms (plain_of s) (m.stamp + 1) ∷ ws) (sym (untried_is m t c h.calls (place + 1)));
        }

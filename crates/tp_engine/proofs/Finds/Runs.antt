-- A run, turn by turn.
use Rattle.std.proofs.Common.{◌≡◌, ℕ, suc, ◌+◌, ◌-◌, ◌<◌, ◌≤◌, Bool, true, false, cond, nat_lt, List, [], ◌∷◌, ◌++◌, length, Option, Some, None, refl, ap, sym, subst, ◌∙◌, arith, append_assoc, inl, inr}
use Rattle.std.specs.List.{AllByRecursion}
use Rattle.std.proofs.lemmas.List.{append-nil}
use Rattle.tp_terms.specs.Term.{Term}
use Rattle.tp_terms.proofs.Naming.Tables.{Grows-same}
use Rattle.tp_meaning.specs.World.{World}
use Rattle.tp_meaning.specs.Clauses.{Base}
use Rattle.tp_meaning.specs.Search as search
use Rattle.tp_meaning.specs.Search.{Outcome, Searched, try}
use Rattle.tp_meaning.specs.Machine as machine
use Rattle.tp_meaning.specs.Machine.{State, Turn, GoesOn, Ends, machine_of, ended, closed, started, stepped, turned, turn_by, answer_more, back, back_to}
use Rattle.tp_meaning.specs.Step.{step, searched}
use Rattle.tp_meaning.specs.Valid.{ClauseFits}
use Rattle.tp_meaning.proofs.ValidWorlds.Holds.{step-rises}
use Rattle.tp_meaning.proofs.Searching.Stack.{HasStack}
use Rattle.tp_meaning.proofs.Searching.Turns.{total, Kept, kept-turned, total-start, total-end}
use Rattle.tp_parse.specs.declared.read.ReadTerm.{ReadTerm}
use Rattle.tp_clauses.specs.Contents.{Contents}
use Rattle.tp_engine.specs.declared.answers.AnswerFault.{AnswerFault}
use Rattle.tp_control.specs.declared.choices.Alt.{Alt}
use Rattle.tp_control.specs.declared.choices.Choice.{Choice}
use Rattle.tp_machine.specs.declared.machine.Machine.{Machine}
use Rattle.tp_machine.specs.declared.stepped.Stepped.{Stepped}
use Rattle.tp_machine.specs.declared.stepped.Stepped.TheVariants as answer
use Rattle.tp_engine.specs.declared.run.How.{How}
use Rattle.tp_engine.specs.declared.run.How.TheVariants.{NoMore, Stopped, Raised, Budget}
use Rattle.tp_engine.specs.declared.tally.Tally.{Tally}
use Rattle.tp_meaning.specs.declared.DeadCause.TheVariants.{Failed, Deadlock, Late}
use Rattle.tp_engine.specs.Answers.{Answer, Leaves, Takes, Took, IsCutShort, numbered}
use Rattle.tp_engine.specs.Ended.{AnswerStands, Finds, RaisedStands, Reaches, after_turns, end_of, last_world, turns_of}
use Rattle.tp_state.specs.State.{held_of}
use Rattle.tp_machine.specs.Machine.{IsMachine, base_in, choices_in, choices_of, state_in, waiting_of, world_in}
use Rattle.tp_engine.specs.Run.{EndsAt, IsCut, IsCutAt, IsRun, Turns, answers_by, counted, at_end, at_start, ended_by, found_by, next_answer, tally_of, turn_to}
use Rattle.tp_engine.specs.Told.{seen_of}
use Rattle.tp_engine.proofs.Finds.Taken.{numbered-append, took-append}
use Rattle.tp_engine.proofs.Finds.Turns.{found_after}
use Rattle.tp_machine.proofs.Meets.Program.{base_fits}
use Rattle.tp_machine.proofs.Grows.SamePrograms.{same_trans}

-- ---- a step, counted

tally_counted : (r : Stepped) (w : World) (c : Tally) (xs : List (World × ℕ)) → tally_of (counted r c) (found_by r w (tally_of c xs)).answers ≡ found_by r w (tally_of c xs)
tally_counted answer.Went w c xs = refl
tally_counted answer.Success w c xs = refl
tally_counted (answer.Dead Failed) w c xs = refl
tally_counted (answer.Dead Deadlock) w c xs = refl
tally_counted (answer.Dead Late) w c xs = refl
tally_counted (answer.Raised place) w c xs = refl

counted_steps : (r : Stepped) (c : Tally) → (counted r c).steps ≡ c.steps + 1
counted_steps answer.Went c = refl
counted_steps answer.Success c = refl
counted_steps (answer.Dead Failed) c = refl
counted_steps (answer.Dead Deadlock) c = refl
counted_steps (answer.Dead Late) c = refl
counted_steps (answer.Raised place) c = refl

-- the answers after a step are those before it, and the one that it was
numbered_after : (m : Machine) (r : Stepped) (w : World) (c : Tally) (xs : List (World × ℕ)) → length xs ≡ c.found
    → numbered m.goal.now.named m.base.now.ops 0 (found_by r w (tally_of c xs)).answers ≡ numbered m.goal.now.named m.base.now.ops 0 xs ++ answers_by r (next_answer m c w)
numbered_after m answer.Went w c xs e = sym (append-nil _)
numbered_after m answer.Success w c xs e =
    numbered-append m.goal.now.named m.base.now.ops 0 xs ((w, c.steps + 1) ∷ [])
    ∙ ap (λ n. numbered m.goal.now.named m.base.now.ops 0 xs ++ record { world = w; number = n + 1; steps = c.steps + 1; named = m.goal.now.named; ops = m.base.now.ops } ∷ []) (let z : 0 + length xs ≡ c.found = omega (arith, e) in z)
numbered_after m (answer.Dead Failed) w c xs e = sym (append-nil _)
numbered_after m (answer.Dead Deadlock) w c xs e = sym (append-nil _)
numbered_after m (answer.Dead Late) w c xs e = sym (append-nil _)
numbered_after m (answer.Raised place) w c xs e = sym (append-nil _)

last-append : (xs : List (World × ℕ)) (w : World) (n : ℕ) → last_world (xs ++ (w, n) ∷ []) ≡ Some w
last-append [] w n = refl
last-append (x ∷ []) w n = refl
last-append (x ∷ y ∷ xs) w n = last-append (y ∷ xs) w n

-- a machine without choices
state_alone : (m : Machine) → IsMachine m → m.choices ≡ [] → state_in m ≡ record { world = world_in m; choices = [] }
state_alone m is none =
    ap (λ (o : Option Alt). record { world = world_in m; choices = waiting_of (base_in m) (world_in m) m.stamp o ++ choices_in m }) is.going
    ∙ ap (λ (cs : List Choice). record { world = world_in m; choices = choices_of m.atoms (base_in m) (held_of m.state) cs }) none

module _ {A : Type 0} (takes : Takes A) (start : Machine) (k : ℕ) (first : A) where
  abbrev x : Searched World Term
  x = searched (base_in start)

  -- the answers so far, as they are handed over
  abbrev told : List (World × ℕ) → List Answer
  told = numbered start.goal.now.named start.base.now.ops 0

  abbrev whole : ℕ → Outcome World Term
  whole n = closed (try x (world_in start) n k)

  -- ---- the start

  pub begins : IsMachine start → start.choices ≡ [] → start.stamp ≤ 0 → 0 < k → IsRun takes start k first start (record { steps = 0; found = 0; failed = 0; deadlock = 0; late = 0 }) first
  begins is none stamp some = record {
    answers = [];
    count = refl;
    machine = is;
    same = record { base = refl; goal = refl; names = Grows-same start.atoms };
    meaning = refl;
    bound = stamp;
    fit = record { found = omega arith; failed = omega arith; deadlock = omega arith; late = omega arith };
    few = some;
    took = refl;
    turns = ap GoesOn (sym (at));
    kept = λ n. total-start x _ (world_in start) n k (at) ∙ ap (λ m. whole m) (let z : n ≡ 0 + n = omega arith in z);
  }
    where
      at : machine_of (state_in start) (tally_of (record { steps = 0; found = 0; failed = 0; deadlock = 0; late = 0 }) []) ≡ started (world_in start)
      at = ap (λ s. machine_of s (tally_of (record { steps = 0; found = 0; failed = 0; deadlock = 0; late = 0 }) [])) (state_alone start is none)

  module _ (old : Machine) (c : Tally) (mid : A) (run : IsRun takes start k first old c mid) where
    abbrev before : machine.Machine World Term
    before = machine_of (state_in old) (tally_of c run.answers)

    -- what the definitions' turn keeps
    keeps : (n : ℕ) → Kept x before n k (turn_by x k (x.step (world_in old)) before)
    keeps n =
        let P : Base → Type 0 = AllByRecursion ClauseFits in
        let S : Base → Type 0 = λ b. HasStack (searched b) (state_in old) in
        kept-turned x (state_in old) (stepped x (state_in old)).1 (tally_of c run.answers) (stepped x (state_in old)).0 n k
        (step-rises (base_in start) (world_in old) (subst P run.meaning (base_fits old run.machine.program)) run.machine.worlds.world.valid)
        refl (subst S run.meaning run.machine.stack) (let f = run.few in omega (arith, run.count))

    next_start : (w : World) → next_answer old c w ≡ next_answer start c w
    next_start w =
        ap (λ (g : ReadTerm). record { world = w; number = c.found + 1; steps = c.steps + 1; named = g.named; ops = old.base.now.ops }) run.same.goal
        ∙ ap (λ (b : Contents). record { world = w; number = c.found + 1; steps = c.steps + 1; named = start.goal.now.named; ops = b.ops }) run.same.base

    module _ (new : Machine) (d : Tally) (now : A) (how : Option How) (t : Turns takes k old c mid new d now how) where
      abbrev found : Outcome World Term
      found = found_by t.answer t.world (tally_of c run.answers)

      tally_is : tally_of d (found).answers ≡ found
      tally_is = ap (λ n. tally_of n (found).answers) t.counts ∙ tally_counted t.answer t.world c run.answers

      count_is : length (found).answers ≡ d.found
      count_is = sym (found_after c t.answer t.world (tally_of c run.answers) run.count) ∙ sym (ap (λ (n : Tally). n.found) t.counts)

      pub steps_are : d.steps ≡ c.steps + 1
      steps_are = ap (λ (n : Tally). n.steps) t.counts ∙ counted_steps t.answer c

      turn_is : turn_by x k (x.step (world_in old)) before ≡ turn_to new how found
      turn_is = subst (λ b. turn_by (searched b) k (step b (world_in old)) before ≡ turn_to new how found) run.meaning (t.turn (tally_of c run.answers) run.count)

      kept_is : (n : ℕ) → Kept x before n k (turn_to new how found)
      kept_is n = subst (Kept x before n k) turn_is (keeps n)

      pub took_all : Took takes first (told (found).answers) now
      took_all = subst (λ as_. Took takes first as_ now) (sym (numbered_after start t.answer t.world c run.answers run.count))
          (took-append takes first mid now (told run.answers) (answers_by t.answer (next_answer start c t.world)) run.took
          (subst (λ a. Took takes mid (answers_by t.answer a) now) (next_start t.world) t.took))

    -- ---- a turn that goes on

    pub goes_on : (new : Machine) (d : Tally) (now : A) → Turns takes k old c mid new d now None → IsRun takes start k first new d now
    goes_on new d now t = record {
      answers = (found new d now None t).answers;
      count = count_is new d now None t;
      machine = t.machine;
      same = same_trans start old new run.same t.same;
      meaning = t.meaning ∙ run.meaning;
      bound = (let a = t.bound in let b = run.bound in omega (arith, steps_are new d now None t));
      fit = t.fit;
      few = (let f = (kept_is new d now None t 0).few in omega (arith, count_is new d now None t));
      took = took_all new d now None t;
      turns = ap (λ n. after_turns x k n (started (world_in start))) (let z : d.steps ≡ suc c.steps = omega (arith, steps_are new d now None t) in z)
          ∙ ap (λ (r : Turn World Term). elim r as (λ _. Turn World Term) [ GoesOn m ↦ turn_by x k (x.step m.world) m | Ends o ↦ Ends o ]) run.turns
          ∙ turn_is new d now None t ∙ ap (λ o. GoesOn (machine_of (state_in new) o)) (sym (tally_is new d now None t));
      kept = λ n.
          ap (λ o. total x (machine_of (state_in new) o) n k) (tally_is new d now None t) ∙ (kept_is new d now None t n).found
          ∙ run.kept (suc n) ∙ ap (λ m. whole m) (let z : c.steps + suc n ≡ d.steps + n = omega (arith, steps_are new d now None t) in z);
    }

    -- ---- the end

    finds : (new : Machine) (d : Tally) (xs : List (World × ℕ)) (n : ℕ) (how : How) → ended (end_of (seen_of new d.found d.steps) how) (tally_of d xs) ≡ whole n → length xs ≡ d.found
        → AnswerStands (seen_of new d.found d.steps) xs how → RaisedStands (seen_of new d.found d.steps) how
        → Finds (whole n) (at_end new (ended_by d how)) (ended_by d how)
    finds new d xs n how e count stands raised = record {
      steps = ap (λ (q : Outcome World Term). q.steps) e;
      found = sym count ∙ ap (λ (q : Outcome World Term). length q.answers) e;
      failed = ap (λ (q : Outcome World Term). q.failed) e;
      deadlock = ap (λ (q : Outcome World Term). q.deadlock) e;
      late = ap (λ (q : Outcome World Term). q.late) e;
      how = ap (λ (q : Outcome World Term). q.how) e;
      answer = subst (λ ys. AnswerStands (seen_of new d.found d.steps) ys how) (ap (λ (q : Outcome World Term). q.answers) e) stands;
      raised = raised;
      number = refl;
      made = refl;
    }

    module _ (new : Machine) (d : Tally) (now : A) (how : How) (t : Turns takes k old c mid new d now (Some how)) where
      all_is : (n : ℕ) → c.steps < n → ended (end_of (seen_of new d.found d.steps) how) (tally_of d (found new d now (Some how) t).answers) ≡ whole n
      all_is n lt =
          ap (ended (end_of (seen_of new d.found d.steps) how)) (tally_is new d now (Some how) t) ∙ kept_is new d now (Some how) t (n - (c.steps + 1))
          ∙ run.kept (suc (n - (c.steps + 1))) ∙ ap (λ m. whole m) (let z : c.steps + suc (n - (c.steps + 1)) ≡ n = omega arith in z)

      answer_stands : (h : How) → EndsAt new t.answer t.world h → AnswerStands (seen_of new d.found d.steps) (found new d now (Some how) t).answers h
      answer_stands NoMore e = tt
      answer_stands Stopped e = ap (λ r. last_world (found_by r t.world (tally_of c run.answers)).answers) e.0 ∙ last-append run.answers t.world (c.steps + 1) ∙ ap Some e.1
      answer_stands (Raised term clock) e = tt
      answer_stands Budget e = tt

      raised_stands : (h : How) → EndsAt new t.answer t.world h → RaisedStands (seen_of new d.found d.steps) h
      raised_stands NoMore e = tt
      raised_stands Stopped e = tt
      raised_stands (Raised term clock) e = e
      raised_stands Budget e = tt

      pub ends : (n : ℕ) → c.steps < n → Finds (whole n) (at_end new (ended_by d how)) (ended_by d how)
      ends n lt = finds new d (found new d now (Some how) t).answers n how (all_is n lt) (count_is new d now (Some how) t) (answer_stands how t.ends) (raised_stands how t.ends)

      pub ends_took : (n : ℕ) → c.steps < n → Took takes first (told (whole n).answers) now
      ends_took n lt = subst (λ xs. Took takes first (told xs) now) (ap (λ (q : Outcome World Term). q.answers) (all_is n lt)) (took_all new d now (Some how) t)

      before_last : (h : How) → EndsAt new t.answer t.world h → turns_of (ended_by d h) h ≡ c.steps
      before_last NoMore e = omega (arith, steps_are new d now (Some how) t)
      before_last Stopped e = omega (arith, steps_are new d now (Some how) t)
      before_last (Raised term clock) e = omega (arith, steps_are new d now (Some how) t)
      before_last Budget e = absurd e

      pub reaches : Reaches (at_start start) k (at_end new (ended_by d how)) (ended_by d how)
      reaches = (
        tally_of c run.answers,
        ap (λ n. after_turns x k n (started (world_in start))) (before_last how t.ends) ∙ run.turns ∙ ap (λ s. GoesOn (machine_of s (tally_of c run.answers))) (sym t.stays),
      )

    -- ---- no step is left

    module _ (n : ℕ) (none : c.steps ≡ n) where
      spent : ended search.Budget (tally_of c run.answers) ≡ whole n
      spent = total-end x before 0 k refl ∙ run.kept 0 ∙ ap (λ m. whole m) (let z : c.steps + 0 ≡ n = omega (arith, none) in z)

      pub spends : Finds (whole n) (at_end old (ended_by c Budget)) (ended_by c Budget)
      spends = finds old c run.answers n Budget spent run.count tt tt

      pub spends_took : Took takes first (told (whole n).answers) mid
      spends_took = subst (λ xs. Took takes first (told xs) mid) (ap (λ (q : Outcome World Term). q.answers) spent) run.took

    pub spends_reaches : Reaches (at_start start) k (at_end old (ended_by c Budget)) (ended_by c Budget)
    spends_reaches = (tally_of c run.answers, run.turns)

    -- ---- a fault

    -- all answers begin with these
    abbrev Begins : ℕ → List (World × ℕ) → Type 0
    Begins n xs = (rest : List (World × ℕ)) × ((whole n).answers ≡ xs ++ rest)

    module _ (n : ℕ) (lt : c.steps < n) where
      so_far : Begins n run.answers
      so_far = (_, sym (ap (λ (o : Outcome World Term). o.answers) (run.kept (n - c.steps) ∙ ap (λ j. whole j) (let z : c.steps + (n - c.steps) ≡ n = omega arith in z))))

      -- with an answer that is met now
      abbrev answered : Outcome World Term
      answered = answer_more (world_in old) (tally_of c run.answers)

      next_one : step (base_in old) (world_in old) ≡ search.Success → Begins n (answered).answers
      next_one e = by (nat_lt (length run.answers + 1) k) (subst (Kept x before m k) turn_is (keeps m))
        where
          m : ℕ
          m = n - (c.steps + 1)

          turn_is : turn_by x k (x.step (world_in old)) before ≡ turned x k machine.Success (state_in old) (tally_of c run.answers)
          turn_is = ap (λ g. turn_by x k g before) (subst (λ b. step b (world_in old) ≡ search.Success) run.meaning e)

          all : (whole n).answers ≡ (total x before (suc m) k).answers
          all = ap (λ (o : Outcome World Term). o.answers) (ap (λ j. whole j) (let z : n ≡ c.steps + suc m = omega arith in z) ∙ sym (run.kept (suc m)))

          on : (o : Option (State World)) → Kept x before m k (elim o as (λ _. Turn World Term) [ None ↦ Ends (ended (search.Fails None) answered) | Some r ↦ GoesOn (machine_of r answered) ]) → Begins n (answered).answers
          on None h = ([], all ∙ ap (λ (o : Outcome World Term). o.answers) (sym h) ∙ sym (append-nil (answered).answers))
          on (Some r) h = (_, all ∙ ap (λ (o : Outcome World Term). o.answers) (sym h.found))

          by : (b : Bool) → Kept x before m k (cond b (back_to answered (state_in old)) (Ends (ended search.Stopped answered))) → Begins n (answered).answers
          by true h = on (back (state_in old)) h
          by false h = ([], all ∙ ap (λ (o : Outcome World Term). o.answers) (sym h) ∙ sym (append-nil (answered).answers))

      told_begins : (xs : List (World × ℕ)) (h : Begins n xs) → told (whole n).answers ≡ told xs ++ numbered start.goal.now.named start.base.now.ops (0 + length xs) h.0
      told_begins xs h = ap told h.1 ∙ numbered-append start.goal.now.named start.base.now.ops 0 xs h.0

      abbrev next : Answer
      next = next_answer start c (world_in old)

      abbrev behind : Begins n (answered).answers → List Answer
      behind h = numbered start.goal.now.named start.base.now.ops (0 + length (answered).answers) h.0

      told_next : (h : Begins n (answered).answers) → told (whole n).answers ≡ (told run.answers ++ next ∷ []) ++ behind h
      told_next h = told_begins (answered).answers h ∙ ap (λ as_. as_ ++ behind h) (numbered_after start answer.Success (world_in old) c run.answers run.count)

      pub cut : (leaves : Leaves A) (fault : AnswerFault) (new : Machine) (now : A) → IsCutAt takes leaves old c fault mid now new → IsCutShort takes leaves (told (whole n).answers) fault first now
      cut leaves fault new now h = go h.cut
        where
          go : IsCut takes leaves old (next_answer old c (world_in old)) fault mid now → IsCutShort takes leaves (told (whole n).answers) fault first now
          go (inl e) = record {
            first = told run.answers;
            rest = _;
            is = told_begins run.answers so_far;
            at = mid;
            took = run.took;
            cause = inl e;
          }
          go (inr (success, inl e)) = record {
            first = told run.answers ++ next ∷ [];
            rest = behind (next_one success);
            is = told_next (next_one success);
            at = now;
            took = took-append takes first mid now (told run.answers) (next ∷ []) run.took (now, subst (λ a. takes mid a now) (next_start (world_in old)) e.1, refl);
            cause = inl (e.0, refl);
          }
          go (inr (success, inr e)) = record {
            first = told run.answers;
            rest = next ∷ behind (next_one success);
            is = told_next (next_one success) ∙ append_assoc (told run.answers) (next ∷ []) (behind (next_one success));
            at = mid;
            took = run.took;
            cause = inr (subst (λ a. leaves mid a fault now) (next_start (world_in old)) e);
          }

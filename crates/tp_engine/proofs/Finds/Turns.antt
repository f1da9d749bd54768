-- A turn of the code is one of the definitions' machine.
use Rattle.std.proofs.Common.{◌≡◌, ℕ, ◌+◌, ◌<◌, Bool, true, false, cond, List, [], ◌∷◌, length, Option, Some, None, IfSome, refl, ap, sym, subst, ◌∙◌, arith, length-append, inl, inr}
use borrow.Author.Tests.{lt-ltb}
use Rattle.tp_terms.specs.Term.{Term}
use Rattle.tp_meaning.specs.World.{World}
use Rattle.tp_meaning.specs.Search as search
use Rattle.tp_meaning.specs.Search.{Outcome, Searched}
use Rattle.tp_meaning.specs.Machine as machine
use Rattle.tp_meaning.specs.Machine.{Choice, State, Turn, GoesOn, Ends, machine_of, ended, back, back_to, rewound, rewound_to, stepped, stepped_by, turned, answer_more}
use Rattle.tp_meaning.specs.Step.{step, searched}
use Rattle.tp_meaning.specs.declared.DeadCause.{DeadCause}
use Rattle.tp_meaning.specs.declared.DeadCause.TheVariants.{Failed, Deadlock, Late}
use Rattle.tp_meaning.proofs.Searching.Stack.{back-some, back-none}
use Rattle.tp_parse.specs.declared.read.ReadTerm.{ReadTerm}
use Rattle.tp_clauses.specs.Contents.{Contents}
use Rattle.tp_engine.specs.declared.answers.AnswerFault.{AnswerFault}
use Rattle.tp_engine.specs.declared.answers.AnswerFault.TheVariants as why
use Rattle.tp_machine.specs.declared.machine.Machine.{Machine}
use Rattle.tp_machine.specs.declared.stepped.Stepped.{Stepped}
use Rattle.tp_machine.specs.declared.stepped.Stepped.TheVariants as answer
use Rattle.tp_engine.specs.declared.run.How.{How}
use Rattle.tp_engine.specs.declared.run.How.TheVariants.{NoMore}
use Rattle.tp_engine.specs.declared.tally.Tally.{Tally}
use Rattle.tp_engine.specs.Answers.{Leaves, Takes, Took, answer_in}
use Rattle.tp_machine.specs.Machine.{SameProgram, Steps, Rewinds, Resumes, answer_by, base_in, state_in, world_in}
use Rattle.tp_engine.specs.Run.{CountsFit, EndsAt, Follows, GoesBack, IsCut, IsCutAt, Turns, answers_by, counted, found_by, next_answer}
use Rattle.tp_engine.specs.Told.{seen_of}
use Rattle.tp_machine.proofs.Grows.SamePrograms.{same_trans}

-- ---- the way back

-- where there is no choice, the state stays
rewound-none : {W : Type 0} (s r : State W) → (false, r) ≡ rewound s → r ≡ s
rewound-none {W} s r = go s.choices
  where
    go : (cs : List (Choice W)) → (false, r) ≡ rewound_to s cs → r ≡ s
    go [] e = ap (λ z. z.1) e
    go (c ∷ cs) e = absurd (let q : false ≡ true = ap (λ z. z.0) e in cc)

abbrev back_by : Outcome World Term → Option (State World) → Turn World Term
back_by t o = elim o [ None ↦ Ends (ended (search.Fails None) t) | Some r ↦ GoesOn (machine_of r t) ]

pub went_back : (old mid new : Machine) → Rewinds old true mid → Resumes mid new → GoesBack old None new
went_back old mid new r s = record {
  machine = s.machine;
  same = same_trans old mid new r.same s.same;
  meaning = s.meaning ∙ r.meaning;
  bound = (let lt = r.machine.1 in omega (arith, s.bound));
  stays = tt;
  turn = λ t. ap (back_by t) (back-some (state_in old) (state_in mid) r.back ∙ ap Some (sym s.resumed));
}

pub none_left : (old new : Machine) → Rewinds old false new → GoesBack old (Some NoMore) new
none_left old new r = record {
  machine = r.machine.0;
  same = r.same;
  meaning = r.meaning;
  bound = (let e = r.machine.1 in omega arith);
  stays = (refl, rewound-none (state_in old) (state_in new) r.back);
  turn = λ t. ap (back_by t) (back-none (state_in old) (state_in new) r.back);
}

-- ---- what follows a step

-- the ends of a machine that went back
module _ (old new : Machine) (r : Stepped) (other : r ≡ answer.Went → ⊥) where
  stays_as : (h : Option How) → IfSome h (λ x. (x ≡ NoMore) × (state_in new ≡ state_in old)) → IfSome h (λ _. (r ≡ answer.Went → ⊥) × (state_in new ≡ state_in old))
  stays_as None k = tt
  stays_as (Some x) k = (other, k.1)

  ends_as : (h : Option How) → IfSome h (λ x. (x ≡ NoMore) × (state_in new ≡ state_in old)) → IfSome h (EndsAt new r (world_in old))
  ends_as None k = tt
  ends_as (Some x) k = subst (EndsAt new r (world_in old)) (sym k.0) tt

  -- after a step that didn't go on, where the definitions' machine goes back
  goes_back : (found wanted : ℕ) (how : Option How) → GoesBack old how new
      → ((t : Outcome World Term) → found ≡ length (found_by r (world_in old) t).answers → turned (searched (base_in old)) wanted (answer_by old r) (state_in old) t ≡ back_to (found_by r (world_in old) t) (state_in old))
      → Follows r found wanted old how new
  goes_back found wanted how g e = record {
    machine = g.machine;
    same = g.same;
    meaning = g.meaning;
    bound = g.bound;
    stays = stays_as how g.stays;
    ends = ends_as how g.stays;
    turn = λ t is. e t is ∙ g.turn (found_by r (world_in old) t);
  }

-- after a dead end, and after an answer where more are wanted
pub dead_follows : (found wanted : ℕ) (old new : Machine) (cause : DeadCause) (how : Option How) → GoesBack old how new → Follows (answer.Dead cause) found wanted old how new
dead_follows found wanted old new cause how g = goes_back old new (answer.Dead cause) (λ e. cc) found wanted how g (λ t is. refl)

pub answer_follows : (found wanted : ℕ) (old new : Machine) (how : Option How) → found < wanted → GoesBack old how new → Follows answer.Success found wanted old how new
answer_follows found wanted old new how lt g = goes_back old new answer.Success (λ e. cc) found wanted how g (λ t is.
    let s = state_in old in
    let few : length t.answers + 1 < wanted = omega (arith, is, length-append t.answers ((world_in old, t.steps + 1) ∷ [])) in
    ap (λ (b : Bool). cond b (back_to (answer_more s.world t) s) (Ends (ended search.Stopped (answer_more s.world t)))) (lt-ltb (length t.answers + 1) wanted few))

-- ---- a step

-- a step that didn't go on leaves the state
still : (x : Searched World Term) (s s' : State World) (a : machine.Stepped Term) → (a ≡ machine.Went → ⊥) → (a, s') ≡ stepped x s → s' ≡ s
still x s s' a other = go (x.step s.world)
  where
    go : (g : search.Step World Term) → (a, s') ≡ stepped_by x g s → s' ≡ s
    go search.Success e = ap (λ z. z.1) e
    go (search.Dead c) e = ap (λ z. z.1) e
    go (search.Raise t) e = ap (λ z. z.1) e
    go (search.Commit c v) e = absurd (other (ap (λ z. z.0) e))
    go (search.Branch v more) e = absurd (other (ap (λ z. z.0) e))

-- a step that answered so is one of a world that has an answer
success : (x : Searched World Term) (s s' : State World) → (machine.Success, s') ≡ stepped x s → x.step s.world ≡ search.Success
success x s s' = go (x.step s.world)
  where
    go : (g : search.Step World Term) → (machine.Success, s') ≡ stepped_by x g s → g ≡ search.Success
    go search.Success e = refl
    go (search.Dead c) e = absurd (let q : machine.Success ≡ machine.Dead c = ap (λ z. z.0) e in cc)
    go (search.Raise t) e = absurd (let q : machine.Success ≡ machine.Raised t = ap (λ z. z.0) e in cc)
    go (search.Commit c v) e = absurd (let q : machine.Success ≡ machine.Went = ap (λ z. z.0) e in cc)
    go (search.Branch v more) e = absurd (let q : machine.Success ≡ machine.Went = ap (λ z. z.0) e in cc)

-- so many answers there are after a step
pub found_after : (c : Tally) (r : Stepped) (w : World) (t : Outcome World Term) → length t.answers ≡ c.found → (counted r c).found ≡ length (found_by r w t).answers
found_after c answer.Went w t e = sym e
found_after c answer.Success w t e = omega (arith, e, length-append t.answers ((w, t.steps + 1) ∷ []))
found_after c (answer.Dead Failed) w t e = sym e
found_after c (answer.Dead Deadlock) w t e = sym e
found_after c (answer.Dead Late) w t e = sym e
found_after c (answer.Raised place) w t e = sym e

module _ (old mid : Machine) (c : Tally) where
  -- an answer that is handed over is the machine's next one
  next_is : SameProgram old mid → answer_in (seen_of mid (c.found + 1) (c.steps + 1)) ≡ next_answer old c (world_in mid)
  next_is h =
      ap (λ (g : ReadTerm). record { world = world_in mid; number = c.found + 1; steps = c.steps + 1; named = g.named; ops = mid.base.now.ops }) h.goal
      ∙ ap (λ (b : Contents). record { world = world_in mid; number = c.found + 1; steps = c.steps + 1; named = old.goal.now.named; ops = b.ops }) h.base

  answers_are : (r : Stepped) (d : Tally) → d ≡ counted r c → SameProgram old mid → answers_by r (answer_in (seen_of mid d.found d.steps)) ≡ answers_by r (next_answer old c (world_in mid))
  answers_are answer.Went d e h = refl
  answers_are answer.Success d e h = ap (λ (n : Tally). answer_in (seen_of mid n.found n.steps) ∷ []) e ∙ ap (λ a. a ∷ []) (next_is h)
  answers_are (answer.Dead cause) d e h = refl
  answers_are (answer.Raised place) d e h = refl

went_by : (m : Machine) (r : Stepped) → (r ≡ answer.Went → ⊥) → answer_by m r ≡ machine.Went → ⊥
went_by m answer.Went other e = other refl
went_by m answer.Success other e = cc
went_by m (answer.Dead cause) other e = cc
went_by m (answer.Raised place) other e = cc

-- a turn: its step, the answer that was handed over, and what followed
pub turns : {A : Type 0} (takes : Takes A) (wanted : ℕ) (old mid new : Machine) (c d : Tally) (before now : A) (r : Stepped) (how : Option How)
    → Steps old mid r → d ≡ counted r c → CountsFit d → Took takes before (answers_by r (answer_in (seen_of mid d.found d.steps))) now → Follows r d.found wanted mid how new → Turns takes wanted old c before new d now how
turns takes wanted old mid new c d before now r how st e fit took f = record {
  answer = r;
  world = world_in mid;
  machine = f.machine;
  same = same_trans old mid new st.same f.same;
  meaning = f.meaning ∙ st.meaning;
  bound = (let b = f.bound in omega (arith, st.bound));
  counts = e;
  fit = fit;
  took = subst (λ answers. Took takes before answers now) (answers_are old mid c r d e st.same) took;
  stays = stays how f.stays;
  ends = f.ends;
  turn = λ t is.
      ap (λ (z : machine.Stepped Term × State World). turned (searched (base_in old)) wanted z.0 z.1 t) (sym st.step)
      ∙ f.turn t (ap (λ (n : Tally). n.found) e ∙ found_after c r (world_in mid) t is);
}
  where
    stays : (h : Option How) → IfSome h (λ _. (r ≡ answer.Went → ⊥) × (state_in new ≡ state_in mid)) → IfSome h (λ _. state_in new ≡ state_in old)
    stays None k = tt
    stays (Some x) k = k.1 ∙ still (searched (base_in old)) (state_in old) (state_in mid) (answer_by mid r) (went_by mid r k.0) st.step

-- ---- a turn that is cut short

module _ {A : Type 0} (takes : Takes A) (leaves : Leaves A) (old mid new : Machine) (c d : Tally) (before now : A) (fault : AnswerFault) where
  -- before its step
  pub cut_before : SameProgram old new → fault ≡ why.NoMemory → now ≡ before → IsCutAt takes leaves old c fault before now new
  cut_before same memory is = record { same = same; write = λ e. absurd (let q : why.NoMemory ≡ why.Write = sym memory ∙ e in cc); cut = inl (memory, is) }

  at_answer : (r : Stepped) → r ≡ answer.Success → Steps old mid r → (step (base_in old) (world_in old) ≡ search.Success) × (world_in mid ≡ world_in old)
  at_answer r is st =
      let e : (machine.Success, state_in mid) ≡ stepped (searched (base_in old)) (state_in old) = ap (λ q. (answer_by mid q, state_in mid)) (sym is) ∙ st.step in (
        success (searched (base_in old)) (state_in old) (state_in mid) e,
        ap (λ (s : State World). s.world) (still (searched (base_in old)) (state_in old) (state_in mid) machine.Success (λ q. cc) e),
      )

  -- the answer that is handed over is the next one of the world before the step
  handed : (r : Stepped) → r ≡ answer.Success → Steps old mid r → d ≡ counted r c → answer_in (seen_of mid d.found d.steps) ≡ next_answer old c (world_in old)
  handed r is st e =
      ap (λ (n : Tally). answer_in (seen_of mid n.found n.steps)) (e ∙ ap (λ q. counted q c) is)
      ∙ next_is old mid c st.same ∙ ap (next_answer old c) (at_answer r is st).1

  -- at its answer
  pub cut_at : (r : Stepped) → Steps old mid r → d ≡ counted r c → (r ≡ answer.Success) × leaves before (answer_in (seen_of mid d.found d.steps)) fault now → IsCutAt takes leaves old c fault before now mid
  cut_at r st e h = record {
    same = st.same;
    write = λ _. st.machine;
    cut = inr ((at_answer r h.0 st).0, inr (subst (λ a. leaves before a fault now) (handed r h.0 st e) h.1));
  }

  -- and behind it
  pub cut_behind : (r : Stepped) → Steps old mid r → d ≡ counted r c → Took takes before (answers_by r (answer_in (seen_of mid d.found d.steps))) now → SameProgram mid new → fault ≡ why.NoMemory → IsCutAt takes leaves old c fault before now new
  cut_behind r st e took same memory = record {
    same = same_trans old mid new st.same same;
    write = λ q. absurd (let k : why.NoMemory ≡ why.Write = sym memory ∙ q in cc);
    cut = go r refl took;
  }
    where
      go : (q : Stepped) → r ≡ q → Took takes before (answers_by q (answer_in (seen_of mid d.found d.steps))) now → IsCut takes leaves old (next_answer old c (world_in old)) fault before now
      go answer.Went is k = inl (memory, k)
      go answer.Success is k = inr ((at_answer r is st).0, inl (memory, subst (λ a. takes before a now) (handed r is st e) (subst (takes before (answer_in (seen_of mid d.found d.steps))) (sym k.2) k.1)))
      go (answer.Dead cause) is k = inl (memory, k)
      go (answer.Raised place) is k = inl (memory, k)

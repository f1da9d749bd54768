-- A log that is emptied.
use Rattle.std.proofs.Common.{◌≡◌, ℕ, ◌<◌, true, nat_eq, List, [], ◌∷◌, ◌++◌, length, refl, ap, sym, subst, ◌∙◌, arith}
use Rattle.std.proofs.lemmas.Bool.Decides.{nat_tests}
use Rattle.tp_terms.specs.Term.{Term}
use Rattle.tp_terms.specs.Names.{Grows}
use Rattle.tp_meaning.specs.World.{World}
use Rattle.tp_meaning.specs.Machine as machine
use Rattle.tp_meaning.specs.Step.{searched}
use Rattle.tp_meaning.proofs.Searching.Stack.{HasStack}
use Rattle.tp_meaning.proofs.ValidWorlds.Holds.{Holds, Stands}
use Rattle.tp_log.specs.declared.entry.Entry.{Entry}
use Rattle.tp_store.specs.Contents.{seen}
use Rattle.tp_state.specs.Plain.{Plain}
use Rattle.tp_state.specs.Undo.{CanUndo}
use Rattle.tp_state.specs.Going.{parts_of}
use Rattle.tp_state.specs.State.{plain_of, held_of}
use Rattle.tp_machine.specs.declared.machine.Machine.{Machine}
use Rattle.tp_machine.specs.declared.stepped.Stepped.{Stepped}
use Rattle.tp_machine.specs.declared.stepped.Stepped.TheVariants as answer
use Rattle.tp_machine.specs.Machine.{ChoicesFit, ErrorStands, Forgets, IsMachine, Steps, answer_by, base_in, choices_of, state_in, waiting_of, world_in}

-- ---- where no choice is open

zero-is : (n : ℕ) → nat_eq n 0 ≡ true → n ≡ 0
zero-is n e = grind (arith, nat_tests)

empty : {A : Type 0} (xs : List A) → nat_eq (length xs) 0 ≡ true → xs ≡ []
empty [] e = refl
empty (x ∷ xs) e = absurd (let z = zero-is (length (x ∷ xs)) e in omega (arith, z))

pub none_open : (m : Machine) (log : List Entry) → IsMachine m → nat_eq (length m.choices) 0 ≡ true → log ≡ [] → Forgets m (record m { state = record m.state { log = log } })
none_open m log is none e =
    let new : Machine = record m { state = record m.state { log = log } } in
    let no = empty m.choices none in
    let here : choices_of m.atoms (base_in m) (held_of new.state) m.choices ≡ choices_of m.atoms (base_in m) (held_of m.state) m.choices =
    ap (choices_of m.atoms (base_in m) (held_of new.state)) no ∙ sym (ap (choices_of m.atoms (base_in m) (held_of m.state)) no) in
    let same : state_in new ≡ state_in m = ap (λ cs. record { world = world_in m; choices = waiting_of (base_in m) (world_in m) m.stamp m.waiting ++ cs }) here in
    record {
      is = refl;
      plain = refl;
      state = same;
      machine = record {
        going = is.going;
        program = record { table = is.program.table; base = is.program.base; named = is.program.named; goal = is.program.goal };
        stands = is.stands;
        safe = subst (λ es. CanUndo es (parts_of (plain_of m.state)) (held_of m.state).rooms) (sym e) tt;
        choices = subst (ChoicesFit m.atoms (base_in m) (held_of new.state)) (sym no) (record { fits = tt; rise = tt });
        worlds = subst (Holds (Stands m.goal.now.vars)) (sym same) is.worlds;
        stack = subst (λ (s : machine.State World). HasStack (searched (base_in m)) s) (sym same) is.stack;
      };
    }

pub some_open : (m : Machine) → IsMachine m → Forgets m m
some_open m is = record { is = refl; plain = refl; state = refl; machine = is }

-- ---- a step, behind which the log is emptied

answer-same : (m new : Machine) (r : Stepped) → new ≡ record m { state = new.state } → plain_of new.state ≡ plain_of m.state → answer_by new r ≡ answer_by m r
answer-same m new answer.Went e p = refl
answer-same m new answer.Success e p = refl
answer-same m new (answer.Dead cause) e p = refl
answer-same m new (answer.Raised place) e p =
    ap (λ (q : Machine). machine.Raised (seen q.atoms new.state.store place.at)) e
    ∙ ap (λ (x : Plain). machine.Raised (seen m.atoms x.store place.at)) p

place-same : (m new : Machine) (r : Stepped) → plain_of new.state ≡ plain_of m.state → ErrorStands m r → ErrorStands new r
place-same m new answer.Went p h = tt
place-same m new answer.Success p h = tt
place-same m new (answer.Dead cause) p h = tt
place-same m new (answer.Raised place) p h = subst (λ (x : Plain). place.at < length x.store.cells) (sym p) h

pub steps_on : (old mid new : Machine) (r : Stepped) → Steps old mid r → Forgets mid new → Steps old new r
steps_on old mid new r s f = record {
  machine = f.machine;
  same = record {
    base = ap (λ (m : Machine). m.base.now) f.is ∙ s.same.base;
    goal = ap (λ (m : Machine). m.goal.now) f.is ∙ s.same.goal;
    names = subst (Grows old.atoms) (sym (ap (λ (m : Machine). m.atoms) f.is)) s.same.names;
  };
  meaning = ap base_in f.is ∙ s.meaning;
  step = ap (λ (a : machine.Stepped Term). (a, state_in new)) (answer-same mid new r f.is f.plain) ∙ ap (λ (x : machine.State World). (answer_by mid r, x)) f.state ∙ s.step;
  bound = omega (arith, ap (λ (m : Machine). m.stamp) f.is, s.bound);
  place = place-same mid new r f.plain s.place;
}

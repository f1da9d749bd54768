-- From a world that the machine goes on to, to a step of the machine.
use Rattle.std.proofs.Common.{◌≡◌, ℕ, ◌+◌, ◌<◌, ◌≤◌, List, [], ◌∷◌, ◌++◌, length, take, Some, None, refl, ap, sym, subst, ◌∙◌, arith}
use Rattle.std.specs.List.{AllByRecursion}
use Rattle.tp_terms.specs.declared.cells.Ref.{Ref}
use Rattle.tp_terms.specs.Term.{Name, Term}
use Rattle.tp_terms.specs.Shown.{AreNamed}
use Rattle.tp_terms.specs.Names.{IsTable, Grows}
use Rattle.tp_terms.proofs.Naming.Tables.{Grows-same, Grows-length}
use Rattle.tp_terms.proofs.Places.Shown.{AreNamed-longer}
use Rattle.tp_meaning.specs.World.{World}
use Rattle.tp_meaning.specs.Turn.{Gives, one}
use Rattle.tp_meaning.specs.Search as search
use Rattle.tp_meaning.specs.Step.{step, searched}
use Rattle.tp_meaning.specs.Machine as machine
use Rattle.tp_meaning.specs.Machine.{State, Went, stepped, stepped_by, with_choice, cut_from}
use Rattle.tp_meaning.proofs.Searching.Stack.{HasStack, stepped-stack, stack_with}
use Rattle.tp_meaning.proofs.ValidWorlds.Holds.{Holds, ChoiceHolds, Stands, stepped-stands, step-rises}
use Rattle.tp_parse.specs.declared.read.ReadTerm.{ReadTerm}
use Rattle.tp_clauses.specs.Contents as kept
use Rattle.tp_clauses.specs.Contents.{IsBase, base_of}
use Rattle.tp_control.specs.declared.choices.Alt.{Alt}
use Rattle.tp_control.specs.declared.choices.Choice.{Choice}
use Rattle.tp_control.specs.declared.choices.Marks.{Marks}
use Rattle.tp_machine.specs.declared.machine.Machine.{Machine}
use Rattle.tp_state.specs.declared.state.State as code
use Rattle.tp_machine.specs.declared.stepped.Stepped.{Stepped}
use Rattle.tp_machine.specs.declared.stepped.Stepped.TheVariants as answer
use Rattle.tp_store.specs.Contents.{seen}
use Rattle.tp_state.specs.State.{plain_of, held_of}
use Rattle.tp_state.specs.Going as going
use Rattle.tp_state.specs.Going.{marks_of}
use Rattle.tp_state.specs.Plain.{world_of}
use Rattle.tp_state.specs.Stands.{PlainStands}
use Rattle.tp_machine.specs.Program.{GoalFits}
use Rattle.tp_machine.specs.Machine.{IsProgram, ChoicesFit, waiting_of, IsMachine, Steps, Resumes, ErrorStands, base_in, world_in, state_in, choices_in, choices_of, answer_by}
use Rattle.tp_machine.specs.Goes.{KeepsWorlds, IsKept, MayKeep, Goes, Returns, untried_in}
use Rattle.tp_machine.proofs.Meets.Program.{base_fits}
use Rattle.tp_machine.proofs.Worlds.Names.{base-later}
use Rattle.tp_machine.proofs.GoesBack.Choices.{stay_by_acts, choices_stay, fits_stay, choices_later, fits_later, choices_push, fits_push, choice_now, fits_take}

-- the machine's state, where it didn't go back
pub state_is : (m : Machine) → m.waiting ≡ None → state_in m ≡ record { world = world_in m; choices = choices_in m }
state_is m e = ap (λ o. record { world = world_in m; choices = waiting_of (base_in m) (world_in m) m.stamp o ++ choices_in m }) e

-- a machine that goes on from another by a step, with these choices
pub record Follows (old new : Machine) (r : Stepped) : Type 0 where
  pub is : IsMachine old
  pub waiting : new.waiting ≡ None
  pub base : new.base.now ≡ old.base.now
  pub goal : new.goal.now ≡ old.goal.now
  pub names : Grows old.atoms new.atoms
  pub table : IsTable new.atoms
  pub stands : PlainStands new.atoms (plain_of new.state)
  pub acts : going.Follows (held_of old.state) (held_of new.state)
  pub choices : ChoicesFit old.atoms (base_in old) (held_of old.state) new.choices
  pub bound : new.stamp ≤ old.stamp + 1
  pub place : ErrorStands new r
  pub step : (answer_by new r, record { world = world_in new; choices = choices_of old.atoms (base_in old) (held_of old.state) new.choices }) ≡ stepped (searched (base_in old)) (state_in old)

-- the base means the same under a longer table
pub meaning : (old new : Machine) → IsProgram old → new.base.now ≡ old.base.now → Grows old.atoms new.atoms → base_in new ≡ base_in old
meaning old new p e g = ap (base_of new.atoms) e ∙ base-later old.atoms new.atoms g old.base.now p.named

program-later : (old new : Machine) → IsProgram old → new.base.now ≡ old.base.now → new.goal.now ≡ old.goal.now → Grows old.atoms new.atoms → IsTable new.atoms → IsProgram new
program-later old new p eb eg g t =
    let longer = Grows-length old.atoms new.atoms g in
    record {
      table = t;
      base = subst IsBase (sym eb) p.base;
      named = subst (λ (b : kept.Contents). AreNamed (length new.atoms) b.cells) (sym eb) (AreNamed-longer (length old.atoms) (length new.atoms) old.base.now.cells longer p.named);
      goal = subst (GoalFits new.atoms) (sym eg) (record {
        root = p.goal.root;
        atoms = AreNamed-longer (length old.atoms) (length new.atoms) old.goal.now.cells.items longer p.goal.atoms;
        variables = p.goal.variables;
        named = p.goal.named;
      });
    }

pub steps : (old new : Machine) (r : Stepped) → Follows old new r → Steps old new r
steps old new r f =
    let x = searched (base_in old) in
    let p = f.is.program in
    let same : base_in new ≡ base_in old = meaning old new p f.base f.names in
    let stay = stay_by_acts old.atoms (base_in old) (held_of old.state) (held_of new.state) new.choices f.acts f.choices.fits in
    let fit = fits_stay old.atoms (base_in old) (held_of old.state) (held_of new.state) new.choices stay f.choices in
    let later : choices_of new.atoms (base_in old) (held_of new.state) new.choices ≡ choices_of old.atoms (base_in old) (held_of old.state) new.choices =
    choices_later old.atoms new.atoms f.names (base_in old) (held_of new.state) new.choices fit ∙ choices_stay old.atoms (base_in old) (held_of old.state) (held_of new.state) new.choices stay in
    let here : state_in new ≡ record { world = world_in new; choices = choices_of old.atoms (base_in old) (held_of old.state) new.choices } =
    state_is new f.waiting ∙ ap (λ b. record { world = world_in new; choices = choices_of new.atoms b (held_of new.state) new.choices }) same ∙ ap (λ cs. record { world = world_in new; choices = cs }) later in
    let e : (answer_by new r, state_in new) ≡ stepped x (state_in old) = ap (λ (s : State World). (answer_by new r, s)) here ∙ f.step in
    let fits = base_fits old p in
    let rises = step-rises (base_in old) (world_in old) fits f.is.worlds.world.valid in
    record {
      machine = record {
        going = f.waiting;
        program = program-later old new p f.base f.goal f.names f.table;
        stands = f.stands;
        safe = f.acts.safe f.is.safe;
        choices = subst (λ b. ChoicesFit new.atoms b (held_of new.state) new.choices) (sym same) (fits_later old.atoms new.atoms f.names (base_in old) (held_of new.state) new.choices fit);
        worlds = subst (λ (g : ReadTerm). Holds (Stands g.vars) (state_in new)) (sym f.goal) (subst (Holds (Stands old.goal.now.vars)) (sym (ap (λ (q : machine.Stepped Term × State World). q.1) e)) (stepped-stands (base_in old) old.goal.now.vars (state_in old) fits f.is.worlds));
        stack = subst (λ b. HasStack (searched b) (state_in new)) (sym same) (subst (HasStack x) (sym (ap (λ (q : machine.Stepped Term × State World). q.1) e)) (stepped-stack x (state_in old) rises f.is.stack));
      };
      same = record { base = f.base; goal = f.goal; names = f.names };
      meaning = same;
      step = e;
      bound = f.bound;
      place = f.place;
    }

-- ---- the kinds of steps

-- to one world
pub to_one : (old new : Machine) → IsMachine old → Goes old new → step (base_in old) (world_in old) ≡ one (world_in new) → Steps old new answer.Went
to_one old new is g h = steps old new answer.Went (record {
  is = is;
  waiting = ap (λ (m : Machine). m.waiting) g.same ∙ is.going;
  base = ap (λ (m : Machine). m.base.now) g.same;
  goal = ap (λ (m : Machine). m.goal.now) g.same;
  names = g.names;
  table = g.table;
  stands = g.stands;
  acts = g.follows;
  choices = subst (ChoicesFit old.atoms (base_in old) (held_of old.state)) (sym (ap (λ (m : Machine). m.choices) g.same)) is.choices;
  bound = omega (arith, g.stamp);
  place = tt;
  step = ap (λ (cs : List Choice). (Went, record { world = world_in new; choices = choices_of old.atoms (base_in old) (held_of old.state) cs })) (ap (λ (m : Machine). m.choices) g.same)
      ∙ sym (ap (stepped (searched (base_in old))) (state_is old is.going) ∙ ap (λ s. stepped_by (searched (base_in old)) s (record { world = world_in old; choices = choices_in old })) h);
})

-- to a world after a choice was kept
pub to_branch : (old mid new : Machine) (next : Alt) → IsMachine old → IsKept old next mid → Goes mid new → step (base_in old) (world_in old) ≡ search.Branch (world_in new) (untried_in old next) → Steps old new answer.Went
to_branch old mid new next is k g h = steps old new answer.Went (record {
  is = is;
  waiting = ap (λ (m : Machine). m.waiting) g.same ∙ ap (λ (m : Machine). m.waiting) k.same ∙ is.going;
  base = ap (λ (m : Machine). m.base.now) g.same ∙ ap (λ (m : Machine). m.base.now) k.same;
  goal = ap (λ (m : Machine). m.goal.now) g.same ∙ ap (λ (m : Machine). m.goal.now) k.same;
  names = subst (λ (ns : List Name). Grows ns new.atoms) (ap (λ (m : Machine). m.atoms) k.same) g.names;
  table = g.table;
  stands = g.stands;
  acts = subst (λ (s : code.State). going.Follows (held_of s) (held_of new.state)) (ap (λ (m : Machine). m.state) k.same) g.follows;
  choices = subst (ChoicesFit old.atoms (base_in old) (held_of old.state)) (sym (ap (λ (m : Machine). m.choices) g.same)) k.fits;
  bound = omega (arith, g.stamp, ap (λ (m : Machine). m.stamp) k.same);
  place = tt;
  step = ap (λ (cs : List Choice). (Went, record { world = world_in new; choices = choices_of old.atoms (base_in old) (held_of old.state) cs })) (ap (λ (m : Machine). m.choices) g.same)
      ∙ ap (λ cs. (Went, record { world = world_in new; choices = cs })) k.kept
      ∙ sym (ap (stepped (searched (base_in old))) (state_is old is.going) ∙ ap (λ s. stepped_by (searched (base_in old)) s (record { world = world_in old; choices = choices_in old })) h);
})

-- a dead end, or the end
pub to_none : (m : Machine) (r : Stepped) (a : machine.Stepped Term) (g : Gives) → IsMachine m → answer_by m r ≡ a → ErrorStands m r → step (base_in m) (world_in m) ≡ g → (a, state_in m) ≡ stepped_by (searched (base_in m)) g (state_in m) → Steps m m r
to_none m r a g is ea place h e = record {
  machine = is;
  same = record { base = refl; goal = refl; names = Grows-same m.atoms };
  meaning = refl;
  step = ap (λ b. (b, state_in m)) ea ∙ e ∙ sym (ap (λ s. stepped_by (searched (base_in m)) s (state_in m)) h);
  bound = omega arith;
  place = place;
}

-- a commit to a stamp, after the choices from it on were removed
pub to_commit : (old new : Machine) (c n : ℕ) → IsMachine old → new ≡ record old { state = new.state; choices = new.choices; stamp = new.stamp } → new.stamp ≡ old.stamp + 1 → PlainStands old.atoms (plain_of new.state) → going.Follows (held_of old.state) (held_of new.state)
    → choices_of old.atoms (base_in old) (held_of old.state) new.choices ≡ cut_from c (choices_in old) → new.choices ≡ take n old.choices
    → step (base_in old) (world_in old) ≡ search.Commit c (world_of old.atoms (plain_of new.state) new.stamp) → Steps old new answer.Went
to_commit old new c n is same stamp stands acts cut first h = steps old new answer.Went (record {
  is = is;
  waiting = ap (λ (m : Machine). m.waiting) same ∙ is.going;
  base = ap (λ (m : Machine). m.base.now) same;
  goal = ap (λ (m : Machine). m.goal.now) same;
  names = subst (λ (ns : List Name). Grows old.atoms ns) (sym atoms) (Grows-same old.atoms);
  table = subst IsTable (sym atoms) is.program.table;
  stands = subst (λ (ns : List Name). PlainStands ns (plain_of new.state)) (sym atoms) stands;
  acts = acts;
  choices = subst (ChoicesFit old.atoms (base_in old) (held_of old.state)) (sym first) (fits_take old.atoms (base_in old) (held_of old.state) n old.choices is.choices);
  bound = omega (arith, stamp);
  place = tt;
  step = ap (λ (ns : List Name). (Went, record { world = world_of ns (plain_of new.state) new.stamp; choices = choices_of old.atoms (base_in old) (held_of old.state) new.choices })) atoms
      ∙ ap (λ cs. (Went, record { world = world_of old.atoms (plain_of new.state) new.stamp; choices = cs })) cut
      ∙ sym (ap (stepped (searched (base_in old))) (state_is old is.going) ∙ ap (λ s. stepped_by (searched (base_in old)) s (record { world = world_in old; choices = choices_in old })) h);
})
  where
    atoms : new.atoms ≡ old.atoms
    atoms = ap (λ (m : Machine). m.atoms) same

-- an error, after its term was built
pub to_raise : (m new : Machine) (place : Ref) (e : Term) → IsMachine m → new ≡ record m { state = new.state } → PlainStands m.atoms (plain_of new.state) → going.Follows (held_of m.state) (held_of new.state) → world_of m.atoms (plain_of new.state) m.stamp ≡ world_in m
    → seen m.atoms new.state.store place.at ≡ e → place.at < length new.state.store.cells → step (base_in m) (world_in m) ≡ search.Raise e → Steps m new (answer.Raised place)
to_raise m new place e is same stands acts w shown within h = steps m new (answer.Raised place) (record {
  is = is;
  waiting = ap (λ (q : Machine). q.waiting) same ∙ is.going;
  base = ap (λ (q : Machine). q.base.now) same;
  goal = ap (λ (q : Machine). q.goal.now) same;
  names = subst (λ (ns : List Name). Grows m.atoms ns) (sym atoms) (Grows-same m.atoms);
  table = subst IsTable (sym atoms) is.program.table;
  stands = subst (λ (ns : List Name). PlainStands ns (plain_of new.state)) (sym atoms) stands;
  acts = acts;
  choices = subst (ChoicesFit m.atoms (base_in m) (held_of m.state)) (sym (ap (λ (q : Machine). q.choices) same)) is.choices;
  bound = omega (arith, ap (λ (q : Machine). q.stamp) same);
  place = within;
  step = ap (λ (q : Machine). (machine.Raised (seen q.atoms new.state.store place.at), record { world = world_of q.atoms (plain_of new.state) q.stamp; choices = choices_of m.atoms (base_in m) (held_of m.state) q.choices })) same
      ∙ ap (λ t. (machine.Raised t, record { world = world_of m.atoms (plain_of new.state) m.stamp; choices = choices_in m })) shown
      ∙ ap (λ v. (machine.Raised e, record { world = v; choices = choices_in m })) w
      ∙ sym (ap (stepped (searched (base_in m))) (state_is m is.going) ∙ ap (λ s. stepped_by (searched (base_in m)) s (record { world = world_in m; choices = choices_in m })) h);
})
  where
    atoms : new.atoms ≡ m.atoms
    atoms = ap (λ (q : Machine). q.atoms) same

-- the machine goes on from the choice that it went back to, after a choice of the worlds that are left was kept
pub resumes : (m mid new : Machine) (next : Alt) (more : List World) → Returns m next → KeepsWorlds m more mid → Goes mid new → untried_in m next ≡ world_in new ∷ more → Resumes (record m { waiting = Some next }) new
resumes m mid new next more back k g e =
    let is = back.machine in
    let x = searched (base_in m) in
    let w = world_in m in
    let cs = choices_in m in
    let eb : new.base.now ≡ m.base.now = ap (λ (q : Machine). q.base.now) g.same ∙ ap (λ (q : Machine). q.base.now) k.same in
    let eg : new.goal.now ≡ m.goal.now = ap (λ (q : Machine). q.goal.now) g.same ∙ ap (λ (q : Machine). q.goal.now) k.same in
    let grows : Grows m.atoms new.atoms = subst (λ (ns : List Name). Grows ns new.atoms) (ap (λ (q : Machine). q.atoms) k.same) g.names in
    let waiting : new.waiting ≡ None = ap (λ (q : Machine). q.waiting) g.same ∙ ap (λ (q : Machine). q.waiting) k.same ∙ is.going in
    let same : base_in new ≡ base_in m = meaning m new is.program eb grows in
    let acts : going.Follows (held_of m.state) (held_of new.state) = subst (λ (s : code.State). going.Follows (held_of s) (held_of new.state)) (ap (λ (q : Machine). q.state) k.same) g.follows in
    let fits : ChoicesFit m.atoms (base_in m) (held_of m.state) new.choices = subst (ChoicesFit m.atoms (base_in m) (held_of m.state)) (sym (ap (λ (q : Machine). q.choices) g.same)) k.fits in
    let stay = stay_by_acts m.atoms (base_in m) (held_of m.state) (held_of new.state) new.choices acts fits.fits in
    let fit = fits_stay m.atoms (base_in m) (held_of m.state) (held_of new.state) new.choices stay fits in
    let later : choices_of new.atoms (base_in m) (held_of new.state) new.choices ≡ choices_of m.atoms (base_in m) (held_of m.state) new.choices =
    choices_later m.atoms new.atoms grows (base_in m) (held_of new.state) new.choices fit ∙ choices_stay m.atoms (base_in m) (held_of m.state) (held_of new.state) new.choices stay in
    let kept : choices_of m.atoms (base_in m) (held_of m.state) new.choices ≡ with_choice m.stamp w more cs = ap (choices_of m.atoms (base_in m) (held_of m.state)) (ap (λ (q : Machine). q.choices) g.same) ∙ k.kept in
    let here : state_in new ≡ record { world = world_in new; choices = with_choice m.stamp w more cs } =
    state_is new waiting ∙ ap (λ b. record { world = world_in new; choices = choices_of new.atoms b (held_of new.state) new.choices }) same ∙ ap (λ ds. record { world = world_in new; choices = ds }) (later ∙ kept) in
    let old : state_in (record m { waiting = Some next }) ≡ record { world = w; choices = record { stamp = m.stamp; world = w; untried = world_in new ∷ more } ∷ cs } =
    ap (λ ws. record { world = w; choices = record { stamp = m.stamp; world = w; untried = ws } ∷ cs }) e in
    let resumed_is : state_in new ≡ machine.resumed (state_in (record m { waiting = Some next })) = here ∙ sym (ap machine.resumed old) in
    let stamp : new.stamp ≡ m.stamp + 1 = g.stamp ∙ ap (λ (q : Machine). q.stamp + 1) k.same in
    let these = subst (AllByRecursion (Stands m.goal.now.vars)) e back.worlds.1 in
    let stamps = subst (AllByRecursion (λ (v : World). v.stamp ≡ m.stamp + 1)) e back.open_.next in
    let rest : Holds (Stands m.goal.now.vars) (record { world = w; choices = cs }) = subst (Holds (Stands m.goal.now.vars)) (state_is m is.going) is.worlds in
    let stack : HasStack x (record { world = w; choices = cs }) = subst (HasStack x) (state_is m is.going) is.stack in
    record {
      machine = record {
        going = waiting;
        program = program-later m new is.program eb eg grows g.table;
        stands = g.stands;
        safe = acts.safe is.safe;
        choices = subst (λ b. ChoicesFit new.atoms b (held_of new.state) new.choices) (sym same) (fits_later m.atoms new.atoms grows (base_in m) (held_of new.state) new.choices fit);
        worlds = subst (λ (q : ReadTerm). Holds (Stands q.vars) (state_in new)) (sym eg) (subst (Holds (Stands m.goal.now.vars)) (sym here) (record {
          world = these.0;
          choices = with-hold m.goal.now.vars m.stamp w more cs is.worlds.world these.1 rest.choices;
        }));
        stack = subst (λ b. HasStack (searched b) (state_in new)) (sym same) (subst (HasStack x) (sym here)
            (stack_with x m.stamp w (world_in new) more cs refl stamps.0 stamps.1 stack));
      };
      same = record { base = eb; goal = eg; names = grows };
      meaning = same;
      resumed = resumed_is;
      bound = stamp;
    }
  where
    with-hold : (n d : ℕ) (w : World) (more : List World) (cs : List (machine.Choice World)) → Stands n w → AllByRecursion (Stands n) more → AllByRecursion (ChoiceHolds (Stands n)) cs → AllByRecursion (ChoiceHolds (Stands n)) (with_choice d w more cs)
    with-hold n d w [] cs p a h = h
    with-hold n d w (v ∷ more) cs p a h = ((p, a), h)

-- ---- a choice that is kept

pub keeps : (m : Machine) (next : Alt) (new : List Choice) (marks : Marks) → MayKeep m next → marks ≡ marks_of (held_of m.state) → new ≡ m.choices ++ record { stamp = m.stamp; marks = marks; next = next } ∷ [] → IsKept m next (record m { choices = new })
keeps m next new marks may e items =
    let c : Choice = record { stamp = m.stamp; marks = marks; next = next } in
    let h = held_of m.state in
    record {
      same = refl;
      fits = subst (ChoicesFit m.atoms (base_in m) h) (sym items) (fits_push m.atoms (base_in m) h m.choices c e may.stands may.goes_on may.choices);
      kept = ap (choices_of m.atoms (base_in m) h) items ∙ choices_push m.atoms (base_in m) h m.choices c
          ∙ ap (λ k. k ∷ choices_in m) (choice_now m.atoms (base_in m) h c e)
          ∙ sym (with_left m.stamp (world_in m) (untried_in m next) (choices_in m) may.left);
    }
  where
    with_left : (d : ℕ) (w : World) (ws : List World) (cs : List (machine.Choice World)) → 0 < length ws → with_choice d w ws cs ≡ record { stamp = d; world = w; untried = ws } ∷ cs
    with_left d w [] cs lt = absurd (omega arith)
    with_left d w (v ∷ ws) cs lt = refl

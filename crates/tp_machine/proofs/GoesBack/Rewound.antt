-- Back to the newest choice.
use Rattle.std.proofs.Common.{◌≡◌, ◌+◌, ◌<◌, true, false, List, [], ◌∷◌, ◌++◌, take, Some, None, refl, ap, sym, subst, ◌∙◌, arith}
use Rattle.std.specs.List.{AllByRecursion}
use Rattle.tp_terms.proofs.Naming.Tables.{Grows-same}
use Rattle.tp_meaning.specs.World.{World}
use Rattle.tp_meaning.specs.Step.{searched}
use Rattle.tp_meaning.specs.Machine.{State, IsChoice, rewound}
use Rattle.tp_meaning.proofs.Searching.Stack.{HasStack}
use Rattle.tp_meaning.proofs.ValidWorlds.Holds.{ChoiceHolds, Holds, Stands}
use Rattle.tp_control.specs.declared.choices.Choice.{Choice}
use Rattle.tp_state.specs.declared.state.State as code
use Rattle.tp_state.specs.Plain.{Plain, world_of}
use Rattle.tp_state.specs.Stands.{PlainStands}
use Rattle.tp_state.specs.Going as going
use Rattle.tp_state.specs.Going.{IsSafe}
use Rattle.tp_state.specs.State.{plain_of, held_of}
use Rattle.tp_state.proofs.GoingBack.Follows.{WentBack}
use Rattle.tp_machine.specs.declared.machine.Machine.{Machine}
use Rattle.tp_machine.specs.Machine.{ChoicesFit, GoesOn, IsMachine, Rewinds, base_in, choice_of, choices_in, choices_of, open_at, waiting_of, world_in, state_in}
use Rattle.tp_machine.proofs.GoesBack.Choices.{Popped, StaysAt, popped, choices_push, choices_stay, fits_stay, stay_by_rewind}

-- where a machine may make a step, its choices stand open, and no other
pub going_state : (m : Machine) → m.waiting ≡ None → state_in m ≡ record { world = world_in m; choices = choices_in m }
going_state m e = ap (λ o. record { world = world_in m; choices = waiting_of (base_in m) (world_in m) m.stamp o ++ choices_in m }) e

-- ---- where there is no choice

module _ (m : Machine) (rest : List Choice) (is : IsMachine m) (none : m.choices ≡ []) (empty : rest ≡ []) where
  abbrev left : Machine
  left = record m { choices = rest }

  left_state : state_in left ≡ state_in m
  left_state = ap (λ cs. record { world = world_in m; choices = waiting_of (base_in m) (world_in m) m.stamp m.waiting ++ choices_of m.atoms (base_in m) (held_of m.state) cs }) (empty ∙ sym none)

  stays_machine : IsMachine left
  stays_machine = record {
    going = is.going;
    program = record { table = is.program.table; base = is.program.base; named = is.program.named; goal = is.program.goal };
    stands = is.stands;
    safe = is.safe;
    choices = subst (ChoicesFit m.atoms (base_in m) (held_of m.state)) (none ∙ sym empty) is.choices;
    worlds = subst (Holds (Stands m.goal.now.vars)) (sym left_state) is.worlds;
    stack = subst (λ (s : State World). HasStack (searched (base_in m)) s) (sym left_state) is.stack;
  }

  -- the machine stays where it is
  pub stays : Rewinds m false (record m { choices = rest })
  stays =
      let bare : state_in m ≡ record { world = world_in m; choices = [] } = going_state m is.going ∙ ap (λ cs. record { world = world_in m; choices = choices_of m.atoms (base_in m) (held_of m.state) cs }) none in
      let back : (false, state_in m) ≡ rewound (state_in m) = ap (λ (s : State World). (false, s)) bare ∙ sym (ap rewound bare) in
      record {
        back = ap (λ (s : State World). (false, s)) left_state ∙ back;
        same = record { base = refl; goal = refl; names = Grows-same m.atoms };
        meaning = refl;
        machine = (stays_machine, refl);
      }

-- ---- where there is one

module _ (m : Machine) (rest : List Choice) (c : Choice) (is : IsMachine m) (newest : m.choices ≡ rest ++ c ∷ []) where
  pub known : Popped m.atoms (base_in m) (held_of m.state) rest c
  known = popped m.atoms (base_in m) (held_of m.state) rest c (subst (ChoicesFit m.atoms (base_in m) (held_of m.state)) newest is.choices)

  abbrev before : State World
  before = record { world = world_in m; choices = choice_of m.atoms (base_in m) (held_of m.state) c ∷ choices_of m.atoms (base_in m) (held_of m.state) rest }

  before_state : state_in m ≡ before
  before_state =
      going_state m is.going
      ∙ ap (λ cs. record { world = world_in m; choices = cs })
      (ap (choices_of m.atoms (base_in m) (held_of m.state)) newest ∙ choices_push m.atoms (base_in m) (held_of m.state) rest c)

  hold : Holds (Stands m.goal.now.vars) before
  hold = subst (Holds (Stands m.goal.now.vars)) before_state is.worlds

  stack : HasStack (searched (base_in m)) before
  stack = subst (λ (s : State World). HasStack (searched (base_in m)) s) before_state is.stack

  -- its stamp is lower than that of the machine's world
  pub newest_first : c.stamp < m.stamp
  newest_first = stack.0.below

  module _ (s : code.State) (plain : plain_of s ≡ going.rewound (held_of m.state) c.marks) (log : s.log ≡ take c.marks.log m.state.log) (safe : IsSafe (held_of s)) where
    went : WentBack (held_of m.state) (held_of s) c.marks
    went = record { plain = plain; log = log }

    staying : AllByRecursion (StaysAt (held_of m.state) (held_of s)) rest
    staying = stay_by_rewind (held_of m.state) (held_of s) c.marks rest went known.newest.within known.under

    abbrev old_world : World
    old_world = world_of m.atoms (going.rewound (held_of m.state) c.marks) c.stamp

    world-same : world_of m.atoms (plain_of s) c.stamp ≡ world_of m.atoms (going.rewound (held_of m.state) c.marks) c.stamp
    world-same = ap (λ p. world_of m.atoms p c.stamp) plain

    choices-same : choices_of m.atoms (base_in m) (held_of s) rest ≡ choices_of m.atoms (base_in m) (held_of m.state) rest
    choices-same = choices_stay m.atoms (base_in m) (held_of m.state) (held_of s) rest staying

    -- without its newest choice, that choice's world might make a step
    pub back_machine : IsMachine (record m { state = s; stamp = c.stamp; choices = rest; waiting = None })
    back_machine =
        let e : state_in (record m { state = s; stamp = c.stamp; choices = rest; waiting = None }) ≡ record { world = old_world; choices = choices_of m.atoms (base_in m) (held_of m.state) rest } =
        ap (λ w. record { world = w; choices = choices_of m.atoms (base_in m) (held_of s) rest }) world-same ∙ ap (λ cs. record { world = old_world; choices = cs }) choices-same in
        record {
          going = refl;
          program = record { table = is.program.table; base = is.program.base; named = is.program.named; goal = is.program.goal };
          stands = subst (PlainStands m.atoms) (sym plain) known.newest.stands;
          safe = safe;
          choices = fits_stay m.atoms (base_in m) (held_of m.state) (held_of s) rest staying known.older;
          worlds = subst (Holds (Stands m.goal.now.vars)) (sym e) (record { world = hold.choices.0.0; choices = hold.choices.1 });
          stack = subst (λ (x : State World). HasStack (searched (base_in m)) x) (sym e) stack.1;
        }

    -- the machine goes back to its newest choice
    pub goes_back : Rewinds m true (record m { state = s; stamp = c.stamp; choices = rest; waiting = Some c.next })
    goes_back = record {
      back =
          ap (λ w. (true, record { world = w; choices = open_at (base_in m) w c.stamp c.next ∷ choices_of m.atoms (base_in m) (held_of s) rest })) world-same
          ∙ ap (λ cs. (true, record { world = old_world; choices = open_at (base_in m) old_world c.stamp c.next ∷ cs })) choices-same
          ∙ sym (ap rewound before_state);
      same = record { base = refl; goal = refl; names = Grows-same m.atoms };
      meaning = refl;
      machine = (
        record {
          next = c.next;
          waits = refl;
          machine = back_machine;
          goes_on = subst (λ (p : Plain). GoesOn m.atoms (base_in m) p c.next) (sym plain) known.newest.next;
          open_ = subst (λ (w : World). IsChoice (searched (base_in m)) (c.stamp + 1) (open_at (base_in m) w c.stamp c.next)) (sym world-same)
              (record { below = omega arith; own = stack.0.own; some = stack.0.some; next = stack.0.next });
          worlds = subst (λ (w : World). ChoiceHolds (Stands m.goal.now.vars) (open_at (base_in m) w c.stamp c.next)) (sym world-same) hold.choices.0;
        },
        stack.0.below,
      );
    }

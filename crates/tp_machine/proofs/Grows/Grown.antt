-- A machine whose store has further cells stands where it stood.
use Rattle.std.proofs.Common.{◌≡◌, ℕ, zero, suc, ◌+◌, ◌<◌, ◌≤◌, List, map, length, Option, Ok, refl, ap, sym, subst, ◌∙◌, arith, length-append}
use Rattle.tp_terms.specs.declared.cells.Ref.{Ref}
use Rattle.tp_terms.specs.Term.{Name, More, term_of}
use Rattle.tp_terms.specs.Names.{Grows}
use Rattle.tp_terms.specs.Shown.{name_at, shows, AreNamed}
use Rattle.tp_meaning.specs.Body.{enter}
use Rattle.tp_meaning.specs.declared.goals.GoalKind.{GoalKind}
use Rattle.tp_meaning.specs.Machine as machine
use Rattle.tp_meaning.specs.Machine.{stepped}
use Rattle.tp_meaning.specs.Step.{searched}
use Rattle.tp_meaning.specs.Subst.{apply}
use Rattle.tp_meaning.specs.World.{World}
use Rattle.tp_meaning.proofs.ValidWorlds.Holds.{Holds, Stands}
use Rattle.tp_meaning.proofs.Searching.Stack.{HasStack}
use Rattle.tp_store.specs.Contents.{Contents, IsStore, AddsCells, Keeps, seen, subst_of, args_seen}
use Rattle.tp_control.specs.declared.frames.Item.{Item}
use Rattle.tp_state.specs.Plain.{item_of}
use Rattle.tp_state.specs.Stands.{ItemsStand}
use Rattle.tp_state.specs.State.{plain_of, held_of}
use Rattle.tp_machine.specs.declared.machine.Machine.{Machine}
use Rattle.tp_machine.specs.declared.stepped.Stepped.{Stepped}
use Rattle.tp_machine.specs.declared.task.Task.{Task}
use Rattle.tp_machine.specs.declared.task.Call.{Call}
use Rattle.tp_machine.specs.Enters.{HasEntered, Rests}
use Rattle.tp_machine.specs.Machine.{IsMachine, SameProgram, Steps, base_in, choices_in, state_in, world_in}
use Rattle.tp_machine.specs.Meets.{Calls, Meets}
use Rattle.tp_machine.proofs.GoesBack.Choices.{stay_by_acts, fits_stay, choices_stay}
use Rattle.tp_machine.proofs.Enters.Entered.{cells-follow}
use Rattle.tp_machine.proofs.Step.First.{standing}
use Rattle.tp_machine.proofs.Step.Parts.{state_is}
use Rattle.tp_machine.proofs.Worlds.Stores.{OtherStore, items-by, items-itself, store-stands, same-world}

-- what kept the program from there on keeps it from where it stood
pub program_from : (old mid new : Machine) → Rests old mid → SameProgram mid new → SameProgram old new
program_from old mid new g s = record {
  base = s.base ∙ ap (λ (m : Machine). m.base.now) g.is;
  goal = s.goal ∙ ap (λ (m : Machine). m.goal.now) g.is;
  names = subst (λ (ns : List Name). Grows ns new.atoms) (ap (λ (m : Machine). m.atoms) g.is) s.names;
}

-- a step from there is one from where it stood
pub steps_from : (old mid new : Machine) (r : Stepped) → Rests old mid → Steps mid new r → Steps old new r
steps_from old mid new r g s = record {
  machine = s.machine;
  same = program_from old mid new g s.same;
  meaning = s.meaning ∙ ap base_in g.is;
  step = s.step ∙ ap (λ b. stepped (searched b) (state_in mid)) (ap base_in g.is) ∙ ap (stepped (searched (base_in old))) g.state;
  bound = omega (arith, ap (λ (m : Machine). m.stamp) g.is, s.bound);
  place = s.place;
}

module _ (m : Machine) (c : Contents) (is : IsMachine m) (adds : AddsCells m.state.store c) (keeps : Keeps m.state.store c) (store : IsStore c) (named : AreNamed (length m.atoms) c.cells) where
  abbrev grown : Machine
  grown = record m { state = record m.state { store = c } }

  longer : length m.state.store.cells ≤ length c.cells
  longer = omega (arith, ap length adds.cells, length-append m.state.store.cells adds.more)

  -- what was there is seen as before
  pub seen_still : (at : ℕ) → at < length m.state.store.cells → seen m.atoms c at ≡ seen m.atoms m.state.store at
  seen_still at lt = ap (λ v. apply v (shows m.atoms c.cells at)) (keeps.bindings m.atoms) ∙ ap (apply (subst_of m.atoms m.state.store)) (keeps.terms m.atoms at lt)

  pub args_still : (first n : ℕ) → first + n ≤ length m.state.store.cells → args_seen m.atoms c first n ≡ args_seen m.atoms m.state.store first n
  args_still first zero le = refl
  args_still first (suc n) le = ap (λ t. More t (args_seen m.atoms c (suc first) n)) (seen_still first (omega arith)) ∙ ap (More (seen m.atoms m.state.store first)) (args_still (suc first) n (omega arith))

  other : OtherStore m.atoms (λ x. x) m.state.store c
  other = record { store = store; atoms = named; longer = longer; terms = seen_still }

  -- the items of a list are the same
  pub items_still : (is : List Item) → ItemsStand (length m.state.store.cells) is → map (item_of m.atoms c) is ≡ map (item_of m.atoms m.state.store) is
  items_still is h = items-by m.atoms (λ x. x) m.state.store c seen_still is h ∙ items-itself (map (item_of m.atoms m.state.store) is)

  -- and the world is the same
  pub world_still : world_in (record m { state = record m.state { store = c } }) ≡ world_in m
  world_still = same-world m.atoms (plain_of m.state) c m.stamp is.stands other (keeps.bindings m.atoms) adds.vars

  pub rests : Rests m grown
  rests =
      let f = cells-follow m.state c adds in
      let now = held_of m.state in
      let then = held_of grown.state in
      let stay = stay_by_acts m.atoms (base_in m) now then m.choices f is.choices.fits in
      let fit = fits_stay m.atoms (base_in m) now then m.choices stay is.choices in
      let same : state_in grown ≡ state_in m =
      state_is grown is.going
      ∙ ap (λ (w : World). record { world = w; choices = choices_in grown }) world_still
      ∙ ap (λ cs. record { world = world_in m; choices = cs }) (choices_stay m.atoms (base_in m) now then m.choices stay)
      ∙ sym (state_is m is.going) in
      record {
        is = refl;
        state = same;
        machine = record {
          going = is.going;
          program = record { table = is.program.table; base = is.program.base; named = is.program.named; goal = is.program.goal };
          stands = store-stands m.atoms (λ x. x) (plain_of m.state) c is.stands other;
          safe = f.safe is.safe;
          choices = fit;
          worlds = subst (Holds (Stands m.goal.now.vars)) (sym same) is.worlds;
          stack = subst (λ (s : machine.State World). HasStack (searched (base_in m)) s) (sym same) is.stack;
        };
      }

  -- the running process stands at the same goal
  pub meets_still : (t : Task) → Meets m t → Meets grown t
  meets_still t h = record {
    standing = standing grown (rests).machine;
    running = h.running;
    few = h.few;
    list = h.list;
    stands = let w : t.goal.at < length m.state.store.cells = h.stands in let le = longer in let z : t.goal.at < length c.cells = omega arith in z;
    rest = h.rest;
  }

  pub calls_still : (t : Task) (call : Call) (k : Option GoalKind) → Calls m t call k → Calls grown t call k
  calls_still t call k h = record {
    meets = meets_still t h.meets;
    call = record {
      is = seen_still t.goal.at h.meets.stands ∙ h.call.is ∙ ap (term_of (name_at m.atoms call.name.at)) (sym (args_still call.first.at call.count h.call.within));
      within = let w = h.call.within in let le = longer in omega arith;
      name = h.call.name;
    };
    kind = h.kind;
  }

-- a goal that was entered is still what was entered
pub entered_still : (m : Machine) (c : Contents) (goal place : Ref) → IsMachine m → IsStore c → goal.at < length m.state.store.cells → HasEntered m.atoms m.state.store goal place c → enter (seen m.atoms c goal.at) ≡ Ok (seen m.atoms c place.at)
entered_still m c goal place is store lt h = ap enter (seen_still m c is h.adds h.keeps store h.named goal.at lt) ∙ h.is

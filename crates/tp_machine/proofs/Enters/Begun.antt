-- The start of a goal.
use Rattle.std.proofs.Common.{◌≡◌, ℕ, ◌+◌, ◌<◌, false, List, [], ◌∷◌, ◌++◌, length, Option, Some, None, IfSome, refl, ap, sym, subst, ◌∙◌, arith, pos, codes}
use Rattle.std.specs.List.{AllByRecursion}
use Rattle.std.specs.Option.{option_map}
use Rattle.std.specs.Prelude.{MatchOption, IsTrue, is_some}
use Rattle.tp_terms.specs.declared.Limit.TheVariants as limit
use Rattle.tp_terms.specs.declared.ProcStatus.TheVariants as status
use Rattle.tp_terms.specs.declared.cells.Ref.{Ref}
use Rattle.tp_terms.specs.Term.{Name, Term, Var}
use Rattle.tp_terms.specs.Names.{IsTable}
use Rattle.tp_terms.specs.StartNames.{start_names}
use Rattle.tp_terms.specs.Shown.{name_at, shows, AreNamed}
use Rattle.tp_terms.proofs.Naming.Start.{start-name_at, start-within}
use Rattle.tp_meaning.specs.Subst.{Subst, apply}
use Rattle.tp_meaning.specs.Body.{body}
use Rattle.tp_meaning.specs.Clauses.{renamed}
use Rattle.tp_meaning.specs.World as world
use Rattle.tp_meaning.specs.World.{World, main, start, first_items}
use Rattle.tp_meaning.specs.Machine.{IsStack}
use Rattle.tp_meaning.specs.Step.{searched}
use Rattle.tp_meaning.proofs.Unification.Solved.{replaced-itself}
use Rattle.tp_meaning.proofs.Unification.Applied.{apply-empty}
use Rattle.tp_meaning.proofs.ValidWorlds.Holds.{Stands, ChoiceHolds}
use Rattle.tp_meaning.proofs.ValidWorlds.Rise.{start-valid}
use Rattle.tp_store.specs.Contents.{Contents, IsStore, AddsCells, chained, subst_of, seen, with_vars}
use Rattle.tp_parse.specs.declared.read.ReadTerm.{ReadTerm}
use Rattle.tp_state.specs.declared.state.State.{State}
use Rattle.tp_machine.specs.declared.machine.Machine.{Machine}
use Rattle.tp_machine.specs.Program.{goal_term}
use Rattle.tp_state.specs.Plain.{Plain, world_of}
use Rattle.tp_state.specs.Stands.{PlainStands}
use Rattle.tp_state.specs.Start.{waiting_at}
use Rattle.tp_machine.specs.Start.{IsPlaced, IsStart}
use Rattle.tp_state.specs.Undo.{CanUndo}
use Rattle.tp_state.specs.Going.{parts_of}
use Rattle.tp_state.specs.State.{plain_of, held_of}
use Rattle.tp_machine.specs.Machine.{IsProgram, ChoicesFit, IsBegun, base_in, choices_in, choices_of, waiting_of, world_in, open_in}
use Rattle.tp_machine.proofs.Meets.Program.{goal_below}

renamed-zero : (n : ℕ) (t : Term) → n ≡ 0 → renamed n t ≡ t
renamed-zero n t e = replaced-itself (λ v. Var (v + n)) t (λ w o. ap Var (let z : w + n ≡ w = omega (arith, e) in z))

empty_subst : (names : List Name) (c : Contents) → c.pairs ≡ [] → subst_of names c ≡ []
unfolding chained
empty_subst names c e = ap (chained names c.cells) e

-- a term is seen as it stands where nothing is bound
seen-bare : (names : List Name) (c : Contents) (at : ℕ) → c.pairs ≡ [] → seen names c at ≡ shows names c.cells at
seen-bare names c at e = ap (λ u. apply u (shows names c.cells at)) (empty_subst names c e) ∙ apply-empty (shows names c.cells at)

-- ---- a place for the body of a goal

-- an empty store has no atoms
pub empty_named : (names : List Name) (goal : ReadTerm) (empty claimed : Contents) → empty ≡ record { cells = []; pairs = []; vars = 0 } → claimed ≡ with_vars empty goal.vars → AreNamed (length names) claimed.cells
empty_named names goal empty claimed none vars = subst (λ (d : Contents). AreNamed (length names) d.cells) (sym (vars ∙ ap (λ (d : Contents). with_vars d goal.vars) none)) tt

module _ (names : List Name) (goal : ReadTerm) (empty claimed mid c : Contents) (root : Ref) (base : ℕ) (none : empty ≡ record { cells = []; pairs = []; vars = 0 }) (vars : claimed ≡ with_vars empty goal.vars) (is_base : base ≡ empty.vars)
    (adds : AddsCells claimed mid) (shown : shows names mid.cells root.at ≡ renamed base (goal_term names goal)) (more : AddsCells mid c) (store : IsStore c) (named : AreNamed (length names) claimed.cells → AreNamed (length names) c.cells) where
  is_claimed : claimed ≡ record { cells = []; pairs = []; vars = 0 + goal.vars }
  is_claimed = vars ∙ ap (λ (d : Contents). with_vars d goal.vars) none

  mid_bare : mid.pairs ≡ []
  mid_bare = adds.pairs ∙ ap (λ (d : Contents). d.pairs) is_claimed

  root_seen : seen names mid root.at ≡ goal_term names goal
  root_seen = seen-bare names mid root.at mid_bare ∙ shown ∙ renamed-zero base (goal_term names goal) (is_base ∙ ap (λ (d : Contents). d.vars) none)

  bare : c.pairs ≡ []
  bare = more.pairs ∙ mid_bare

  -- what the store found is a place of the goal's body, where it has one
  pub placed : (found : Option Ref) → option_map (λ (at : Ref). seen names c at.at) found ≡ body (seen names mid root.at) → IfSome found (λ at. at.at < length c.cells) → MatchOption found (body (goal_term names goal) ≡ None) (λ place. IsPlaced names goal place c)
  placed None e w = sym (ap body root_seen) ∙ sym e
  placed (Some place) e w = record {
    store = store;
    atoms = named (subst (λ (d : Contents). AreNamed (length names) d.cells) (sym is_claimed) tt);
    within = w;
    body = sym (ap body root_seen) ∙ sym e ∙ ap Some (seen-bare names c place.at bare);
    pairs = bare;
    vars = more.vars ∙ adds.vars ∙ ap (λ (d : Contents). d.vars) is_claimed ∙ (let z : 0 + goal.vars ≡ goal.vars = omega arith in z);
  }

-- a goal with no body, and one with a body
pub placed_none : (names : List Name) (goal : ReadTerm) (c : Contents) (found : Option Ref) → found ≡ None → MatchOption found (body (goal_term names goal) ≡ None) (λ place. IsPlaced names goal place c) → body (goal_term names goal) ≡ None
placed_none names goal c found e h = subst (λ o. MatchOption o (body (goal_term names goal) ≡ None) (λ place. IsPlaced names goal place c)) e h

pub placed_at : (names : List Name) (goal : ReadTerm) (c : Contents) (found : Option Ref) (at : Ref) → found ≡ Some at → MatchOption found (body (goal_term names goal) ≡ None) (λ place. IsPlaced names goal place c) → IsPlaced names goal at c
placed_at names goal c found at e h = subst (λ o. MatchOption o (body (goal_term names goal) ≡ None) (λ place. IsPlaced names goal place c)) e h

pub start_none : (names : List Name) (goal : ReadTerm) (found : Option State) → found ≡ None → MatchOption found (body (goal_term names goal) ≡ None) (λ s. IsStart names goal (plain_of s)) → body (goal_term names goal) ≡ None
start_none names goal found e h = subst (λ o. MatchOption o (body (goal_term names goal) ≡ None) (λ s. IsStart names goal (plain_of s))) e h

pub start_at : (names : List Name) (goal : ReadTerm) (found : Option State) (s : State) → found ≡ Some s → MatchOption found (body (goal_term names goal) ≡ None) (λ s. IsStart names goal (plain_of s)) → IsStart names goal (plain_of s)
start_at names goal found s e h = subst (λ o. MatchOption o (body (goal_term names goal) ≡ None) (λ s. IsStart names goal (plain_of s))) e h

-- ---- the contents

pub starts : (names : List Name) (goal : ReadTerm) (place : Ref) (c : Contents) (p : Plain) → IsPlaced names goal place c → p ≡ waiting_at c place → IsStart names goal p
starts names goal place c p h e = record { store = c; place = place; is = e; placed = h }

-- ---- the world at the start

module _ (names : List Name) (table : IsTable names) (goal : ReadTerm) where
  is_main : name_at names 101 ≡ codes "main"
  unfolding start_names
  is_main = start-name_at names table 101 (codes "main") refl

  -- a world in which a process waits for its start
  abbrev waiting_world : Subst → Term → Name → ℕ → World
  waiting_world u t name vars = record {
    subst = u;
    next = vars;
    stamp = 0;
    clock = pos 0;
    insertion = 1;
    running = None;
    processes = record { name = name; limit = limit.Inf; started = false; status = status.Scheduled; items = world.Goal t 0 ∷ [] } ∷ [];
    calendar = record { time = pos 0; number = 0; process = 0 } ∷ [];
    boxes = [] ∷ [];
    history = [];
  }

  module _ (place : Ref) (c : Contents) (h : IsPlaced names goal place c) where
    waits_world : world_of names (waiting_at c place) 0 ≡ start (goal_term names goal) goal.vars
    waits_world =
        let t = shows names c.cells place.at in
        let first : first_items (goal_term names goal) ≡ world.Goal t 0 ∷ [] = ap (λ o. elim o as (λ _. List world.Item) [ None ↦ [] | Some b ↦ world.Goal b 0 ∷ [] ]) h.body in
        ap (λ u. waiting_world u (apply u t) (name_at names 101) c.vars) (empty_subst names c h.pairs)
        ∙ ap (λ x. waiting_world [] x (name_at names 101) c.vars) (apply-empty t)
        ∙ ap (λ n. waiting_world [] t n c.vars) is_main
        ∙ ap (waiting_world [] t (codes "main")) h.vars
        ∙ ap (λ is. record (start (goal_term names goal) goal.vars) { processes = record main { items = is } ∷ [] }) (sym first)

    waits_stands : PlainStands names (waiting_at c place)
    waits_stands = record {
      store = h.store;
      atoms = h.atoms;
      lists = ((h.within, tt), tt);
      items = tt;
      procs = (record { name = start-within names table 101 (omega arith); items = omega arith }, tt);
      boxes = (tt, tt);
      events = tt;
    }

  -- the contents at the start of a goal are those of its first world, and they stand
  pub start_world : (p : Plain) → IsStart names goal p → world_of names p 0 ≡ start (goal_term names goal) goal.vars
  start_world p s = ap (λ q. world_of names q 0) s.is ∙ waits_world s.place s.store s.placed

  pub start_stands : (p : Plain) → IsStart names goal p → PlainStands names p
  start_stands p s = subst (PlainStands names) (sym s.is) (waits_stands s.place s.store s.placed)

-- ---- the machine

-- a machine at its start
pub begun : (m : Machine) → m.waiting ≡ None → m.choices ≡ [] → m.state.log ≡ [] → m.stamp ≡ 0 → IsProgram m → IsStart m.atoms m.goal.now (plain_of m.state) → IsBegun m
begun m going none empty first program s =
    let x = searched (base_in m) in
    let n = m.goal.now.vars in
    let open_ : open_in m ≡ [] =
    ap (λ o. waiting_of (base_in m) (world_in m) m.stamp o ++ choices_in m) going ∙ ap (choices_of m.atoms (base_in m) (held_of m.state)) none in
    let is : world_in m ≡ start (goal_term m.atoms m.goal.now) n = ap (world_of m.atoms (plain_of m.state)) first ∙ start_world m.atoms program.table m.goal.now (plain_of m.state) s in
    record {
      machine = record {
        going = going;
        program = program;
        stands = start_stands m.atoms program.table m.goal.now (plain_of m.state) s;
        safe = subst (λ es. CanUndo es (parts_of (plain_of m.state)) (held_of m.state).rooms) (sym empty) tt;
        choices = subst (ChoicesFit m.atoms (base_in m) (held_of m.state)) (sym none) (record { fits = tt; rise = tt });
        worlds = record {
          world = subst (Stands n) (sym is) (record { valid = start-valid (goal_term m.atoms m.goal.now) n (goal_below m.atoms m.goal.now program.goal); vars = omega arith });
          choices = subst (AllByRecursion (ChoiceHolds (Stands n))) (sym open_) tt;
        };
        stack = subst (IsStack x m.stamp) (sym open_) tt;
      };
      world = is;
      choices = none;
      stamp = first;
      body = subst (λ o. IsTrue (is_some o)) (sym s.placed.body) refl;
    }

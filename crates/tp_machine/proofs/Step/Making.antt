-- Steps in which a process is made.
use Rattle.std.proofs.Common.{◌≡◌, ℕ, ◌+◌, ◌<◌, ◌≤◌, Bool, true, false, if◌then◌else◌, List, [], ◌∷◌, ◌++◌, length, Some, None, Ok, Err, is_some, nat_eq, codes, ℤ, int_lt, Result, refl, ap, sym, subst, ◌∙◌, arith, length-append}
use Rattle.std.proofs.lemmas.Bool.{eq-eqb, ne_eqb}
use Rattle.tp_terms.specs.declared.Limit.{Limit}
use Rattle.tp_terms.specs.declared.Limit.TheVariants.{At, Inf}
use Rattle.tp_terms.specs.declared.cells.AtomId.{AtomId}
use Rattle.tp_terms.specs.declared.cells.Cell.TheVariants as cell
use Rattle.tp_terms.specs.declared.cells.Ref.{Ref}
use Rattle.tp_terms.specs.declared.symbols.TheConstants.{CALL}
use Rattle.tp_terms.specs.declared.world.EventKind.TheVariants as event
use Rattle.tp_terms.specs.Term.{Name, Term, Terms, Var, Int, Atom, Comp, NoMore, More, comp, names_eq, term_of}
use Rattle.tp_terms.specs.Shown.{AreNamed, name_at, shows}
use Rattle.tp_terms.specs.StartNames.{start_names}
use Rattle.tp_terms.specs.Names.{IsTable}
use Rattle.tp_terms.specs.declared.world.EventKind.{EventKind}
use Rattle.tp_terms.proofs.Naming.Tables.{names_eq-places}
use Rattle.tp_terms.proofs.Places.Shown.{AreNamed-push}
use Rattle.tp_terms.proofs.Naming.Start.{start-name_at, start-within}
use Rattle.tp_procs.specs.Processes.{named}
use Rattle.tp_meaning.specs.declared.goals.GoalKind.TheVariants.{Process}
use Rattle.tp_meaning.specs.declared.goals.ProcessGoal.TheVariants as goal
use Rattle.tp_meaning.specs.Arith.{evaluated, value}
use Rattle.tp_meaning.specs.Checks.{Checked, ◌>>=◌, ◌>>◌, ◌if◌, bound, callable, domain_error, permission_error, type_error}
use Rattle.tp_meaning.specs.Control.{arg}
use Rattle.tp_meaning.specs.Process as meaning
use Rattle.tp_meaning.specs.Process.{created, end_of, is_inf, new_name, with_new}
use Rattle.tp_meaning.specs.Subst.{apply}
use Rattle.tp_meaning.specs.World as world
use Rattle.tp_meaning.specs.World.{World, number_of, with_event, with_slot}
use Rattle.tp_meaning.specs.Turn.{Turn, Gives, going, one}
use Rattle.tp_meaning.proofs.OwnGoals.Counts.{fewest-fits}
use Rattle.tp_store.specs.Contents.{AddsCells, Contents, IsStore, Keeps, args_seen, seen, subst_of, with_cell}
use Rattle.tp_state.specs.declared.state.State.{State}
use Rattle.tp_state.specs.Acts.{made, new_proc, noted, planned, resting}
use Rattle.tp_state.specs.Going.{Follows}
use Rattle.tp_state.specs.Plain.{Plain, world_of}
use Rattle.tp_state.specs.Stands.{PlainStands}
use Rattle.tp_state.specs.State.{plain_of, held_of}
use Rattle.tp_machine.specs.declared.errors.Cause.{Cause}
use Rattle.tp_machine.specs.declared.errors.Cause.TheVariants as cause
use Rattle.tp_machine.specs.declared.errors.Domain.TheVariants.{StartTime, EndTime}
use Rattle.tp_machine.specs.declared.machine.Machine.{Machine}
use Rattle.tp_machine.specs.declared.making.Ending.TheVariants as ending
use Rattle.tp_machine.specs.declared.making.NewProcess.{NewProcess}
use Rattle.tp_machine.specs.declared.stepped.Stepped.TheVariants as answer
use Rattle.tp_machine.specs.declared.task.Call.{Call}
use Rattle.tp_machine.specs.declared.task.Task.{Task}
use Rattle.tp_machine.specs.declared.values.Given.{Given}
use Rattle.tp_machine.specs.declared.values.Given.TheVariants as given
use Rattle.tp_machine.specs.BuiltIns.{Grew}
use Rattle.tp_machine.specs.Causes.{domain_word, wrong_domain}
use Rattle.tp_machine.specs.Machine.{IsMachine, Steps, world_in}
use Rattle.tp_machine.specs.Making.{HasEnd, HasGoal, HasName, HasStart, IsEnd, IsFree, IsName, IsStart, ending_by, shown_at}
use Rattle.tp_machine.specs.Meets.{Calls, GivesError, IsCall, IsCause, its_turn}
use Rattle.tp_machine.specs.Times.{IsTime, in_domain}
use Rattle.tp_machine.proofs.Grows.Grown.{calls_still, seen_still, world_still}
use Rattle.tp_machine.proofs.Gives.Raised.{shows-at, is_empty_list}
use Rattle.tp_machine.proofs.Gives.Times.{grew_seen, grew_value}
use Rattle.tp_machine.proofs.Worlds.Made.{count-processes, made-stands, made-world, number-named}
use Rattle.tp_machine.proofs.Worlds.Plans.{planned-stands, planned-world}
use Rattle.tp_machine.proofs.Worlds.Procs.{noted-stands, noted-world}
use Rattle.tp_machine.proofs.Step.Acting.{acts_to, first_is, first_there, rested_stands, rested_world}
use Rattle.tp_machine.proofs.Step.Control.{arg-is}
use Rattle.tp_machine.proofs.Step.First.{process_there, rest_in, turn_in}
use Rattle.tp_machine.proofs.Step.Refuse.{gives_here}

-- ---- what `new` gives, check by check

module _ (t : Turn) (g name start limit : Term) where
  abbrev after_start : Name → ℤ → Checked Gives
  after_start n s = end_of t.world s limit >>= (λ l. Ok (one (created t g n s l)))

  abbrev timed : Name → Checked ℤ → Checked Gives
  timed n r = r >>= (λ s. (domain_error "start_time" (Int s) if int_lt s t.world.clock) >> after_start n s)

  abbrev after_name : Name → Checked Gives
  after_name n = timed n (value t.world.subst start)

  -- its goal and its name
  goal-fails : (e : Term) → (bound g >> callable g) ≡ Err e → meaning.create t g name start limit ≡ Err e
  goal-fails e h = go (bound g) (callable g) h
    where
      go : (a b : Checked (Unit {0})) → (a >> b) ≡ Err e → (a >> (b >> (new_name t.world name >>= after_name))) ≡ Err e
      go (Ok x) (Ok y) h = absurd (cc)
      go (Ok x) (Err k) h = cc
      go (Err k) b h = cc

  to-name : bound g ≡ Ok tt → callable g ≡ Ok tt → (r : Checked Name) → new_name t.world name ≡ r → meaning.create t g name start limit ≡ (r >>= after_name)
  to-name x y r e =
      ap (λ b. b >> (callable g >> (new_name t.world name >>= after_name))) x
      ∙ ap (λ b. b >> (new_name t.world name >>= after_name)) y
      ∙ ap (λ r. r >>= after_name) e

  -- its start time
  to-start : (n : Name) (s : ℤ) → value t.world.subst start ≡ Ok s → int_lt s t.world.clock ≡ false → after_name n ≡ after_start n s
  to-start n s e f = ap (timed n) e ∙ ap (λ b. (domain_error "start_time" (Int s) if b) >> after_start n s) f

  start-fails : (n : Name) (e : Term) → in_domain StartTime t.world.clock (value t.world.subst start) ≡ Err e → after_name n ≡ Err e
  start-fails n e h = go (value t.world.subst start) h
    where
      late : (b : Bool) (s : ℤ) → ((wrong_domain (domain_word StartTime) (Int s) if b) >> Ok s) ≡ Err e → ((domain_error "start_time" (Int s) if b) >> after_start n s) ≡ Err e
      late true s h = cc
      late false s h = absurd (cc)

      go : (r : Checked ℤ) → in_domain StartTime t.world.clock r ≡ Err e → timed n r ≡ Err e
      go (Err k) h = cc
      go (Ok s) h = late (int_lt s t.world.clock) s h

  -- its end time
  to-end : (n : Name) (s : ℤ) (r : Checked Limit) → end_of t.world s limit ≡ r → after_start n s ≡ (r >>= (λ l. Ok (one (created t g n s l))))
  to-end n s r e = ap (λ r. r >>= (λ l. Ok (one (created t g n s l)))) e

-- an end time that is a time
module _ (w : World) (s : ℤ) (limit : Term) (other : is_inf limit ≡ false) where
  abbrev ended : Checked ℤ → Checked Limit
  ended r = r >>= (λ e. (domain_error "end_time" (Int e) if int_lt e s) >> Ok (At e))

  end-is : (e : ℤ) → value w.subst limit ≡ Ok e → int_lt e s ≡ false → end_of w s limit ≡ Ok (At e)
  end-is e h f =
      ap (λ b. if b then Ok Inf else ended (value w.subst limit)) other
      ∙ ap ended h
      ∙ ap (λ b. (domain_error "end_time" (Int e) if b) >> Ok (At e)) f

  end-fails : (k : Term) → in_domain EndTime s (value w.subst limit) ≡ Err k → end_of w s limit ≡ Err k
  end-fails k h = ap (λ b. if b then Ok Inf else ended (value w.subst limit)) other ∙ go (value w.subst limit) h
    where
      early : (b : Bool) (e : ℤ) → ((wrong_domain (domain_word EndTime) (Int e) if b) >> Ok e) ≡ Err k → ((domain_error "end_time" (Int e) if b) >> Ok (At e)) ≡ Err k
      early true e h = cc
      early false e h = absurd (cc)

      go : (r : Checked ℤ) → in_domain EndTime s r ≡ Err k → ended r ≡ Err k
      go (Err e) h = cc
      go (Ok e) h = early (int_lt e s) e h

end-inf : (w : World) (s : ℤ) (limit : Term) → is_inf limit ≡ true → end_of w s limit ≡ Ok Inf
end-inf w s limit e = ap (λ b. if b then Ok Inf else meaning.end_from w s limit) e

-- an atom is `inf` where its place is that of the name
pub inf_atom : (names : List Name) → IsTable names → (at : ℕ) → at < length names → is_inf (Atom (name_at names at)) ≡ nat_eq at 102
unfolding start_names
inf_atom names table at within =
    ap (names_eq (name_at names at)) (sym (start-name_at names table 102 (codes "inf") refl)) ∙ names_eq-places names table.distinct at 102 within (start-within names table 102 (omega arith))

-- ---- its name

module _ (m : Machine) (is : IsMachine m) (place : Ref) (there : place.at < length m.state.store.cells) where
  abbrev shown : Term
  shown = seen m.atoms m.state.store place.at

  -- an unbound variable, and no atom
  pub free_unbound : (v : ℕ) → seen m.atoms m.state.store place.at ≡ Var v → IsFree m place (Err cause.Unbound)
  free_unbound v e = (tt, tt, ap (new_name (world_in m)) e)

  pub free_number : (z : ℤ) → seen m.atoms m.state.store place.at ≡ Int z → IsFree m place (Err (cause.NotAtom place))
  free_number z e = (there, tt, ap (new_name (world_in m)) e ∙ ap (λ t. Err (type_error "atom" t)) (sym e))

  pub free_compound : (f : Name) (ts : Terms) → seen m.atoms m.state.store place.at ≡ Comp f ts → IsFree m place (Err (cause.NotAtom place))
  free_compound f ts e = (there, tt, ap (new_name (world_in m)) e ∙ ap (λ t. Err (type_error "atom" t)) (sym e))

  module _ (name : AtomId) (within : name.at < length m.atoms) (shows : seen m.atoms m.state.store place.at ≡ Atom (name_at m.atoms name.at)) where
    abbrev n : Name
    n = name_at m.atoms name.at

    abbrev unless : Bool → Bool → Checked Name
    unless empty taken = (domain_error "process_name" (Atom (name_at m.atoms name.at)) if empty) >> ((permission_error "create" "process" (Atom (name_at m.atoms name.at)) if taken) >> Ok (name_at m.atoms name.at))

    abbrev empty : Bool
    empty = names_eq (name_at m.atoms name.at) (codes "[]")

    name-is : new_name (world_in m) (seen m.atoms m.state.store place.at) ≡ unless (names_eq (name_at m.atoms name.at) (codes "[]")) (is_some (number_of (name_at m.atoms name.at) (world_in m).processes))
    name-is = ap (new_name (world_in m)) shows

    empty-is : names_eq (name_at m.atoms name.at) (codes "[]") ≡ nat_eq name.at 1
    empty-is = ap (names_eq (name_at m.atoms name.at)) (sym (is_empty_list m.atoms is.program.table)) ∙ names_eq-places m.atoms is.program.table.distinct name.at 1 within (start-within m.atoms is.program.table 1 (omega arith))

    taken-is : is_some (number_of (name_at m.atoms name.at) (world_in m).processes) ≡ is_some (named name m.state.procs)
    taken-is = number-named m.atoms is.program.table.distinct (plain_of m.state) name within is.stands

    pub free_empty : name.at ≡ 1 → IsFree m place (Err cause.EmptyName)
    free_empty e = (
      tt,
      tt,
      name-is
          ∙ ap (λ b. unless b (is_some (number_of n (world_in m).processes))) (empty-is ∙ eq-eqb name.at 1 e)
          ∙ ap (λ k. Err (domain_error "process_name" (Atom k))) (ap (name_at m.atoms) e ∙ is_empty_list m.atoms is.program.table),
    )

    module _ (other : name.at ≡ 1 → ⊥) where
      by-name : (b : Bool) → is_some (named name m.state.procs) ≡ b → new_name (world_in m) (seen m.atoms m.state.store place.at) ≡ unless false b
      by-name b e =
          name-is
          ∙ ap (λ x. unless x (is_some (number_of n (world_in m).processes))) (empty-is ∙ ne_eqb name.at 1 other)
          ∙ ap (unless false) (taken-is ∙ e)

      pub free_taken : (pid : ℕ) → Some pid ≡ named name m.state.procs → IsFree m place (Err (cause.NameTaken place))
      free_taken pid e = (there, tt, by-name true (ap is_some (sym e)) ∙ ap (λ t. Err (permission_error "create" "process" t)) (sym shows))

      pub free_name : None ≡ named name m.state.procs → IsFree m place (Ok name)
      free_name e = (within, sym e, by-name false (ap is_some (sym e)))

-- ---- its checks on a machine

module _ (m : Machine) (t : Task) (c : Call) (h : Calls m t c (Some (Process goal.New))) where
  four : 4 ≤ c.count
  four = fewest-fits (name_at m.atoms c.name.at) c.count (Process goal.New) h.kind

  -- its arguments stand
  pub new_there : (k : ℕ) → k < 4 → c.first.at + k < length m.state.store.cells
  new_there k lt = let le = four in let w = h.call.within in omega arith

  abbrev shown_first : Term
  shown_first = seen m.atoms m.state.store c.first.at

  pub new-is : meaning.act (its_turn m t) goal.New (name_at m.atoms c.name.at) (args_seen m.atoms m.state.store c.first.at c.count)
      ≡ meaning.create (its_turn m t) (seen m.atoms m.state.store c.first.at) (shown_at m c 1) (shown_at m c 2) (shown_at m c 3)
  new-is =
      let ts = args_seen m.atoms m.state.store c.first.at c.count in
      let w = its_turn m t in
      let at = λ (k : ℕ) (lt : k < c.count). arg-is m.atoms m.state.store c.first.at c.count k lt in
      let le = four in
      ap (λ x. meaning.create w x (arg 1 ts) (arg 2 ts) (arg 3 ts)) (first_is m t c goal.New h)
      ∙ ap (λ x. meaning.create w (seen m.atoms m.state.store c.first.at) x (arg 2 ts) (arg 3 ts)) (at 1 (omega arith))
      ∙ ap (λ x. meaning.create w (seen m.atoms m.state.store c.first.at) (shown_at m c 1) x (arg 3 ts)) (at 2 (omega arith))
      ∙ ap (λ x. meaning.create w (seen m.atoms m.state.store c.first.at) (shown_at m c 1) (shown_at m c 2) x) (at 3 (omega arith))

  new-gives : (e : Term) → meaning.create (its_turn m t) (seen m.atoms m.state.store c.first.at) (shown_at m c 1) (shown_at m c 2) (shown_at m c 3) ≡ Err e → GivesError m t e
  new-gives e x = gives_here m t c (Process goal.New) e h (new-is ∙ x)

  -- its goal is unbound or an integer
  pub new_unbound : (v : ℕ) → seen m.atoms m.state.store c.first.at ≡ Var v → IsCause m t cause.Unbound
  new_unbound v e = record {
    culprit = tt;
    stands = tt;
    gives = new-gives _ (goal-fails (its_turn m t) shown_first (shown_at m c 1) (shown_at m c 2) (shown_at m c 3) _ (ap (λ g. bound g >> callable g) e));
  }

  pub new_number : (z : ℤ) → seen m.atoms m.state.store c.first.at ≡ Int z → IsCause m t (cause.NotCallable c.first)
  new_number z e = record {
    culprit = first_there m t c goal.New h;
    stands = tt;
    gives = new-gives _ (goal-fails (its_turn m t) shown_first (shown_at m c 1) (shown_at m c 2) (shown_at m c 3) _
        (ap (λ g. bound g >> callable g) e ∙ ap (λ g. Err (type_error "callable" g)) (sym e)));
  }

  -- or it has a name
  pub new_named : (g : Call) (place : Ref) (r : Result AtomId Cause) → IsCall m.atoms m.state.store c.first g → place.at ≡ c.first.at + 1 → IsFree m place r → IsName m t c r
  new_named g place r called at free = by r (subst (λ k. IsFree m (record { at = k }) r) at free)
    where
      is_bound : bound (seen m.atoms m.state.store c.first.at) ≡ Ok tt
      is_bound = ap bound called.is ∙ go (args_seen m.atoms m.state.store g.first.at g.count)
        where
          go : (ts : Terms) → bound (term_of (name_at m.atoms g.name.at) ts) ≡ Ok tt
          go NoMore = refl
          go (More x xs) = refl

      is_callable : callable (seen m.atoms m.state.store c.first.at) ≡ Ok tt
      is_callable = ap callable called.is ∙ go (args_seen m.atoms m.state.store g.first.at g.count)
        where
          go : (ts : Terms) → callable (term_of (name_at m.atoms g.name.at) ts) ≡ Ok tt
          go NoMore = refl
          go (More x xs) = refl

      by : (r : Result AtomId Cause) → IsFree m (record { at = c.first.at + 1 }) r → IsName m t c r
      by (Ok name) f = record { calls = h; is_bound = is_bound; is_callable = is_callable; is_named = f.2; within = f.0; free = f.1 }
      by (Err why) f = record {
        culprit = f.0;
        stands = f.1;
        gives = new-gives _ (to-name (its_turn m t) shown_first (shown_at m c 1) (shown_at m c 2) (shown_at m c 3) is_bound is_callable (Err _) f.2);
      }

-- ---- cells were added

module _ (old : Machine) (c' : Contents) (is : IsMachine old) (adds : AddsCells old.state.store c') (keeps : Keeps old.state.store c') (store : IsStore c') (atoms : AreNamed (length old.atoms) c'.cells) where
  abbrev grown : Machine
  grown = record old { state = record old.state { store = c' } }

  world_same : world_in (record old { state = record old.state { store = c' } }) ≡ world_in old
  world_same = world_still old c' is adds keeps store atoms

  name_still : (t : Task) (c : Call) (name : AtomId) → HasName old t c name → HasName (record old { state = record old.state { store = c' } }) t c name
  name_still t c name h =
      let first = seen_still old c' is adds keeps store atoms c.first.at (first_there old t c goal.New h.calls) in
      let second = seen_still old c' is adds keeps store atoms (c.first.at + 1) (new_there old t c h.calls 1 (omega arith)) in
      record {
        calls = calls_still old c' is adds keeps store atoms t c (Some (Process goal.New)) h.calls;
        is_bound = ap bound first ∙ h.is_bound;
        is_callable = ap callable first ∙ h.is_callable;
        is_named = ap (λ w. new_name w (seen old.atoms c' (c.first.at + 1))) world_same ∙ ap (new_name (world_in old)) second ∙ h.is_named;
        within = h.within;
        free = h.free;
      }

  start_still : (t : Task) (c : Call) (name : AtomId) (start : ℤ) → HasStart old t c name start → HasStart (record old { state = record old.state { store = c' } }) t c name start
  start_still t c name start h = record {
    named = name_still t c name h.named;
    starts = ap (λ s. value s (seen old.atoms c' (c.first.at + 2))) (keeps.bindings old.atoms)
        ∙ ap (value (subst_of old.atoms old.state.store)) (seen_still old c' is adds keeps store atoms (c.first.at + 2) (new_there old t c h.named.calls 2 (omega arith)))
        ∙ h.starts;
    timely = h.timely;
  }

  end_still : (t : Task) (c : Call) (new : NewProcess) → HasEnd old t c new → HasEnd (record old { state = record old.state { store = c' } }) t c new
  end_still t c new h = record {
    start = start_still t c new.name new.start h.start;
    ends = ap (λ w. end_of w new.start (seen old.atoms c' (c.first.at + 3))) world_same
        ∙ ap (end_of (world_in old) new.start) (seen_still old c' is adds keeps store atoms (c.first.at + 3) (new_there old t c h.start.named.calls 3 (omega arith)))
        ∙ h.ends;
  }

-- ---- its times

module _ (old new : Machine) (is : IsMachine old) (g : Grew old new) (t : Task) (c : Call) (name : AtomId) where
  name_grew : HasName old t c name → HasName new t c name
  name_grew h = subst (λ (q : Machine). HasName q t c name) (sym g.same) (name_still old new.state.store is g.adds g.keeps g.store g.named t c name h)

  -- it goes on with its start time, or raises an error
  pub start_given : (place : Ref) (r : Given) → HasName old t c name → place.at ≡ c.first.at + 2 → IsTime new (seen old.atoms old.state.store place.at) StartTime old.state.clock r → IsStart new t c name r
  start_given place r h at x = by r (subst (λ k. IsTime new (seen old.atoms old.state.store k) StartTime old.state.clock r) at x)
    where
      n : HasName new t c name
      n = name_grew h

      clock : new.state.clock ≡ old.state.clock
      clock = ap (λ (q : Machine). q.state.clock) g.same

      same : value (subst_of new.atoms new.state.store) (seen new.atoms new.state.store (c.first.at + 2)) ≡ evaluated (seen old.atoms old.state.store (c.first.at + 2))
      same = grew_value old new is g (c.first.at + 2) (new_there old t c h.calls 2 (omega arith))

      by : (r : Given) → IsTime new (seen old.atoms old.state.store (c.first.at + 2)) StartTime old.state.clock r → IsStart new t c name r
      by (given.Time start) x = record { named = n; starts = same ∙ x.0; timely = ap (int_lt start) clock ∙ x.1 }
      by (given.Refused why) x = (
        n.calls.meets,
        record {
          culprit = x.0;
          stands = x.1;
          gives = new-gives new t c n.calls _
              (to-name (its_turn new t) (seen new.atoms new.state.store c.first.at) (shown_at new c 1) (shown_at new c 2) (shown_at new c 3) n.is_bound n.is_callable (Ok _) n.is_named
              ∙ start-fails (its_turn new t) (seen new.atoms new.state.store c.first.at) (shown_at new c 1) (shown_at new c 2) (shown_at new c 3) _ _
              (ap (in_domain StartTime new.state.clock) same ∙ ap (λ z. in_domain StartTime z (evaluated (seen old.atoms old.state.store (c.first.at + 2)))) clock ∙ x.2));
        },
      )

  -- and with its end time
  pub end_given : (place : Ref) (start : ℤ) (r : Given) → HasStart old t c name start → place.at ≡ c.first.at + 3 → is_inf (seen old.atoms old.state.store place.at) ≡ false → IsTime new (seen old.atoms old.state.store place.at) EndTime start r → IsEnd new t c name start (ending_by r)
  end_given place start r h at other x =
      by r (subst (λ k. is_inf (seen old.atoms old.state.store k) ≡ false) at other) (subst (λ k. IsTime new (seen old.atoms old.state.store k) EndTime start r) at x)
    where
      s : HasStart new t c name start
      s = subst (λ (q : Machine). HasStart q t c name start) (sym g.same) (start_still old new.state.store is g.adds g.keeps g.store g.named t c name start h)

      lt : c.first.at + 3 < length old.state.store.cells
      lt = new_there old t c h.named.calls 3 (omega arith)

      same : value (subst_of new.atoms new.state.store) (seen new.atoms new.state.store (c.first.at + 3)) ≡ evaluated (seen old.atoms old.state.store (c.first.at + 3))
      same = grew_value old new is g (c.first.at + 3) lt

      inf : is_inf (seen old.atoms old.state.store (c.first.at + 3)) ≡ false → is_inf (seen new.atoms new.state.store (c.first.at + 3)) ≡ false
      inf other = ap is_inf (grew_seen old new is g (c.first.at + 3) lt) ∙ other

      by : (r : Given) → is_inf (seen old.atoms old.state.store (c.first.at + 3)) ≡ false → IsTime new (seen old.atoms old.state.store (c.first.at + 3)) EndTime start r → IsEnd new t c name start (ending_by r)
      by (given.Time end) other x = record { start = s; ends = end-is (world_in new) start (shown_at new c 3) (inf other) end (same ∙ x.0) x.1 }
      by (given.Refused why) other x =
          let n = s.named in
          let w = its_turn new t in
          let first = seen new.atoms new.state.store c.first.at in (
            n.calls.meets,
            record {
              culprit = x.0;
              stands = x.1;
              gives = new-gives new t c n.calls _
                  (to-name w first (shown_at new c 1) (shown_at new c 2) (shown_at new c 3) n.is_bound n.is_callable (Ok _) n.is_named
                  ∙ to-start w first (shown_at new c 1) (shown_at new c 2) (shown_at new c 3) _ start s.starts s.timely
                  ∙ to-end w first (shown_at new c 1) (shown_at new c 2) (shown_at new c 3) _ start (Err _)
                  (end-fails (world_in new) start (shown_at new c 3) (inf other) _ (ap (in_domain EndTime start) same ∙ x.2)));
            },
          )

-- without an end
pub end_inf : (m : Machine) (t : Task) (c : Call) (name : AtomId) (start : ℤ) (place : Ref) → HasStart m t c name start → place.at ≡ c.first.at + 3 → is_inf (seen m.atoms m.state.store place.at) ≡ true → IsEnd m t c name start (ending.Ends Inf)
end_inf m t c name start place h at e = record {
  start = h;
  ends = end-inf (world_in m) start (shown_at m c 3) (subst (λ k. is_inf (seen m.atoms m.state.store k) ≡ true) at e);
}

-- ---- its goal is placed

is_call : (names : List Name) → IsTable names → name_at names 10 ≡ codes "call"
unfolding start_names
is_call names table = start-name_at names table 10 (codes "call") refl

module _ (m : Machine) (t : Task) (c : Call) (new : NewProcess) (is : IsMachine m) (h : HasEnd m t c new) (d : Contents) (e : d ≡ with_cell m.state.store (cell.Comp CALL c.first 1)) (keeps : Keeps m.state.store d) (store : IsStore d) where
  -- the machine's store grew
  pub call_grew : Grew m (record m { state = record m.state { store = d } })
  call_grew = record {
    same = refl;
    adds = record {
      more = cell.Comp CALL c.first 1 ∷ [];
      cells = ap (λ (x : Contents). x.cells) e;
      pairs = ap (λ (x : Contents). x.pairs) e;
      vars = ap (λ (x : Contents). x.vars) e;
    };
    keeps = keeps;
    store = store;
    named = subst (λ (x : Contents). AreNamed (length m.atoms) x.cells) (sym e)
        (AreNamed-push (length m.atoms) m.state.store.cells (cell.Comp CALL c.first 1) is.stands.atoms (start-within m.atoms is.program.table 10 (omega arith)));
  }

  goal_shown : (place : Ref) → place.at ≡ length m.state.store.cells → seen m.atoms d place.at ≡ comp "call" (seen m.atoms d c.first.at ∷ [])
  goal_shown place at =
      let cs = m.state.store.cells in
      let x = cell.Comp CALL c.first 1 in
      let cells : d.cells ≡ cs ++ x ∷ [] = ap (λ (x : Contents). x.cells) e in
      let lt = first_there m t c goal.New h.start.named.calls in
      ap (λ xs. apply (subst_of m.atoms d) (shows m.atoms xs place.at)) cells
      ∙ ap (apply (subst_of m.atoms d)) (shows-at m.atoms cs (x ∷ []) 0 place.at x (omega (arith, at)) refl (omega arith, omega (arith, at, lt)))
      ∙ ap (λ xs. Comp (name_at m.atoms 10) (More (apply (subst_of m.atoms d) (shows m.atoms xs c.first.at)) NoMore)) (sym cells)
      ∙ ap (λ f. Comp f (More (seen m.atoms d c.first.at) NoMore)) (is_call m.atoms is.program.table)

  -- its goal stands there
  pub goal_placed : (place : Ref) → place.at ≡ length m.state.store.cells → HasGoal (record m { state = record m.state { store = d } }) t c new place
  unfolding call_grew
  goal_placed place at =
      let g = call_grew in
      record {
        end = end_still m d is g.adds keeps store g.named t c new h;
        within = omega (arith, at, ap (λ (x : Contents). length x.cells) e, length-append m.state.store.cells (cell.Comp CALL c.first 1 ∷ []));
        is = goal_shown place at;
      }

-- ---- the process is made

module _ (m : Machine) (t : Task) (c : Call) (new : NewProcess) (place : Ref) (is : IsMachine m) (h : HasGoal m t c new place) where
  abbrev names : List Name
  names = m.atoms

  abbrev calls : Calls m t c (Some (Process goal.New))
  calls = h.end.start.named.calls

  abbrev p0 : Plain
  p0 = resting t.rest (plain_of m.state)

  abbrev p1 : Plain
  p1 = made new.name new.end place (resting t.rest (plain_of m.state))

  abbrev p2 : Plain
  p2 = planned (length m.state.procs) new.start (made new.name new.end place (resting t.rest (plain_of m.state)))

  abbrev kind : EventKind
  kind = event.New new.name new.start new.end

  below : t.process < length m.state.procs
  below = process_there m t.process calls.meets.standing calls.meets.running

  create-is : meaning.create (its_turn m t) (seen m.atoms m.state.store c.first.at) (shown_at m c 1) (shown_at m c 2) (shown_at m c 3)
      ≡ Ok (one (created (its_turn m t) (seen m.atoms m.state.store c.first.at) (name_at m.atoms new.name.at) new.start new.end))
  create-is =
      let w = its_turn m t in
      let first = seen m.atoms m.state.store c.first.at in
      let s = h.end.start in
      let n = s.named in
      to-name w first (shown_at m c 1) (shown_at m c 2) (shown_at m c 3) n.is_bound n.is_callable (Ok _) n.is_named
      ∙ to-start w first (shown_at m c 1) (shown_at m c 2) (shown_at m c 3) _ new.start s.starts s.timely
      ∙ to-end w first (shown_at m c 1) (shown_at m c 2) (shown_at m c 3) _ new.start (Ok _) h.end.ends

  -- the calendar has an entry for it, and the history tells it
  pub makes : (s1 s2 s3 : State) (pid : ℕ) → pid ≡ length m.state.procs → plain_of s1 ≡ made new.name new.end place (resting t.rest (plain_of m.state)) → plain_of s2 ≡ planned pid new.start (plain_of s1)
      → plain_of s3 ≡ noted t.process (event.New new.name new.start new.end) (plain_of s2) → Follows (held_of m.state) (held_of s3) → Steps m (record m { state = s3; stamp = m.stamp + 1 }) answer.Went
  makes s1 s2 s3 pid ep e1 e2 e3 fo =
      let i2 : plain_of s2 ≡ planned (length m.state.procs) new.start (made new.name new.end place (resting t.rest (plain_of m.state))) =
      e2 ∙ ap (planned pid new.start) e1 ∙ ap (λ k. planned k new.start p1) ep in
      let i3 : plain_of s3 ≡ noted t.process (event.New new.name new.start new.end) (planned (length m.state.procs) new.start (made new.name new.end place (resting t.rest (plain_of m.state)))) =
      e3 ∙ ap (noted t.process kind) i2 in
      let n = h.end.start.named in
      let st0 = rested_stands m t is calls.meets in
      let st2 = planned-stands names p1 (length m.state.procs) new.start (made-stands names p0 new.name new.end place st0 n.within h.within) in
      let more = length-append m.state.procs (new_proc new.name new.end (record { at = length m.state.frames }) ∷ []) in
      let st3 = noted-stands names p2 t.process kind st2 (let lt = below in omega arith) n.within in
      let w = turn_in m t.process t.rest in
      let g = seen names m.state.store c.first.at in
      let name = name_at names new.name.at in
      acts_to m t c goal.New calls s3 (created w g name new.start new.end) is fo (subst (PlainStands names) (sym i3) st3)
      (ap (λ (x : Plain). world_of names x (m.stamp + 1)) i3
      ∙ noted-world names p2 t.process (m.stamp + 1) kind
      ∙ ap (with_event t.process (world.New name new.start new.end)) (planned-world names p1 (length m.state.procs) (m.stamp + 1) new.start)
      ∙ ap (λ (v : World). with_event t.process (world.New name new.start new.end) (with_slot (length m.state.procs) new.start v)) (made-world names p0 new.name new.end place st0 t.process (m.stamp + 1) g calls.meets.running below h.is)
      ∙ ap (λ (v : World). with_event t.process (world.New name new.start new.end) (with_slot (length m.state.procs) new.start (with_new g name new.end v))) (rested_world m t is calls.meets)
      ∙ ap (λ k. with_event t.process (world.New name new.start new.end) (with_slot k new.start (with_new g name new.end (going w (rest_in m t.rest))))) (sym (count-processes names (plain_of m.state))))
      (new-is m t c calls ∙ create-is)

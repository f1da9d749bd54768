-- Steps in which the terms of two places are made equal, or have no unifier.
use Rattle.std.proofs.Common.{◌≡◌, ℕ, zero, suc, ◌+◌, ◌<◌, true, false, List, [], ◌∷◌, ◌++◌, length, Option, Some, None, is_some, refl, ap, sym, subst, ◌∙◌, arith, length-append}
use Rattle.tp_terms.specs.declared.cells.Cell.{Cell}
use Rattle.tp_terms.specs.declared.cells.Cell.TheVariants as cell
use Rattle.tp_terms.specs.declared.cells.Ref.{Ref}
use Rattle.tp_terms.specs.Term.{Name, Term, term_size}
use Rattle.tp_terms.specs.Shown.{AreNamed, IsNamed, StandsBefore, shows, shown_from}
use Rattle.tp_terms.proofs.Places.Shown.{AreNamed-push}
use Rattle.tp_log.specs.declared.entry.Entry.{Entry}
use Rattle.tp_meaning.specs.declared.DeadCause.TheVariants.{Failed}
use Rattle.tp_meaning.specs.declared.goals.ProcessGoal.{ProcessGoal}
use Rattle.tp_meaning.specs.Subst.{Subst, IsSubst, Next, apply, mgu, rounds, solve_pair, walk}
use Rattle.tp_meaning.specs.World.{World, world_under}
use Rattle.tp_meaning.specs.Search.{Dead}
use Rattle.tp_meaning.specs.Turn.{Gives, going, one, some, unified}
use Rattle.tp_meaning.specs.Step.{step}
use Rattle.tp_meaning.specs.Machine as machine
use Rattle.tp_meaning.proofs.Unification.Applied.{apply-twice}
use Rattle.tp_store.specs.Contents.{Contents, FindsUnifier, IsStore, IsNumbered, Keeps, AddsCells, seen, subst_of, with_cell}
use Rattle.tp_store.specs.Logged.{Logs}
use Rattle.tp_store.proofs.Standing.Facts.{IsSubst-store}
use Rattle.tp_control.specs.Lists.{items_at}
use Rattle.tp_state.specs.declared.state.State.{State}
use Rattle.tp_state.specs.Acts.{resting}
use Rattle.tp_state.specs.Going.{Held, Follows}
use Rattle.tp_state.specs.State.{plain_of, held_of}
use Rattle.tp_machine.specs.declared.machine.Machine.{Machine}
use Rattle.tp_machine.specs.declared.stepped.Stepped.TheVariants as answer
use Rattle.tp_machine.specs.declared.task.Task.{Task}
use Rattle.tp_machine.specs.declared.task.Call.{Call}
use Rattle.tp_machine.specs.Acting.{IsTold, Tells, Unites, told_term}
use Rattle.tp_machine.specs.Between.{Equals}
use Rattle.tp_machine.specs.Enters.{Rests}
use Rattle.tp_machine.specs.Meets.{its_turn}
use Rattle.tp_machine.specs.Machine.{IsMachine, Steps, base_in, world_in}
use Rattle.tp_machine.proofs.Grows.Grown.{items_still, meets_still, rests, seen_still, world_still}
use Rattle.tp_machine.proofs.Gives.Raised.{shows-at}
use Rattle.tp_machine.proofs.Worlds.Items.{list_stands}
use Rattle.tp_machine.proofs.Step.Clauses.{mgu-seen}
use Rattle.tp_machine.proofs.Step.Equal.{equalled}
use Rattle.tp_machine.proofs.Step.Parts.{to_none, to_one}

-- the second of two terms may be seen under the bindings before
pub mgu-seen_second : (s : Subst) (a c : Term) → IsSubst s → mgu s a (apply s c) ≡ mgu s a c
unfolding mgu
mgu-seen_second s a c is =
    let e : apply s (apply s c) ≡ apply s c = apply-twice s c is.idem in
    ap (λ t. rounds (term_size (apply s a) + term_size t) ((a, apply s c) ∷ []) s) e ∙ seen_rounds (term_size (apply s a) + term_size (apply s c)) e
  where
    seen_walk : (next : Next) (z : ℕ) → apply s (apply s c) ≡ apply s c → walk next z ((a, apply s c) ∷ []) s ≡ walk next z ((a, c) ∷ []) s
    seen_walk next zero e = refl
    seen_walk next (suc z) e = ap (λ t. solve_pair (walk next z) next (apply s a) t [] s) e

    seen_rounds : (k : ℕ) → apply s (apply s c) ≡ apply s c → rounds k ((a, apply s c) ∷ []) s ≡ rounds k ((a, c) ∷ []) s
    seen_rounds zero e = seen_walk (λ es s'. None) (term_size (apply s a) + 0) e
    seen_rounds (suc k) e = seen_walk (rounds k) (term_size (apply s a) + 0) e

-- two terms that are seen under the bindings
pub mgu-seen_both : (s : Subst) (a c : Term) → IsSubst s → mgu s (apply s a) (apply s c) ≡ mgu s a c
mgu-seen_both s a c is = mgu-seen s a (apply s c) is ∙ mgu-seen_second s a c is

module _ (m : Machine) (t : Task) (left right : Ref) (is : IsMachine m) (h : Unites m t left right) where
  abbrev s : Subst
  s = subst_of m.atoms m.state.store

  abbrev a : Term
  a = shows m.atoms m.state.store.cells left.at

  abbrev b : Term
  b = shows m.atoms m.state.store.cells right.at

  is_subst : IsSubst (subst_of m.atoms m.state.store)
  is_subst = IsSubst-store m.atoms m.state.store is.stands.store

  by_unifier : Option Subst → Gives
  by_unifier o = some (elim o as (λ _. List World) [ None ↦ [] | Some u ↦ world_under u (going (its_turn m t) (its_turn m t).rest) ∷ [] ])

  unites-gives : step (base_in m) (world_in m) ≡ by_unifier (mgu (subst_of m.atoms m.state.store) (shows m.atoms m.state.store.cells left.at) (shows m.atoms m.state.store.cells right.at))
  unfolding by_unifier
  unites-gives = h.gives ∙ ap by_unifier (mgu-seen_both s a b is_subst)

  module _ (st : State) (found : FindsUnifier m.state.store st.store left right true) (logged : Logs m.state.store st.store m.state.log st.log) (store : IsStore st.store) where
    unifier : mgu (subst_of m.atoms m.state.store) (shows m.atoms m.state.store.cells left.at) (shows m.atoms m.state.store.cells right.at) ≡ Some (subst_of m.atoms st.store)
    unifier = found m.atoms (record { distinct = is.program.table.distinct; named = is.stands.atoms })

    equals : Equals m.atoms left.at (shows m.atoms m.state.store.cells right.at) m.state.store st.store
    equals = record {
      unified = λ some. unifier;
      vars = logged.vars;
      longer = omega (arith, ap length logged.cells);
      kept = λ k lt. ap (λ cs. shows m.atoms cs k) logged.cells;
      atoms = subst (AreNamed (length m.atoms)) (sym logged.cells) is.stands.atoms;
    }

    -- they have a unifier
    pub united : (s' : State) → Follows (held_of m.state) (held_of s') → plain_of s' ≡ record (resting t.rest (plain_of m.state)) { store = st.store } → Steps m (record m { state = s'; stamp = m.stamp + 1 }) answer.Went
    unfolding by_unifier
    united s' fo es =
        let some = ap is_some (mgu-seen s a b is_subst ∙ unifier) in
        let e = equalled m t is h.meets left.at b st.store store equals some s' fo es in
        to_one m (record m { state = s'; stamp = m.stamp + 1 }) is e.goes (unites-gives ∙ ap by_unifier unifier ∙ ap one (sym e.world))

  -- they have none
  pub apart : (st : State) → FindsUnifier m.state.store st.store left right false → held_of st ≡ held_of m.state → st ≡ record m.state { store = st.store; log = st.log } → Steps m (record m { state = st }) (answer.Dead Failed)
  unfolding by_unifier
  apart st found held same =
      let none = found m.atoms (record { distinct = is.program.table.distinct; named = is.stands.atoms }) in
      let here : m.state ≡ st = sym (same ∙ ap (λ (x : Contents). record m.state { store = x; log = st.log }) (ap (λ (x : Held). x.plain.store) held) ∙ ap (λ (es : List Entry). record m.state { log = es }) (ap (λ (x : Held). x.log) held)) in
      subst (λ (x : State). Steps m (record m { state = x }) (answer.Dead Failed)) here
      (to_none m (answer.Dead Failed) (machine.Dead Failed) (Dead Failed) is refl tt (unites-gives ∙ ap by_unifier none) refl)

-- ---- an integer or an atom that is placed

told-named : (names : ℕ) (x : Cell) → IsTold names x → IsNamed names x
told-named names (cell.Int value) h = tt
told-named names (cell.Atom name) h = h
told-named names (cell.Var number) h = absurd h
told-named names (cell.Comp name first count) h = absurd h

-- it may stand anywhere
pub told-before : (names n : ℕ) (x : Cell) → IsTold names x → StandsBefore n x
told-before names n (cell.Int value) h = tt
told-before names n (cell.Atom name) h = tt
told-before names n (cell.Var number) h = tt
told-before names n (cell.Comp name first count) h = absurd h

pub told-numbered : (names n : ℕ) (x : Cell) → IsTold names x → IsNumbered n x
told-numbered names n (cell.Int value) h = tt
told-numbered names n (cell.Atom name) h = tt
told-numbered names n (cell.Var number) h = absurd h
told-numbered names n (cell.Comp name first count) h = tt

told-seen : (names : List Name) (s : Subst) (cs : List Cell) (x : Cell) → IsTold (length names) x → apply s (shown_from names cs x) ≡ told_term names x
told-seen names s cs (cell.Int value) h = refl
told-seen names s cs (cell.Atom name) h = refl
told-seen names s cs (cell.Var number) h = absurd h
told-seen names s cs (cell.Comp name first count) h = absurd h

module _ (m : Machine) (t : Task) (c : Call) (k : ProcessGoal) (value : Cell) (is : IsMachine m) (h : Tells m t c k value) (first : c.first.at < length m.state.store.cells) (new : Contents) (e : new ≡ with_cell m.state.store value) (keeps : Keeps m.state.store new) (store : IsStore new) where
  adds : AddsCells m.state.store new
  adds = record {
    more = value ∷ [];
    cells = ap (λ (x : Contents). x.cells) e;
    pairs = ap (λ (x : Contents). x.pairs) e;
    vars = ap (λ (x : Contents). x.vars) e;
  }

  named : AreNamed (length m.atoms) new.cells
  named =
      subst (λ (x : Contents). AreNamed (length m.atoms) x.cells) (sym e)
      (AreNamed-push (length m.atoms) m.state.store.cells value is.stands.atoms (told-named (length m.atoms) value h.told))

  abbrev grown : Machine
  grown = record m { state = record m.state { store = new } }

  -- the machine stands where it stood
  pub told_rests : Rests m (record m { state = record m.state { store = new } })
  told_rests = rests m new is adds keeps store named

  place_seen : (place : Ref) → place.at ≡ length m.state.store.cells → seen m.atoms new place.at ≡ told_term m.atoms value
  unfolding adds
  place_seen place at =
      let cs = m.state.store.cells in
      ap (λ xs. apply (subst_of m.atoms new) (shows m.atoms xs place.at)) (adds).cells
      ∙ ap (apply (subst_of m.atoms new)) (shows-at m.atoms cs (value ∷ []) 0 place.at value (omega (arith, at)) refl (told-before (length m.atoms) place.at value h.told))
      ∙ told-seen m.atoms (subst_of m.atoms new) (cs ++ value ∷ []) value h.told

  -- and its goal makes two places equal
  pub told_unites : (place : Ref) → place.at ≡ length m.state.store.cells → Unites (record m { state = record m.state { store = new } }) t c.first place
  unfolding adds
  told_unites place at =
      let longer = ap length (adds).cells ∙ length-append m.state.store.cells (value ∷ []) in
      let rest = items_still m new is adds keeps store named (items_at m.state.frames t.rest) (list_stands (length m.state.store.cells) m.state.frames t.rest is.stands.lists h.calls.meets.rest) in
      let same = world_still m new is adds keeps store named in
      record {
        meets = meets_still m new is adds keeps store named t h.calls.meets;
        left_there = omega (arith, first, longer);
        right_there = omega (arith, at, longer);
        gives =
            ap (step (base_in m)) same
            ∙ h.gives
            ∙ ap (λ x. some (unified (its_turn m t) x (told_term m.atoms value))) (sym (seen_still m new is adds keeps store named c.first.at first))
            ∙ ap (λ x. some (unified (its_turn m t) (seen m.atoms new c.first.at) x)) (sym (place_seen place at))
            ∙ ap (λ (w : World). some (unified (record { world = w; process = t.process; rest = (its_turn m t).rest }) (seen m.atoms new c.first.at) (seen m.atoms new place.at))) (sym same)
            ∙ ap (λ l. some (unified (record { world = world_in grown; process = t.process; rest = l }) (seen m.atoms new c.first.at) (seen m.atoms new place.at))) (sym rest);
      }

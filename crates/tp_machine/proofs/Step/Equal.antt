-- A step in which the terms of a place and another term are made equal.
use Rattle.std.proofs.Common.{◌≡◌, ℕ, ◌+◌, true, [], ◌∷◌, Some, is_some, ℤ, refl, ap, sym, subst, ◌∙◌}
use Rattle.tp_terms.specs.Term.{Term, Var, Int, term_size}
use Rattle.tp_terms.specs.Shown.{shows}
use Rattle.tp_terms.proofs.Naming.Tables.{Grows-same}
use Rattle.tp_meaning.specs.Subst.{Subst, IsSubst, apply, extended, mgu, rounds, solve_pair, value_at, walk}
use Rattle.tp_meaning.specs.World.{with_items, world_under}
use Rattle.tp_meaning.specs.Turn.{going}
use Rattle.tp_meaning.proofs.Unification.Applied.{mgu-solves, solves-over}
use Rattle.tp_store.specs.Contents.{Contents, IsStore, seen, subst_of}
use Rattle.tp_store.proofs.Standing.Facts.{IsSubst-store}
use Rattle.tp_state.specs.declared.state.State.{State}
use Rattle.tp_state.specs.Acts.{resting}
use Rattle.tp_state.specs.Going.{Follows}
use Rattle.tp_state.specs.Plain.{Plain, world_of}
use Rattle.tp_state.specs.Stands.{PlainStands}
use Rattle.tp_state.specs.State.{plain_of, held_of}
use Rattle.tp_machine.specs.declared.machine.Machine.{Machine}
use Rattle.tp_machine.specs.declared.task.Task.{Task}
use Rattle.tp_machine.specs.Between.{Equals}
use Rattle.tp_machine.specs.Goes.{Goes}
use Rattle.tp_machine.specs.Machine.{IsMachine, world_in}
use Rattle.tp_machine.specs.Meets.{Meets}
use Rattle.tp_machine.proofs.Step.Clauses.{mgu-seen}
use Rattle.tp_machine.proofs.Step.First.{rest_in, turn_in}
use Rattle.tp_machine.proofs.Worlds.Items.{other-rest, other-stands, other-world}
use Rattle.tp_machine.proofs.Worlds.Stores.{OtherStore, store-stands, under-world}

-- an unbound variable and an integer have a unifier
pub number-unifier : (s : Subst) (v : ℕ) (z : ℤ) → value_at s v ≡ Var v → mgu s (Var v) (Int z) ≡ Some (extended s v (Int z))
unfolding mgu
number-unifier s v z e =
    ap (λ t. rounds (term_size t + 1) ((Var v, Int z) ∷ []) s) e
    ∙ ap (λ t. walk (rounds 1) (term_size t + 0) ((Var v, Int z) ∷ []) s) e
    ∙ ap (λ t. solve_pair (walk (rounds 1) 0) (rounds 1) t (Int z) [] s) e

-- where the machine goes on to
pub record Equalled (m : Machine) (t : Task) (s : State) (u : Subst) : Type 0 where
  pub goes : Goes m (record m { state = s; stamp = m.stamp + 1 })
  pub world : world_in (record m { state = s; stamp = m.stamp + 1 }) ≡ world_under u (going (turn_in m t.process t.rest) (rest_in m t.rest))

module _ (m : Machine) (t : Task) (is : IsMachine m) (h : Meets m t) (at : ℕ) (y : Term) (d : Contents) (store : IsStore d) (e : Equals m.atoms at y m.state.store d) (some : is_some (mgu (subst_of m.atoms m.state.store) (seen m.atoms m.state.store at) y) ≡ true) where
  abbrev u : Subst
  u = subst_of m.atoms d

  abbrev p : Plain
  p = plain_of m.state

  abbrev rested : Plain
  rested = resting t.rest (plain_of m.state)

  abbrev stored : Plain
  stored = record (resting t.rest (plain_of m.state)) { store = d }

  is_subst : IsSubst (subst_of m.atoms m.state.store)
  is_subst = IsSubst-store m.atoms m.state.store is.stands.store

  seen-same : mgu (subst_of m.atoms m.state.store) (seen m.atoms m.state.store at) y ≡ mgu (subst_of m.atoms m.state.store) (shows m.atoms m.state.store.cells at) y
  seen-same = mgu-seen (subst_of m.atoms m.state.store) (shows m.atoms m.state.store.cells at) y is_subst

  shown_unifier : mgu (subst_of m.atoms m.state.store) (shows m.atoms m.state.store.cells at) y ≡ Some (subst_of m.atoms d)
  shown_unifier = e.unified (ap is_some (sym seen-same) ∙ some)

  -- their unifier is what the new bindings stand for
  pub equal_unifier : mgu (subst_of m.atoms m.state.store) (seen m.atoms m.state.store at) y ≡ Some (subst_of m.atoms d)
  equal_unifier = seen-same ∙ shown_unifier

  over : (x : Term) → apply (subst_of m.atoms d) (apply (subst_of m.atoms m.state.store) x) ≡ apply (subst_of m.atoms d) x
  over x =
      let s = subst_of m.atoms m.state.store in
      let a = shows m.atoms m.state.store.cells at in
      solves-over s a y u (mgu-solves s a y u is_subst shown_unifier) x

  other : OtherStore m.atoms (apply (subst_of m.atoms d)) m.state.store d
  other = record {
    store = store;
    atoms = e.atoms;
    longer = e.longer;
    terms = λ k lt. ap (apply u) (e.kept k lt) ∙ sym (over (shows m.atoms m.state.store.cells k));
  }

  stands1 : PlainStands m.atoms (resting t.rest (plain_of m.state))
  stands1 = other-stands m.atoms p rested is.stands (other-rest m.atoms p t.rest h.rest)

  stands2 : PlainStands m.atoms (record (resting t.rest (plain_of m.state)) { store = d })
  stands2 = store-stands m.atoms (apply u) rested d stands1 other

  stored_world : world_of m.atoms (record (resting t.rest (plain_of m.state)) { store = d }) (m.stamp + 1) ≡ world_under u (going (turn_in m t.process t.rest) (rest_in m t.rest))
  stored_world =
      let w = world_of m.atoms p (m.stamp + 1) in
      under-world m.atoms rested d (m.stamp + 1) stands1 other
      ∙ ap (λ v. world_under u (record v { next = d.vars })) (other-world m.atoms p rested t.process m.stamp is.stands (other-rest m.atoms p t.rest h.rest) h.running)
      ∙ ap (λ n. world_under u (record (with_items t.process (rest_in m t.rest) w) { next = n })) e.vars

  -- the machine goes on under their unifier
  pub equalled : (s : State) → Follows (held_of m.state) (held_of s) → plain_of s ≡ record (resting t.rest (plain_of m.state)) { store = d } → Equalled m t s (subst_of m.atoms d)
  equalled s f es = record {
    goes = record { same = refl; names = Grows-same m.atoms; table = is.program.table; stands = subst (PlainStands m.atoms) (sym es) stands2; follows = f; stamp = refl };
    world = ap (λ (x : Plain). world_of m.atoms x (m.stamp + 1)) es ∙ stored_world;
  }

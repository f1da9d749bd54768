-- Goals that raise an error since their argument is refused as a goal.
use Rattle.std.proofs.Common.{◌≡◌, ℕ, zero, suc, ◌+◌, ◌<◌, ◌≤◌, List, length, Some, Err, refl, ap, sym, subst, ◌∙◌, arith}
use Rattle.tp_terms.specs.declared.cells.Ref.{Ref}
use Rattle.tp_terms.specs.Term.{Name, Term, Terms, NoMore, More, term_of, count_of}
use Rattle.tp_terms.specs.Shown.{name_at}
use Rattle.tp_meaning.specs.declared.goals.GoalKind.{GoalKind}
use Rattle.tp_meaning.specs.declared.goals.GoalKind.TheVariants.{Control}
use Rattle.tp_meaning.specs.declared.goals.ControlGoal.TheVariants as control
use Rattle.tp_meaning.specs.Body.{enter}
use Rattle.tp_meaning.specs.Checks.{Checked, ◌>>=◌}
use Rattle.tp_meaning.specs.Clauses.{Base}
use Rattle.tp_meaning.specs.Control.{arg}
use Rattle.tp_meaning.specs.Goals.{goal_kind}
use Rattle.tp_meaning.specs.Turn.{Turn}
use Rattle.tp_meaning.specs.Step.{goal_by, goal_step}
use Rattle.tp_meaning.proofs.OwnGoals.Counts.{fewest-fits}
use Rattle.tp_store.specs.Contents.{Contents, seen, args_seen}
use Rattle.tp_store.proofs.Standing.Facts.{count-seen}
use Rattle.tp_machine.specs.declared.machine.Machine.{Machine}
use Rattle.tp_machine.specs.declared.errors.Cause.{Cause}
use Rattle.tp_machine.specs.declared.errors.Cause.TheVariants as cause
use Rattle.tp_machine.specs.declared.enter.Entered.TheVariants.{Refused}
use Rattle.tp_machine.specs.declared.task.Task.{Task}
use Rattle.tp_machine.specs.declared.task.Call.{Call}
use Rattle.tp_machine.specs.Enters.{Enters}
use Rattle.tp_machine.specs.Machine.{base_in}
use Rattle.tp_machine.specs.Meets.{Calls, GivesError, IsCause, its_turn}

-- a goal with a name, by its kind
pub by_kind : (base : Base) (w : Turn) (b : ℕ) (f : Name) (ts : Terms) → goal_step base w b (term_of f ts) ≡ goal_by base w b f ts (goal_kind f (count_of ts))
by_kind base w b f NoMore = refl
by_kind base w b f (More t ts) = refl

-- the first argument of a goal
pub first_arg : (names : List Name) (c : Contents) (a n : ℕ) → 1 ≤ n → arg 0 (args_seen names c a n) ≡ seen names c a
first_arg names c a zero le = absurd (omega arith)
first_arg names c a (suc n) le = refl

module _ (m : Machine) (t : Task) (c : Call) where
  abbrev its_name : Name
  its_name = name_at m.atoms c.name.at

  abbrev its_args : Terms
  its_args = args_seen m.atoms m.state.store c.first.at c.count

  -- a goal of the language whose kind gives an error here
  pub gives_here : (k : GoalKind) (e : Term) → Calls m t c (Some k) → goal_by (base_in m) (its_turn m t) t.barrier (name_at m.atoms c.name.at) (args_seen m.atoms m.state.store c.first.at c.count) (Some k) ≡ Err e → GivesError m t e
  gives_here k e h g =
      ap (goal_step (base_in m) (its_turn m t) t.barrier) h.call.is
      ∙ by_kind (base_in m) (its_turn m t) t.barrier its_name its_args
      ∙ ap (goal_by (base_in m) (its_turn m t) t.barrier its_name its_args) (ap (goal_kind its_name) (count-seen m.atoms m.state.store c.first.at c.count) ∙ h.kind)
      ∙ g

  -- and one whose kind gives it wherever it stands
  pub gives_error : (k : GoalKind) (e : Term) → Calls m t c (Some k) → ((w : Turn) (b : ℕ) → goal_by (base_in m) w b its_name its_args (Some k) ≡ Err e) → GivesError m t e
  gives_error k e h g = gives_here k e h (g (its_turn m t) t.barrier)

  -- one that enters the goal of a place, which is refused
  pub refused : (k : GoalKind) (at : Ref) (why : Cause) (new : Contents) → Calls m t c (Some k) → at.at < length m.state.store.cells
      → ((e : Term) → enter (seen m.atoms m.state.store at.at) ≡ Err e → (w : Turn) (b : ℕ) → goal_by (base_in m) w b its_name its_args (Some k) ≡ Err e)
      → Enters m.atoms m.state.store at (Refused why) new → IsCause m t why
  refused k at cause.Unbound new h lt g r = record { culprit = tt; stands = tt; gives = gives_error k _ h (g _ r.is) }
  refused k at (cause.NotCallable culprit) new h lt g r =
      subst (λ (p : Ref). IsCause m t (cause.NotCallable p)) (sym r.0) (record { culprit = lt; stands = tt; gives = gives_error k _ h (g _ r.1.is) })
  refused k at _ new h lt g r = absurd r

  first_within : 1 ≤ c.count → c.first.at + c.count ≤ length m.state.store.cells → c.first.at < length m.state.store.cells
  first_within le within = omega arith

  -- where the argument is refused, so is the goal
  through : {A : Type 0} (f : Term → Checked A) (x y e : Term) → x ≡ y → enter y ≡ Err e → (enter x >>= f) ≡ Err e
  through f x y e same r = ap (λ z. enter z >>= f) same ∙ ap (λ z. z >>= f) r

  -- `\+` and `once`
  pub not_provable_refused : (why : Cause) (new : Contents) → Calls m t c (Some (Control control.NotProvable)) → Enters m.atoms m.state.store c.first (Refused why) new → IsCause m t why
  not_provable_refused why new h r =
      let le = fewest-fits its_name c.count (Control control.NotProvable) h.kind in
      let is = first_arg m.atoms m.state.store c.first.at c.count le in
      refused (Control control.NotProvable) c.first why new h (first_within le h.call.within)
      (λ e x w b. through _ (arg 0 its_args) (seen m.atoms m.state.store c.first.at) e is x) r

  pub once_refused : (why : Cause) (new : Contents) → Calls m t c (Some (Control control.Once)) → Enters m.atoms m.state.store c.first (Refused why) new → IsCause m t why
  once_refused why new h r =
      let le = fewest-fits its_name c.count (Control control.Once) h.kind in
      let is = first_arg m.atoms m.state.store c.first.at c.count le in
      refused (Control control.Once) c.first why new h (first_within le h.call.within)
      (λ e x w b. through _ (arg 0 its_args) (seen m.atoms m.state.store c.first.at) e is x) r

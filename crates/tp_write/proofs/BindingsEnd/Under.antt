-- The term of a place under bindings: where they fit the cells, all are followed, and the term is the same as under any
-- replacement that agrees with the bindings.
use Rattle.std.proofs.Common.{◌≡◌, ℕ, zero, suc, List, length, Option, Some, None, true, refl, sym, ap, ◌∙◌}
use Rattle.tp_terms.specs.declared.cells.Cell.{Cell}
use Rattle.tp_terms.specs.declared.cells.Ref.{Ref}
use Rattle.tp_terms.specs.Term.{Name, Term, Var, Comp, More, occurs, replaced, all_replaced}
use Rattle.tp_terms.specs.Shown.{shows, args_at}
use Rattle.tp_terms.specs.Binds.{Bindings, bound_in, Fits}
use Rattle.tp_terms.proofs.Places.Bound.{occurs-shows}
use Rattle.tp_write.specs.Under.{step_of, stepped, followed, under}
use Rattle.tp_write.specs.Work.{unders}
use Rattle.tp_write.proofs.BindingsEnd.Times.{times, times-each, times-unbound, times-bound, settled-stays, settles-all, Follows, replaced-agree, replaced-twice}

-- one step of the bindings at a variable
abbrev pub step_at : List Name → Bindings → List Cell → ℕ → Term
step_at names bindings cells v = step_of names cells v (bound_in bindings v)

step-bound : (names : List Name) (bindings : Bindings) (cells : List Cell) (v : ℕ) (place : Ref) → bound_in bindings v ≡ Some place → step_at names bindings cells v ≡ shows names cells place.at
step-bound names bindings cells v place e = ap (step_of names cells v) e

step-unbound : (names : List Name) (bindings : Bindings) (cells : List Cell) (v : ℕ) → bound_in bindings v ≡ None → step_at names bindings cells v ≡ Var v
step-unbound names bindings cells v e = ap (step_of names cells v) e

follows : (names : List Name) (bindings : Bindings) (cells : List Cell) → Follows bindings cells (step_at names bindings cells)
follows names bindings cells = record {
  free = step-unbound names bindings cells;
  leads = λ v place w e o. sym (occurs-shows names cells place.at w) ∙ sym (ap (occurs w) (step-bound names bindings cells v place e)) ∙ o;
}

followed-times : (names : List Name) (bindings : Bindings) (cells : List Cell) (n : ℕ) (t : Term) → followed names bindings cells n t ≡ times (step_at names bindings cells) n t
unfolding followed times
followed-times names bindings cells zero t = refl
followed-times names bindings cells (suc n) t = followed-times names bindings cells n (stepped names bindings cells t)

-- what a variable stands for in the end
unfoldable pub end_of : List Name → Bindings → List Cell → ℕ → Term
end_of names bindings cells v = times (step_at names bindings cells) (length bindings) (Var v)

under-times : (names : List Name) (bindings : Bindings) (cells : List Cell) (at : ℕ) → under names bindings cells at ≡ times (step_at names bindings cells) (length bindings) (shows names cells at)
unfolding under
under-times names bindings cells at = followed-times names bindings cells (length bindings) (shows names cells at)

-- the term of a place under bindings: each of its variables replaced by what it stands for in the end
pub under-each : (names : List Name) (bindings : Bindings) (cells : List Cell) (at : ℕ) → under names bindings cells at ≡ replaced (end_of names bindings cells) (shows names cells at)
unfolding end_of
under-each names bindings cells at =
    under-times names bindings cells at ∙ times-each (step_at names bindings cells) (length bindings) (shows names cells at)

unders-each : (names : List Name) (bindings : Bindings) (cells : List Cell) (first n : ℕ) → unders names bindings cells first n ≡ all_replaced (end_of names bindings cells) (args_at names cells first n)
unders-each names bindings cells first zero = refl
unders-each names bindings cells first (suc n) =
    ap (λ t. More t (unders names bindings cells (suc first) n)) (under-each names bindings cells first)
    ∙ ap (More (replaced (end_of names bindings cells) (shows names cells first))) (unders-each names bindings cells (suc first) n)

module _ (names : List Name) (bindings : Bindings) (cells : List Cell) (fits : Fits bindings cells) where
  -- following once more changes nothing
  pub under-stays : (at : ℕ) → stepped names bindings cells (under names bindings cells at) ≡ under names bindings cells at
  under-stays at =
      ap (stepped names bindings cells) (under-times names bindings cells at)
      ∙ settled-stays bindings cells (step_at names bindings cells) fits (follows names bindings cells)
      (times (step_at names bindings cells) (length bindings) (shows names cells at)) (step_at names bindings cells)
      (step-unbound names bindings cells)
      (settles-all bindings cells (step_at names bindings cells) fits (follows names bindings cells) (shows names cells at))
      ∙ sym (under-times names bindings cells at)

  -- no variable of it is bound
  pub under-unbound : (at w : ℕ) → occurs w (under names bindings cells at) ≡ true → bound_in bindings w ≡ None
  under-unbound at w o =
      (settles-all bindings cells (step_at names bindings cells) fits (follows names bindings cells) (shows names cells at)).unbound w
      (ap (occurs w) (sym (under-times names bindings cells at)) ∙ o)

  -- a place that shows an unbound variable
  pub under-free : (at v : ℕ) → shows names cells at ≡ Var v → bound_in bindings v ≡ None → under names bindings cells at ≡ Var v
  under-free at v e free =
      under-times names bindings cells at
      ∙ ap (times (step_at names bindings cells) (length bindings)) e
      ∙ times-unbound bindings cells (step_at names bindings cells) fits (follows names bindings cells) v free

  -- a place that shows a bound one
  pub under-bound : (at v : ℕ) (place : Ref) → shows names cells at ≡ Var v → bound_in bindings v ≡ Some place → under names bindings cells at ≡ under names bindings cells place.at
  under-bound at v place e bound =
      under-times names bindings cells at
      ∙ ap (times (step_at names bindings cells) (length bindings)) e
      ∙ times-bound bindings cells (step_at names bindings cells) fits (follows names bindings cells) v
      ∙ ap (times (step_at names bindings cells) (length bindings)) (step-bound names bindings cells v place bound)
      ∙ sym (under-times names bindings cells place.at)

  -- a place that shows another term
  pub under-other : (at : ℕ) (t : Term) → shows names cells at ≡ t → under names bindings cells at ≡ replaced (end_of names bindings cells) t
  under-other at t e = under-each names bindings cells at ∙ ap (replaced (end_of names bindings cells)) e

  -- a compound's arguments under the bindings are the compound's
  pub under-compound : (at : ℕ) (f : Name) (first n : ℕ) → shows names cells at ≡ Comp f (args_at names cells first n) → under names bindings cells at ≡ Comp f (unders names bindings cells first n)
  under-compound at f first n e =
      under-other at (Comp f (args_at names cells first n)) e ∙ ap (Comp f) (sym (unders-each names bindings cells first n))

  -- a replacement that gives each bound variable what its place shows under it, and leaves the others alone
  pub record Agrees (s : ℕ → Term) : Type 0 where
    pub bound : (v : ℕ) (place : Ref) → bound_in bindings v ≡ Some place → s v ≡ replaced s (shows names cells place.at)
    pub unbound : (v : ℕ) → bound_in bindings v ≡ None → s v ≡ Var v

  agrees-step : (s : ℕ → Term) → Agrees s → (v : ℕ) → replaced s (step_at names bindings cells v) ≡ s v
  agrees-step s a v = by (bound_in bindings v) refl
    where
      by : (b : Option Ref) → bound_in bindings v ≡ b → replaced s (step_at names bindings cells v) ≡ s v
      by None e = ap (replaced s) (step-unbound names bindings cells v e)
      by (Some place) e = ap (replaced s) (step-bound names bindings cells v place e) ∙ sym (a.bound v place e)

  agrees-times : (s : ℕ → Term) → Agrees s → (n : ℕ) (t : Term) → replaced s (times (step_at names bindings cells) n t) ≡ replaced s t
  unfolding times
  agrees-times s a zero t = refl
  agrees-times s a (suc n) t =
      agrees-times s a n (replaced (step_at names bindings cells) t)
      ∙ replaced-twice s (step_at names bindings cells) t
      ∙ replaced-agree (λ v. replaced s (step_at names bindings cells v)) s t (λ v o. agrees-step s a v)

  -- the term of a place under the bindings is the term under that replacement
  pub under-agrees : (s : ℕ → Term) → Agrees s → (at : ℕ) → under names bindings cells at ≡ replaced s (shows names cells at)
  under-agrees s a at =
      under-times names bindings cells at
      ∙ sym (settled-stays bindings cells (step_at names bindings cells) fits (follows names bindings cells)
      (times (step_at names bindings cells) (length bindings) (shows names cells at)) s a.unbound
      (settles-all bindings cells (step_at names bindings cells) fits (follows names bindings cells) (shows names cells at)))
      ∙ agrees-times s a (length bindings) (shows names cells at)

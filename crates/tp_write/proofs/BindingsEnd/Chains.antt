-- A chain of bindings comes to an end.
use Rattle.std.proofs.Common.{◌≡◌, ℕ, ◌<◌, true, ◌||◌, List, [], length, Bool, false, Option, Some, None, slice_get, refl, sym, ap, ◌∙◌, arith}
use Rattle.std.proofs.lemmas.Option.{slice_get_within}
use Rattle.tp_terms.specs.declared.cells.Cell.{Cell}
use Rattle.tp_terms.specs.declared.cells.Cell.TheVariants as cell
use Rattle.tp_terms.specs.declared.cells.Ref.{Ref}
use Rattle.tp_terms.specs.Term.{Name, Term, Var, Comp, NoMore, More, occurs, replaced, term_size}
use Rattle.tp_terms.specs.Shown.{shows, shown_from, StandsBefore}
use Rattle.tp_terms.specs.Binds.{Bindings, bound_in, Fits}
use Rattle.tp_terms.proofs.Places.Shown.{shows-cell, AreNamed-cell}
use Rattle.tp_write.specs.declared.pieces.End.{End}
use Rattle.tp_write.specs.Under.{under}
use Rattle.tp_write.specs.Work.{cell_term, next_of, Ends}
use Rattle.tp_write.proofs.BindingsEnd.Times.{times, times-each, times-bound, Follows}
use Rattle.tp_write.proofs.BindingsEnd.Under.{under-free, under-bound, under-other, under-compound}

-- a bound variable stands for what its place shows, wrapped in one more compound
abbrev wrapped_at : List Cell → ℕ → Option Ref → Term
wrapped_at cells v None = Var v
wrapped_at cells v (Some place) = Comp [] (More (shows [] cells place.at) NoMore)

abbrev pub wrapped : Bindings → List Cell → ℕ → Term
wrapped bindings cells v = wrapped_at cells v (bound_in bindings v)

wrapped-bound : (bindings : Bindings) (cells : List Cell) (v : ℕ) (place : Ref) → bound_in bindings v ≡ Some place → wrapped bindings cells v ≡ Comp [] (More (shows [] cells place.at) NoMore)
wrapped-bound bindings cells v place e = ap (wrapped_at cells v) e

follows-wrapped : (bindings : Bindings) (cells : List Cell) → Follows bindings cells (wrapped bindings cells)
follows-wrapped bindings cells = record {
  free = λ v e. ap (wrapped_at cells v) e;
  leads = λ v place w e o. by (occurs w (shows [] cells place.at)) (sym (ap (occurs w) (wrapped-bound bindings cells v place e)) ∙ o);
}
  where
    by : (b : Bool) → (b || false) ≡ true → b ≡ true
    by true e = refl
    by false e = e

-- how long the chain from a variable can still be
unfoldable pub reach : Bindings → List Cell → Term → ℕ
reach bindings cells t = term_size (times (wrapped bindings cells) (length bindings) t)

-- and from a cell
abbrev pub cell_reach : Bindings → List Cell → Cell → ℕ
cell_reach bindings cells (cell.Var v) = reach bindings cells (Var v)
cell_reach bindings cells (cell.Int value) = 0
cell_reach bindings cells (cell.Atom name) = 0
cell_reach bindings cells (cell.Comp name first count) = 0

module _ (bindings : Bindings) (cells : List Cell) (fits : Fits bindings cells) where
  reach-bound : (v : ℕ) (place : Ref) → bound_in bindings v ≡ Some place → reach bindings cells (shows [] cells place.at) < reach bindings cells (Var v)
  unfolding reach
  reach-bound v place e =
      let s : ℕ → Term = wrapped bindings cells in
      let n : ℕ = length bindings in
      let t : Term = shows [] cells place.at in
      let whole : times s n (Var v) ≡ Comp [] (More (replaced (λ u. times s n (Var u)) t) NoMore) =
      times-bound bindings cells s fits (follows-wrapped bindings cells) v
      ∙ ap (times s n) (wrapped-bound bindings cells v place e)
      ∙ times-each s n (Comp [] (More t NoMore)) in
      let inside : times s n t ≡ replaced (λ u. times s n (Var u)) t = times-each s n t in
      let a = ap term_size whole in
      let b = ap term_size inside in
      omega arith

  -- the next cell of a chain has less to go
  pub reach-less : (v : ℕ) (place : Ref) (next : Cell) → bound_in bindings v ≡ Some place → slice_get cells place.at ≡ Some next → StandsBefore place.at next → cell_reach bindings cells next < cell_reach bindings cells (cell.Var v)
  reach-less v place next e at before = by next (reach-bound v place e) (shows-cell [] cells place.at next at before)
    where
      by : (c : Cell) → reach bindings cells (shows [] cells place.at) < reach bindings cells (Var v) → shows [] cells place.at ≡ shown_from [] cells c → cell_reach bindings cells c < reach bindings cells (Var v)
      by (cell.Var w) h s = let k = ap (reach bindings cells) s in omega arith
      by (cell.Int value) h s = omega arith
      by (cell.Atom name) h s = omega arith
      by (cell.Comp name first count) h s = omega arith

  -- a place whose cell is no bound variable
  pub ends-here : (at : ℕ) (end : End) → slice_get cells end.place.at ≡ Some end.cell → StandsBefore end.place.at end.cell → ((v : ℕ) → end.cell ≡ cell.Var v → bound_in bindings v ≡ None) → ((names : List Name) → under names bindings cells at ≡ under names bindings cells end.place.at) → Ends bindings cells at end
  ends-here at end stands before free same = record {
    place = slice_get_within cells end.place.at end.cell stands;
    before = before;
    named = λ n h. AreNamed-cell n cells end.place.at end.cell h stands;
    same = λ names. same names ∙ by names end.cell refl;
    last = λ names. by names end.cell refl;
  }
    where
      shown : (names : List Name) (c : Cell) → end.cell ≡ c → shows names cells end.place.at ≡ shown_from names cells c
      shown names c e = shows-cell names cells end.place.at end.cell stands before ∙ ap (shown_from names cells) e

      by : (names : List Name) (c : Cell) → end.cell ≡ c → under names bindings cells end.place.at ≡ cell_term names bindings cells end.cell
      by names (cell.Var v) e = under-free names bindings cells fits end.place.at v (shown names (cell.Var v) e) (free v e) ∙ sym (ap (cell_term names bindings cells) e)
      by names (cell.Int value) e = under-other names bindings cells fits end.place.at _ (shown names (cell.Int value) e) ∙ sym (ap (cell_term names bindings cells) e)
      by names (cell.Atom name) e = under-other names bindings cells fits end.place.at _ (shown names (cell.Atom name) e) ∙ sym (ap (cell_term names bindings cells) e)
      by names (cell.Comp name first count) e = under-compound names bindings cells fits end.place.at _ first.at count (shown names (cell.Comp name first count) e) ∙ sym (ap (cell_term names bindings cells) e)

  -- from a bound variable to its place
  pub goes_on : (at place : ℕ) (v : ℕ) (next : Ref) → slice_get cells place ≡ Some (cell.Var v) → bound_in bindings v ≡ Some next → ((names : List Name) → under names bindings cells at ≡ under names bindings cells place) → (names : List Name) → under names bindings cells at ≡ under names bindings cells next.at
  goes_on at place v next stands e same names = same names ∙ under-bound names bindings cells fits place v next (shows-cell names cells place (cell.Var v) stands tt) e

  -- the same by cells
  pub reach-step : (c d : Cell) (next : Ref) → Some next ≡ next_of bindings c → slice_get cells next.at ≡ Some d → StandsBefore next.at d → cell_reach bindings cells d < cell_reach bindings cells c
  reach-step (cell.Var v) d next e at before = reach-less v next d (sym e) at before
  reach-step (cell.Int value) d next e at before = absurd (cc)
  reach-step (cell.Atom name) d next e at before = absurd (cc)
  reach-step (cell.Comp name first count) d next e at before = absurd (cc)

  -- a bound variable's place shows the same under the bindings as the place that it leads to
  pub under-step : (at place : ℕ) (c : Cell) (next : Ref) → slice_get cells place ≡ Some c → Some next ≡ next_of bindings c → ((names : List Name) → under names bindings cells at ≡ under names bindings cells place) → (names : List Name) → under names bindings cells at ≡ under names bindings cells next.at
  under-step at place (cell.Var v) next stands e same = goes_on at place v next stands (sym e) same
  under-step at place (cell.Int value) next stands e same = absurd (cc)
  under-step at place (cell.Atom name) next stands e same = absurd (cc)
  under-step at place (cell.Comp name first count) next stands e same = absurd (cc)

  -- a place whose cell leads no further is the end of the chain
  pub ends-at : (at : ℕ) (place : Ref) (c : Cell) → slice_get cells place.at ≡ Some c → StandsBefore place.at c → None ≡ next_of bindings c → ((names : List Name) → under names bindings cells at ≡ under names bindings cells place.at) → Ends bindings cells at (record { place = place; cell = c })
  ends-at at place c stands before e same =
      ends-here at (record { place = place; cell = c }) stands before (λ v is. sym (e ∙ ap (next_of bindings) is)) same

-- A number that is placed and made equal to a term, and a goal that counts on.
use Rattle.std.proofs.Common.{◌≡◌, ℕ, suc, ◌+◌, ◌<◌, Bool, List, [], ◌∷◌, ◌++◌, length, ℤ, pos, refl, ap, sym, subst, ◌∙◌, arith, length-append}
use Rattle.std.specs.Prelude.{◌+ℤ◌}
use Rattle.tp_terms.specs.declared.cells.Cell.{Cell}
use Rattle.tp_terms.specs.declared.cells.Cell.TheVariants as cell
use Rattle.tp_terms.specs.declared.cells.Ref.{Ref}
use Rattle.tp_terms.specs.Names.{IsTable}
use Rattle.tp_terms.specs.Shown.{name_at, shows, shown_from, AreNamed, IsNamed, StandsBefore}
use Rattle.tp_terms.specs.Term.{Name, Int, Comp, NoMore, More}
use Rattle.tp_terms.proofs.Places.Shown.{AreNamed-push, shown_from-append}
use Rattle.tp_log.specs.declared.entry.Entry.{Entry}
use Rattle.tp_meaning.specs.Subst.{mgu}
use Rattle.tp_store.specs.Contents.{Contents, FindsUnifier, IsStore, Keeps, Names, subst_of, with_cell}
use Rattle.tp_store.specs.Logged.{Logs}
use Rattle.tp_state.specs.Going.{StoreGrows}
use Rattle.tp_machine.specs.declared.numbers.Bounds.{Bounds}
use Rattle.tp_machine.specs.declared.task.Call.{Call}
use Rattle.tp_machine.specs.Between.{Equals, next_term}
use Rattle.tp_machine.specs.Built.{Built}
use Rattle.tp_machine.proofs.Meets.HeadsMet.{was_found}
use Rattle.tp_machine.proofs.Gives.Raised.{before-longer, built, shows-at, with_cells}

-- ---- a number, and a term that was made equal to it

module _ (old mid new : Contents) (number : ℤ) (placed : mid ≡ with_cell old (cell.Int number)) (keeps : Keeps old mid) (before after : List Entry) (logged : Logs mid new before after) where
  mid_cells : mid.cells ≡ old.cells ++ cell.Int number ∷ []
  mid_cells = ap (λ (c : Contents). c.cells) placed

  pub mid_longer : length mid.cells ≡ length old.cells + 1
  mid_longer = ap length mid_cells ∙ length-append old.cells (cell.Int number ∷ [])

  new_cells : new.cells ≡ old.cells ++ cell.Int number ∷ []
  new_cells = logged.cells ∙ mid_cells

  pub number_grows : StoreGrows old new before after
  number_grows = record {
    more_cells = cell.Int number ∷ [];
    more = logged.more;
    cells = new_cells;
    pairs = logged.pairs ∙ ap (λ (c : Contents). logged.more ++ c.pairs) placed;
    vars = omega (arith, logged.vars, ap (λ (c : Contents). c.vars) placed);
    log = logged.log;
  }

  pub number_named : (k : ℕ) → AreNamed k old.cells → AreNamed k mid.cells
  number_named k h = subst (AreNamed k) (sym mid_cells) (AreNamed-push k old.cells (cell.Int number) h tt)

  pub number_equals : (names : List Name) (place other : Ref) (met : Bool) → Names names old.cells → place.at < length old.cells → other.at ≡ length old.cells → FindsUnifier mid new place other met → Equals names place.at (Int number) old new
  number_equals names place other met h lt at found = record {
    unified = λ some. was_found met (subst_of names new) (mgu (subst_of names old) (shows names old.cells place.at) (Int number))
        (sym (ap (λ s. mgu s (shows names mid.cells place.at) (shows names mid.cells other.at)) (keeps.bindings names)
        ∙ ap (λ x. mgu (subst_of names old) x (shows names mid.cells other.at)) (keeps.terms names place.at lt)
        ∙ ap (mgu (subst_of names old) (shows names old.cells place.at)) shown)
        ∙ found names (record { distinct = h.distinct; named = number_named (length names) h.named }))
        some;
    vars = logged.vars ∙ ap (λ (c : Contents). c.vars) placed;
    longer = omega (arith, ap length logged.cells, mid_longer);
    kept = λ k l. ap (λ cs. shows names cs k) logged.cells ∙ keeps.terms names k l;
    atoms = subst (AreNamed (length names)) (sym logged.cells) (number_named (length names) h.named);
  }
    where
      shown : shows names mid.cells other.at ≡ Int number
      shown = ap (λ cs. shows names cs other.at) mid_cells ∙ shows-at names old.cells (cell.Int number ∷ []) 0 other.at (cell.Int number) (omega (arith, at)) refl tt

-- ---- a goal that counts on

abbrev pub next_cells : Call → Bounds → Cell → Ref → List Cell
next_cells c b x first = cell.Int (b.low +ℤ pos 1) ∷ cell.Int b.high ∷ x ∷ cell.Comp c.name first 3 ∷ []

pub next_built : (names : List Name) → IsTable names → (old new : Contents) → Keeps old new → IsStore new → AreNamed (length names) old.cells → (c : Call) (b : Bounds) (x : Cell) (first at : Ref) → c.name.at < length names → StandsBefore (length old.cells) x → IsNamed (length names) x → shown_from names old.cells x ≡ shows names old.cells (c.first.at + 2)
    → first.at ≡ length old.cells → at.at ≡ length old.cells + 3 → new ≡ with_cells old (next_cells c b x first) → Built names old new at.at (next_term names old c b)
next_built names table old new keeps store named c b x first at within before atoms is place last e =
    let ds = next_cells c b x first in
    let cs = old.cells ++ ds in
    let f = name_at names c.name.at in
    let third = shows names old.cells (c.first.at + 2) in
    built names table old new keeps store named ds at.at (next_term names old c b) e (tt, (tt, (atoms, (within, tt)))) (omega (arith, last))
    (shows-at names old.cells ds 3 at.at (cell.Comp c.name first 3) last refl (omega arith, omega (arith, place, last))
    ∙ ap (λ t. Comp f (More t (More (shows names cs (suc first.at)) (More (shows names cs (suc (suc first.at))) NoMore)))) (shows-at names old.cells ds 0 first.at (cell.Int (b.low +ℤ pos 1)) (omega (arith, place)) refl tt)
    ∙ ap (λ t. Comp f (More (Int (b.low +ℤ pos 1)) (More t (More (shows names cs (suc (suc first.at))) NoMore)))) (shows-at names old.cells ds 1 (suc first.at) (cell.Int b.high) (omega (arith, place)) refl tt)
    ∙ ap (λ t. Comp f (More (Int (b.low +ℤ pos 1)) (More (Int b.high) (More t NoMore))))
    (shows-at names old.cells ds 2 (suc (suc first.at)) x (omega (arith, place)) refl (before-longer (length old.cells) (suc (suc first.at)) x (omega (arith, place)) before) ∙ shown_from-append names old.cells ds x before ∙ is))

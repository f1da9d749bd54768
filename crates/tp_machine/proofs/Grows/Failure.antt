-- A store with `fail` at its end.
use Rattle.std.proofs.Common.{◌≡◌, ◌+◌, ◌<◌, List, [], ◌∷◌, ◌++◌, length, Some, refl, ap, sym, subst, ◌∙◌, arith, length-append, codes}
use Rattle.tp_terms.specs.declared.cells.Cell.TheVariants as cell
use Rattle.tp_terms.specs.declared.cells.Ref.{Ref}
use Rattle.tp_terms.specs.declared.symbols.TheConstants.{FAIL}
use Rattle.tp_terms.specs.StartNames.{start_names}
use Rattle.tp_terms.specs.Term.{Name, Atom}
use Rattle.tp_terms.specs.Names.{IsTable}
use Rattle.tp_terms.specs.Shown.{AreNamed, name_at, shows}
use Rattle.tp_terms.proofs.Places.Shown.{AreNamed-push}
use Rattle.tp_terms.proofs.Naming.Start.{start-name_at, start-within}
use Rattle.tp_meaning.specs.declared.goals.GoalKind.TheVariants.{Control}
use Rattle.tp_meaning.specs.declared.goals.ControlGoal.TheVariants.{NotProvable}
use Rattle.tp_meaning.specs.Subst.{apply}
use Rattle.tp_meaning.specs.Body.{enter}
use Rattle.tp_meaning.proofs.OwnGoals.Counts.{fewest-fits}
use Rattle.tp_store.specs.Contents.{Contents, AddsCells, IsStore, Keeps, subst_of, with_cell}
use Rattle.tp_machine.specs.declared.machine.Machine.{Machine}
use Rattle.tp_machine.specs.declared.task.Task.{Task}
use Rattle.tp_machine.specs.declared.task.Call.{Call}
use Rattle.tp_machine.specs.Machine.{IsMachine}
use Rattle.tp_machine.specs.Chooses.{HasFailure}
use Rattle.tp_machine.specs.Enters.{FirstStands}
use Rattle.tp_machine.proofs.Gives.Raised.{shows-at}
use Rattle.tp_machine.proofs.Grows.Grown.{calls_still, seen_still}

pub failure_adds : (c new : Contents) → new ≡ with_cell c (cell.Atom FAIL) → AddsCells c new
failure_adds c new e = record {
  more = cell.Atom FAIL ∷ [];
  cells = ap (λ (x : Contents). x.cells) e;
  pairs = ap (λ (x : Contents). x.pairs) e;
  vars = ap (λ (x : Contents). x.vars) e;
}

pub failure_named : (m : Machine) (new : Contents) → IsMachine m → new ≡ with_cell m.state.store (cell.Atom FAIL) → AreNamed (length m.atoms) new.cells
failure_named m new is e =
    subst (λ (x : Contents). AreNamed (length m.atoms) x.cells) (sym e)
    (AreNamed-push (length m.atoms) m.state.store.cells (cell.Atom FAIL) is.stands.atoms (start-within m.atoms is.program.table 4 (omega arith)))

is_fail : (names : List Name) → IsTable names → name_at names 4 ≡ codes "fail"
unfolding start_names
is_fail names table = start-name_at names table 4 (codes "fail") refl

pub failure_is : (m : Machine) (new : Contents) (place : Ref) → IsMachine m → new ≡ with_cell m.state.store (cell.Atom FAIL) → place.at ≡ length m.state.store.cells → IsStore new → HasFailure (record m { state = record m.state { store = new } }) place
failure_is m new place is e at store =
    let cs = m.state.store.cells in
    let same : new.cells ≡ cs ++ cell.Atom FAIL ∷ [] = ap (λ (x : Contents). x.cells) e in
    let shown : shows m.atoms (cs ++ cell.Atom FAIL ∷ []) place.at ≡ Atom (name_at m.atoms 4) = shows-at m.atoms cs (cell.Atom FAIL ∷ []) 0 place.at (cell.Atom FAIL) (omega (arith, at)) refl tt in
    record {
      within = omega (arith, at, ap length same, length-append cs (cell.Atom FAIL ∷ []));
      is = ap (λ xs. apply (subst_of m.atoms new) (shows m.atoms xs place.at)) same ∙ ap (apply (subst_of m.atoms new)) shown ∙ ap Atom (is_fail m.atoms is.program.table);
    }

-- the goal that was entered stands where it stood
pub stands_still : (m : Machine) (new : Contents) (t : Task) (c : Call) (place : Ref) → IsMachine m → new ≡ with_cell m.state.store (cell.Atom FAIL) → Keeps m.state.store new → IsStore new → FirstStands m t c NotProvable place → FirstStands (record m { state = record m.state { store = new } }) t c NotProvable place
stands_still m new t c place is e keeps store h =
    let adds = failure_adds m.state.store new e in
    let named = failure_named m new is e in
    let least = fewest-fits (name_at m.atoms c.name.at) c.count (Control NotProvable) h.calls.kind in
    let within = h.calls.call.within in
    let first : c.first.at < length m.state.store.cells = omega arith in
    record {
      calls = calls_still m new is adds keeps store named t c (Some (Control NotProvable)) h.calls;
      is = ap enter (seen_still m new is adds keeps store named c.first.at first) ∙ h.is ∙ ap (λ x. Rattle.std.proofs.Common.Ok x) (sym (seen_still m new is adds keeps store named place.at h.within));
      within = omega (arith, h.within, ap length adds.cells, length-append m.state.store.cells adds.more);
    }

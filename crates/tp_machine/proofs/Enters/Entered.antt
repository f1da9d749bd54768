-- Goals that are entered at run time.
use Rattle.std.proofs.Common.{◌≡◌, ℕ, ◌<◌, List, [], length, Some, refl, ap, sym, ◌∙◌, arith}
use Rattle.std.proofs.lemmas.List.{append-nil}
use Rattle.tp_terms.specs.declared.cells.Ref.{Ref}
use Rattle.tp_terms.specs.declared.symbols.TheConstants.{CALL}
use Rattle.tp_terms.specs.Names.{IsTable}
use Rattle.tp_terms.specs.Shown.{AreNamed}
use Rattle.tp_terms.proofs.Naming.Start.{start-within}
use Rattle.tp_terms.specs.Term.{Name, Term, Var, Int, Atom, Comp}
use Rattle.tp_meaning.specs.Body.{body, enter, entered_as}
use Rattle.tp_meaning.specs.Checks.{unbound}
use Rattle.tp_store.specs.Contents.{Contents, AddsCells, Keeps, seen}
use Rattle.tp_store.specs.Bodies.{KeepsNames}
use Rattle.tp_state.specs.declared.state.State.{State}
use Rattle.tp_state.specs.Going.{Follows}
use Rattle.tp_state.specs.State.{held_of}
use Rattle.tp_state.proofs.GoingBack.Bindings.{store-follows}
use Rattle.tp_machine.specs.Enters.{HasEntered, IsRefused}

-- a goal that is bound is entered as its body
entered-by : (t : Term) → ((v : ℕ) → t ≡ Var v → ⊥) → enter t ≡ entered_as t (body t)
entered-by (Var v) h = absurd (h v refl)
entered-by (Int z) h = refl
entered-by (Atom a) h = refl
entered-by (Comp f ts) h = refl

-- a variable is refused
pub refuses_unbound : (names : List Name) (c : Contents) (goal : Ref) (v : ℕ) → seen names c goal.at ≡ Var v → IsRefused names c goal unbound c
refuses_unbound names c goal v e = record { is = ap enter e; same = refl }

module _ (names : List Name) (old new : Contents) (goal : Ref) (bound : (v : ℕ) → seen names old goal.at ≡ Var v → ⊥) where
  -- a goal with a body is entered
  pub enters_body : (place : Ref) → Some (seen names new place.at) ≡ body (seen names old goal.at) → place.at < length new.cells → AddsCells old new → Keeps old new → AreNamed (length names) new.cells → HasEntered names old goal place new
  enters_body place e within adds keeps named = record {
    is = entered-by (seen names old goal.at) bound ∙ ap (entered_as (seen names old goal.at)) (sym e);
    within = within;
    adds = adds;
    keeps = keeps;
    named = named;
  }

-- a table has the name of the cell that calls a variable
pub body_names : (names : List Name) (old new : Contents) → IsTable names → AreNamed (length names) old.cells → KeepsNames CALL old new → AreNamed (length names) new.cells
body_names names old new table named more = more (length names) (start-within names table CALL.at (omega arith)) named

-- a state whose store has further cells follows
pub cells-follow : (s : State) (c : Contents) → AddsCells s.store c → Follows (held_of s) (held_of (record s { store = c }))
cells-follow s c a = store-follows (held_of s) c s.log (record {
  more_cells = a.more;
  more = [];
  cells = a.cells;
  pairs = a.pairs;
  vars = omega (arith, a.vars);
  log = sym (append-nil s.log);
})

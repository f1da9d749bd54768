-- What becomes of a state whose goal is tried with the head of a clause.
use Rattle.std.specs.Prelude.{◌≡◌, Bool, true, false, List, length, Option}
use Rattle.tp_terms.specs.declared.cells.Cell.{Cell}
use Rattle.tp_terms.specs.declared.cells.Ref.{Ref}
use Rattle.tp_terms.specs.Term.{Name}
use Rattle.tp_terms.specs.Shown.{AreNamed}
use Rattle.tp_store.specs.Contents.{IsStore, Names}
use Rattle.tp_clauses.specs.declared.base.ClauseView.{ClauseView}
use Rattle.tp_state.specs.declared.state.State.{State}
use Rattle.tp_state.specs.Acts.{with_store}
use Rattle.tp_state.specs.Going.{Follows}
use Rattle.tp_state.specs.State.{plain_of, held_of}
use Rattle.tp_machine.specs.declared.heads.Head.{Head}
use Rattle.tp_machine.specs.declared.heads.Head.TheVariants.{Apart, Met}
use Rattle.tp_machine.specs.Heads.{EntersClause}

abbrev pub is_met : Head → Bool
is_met Apart = false
is_met (Met body) = true

-- the clause was entered, and nothing but the store and the log changed
pub record MeetsHead (goal : Ref) (cells : List Cell) (clause : ClauseView) (old new : State)
    (body : Option Ref) : Type 0 where
  pub enters : (names : List Name) → Names names old.store.cells → AreNamed (length names) cells →
      EntersClause names goal.at cells clause old.store body new.store
  pub plain : plain_of new ≡ with_store new.store (plain_of old)
  pub follows : Follows (held_of old) (held_of new)
  pub store : IsStore new.store
  pub same : new ≡ record old { store = new.store; log = new.log }

-- The clause was entered, or nothing changed.
abbrev pub TriesHead : Ref → List Cell → ClauseView → State → State → Head → Type 0
TriesHead goal cells clause old new Apart = new ≡ old
TriesHead goal cells clause old new (Met body) = MeetsHead goal cells clause old new body

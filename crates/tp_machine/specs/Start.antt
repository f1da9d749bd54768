-- The contents at the start of a goal.
use Rattle.std.specs.Prelude.{◌≡◌, ◌<◌, List, [], length, Some}
use Rattle.tp_terms.specs.declared.cells.Ref.{Ref}
use Rattle.tp_terms.specs.Term.{Name}
use Rattle.tp_terms.specs.Shown.{shows, AreNamed}
use Rattle.tp_meaning.specs.Body.{body}
use Rattle.tp_store.specs.Contents.{Contents, IsStore}
use Rattle.tp_parse.specs.declared.read.ReadTerm.{ReadTerm}
use Rattle.tp_machine.specs.Program.{goal_term}
use Rattle.tp_state.specs.Plain.{Plain}
use Rattle.tp_state.specs.Start.{waiting_at}

-- a place for the body of a goal in a store that holds nothing else
pub record IsPlaced (names : List Name) (goal : ReadTerm) (place : Ref)
    (c : Contents) : Type 0 where
  pub store : IsStore c
  pub atoms : AreNamed (length names) c.cells
  pub within : place.at < length c.cells
  pub body : body (goal_term names goal) ≡ Some (shows names c.cells place.at)
  pub pairs : c.pairs ≡ []
  pub vars : c.vars ≡ goal.vars

-- the contents at the start of a goal
pub record IsStart (names : List Name) (goal : ReadTerm) (p : Plain) : Type 0 where
  pub store : Contents
  pub place : Ref
  pub is : p ≡ waiting_at store place
  pub placed : IsPlaced names goal place store

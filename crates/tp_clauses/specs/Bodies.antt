-- The body that is found for a place of a base's cells.
use Rattle.std.specs.Prelude.{◌≡◌, ◌<◌, List, length, Option, option_map, IfSome}
use Rattle.tp_terms.specs.declared.cells.Cell.{Cell}
use Rattle.tp_terms.specs.declared.cells.Ref.{Ref}
use Rattle.tp_terms.specs.Term.{Name}
use Rattle.tp_terms.specs.Names.{IsTable}
use Rattle.tp_terms.specs.Shown.{shows, AreNamed}
use Rattle.tp_meaning.specs.Body.{body}
use Rattle.tp_clauses.specs.Parts.{Longer}
use Rattle.tp_clauses.specs.declared.parts.Parts.{Parts}

-- under a table of names a place shows the body that another showed, before cells were added
pub record IsBodyOf (names : List Name) (old new : List Cell) (place : Ref)
    (found : Option Ref) : Type 0 where
  pub named : AreNamed (length names) new
  pub same : body (shows names old place.at) ≡ option_map (λ p. shows names new p.at) found

-- what is found as the body of a place, where it has one
pub record TellsBody (old new : Parts) (place : Ref) (found : Option Ref) : Type 0 where
  pub more : List Cell
  pub longer : Longer old new more
  pub within : IfSome found (λ p. p.at < length new.store.cells)
  pub shown : (names : List Name) → IsTable names → AreNamed (length names) old.store.cells →
      IsBodyOf names old.store.cells new.store.cells place found

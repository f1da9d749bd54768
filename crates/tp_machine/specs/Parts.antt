-- The parts of a condition.
use Rattle.std.specs.Prelude.{◌≡◌, ◌<◌, List, Option, Some, None, length}
use Rattle.tp_terms.specs.declared.cells.Ref.{Ref}
use Rattle.tp_terms.specs.Term.{Name}
use Rattle.tp_meaning.specs.Control.{parts}
use Rattle.tp_store.specs.Contents.{Contents, seen}

-- what the parts of a condition at a place are: none, or two places
abbrev pub HasParts : List Name → Contents → Ref → Option (Ref × Ref) → Type 0
HasParts names c goal None = parts (seen names c goal.at) ≡ None
HasParts names c goal (Some p) =
    (parts (seen names c goal.at) ≡ Some (seen names c p.0.at, seen names c p.1.at))
    × (p.0.at < length c.cells)
    × (p.1.at < length c.cells)

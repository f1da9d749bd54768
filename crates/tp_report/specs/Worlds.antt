-- The world that cells under bindings stand for, as far as it is printed.
use Rattle.std.specs.Prelude.{◌≡◌, ℕ, List, map, Some, None, ℤ}
use Rattle.tp_terms.specs.declared.cells.Ref.{Ref}
use Rattle.tp_terms.specs.declared.world.Event.{Event}
use Rattle.tp_terms.specs.Term.{Term, Var}
use Rattle.tp_terms.specs.Shown.{shows}
use Rattle.tp_terms.specs.Binds.{bound_in}
use Rattle.tp_meaning.specs.Subst.{value_at, apply}
use Rattle.tp_meaning.specs.World.{World}
use Rattle.tp_report.specs.Seen.{Seen, event_by, processes_seen}

-- the term of a place, seen under the world's substitution
abbrev pub term_in : World → Seen → ℕ → Term
term_in w s at = apply w.subst (shows s.names s.cells at)

-- The world's substitution gives a bound variable the term of its place, seen under it, and leaves
-- an unbound one alone. Its history, the names of its processes and its clock are these.
pub record StandsFor (s : Seen) (events : List Event) (clock : ℤ) (w : World) : Type 0 where
  pub bound : (v : ℕ) (place : Ref) → bound_in s.bindings v ≡ Some place →
      value_at w.subst v ≡ term_in w s place.at
  pub unbound : (v : ℕ) → bound_in s.bindings v ≡ None → value_at w.subst v ≡ Var v
  pub history : w.history ≡ map (event_by s.names (term_in w s)) events
  pub named : map (λ p. p.name) w.processes ≡ processes_seen s
  pub time : w.clock ≡ clock

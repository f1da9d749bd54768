-- What is printed of an answer in cells is what is printed of the world that they stand for.
use Rattle.std.proofs.Common.{◌≡◌, ℕ, List, [], ◌∷◌, map, Option, Some, None, ℤ, refl, sym, ap, ◌∙◌}
use Rattle.tp_terms.specs.declared.cells.Ref.{Ref}
use Rattle.tp_terms.specs.declared.text.Named.{Named}
use Rattle.tp_terms.specs.declared.world.Event.{Event}
use Rattle.tp_terms.specs.declared.world.EventKind.{EventKind}
use Rattle.tp_terms.specs.declared.world.EventKind.TheVariants as kind
use Rattle.tp_terms.specs.Term.{Name, Term}
use Rattle.tp_terms.specs.Binds.{bound_in, Fits}
use Rattle.tp_meaning.specs.Subst.{value_at}
use Rattle.tp_meaning.specs.World.{World}
use Rattle.tp_write.proofs.BindingsEnd.Under.{under-agrees}
use Rattle.tp_report.specs.Report.{answer_lines, answer_of, world_answer_text}
use Rattle.tp_report.specs.Seen.{Seen, term_seen, value_by, value_seen, variable_seen, kind_by, event_by, answer_seen}
use Rattle.tp_report.specs.Lines.{lines_seen}
use Rattle.tp_report.specs.Worlds.{term_in, StandsFor}

-- events depend on the terms of places alone
kind-agree : (names : List Name) (seen other : ℕ → Term) → ((at : ℕ) → seen at ≡ other at) → (k : EventKind) → kind_by names seen k ≡ kind_by names other k
kind-agree names seen other h (kind.New name start end) = refl
kind-agree names seen other h kind.Start = refl
kind-agree names seen other h (kind.Hold duration) = refl
kind-agree names seen other h (kind.Send message to) = rw (h message.at) refl
kind-agree names seen other h (kind.Take message) = rw (h message.at) refl
kind-agree names seen other h (kind.Note term) = rw (h term.at) refl
kind-agree names seen other h kind.End = refl

events-agree : (names : List Name) (seen other : ℕ → Term) → ((at : ℕ) → seen at ≡ other at) → (es : List Event) → map (event_by names seen) es ≡ map (event_by names other) es
events-agree names seen other h [] = refl
events-agree names seen other h (e ∷ es) =
    ap (λ k. record { time = e.time; process = e.pid; kind = k } ∷ map (event_by names seen) es) (kind-agree names seen other h e.kind)
    ∙ ap (λ more. event_by names other e ∷ more) (events-agree names seen other h es)

module _ (s : Seen) (fits : Fits s.bindings s.cells) (events : List Event) (clock : ℤ) (w : World) (stands : StandsFor s events clock w) where
  place-agree : (at : ℕ) → term_seen s at ≡ term_in w s at
  place-agree at = under-agrees s.names s.bindings s.cells fits (value_at w.subst) (record { bound = stands.bound; unbound = stands.unbound }) at

  value-agree : (v : ℕ) → value_seen s v ≡ value_at w.subst v
  value-agree v = by (bound_in s.bindings v) refl
    where
      by : (b : Option Ref) → bound_in s.bindings v ≡ b → value_by (term_seen s) v b ≡ value_at w.subst v
      by None e = sym (stands.unbound v e)
      by (Some place) e = place-agree place.at ∙ sym (stands.bound v place e)

  variables-agree : (named : List Named) → map (variable_seen s) named ≡ map (λ n. (n.name, value_at w.subst n.number)) named
  variables-agree [] = refl
  variables-agree (n ∷ ns) =
      ap (λ t. (n.name, t) ∷ map (variable_seen s) ns) (value-agree n.number)
      ∙ ap (λ more. (n.name, value_at w.subst n.number) ∷ more) (variables-agree ns)

  answer-agree : (number : ℕ) (named : List Named) (steps : ℕ) → answer_seen s number named events clock steps ≡ answer_of named number w steps
  answer-agree number named steps =
      let history : map (event_by s.names (term_seen s)) events ≡ w.history =
      events-agree s.names (term_seen s) (term_in w s) place-agree events ∙ sym stands.history in
      rw (variables-agree named, history, sym stands.named, sym stands.time) refl

  -- the lines are those of the world
  pub world-lines : (number : ℕ) (named : List Named) (steps : ℕ) → lines_seen s number named events clock steps ≡ world_answer_text s.ops named number w steps
  unfolding world_answer_text
  world-lines number named steps = ap (answer_lines s.ops) (answer-agree number named steps)

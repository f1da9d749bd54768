-- The lines of an answer, by those of what a scene sees.
use Rattle.std.proofs.Common.{◌≡◌, ℕ, List, ◌++◌, ℤ, refl}
use Rattle.std.proofs.lemmas.List.Folds.{flat_map-map}
use Rattle.tp_terms.specs.declared.text.Named.{Named}
use Rattle.tp_terms.specs.declared.world.Event.{Event}
use Rattle.tp_report.specs.Report.{number_line, clock_line, variable_line, event_line}
use Rattle.tp_report.specs.Seen.{Seen, term_seen, variable_seen, processes_seen, event_by}
use Rattle.tp_report.specs.Lines.{variables_text, events_text, lines_seen}

-- the lines of an answer: the first, those of the variables, those of the events, and the last
pub lines-parts : (s : Seen) (number : ℕ) (named : List Named) (events : List Event) (clock : ℤ) (steps : ℕ) →
    number_line number ++ (variables_text s named ++ (events_text s events ++ clock_line clock steps))
    ≡ lines_seen s number named events clock steps
lines-parts s number named events clock steps =
    rw (flat_map-map (variable_line s.ops) (variable_seen s) named, flat_map-map (event_line s.ops (processes_seen s)) (event_by s.names (term_seen s)) events) refl

-- The texts of what a scene sees.
use Rattle.std.specs.Prelude.{ℕ, List, flat_map, ℤ}
use Rattle.tp_terms.specs.declared.text.Named.{Named}
use Rattle.tp_terms.specs.declared.world.Event.{Event}
use Rattle.tp_terms.specs.declared.world.EventKind.{EventKind}
use Rattle.tp_write.specs.Text.{text}
use Rattle.tp_report.specs.Report.{variable_line, kind_text, event_line, answer_lines}
use Rattle.tp_report.specs.Seen.{Seen, term_seen, value_seen, variable_seen, processes_seen}
use Rattle.tp_report.specs.Seen.{kind_by, event_by, answer_seen}

-- the text of a place's term, where the largest priority is `max`
abbrev pub term_text : Seen → ℕ → ℕ → List ℕ
term_text s max at = text s.ops max (term_seen s at)

-- the text of a variable's term, behind `=`
abbrev pub value_text : Seen → ℕ → List ℕ
value_text s v = text s.ops 699 (value_seen s v)

-- the line of a named variable of the goal
abbrev pub variable_text : Seen → Named → List ℕ
variable_text s n = variable_line s.ops (variable_seen s n)

-- the lines of the named variables of the goal
abbrev pub variables_text : Seen → List Named → List ℕ
variables_text s = flat_map (variable_text s)

-- the words of a kind of event
abbrev pub words_text : Seen → EventKind → List ℕ
words_text s kind = kind_text s.ops (processes_seen s) (kind_by s.names (term_seen s) kind)

-- the line of an event
abbrev pub event_text : Seen → Event → List ℕ
event_text s e = event_line s.ops (processes_seen s) (event_by s.names (term_seen s) e)

-- the lines of events
abbrev pub events_text : Seen → List Event → List ℕ
events_text s = flat_map (event_text s)

-- all lines of an answer
abbrev pub lines_seen : Seen → ℕ → List Named → List Event → ℤ → ℕ → List ℕ
lines_seen s number named events clock steps =
    answer_lines s.ops (answer_seen s number named events clock steps)

-- The lines that are printed of an answer.
use Rattle.std.specs.Prelude.{ℕ, List, ◌++◌, map, flat_map, codes, decimal, ℤ, if◌then◌else◌}
use Rattle.std.specs.Fmt.{signed_decimal}
use Rattle.tp_terms.specs.declared.Limit.{Limit}
use Rattle.tp_terms.specs.declared.Limit.TheVariants.{At, Inf}
use Rattle.tp_terms.specs.declared.text.Named.{Named}
use Rattle.tp_terms.specs.Term.{Name, Term}
use Rattle.tp_terms.specs.Shown.{name_at}
use Rattle.tp_meaning.specs.Subst.{value_at}
use Rattle.tp_meaning.specs.World.{World, Event, EventKind, New, Start, Hold, Send, Take, Note, End}
use Rattle.tp_parse.specs.Table.{Table}
use Rattle.tp_lex.specs.Characters.{is_letter_digit}
use Rattle.tp_write.specs.Names.{quoted, name_text}
use Rattle.tp_write.specs.Text.{text}

-- each line ends with one newline
abbrev pub line : List ℕ → List ℕ
line words = words ++ codes "\n"

-- ---- the goal's variables

-- a named variable of the goal with its term, which stands as an operand of `=`
abbrev pub variable_line : Table → Name × Term → List ℕ
variable_line ops v = line (v.0 ++ (codes " = " ++ text ops 699 v.1))

-- ---- events

-- the process that did an event: its name without quotes only where it is a letter-digit name
abbrev pub doer_text : Name → List ℕ
doer_text name = if is_letter_digit name then name else quoted name

-- the end time of a process
abbrev pub limit_text : Limit → List ℕ
limit_text (At time) = signed_decimal time
limit_text Inf = codes "inf"

-- An event's own word with its arguments, where the processes have these names. The word, its
-- parentheses and its commas are the same under each table of operators.
abbrev pub kind_text : Table → List Name → EventKind → List ℕ
kind_text ops names (New name from until) =
    codes "new("
    ++ (name_text name
    ++ (codes ","
    ++ (signed_decimal from
    ++ (codes ","
    ++ (limit_text until
    ++ codes ")")))))
kind_text ops names Start = codes "start"
kind_text ops names (Hold duration) = codes "hold(" ++ (signed_decimal duration ++ codes ")")
kind_text ops names (Send message to) =
    codes "send("
    ++ (text ops 999 message
    ++ (codes ","
    ++ (name_text (name_at names to)
    ++ codes ")")))
kind_text ops names (Take message) = codes "take(" ++ (text ops 999 message ++ codes ")")
kind_text ops names (Note term) = codes "note(" ++ (text ops 999 term ++ codes ")")
kind_text ops names End = codes "end"

-- what stands before an event's words: its time and the process that did it
abbrev pub head_text : ℤ → Name → List ℕ
head_text time doer = signed_decimal time ++ (codes " " ++ (doer_text doer ++ codes ": "))

-- an event: its time, the process that did it, and its words
abbrev pub event_line : Table → List Name → Event → List ℕ
event_line ops names e =
    line (head_text e.time (name_at names e.process) ++ kind_text ops names e.kind)

-- ---- answers

-- What is printed of an answer: its number, the named variables of the goal with their terms, the
-- names of the processes by their numbers, the history, the clock, and the steps of the whole
-- search so far.
pub record Answer : Type 0 where
  pub number : ℕ
  pub named : List (List ℕ × Term)
  pub names : List (List ℕ)
  pub events : List Event
  pub clock : ℤ
  pub steps : ℕ

-- the first line of an answer
abbrev pub number_line : ℕ → List ℕ
number_line number = line (codes "answer " ++ decimal number)

-- the last line of an answer: the clock, and the steps so far
abbrev pub clock_line : ℤ → ℕ → List ℕ
clock_line clock steps =
    line (codes "end " ++ (signed_decimal clock ++ (codes " steps " ++ decimal steps)))

-- all lines of an answer
abbrev pub answer_lines : Table → Answer → List ℕ
answer_lines ops a =
    number_line a.number
    ++ (flat_map (variable_line ops) a.named
    ++ (flat_map (event_line ops a.names) a.events
    ++ clock_line a.clock a.steps))

-- the answer that a world is, to a goal with these named variables
abbrev pub answer_of : List Named → ℕ → World → ℕ → Answer
answer_of named number w steps = record {
  number = number;
  named = map (λ n. (n.name, value_at w.subst n.number)) named;
  names = map (λ p. p.name) w.processes;
  events = w.history;
  clock = w.clock;
  steps = steps;
}

-- the lines of a world that is an answer
unfoldable pub world_answer_text : Table → List Named → ℕ → World → ℕ → List ℕ
world_answer_text ops named number w steps = answer_lines ops (answer_of named number w steps)

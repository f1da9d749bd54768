-- The command that the words are read as, and what clap makes of the words.
use Rattle.std.specs.Prelude.{ℕ, true, List, [], ◌∷◌, map, Option, Some, None, codes, if◌then◌else◌}
use Rattle.std.specs.Prelude.{String, string_bytes}
use Rattle.std.specs.Global.{Global}
use Rattle.clap.specs.Words.{App, Row, Rule, fault_of, matches_of, new_app, new_rule, with_rule}
use Rattle.clap.specs.Simple.{on_top}
use Rattle.clap.specs.Walk.{is_empty}
use Rattle.clap.specs.declared.builder.action.ArgAction.TheVariants.{SetTrue}
use Rattle.clap.specs.declared.error.kind.ErrorKind.{ErrorKind}
use Rattle.clap.specs.declared.error.kind.ErrorKind.TheVariants.{OutOfMemory}
use Rattle.tp_words.specs.declared.fault.WordsFault.{WordsFault}
use Rattle.tp_words.specs.declared.fault.WordsFault.TheVariants.{NoMemory, Usage}

-- an argument that is named by its long name, as `--steps`
abbrev pub named : List ℕ → Rule
named name = record (new_rule name) { long = Some name }

-- the positional arguments MODEL and GOAL, the options `--steps`, `--answers` and `--sample`, each
-- with one value, and the flag `--meters`
abbrev pub arguments : List Rule
arguments =
    new_rule (codes "MODEL")
    ∷ new_rule (codes "GOAL")
    ∷ named (codes "steps")
    ∷ named (codes "answers")
    ∷ named (codes "sample")
    ∷ record (named (codes "meters")) { action = Some SetTrue }
    ∷ []

-- the command without its arguments: the words are those behind the program's name, and the flags
-- for help and the version are switched off
abbrev pub bare : App
bare = on_top (λ top. record top {
  no_binary_name = true;
  disable_help_flag = true;
  disable_version_flag = true;
}) (new_app (codes "tprolog"))

-- the same with the positional arguments
abbrev pub texts_added : App
texts_added = with_rule (with_rule bare (new_rule (codes "MODEL"))) (new_rule (codes "GOAL"))

-- the command with its arguments, of which none is required
unfoldable pub command : App
command = on_top (λ top. record top { rules = arguments }) bare

-- the matches of the command on the words, where it takes them, as clap states both
unfoldable pub matches : List (List ℕ) → Option (List Row)
matches words = if is_empty (fault_of command words) then Some (matches_of command words) else None

-- what a parse that failed comes to
abbrev pub fault_by : ErrorKind → WordsFault
fault_by OutOfMemory = NoMemory
fault_by _ = Usage

-- the bytes of the words
abbrev pub words_of : List (String Global) → List (List ℕ)
words_of = map (λ word. string_bytes word)

-- Characters whose numbers stand in a list.
use Rattle.std.specs.Prelude.{◌∷◌, [], List, map, chars, string_bytes, Result, Ok}
use Rattle.std.specs.declared.alloc.Global.{Global}
use Rattle.std.specs.declared.string.String.{String}
use Rattle.tp_terms.specs.declared.cells.Ref.{Ref}
use Rattle.tp_terms.specs.Term.{Name, Term}
use Rattle.tp_meaning.specs.Checks.{Checked, ◌>>=◌}
use Rattle.tp_meaning.specs.Heap.{Heap}
use Rattle.tp_meaning.specs.Answers.{character_of}
use Rattle.tp_build.specs.declared.errors.Fault.{Fault}
use Rattle.tp_build.specs.Errors.{Finds}
use Rattle.tp_build.specs.Lists.{place_seen}

-- the characters of their numbers
abbrev pub all_characters : List Term → Checked Name
all_characters [] = Ok []
all_characters (t ∷ ts) = do
  c ← character_of t
  cs ← all_characters ts
  Ok (c ∷ cs)

abbrev pub text_chars : String Global → Name
text_chars text = chars (string_bytes text)

-- the text of the characters whose numbers stand at these places, or why there is none
abbrev pub IsSpelled : Heap → List Ref → Result (String Global) Fault → Type 0
IsSpelled h places found = Finds h (all_characters (map (place_seen h) places)) text_chars found

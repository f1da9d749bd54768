-- The reading of all words of a clause or a goal.
use Rattle.std.specs.Prelude.{◌≡◌, ℕ, List, [], ◌∷◌, length, Bool, Option, Some, None, Result, Ok}
use Rattle.std.specs.Prelude.{Err}
use Rattle.tp_terms.specs.Term.{Name}
use Rattle.tp_lex.specs.Tokens.{Lexed}
use Rattle.tp_parse.specs.Tree.{Tree}
use Rattle.tp_parse.specs.Table.{Table}
use Rattle.tp_parse.specs.Numbers.{no_numbers, numbered}
use Rattle.tp_parse.specs.Reading.{Read, Stop as Stopped, clause_reading, goal_reading, ends_clause}
use Rattle.tp_parse.specs.Reading.{ends_goal}
use Rattle.tp_parse.specs.Texts.{Found, found_by, byte_at, last_byte, is_ended, refused}
use Rattle.tp_parse.specs.Tells.{Tells}
use Rattle.tp_parse.specs.Steps.{AreReady, trees_of}
use Rattle.tp_parse.specs.Gives.{Fails}
use Rattle.tp_parse.specs.declared.words.Extent.{Extent}
use Rattle.tp_parse.specs.declared.words.Extent.TheVariants.{Clause, Whole}
use Rattle.tp_parse.specs.declared.steps.Step.{Step}
use Rattle.tp_parse.specs.declared.stop.Stop.{Stop}
use Rattle.tp_parse.specs.declared.fault.ReadCause.{ReadCause}
use Rattle.tp_parse.specs.declared.fault.ReadFault.{ReadFault}
use Rattle.tp_parse.specs.declared.fault.ReadFault.TheVariants.{Refused, NoMemory}
use Rattle.tp_parse.specs.declared.read.ReadTerm.{ReadTerm}

abbrev pub reading_of : Extent → Table → List Lexed → Read Tree
reading_of Clause = clause_reading
reading_of Whole = goal_reading

abbrev pub ends_of : Extent → Tree → List Lexed → Read Tree
ends_of Clause = ends_clause
ends_of Whole = ends_goal

-- the end was as it must be, or the stop is there
abbrev pub GivesEnd : {A : Type 0} → Tree → List Lexed → Result A Stop → Read Tree → Type 0
GivesEnd t left (Ok done) r = r ≡ Ok t
GivesEnd t left (Err stop) r = Fails left stop r

-- one tree was read and made
pub record IsWhole (text : List ℕ) (steps : List Step) (r : Read Tree) : Type 0 where
  pub tree : Tree
  pub read : r ≡ Ok tree
  pub made : trees_of text steps ≡ tree ∷ []
  pub ready : AreReady text [] steps

abbrev pub GivesWhole : {A : Type 0} → List ℕ → List Step → List Lexed → Result A Stop → Read Tree →
    Type 0
GivesWhole text steps left (Ok done) r = IsWhole text steps r
GivesWhole text steps left (Err stop) r = Fails left stop r

-- the refusal is that of the stop, in a text of so many bytes
pub record IsRefused (end byte : ℕ) (why : ReadCause) (r : Read Tree) : Type 0 where
  pub stop : Stopped
  pub stops : r ≡ Err stop
  pub is : refused end stop ≡ (byte, why)

abbrev pub TellsSteps : {X : Type 0} → (X → List Step) → List ℕ → Result X ReadFault → Read Tree →
    Type 0
TellsSteps view text (Ok steps) r = IsWhole text (view steps) r
TellsSteps view text (Err (Refused byte why)) r = IsRefused (length text) byte why r
TellsSteps view text (Err NoMemory) r = Unit {0}

-- the byte after the last of these tokens, and that of the end where there is none
abbrev pub to_of : ℕ → List Lexed → ℕ
to_of end [] = end
to_of end (t ∷ ts) = last_byte t ts

abbrev pub found_at : ℕ → List Lexed → Tree → Found
found_at end ts tree = found_by (byte_at end ts) (to_of end ts) (numbered tree no_numbers)

-- what reading words answers, where memory wasn't refused
pub record IsTerm (names : List Name) (end : ℕ) (ts : List Lexed) (t : ReadTerm)
    (r : Read Tree) : Type 0 where
  pub tree : Tree
  pub read : r ≡ Ok tree
  pub tells : Tells names t (found_at end ts tree)

abbrev pub TellsWhole : List Name → List ℕ → List Lexed → Result ReadTerm ReadFault → Read Tree →
    Type 0
TellsWhole names text ts (Ok t) r = IsTerm names (length text) ts t r
TellsWhole names text ts (Err (Refused byte why)) r = IsRefused (length text) byte why r
TellsWhole names text ts (Err NoMemory) r = Unit {0}

-- whether the last of these tokens is an End, if there is one
abbrev pub ended_of : List Lexed → Option Bool
ended_of [] = None
ended_of (t ∷ ts) = Some (is_ended t ts)

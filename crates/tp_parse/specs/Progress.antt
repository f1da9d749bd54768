-- How far reading has come: the words that are left and the steps so far, in a text under a table
-- of operators.
use Rattle.std.specs.Prelude.{ℕ, suc, List, length, Option, Result}
use Rattle.tp_terms.specs.Term.{Name}
use Rattle.tp_lex.specs.Next.{token_name}
use Rattle.tp_lex.specs.Tokens.{Lexed}
use Rattle.tp_parse.specs.Tree.{Tree, Trees}
use Rattle.tp_parse.specs.Table.{Table}
use Rattle.tp_parse.specs.Ops.{table_of}
use Rattle.tp_parse.specs.Reading.{Read, Term, Inner, reading, args, elements, after_element}
use Rattle.tp_parse.specs.Reading.{infix_part, infix_parts}
use Rattle.tp_parse.specs.Ahead.{first_kind, infix_ahead}
use Rattle.tp_parse.specs.Words.{IsKnown, ahead, lexed_of}
use Rattle.tp_parse.specs.Steps.{top_of, trees_of, under}
use Rattle.tp_parse.specs.Gives.{IsGoing, GivesTerm, GivesRow, GivesArg, GivesElement, GivesList}
use Rattle.tp_parse.specs.Gives.{GivesPart}
use Rattle.tp_parse.specs.declared.words.Source.{Source}
use Rattle.tp_parse.specs.declared.words.Word.{Word}
use Rattle.tp_parse.specs.declared.progress.Progress.{Progress}
use Rattle.tp_parse.specs.declared.stop.Stop.{Stop}
use Rattle.tp_parse.specs.declared.stop.Follows.{Follows}

-- the operators under which the text is read
abbrev pub ops_of : Source → Table
ops_of source = table_of source.ops.now

-- the tokens that are left
abbrev pub ahead_in : Source → Progress → List Lexed
ahead_in source at = ahead source.text.now at.cursor

-- the trees that were made, the last one first
abbrev pub made_in : Source → Progress → List Tree
made_in source at = trees_of source.text.now at.steps.items

-- the word is a token of the text, with the operators of its name
abbrev pub IsWordOf : Source → Word → Type 0
IsWordOf source w = IsKnown (ops_of source) source.text.now w

-- so are the words that are left, and the steps can be made
abbrev pub IsUnderway : Source → Progress → Type 0
IsUnderway source at = IsGoing (ops_of source) source.text.now at.cursor at.steps.items

-- a term was read by this reading, or it stops there
abbrev pub ReadsTerm : Source → Progress → Progress → Result ℕ Stop → Read Term → Type 0
ReadsTerm source old new result r =
    GivesTerm (made_in source old) (made_in source new) (ahead_in source new) result r

-- the same of arguments, so many, and of a list
abbrev pub ReadsRow : Source → Progress → Progress → Result ℕ Stop → Read (Trees × List Lexed) →
    Type 0
ReadsRow source old new result r =
    GivesRow (made_in source old) (made_in source new) (ahead_in source new) result r

abbrev pub ReadsList : {A : Type 0} → Source → Progress → Progress → Result A Stop →
    Read (Tree × List Lexed) → Type 0
ReadsList source old new result r =
    GivesList (made_in source old) (made_in source new) (ahead_in source new) result r

-- the reading of a term within so many levels
abbrev pub inner_of : Source → ℕ → Inner
inner_of source levels = reading (ops_of source) levels

-- the token that a word is, and its name
abbrev pub token_of : Source → Word → Lexed
token_of source w = lexed_of source.text.now w

abbrev pub name_in : Source → Word → Name
name_in source w = token_name source.text.now w.token

-- an argument was read, where so many more may come
abbrev pub ReadsArgument : Source → Progress → Progress → Inner → ℕ → Result Follows Stop → Type 0
ReadsArgument source old new inner rest result =
    GivesArg inner rest (made_in source old) (made_in source new)
    (ahead_in source new) result (args inner (suc rest) (ahead_in source old))

-- an element was read, and what follows it, where so many tokens more may come
abbrev pub ReadsElement : Source → Progress → Progress → Inner → ℕ → Result Follows Stop → Type 0
ReadsElement source old new inner n result =
    GivesElement inner n (made_in source old) (made_in source new)
    (ahead_in source new) result (elements inner (suc n) (ahead_in source old))

-- what follows the element that was made last was read
abbrev pub ReadsBehindElement : Source → Progress → Progress → Inner → ℕ → Result Follows Stop →
    Type 0
ReadsBehindElement source old new inner n result =
    GivesElement inner n (under (made_in source old)) (made_in source new)
    (ahead_in source new) result
    (after_element inner (elements inner n) (top_of (made_in source old)) (ahead_in source old)
    (first_kind (ahead_in source old)))

-- an infix part was read behind the tree of this priority that was made last, if one is there
abbrev pub ReadsPart : Source → Progress → Progress → Inner → (Tree → ℕ → List Lexed → Read Term) →
    ℕ → ℕ → Result (Option ℕ) Stop → Type 0
ReadsPart source old new inner more bound priority result =
    let made = made_in source old in
    let ts = ahead_in source old in
    GivesPart more (top_of made) priority (under made) made (made_in source new) ts
    (ahead_in source new) result
    (infix_part inner more bound (top_of made) priority ts (infix_ahead (ops_of source) ts))

-- all infix parts were read behind the tree of this priority that was made last
abbrev pub ReadsParts : Source → Progress → Progress → Inner → ℕ → ℕ → Result ℕ Stop → Type 0
ReadsParts source old new inner bound priority result =
    let made = made_in source old in
    let ts = ahead_in source old in
    GivesTerm (under made) (made_in source new) (ahead_in source new) result
    (infix_parts (ops_of source) inner (length ts) bound (top_of made) priority ts)

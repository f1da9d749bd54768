-- The inside of quotes.
use Rattle.std.specs.Prelude.{ℕ, zero, suc, ◌==◌, List, [], ◌∷◌, length, Option, Some, None, Result}
use Rattle.std.specs.Prelude.{Ok, Err, if◌then◌else◌}
use Rattle.tp_lex.specs.Characters.{newline, backslash}
use Rattle.tp_lex.specs.Escapes.{escape}
use Rattle.tp_lex.specs.declared.token.Fault.{Fault}
use Rattle.tp_lex.specs.declared.token.Fault.TheVariants.{BadToken, Unfinished}
use Rattle.tp_lex.specs.declared.quotes.Item.{Item}
use Rattle.tp_lex.specs.declared.quotes.Item.TheVariants.{Stands, Skipped, Closed}

-- behind the mark: doubled it stands for itself, else it closes
abbrev pub at_quote : ℕ → List ℕ → Item × List ℕ
at_quote mark [] = (Closed, [])
at_quote mark (c ∷ cs) = if c == mark then (Stands mark, cs) else (Closed, c ∷ cs)

-- an escape as an item
abbrev pub escaped : Result (Option ℕ × List ℕ) Fault → Result (Item × List ℕ) Fault
escaped (Ok e) = elim e.0 [ Some c ↦ Ok (Stands c, e.1) | None ↦ Ok (Skipped, e.1) ]
escaped (Err fault) = Err fault

-- the next item between quotes of this mark, and what follows it
unfoldable pub item : ℕ → List ℕ → Result (Item × List ℕ) Fault
item mark [] = Err Unfinished
item mark (c ∷ cs) =
    if c == mark then Ok (at_quote mark cs)
    else if c == backslash then escaped (escape cs)
    else if c == newline then Err BadToken
    else Ok (Stands c, cs)

-- the characters with one more before them
abbrev pub with_first : ℕ → Result (List ℕ × List ℕ) Fault → Result (List ℕ × List ℕ) Fault
with_first c (Ok more) = Ok (c ∷ more.0, more.1)
with_first c (Err fault) = Err fault

-- what at most so many items between quotes stand for, and what follows the closing quote
unfoldable pub items : ℕ → ℕ → List ℕ → Result (List ℕ × List ℕ) Fault
items mark zero cs = Err Unfinished
items mark (suc most) cs =
    elim (item mark cs) [
      | Ok found ↦ elim found.0 [
        | Stands c ↦ with_first c (items mark most found.1)
        | Skipped ↦ items mark most found.1
        | Closed ↦ Ok ([], found.1)
      ]
      | Err fault ↦ Err fault
    ]

-- from behind the opening quote: the characters that the inside stands for, and what follows the
-- closing quote
unfoldable pub inside : ℕ → List ℕ → Result (List ℕ × List ℕ) Fault
inside mark cs = items mark (length cs) cs

-- the characters that the inside stands for, none where it is broken
abbrev pub stood_for : Result (List ℕ × List ℕ) Fault → List ℕ
stood_for (Ok found) = found.0
stood_for (Err fault) = []

-- what follows the closing quote
abbrev pub after_closing : Result (List ℕ × List ℕ) Fault → Result (List ℕ) Fault
after_closing (Ok found) = Ok found.1
after_closing (Err fault) = Err fault

-- the character that an item stands for, if it stands for one
abbrev pub item_chars : Item → List ℕ
item_chars (Stands c) = c ∷ []
item_chars Skipped = []
item_chars Closed = []

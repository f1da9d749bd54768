-- Layout and comments.
use Rattle.std.specs.Prelude.{ℕ, zero, suc, ◌&&◌, ◌==◌, List, [], ◌∷◌, length, Option, Some, None}
use Rattle.std.specs.Prelude.{Result, Ok, Err, if◌then◌else◌}
use Rattle.tp_lex.specs.Characters.{newline, percent, star, slash, is_layout}
use Rattle.tp_lex.specs.declared.token.Fault.{Fault}
use Rattle.tp_lex.specs.declared.token.Fault.TheVariants.{Unfinished}

-- what follows a comment up to the end of its line; the newline is layout
unfoldable pub after_line : List ℕ → List ℕ
after_line [] = []
after_line (c ∷ cs) = if c == newline then c ∷ cs else after_line cs

-- what follows `*/`, where the characters begin with it
unfoldable pub comment_end : List ℕ → Option (List ℕ)
comment_end [] = None
comment_end (c ∷ []) = None
comment_end (c ∷ d ∷ cs) = if (c == star) && (d == slash) then Some cs else None

-- what follows the next `*/`, if there is one
unfoldable pub after_comment : List ℕ → Option (List ℕ)
after_comment [] = None
after_comment (c ∷ cs) =
    elim (comment_end (c ∷ cs)) [ Some rest ↦ Some rest | None ↦ after_comment cs ]

-- a comment that `/*` has opened ends at the next `*/`
abbrev pub closed : Option (List ℕ) → Result (Option (List ℕ)) Fault
closed (Some cs) = Ok (Some cs)
closed None = Err Unfinished

-- behind a slash: what follows the comment that it opens, if it opens one
abbrev pub after_slash : List ℕ → Result (Option (List ℕ)) Fault
after_slash [] = Ok None
after_slash (d ∷ cs) = if d == star then closed (after_comment cs) else Ok None

-- what follows one character of layout or one comment, where the characters begin with one
unfoldable pub after_gap : List ℕ → Result (Option (List ℕ)) Fault
after_gap [] = Ok None
after_gap (c ∷ cs) =
    if is_layout c then Ok (Some cs)
    else if c == percent then Ok (Some (after_line cs))
    else if c == slash then after_slash cs
    else Ok None

-- where layout and comments end, at most so many of them; or the comment that is not closed
unfoldable pub past_gaps : ℕ → List ℕ → Result (List ℕ) (List ℕ)
past_gaps zero cs = Ok cs
past_gaps (suc most) cs =
    elim (after_gap cs) [
      | Ok after ↦ elim after [ Some rest ↦ past_gaps most rest | None ↦ Ok cs ]
      | Err fault ↦ Err cs
    ]

-- where layout and comments end; or the comment that is not closed
unfoldable pub past_layout : List ℕ → Result (List ℕ) (List ℕ)
past_layout cs = past_gaps (length cs) cs

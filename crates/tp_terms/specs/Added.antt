-- Texts that a call adds to a text.
use Rattle.std.specs.Prelude.{◌≡◌, ℕ, List, ◌++◌, Result, MatchResult, chars, string_bytes}
use Rattle.std.specs.declared.alloc.Global.{Global}
use Rattle.std.specs.declared.string.String.{String}

-- of the whole text, all but the rest was added
pub record Progress (old new whole rest : List ℕ) : Type 0 where
  pub more : List ℕ
  pub split : whole ≡ more ++ rest
  pub added : new ≡ old ++ more

-- a prefix of this text was added: all but some rest
pub record AddsPrefix (old new text : List ℕ) : Type 0 where
  pub rest : List ℕ
  pub progress : Progress old new text rest

-- the call added this text where it succeeded, and else a prefix of it
abbrev pub Adds : {A E : Type 0} → String Global → String Global → Result A E → List ℕ → Type 0
Adds old new result text =
    MatchResult result
    (λ _. chars (string_bytes new) ≡ chars (string_bytes old) ++ text)
    (λ _. AddsPrefix (chars (string_bytes old)) (chars (string_bytes new)) text)

-- Reading on from where the last read ended.
use Rattle.std.proofs.Common.{◌≡◌, ℕ, ◌+◌, ◌≤◌, List, [], ◌++◌, length, take, drop, Option, Some, None, MatchOption, ap, sym, ◌∙◌, arith, length-append}
use Rattle.std.proofs.Math.Seq.{take-add}
use Rattle.std.proofs.lemmas.List.{length-take-le}
use Rattle.tp_outside.specs.Files.{Files, ShowsBytes, ReadGives, held_under}

-- these bytes are a front of what is held
pub record IsFrontOf (held bytes : List ℕ) : Type 0 where
  pub within : length bytes ≤ length held
  pub front : bytes ≡ take (length bytes) held

-- a front of the bytes that are held under a name, or nothing where the name isn't held
abbrev pub IsFront : Option Files → List ℕ → List ℕ → Type 0
IsFront None name bytes = Unit {0}
IsFront (Some files) name bytes =
    MatchOption (held_under files name) (bytes ≡ []) (λ held. IsFrontOf held bytes)

-- a front of the bytes was read, and then a piece of the rest
front_of_more : (held bytes piece : List ℕ) (n : ℕ) → n ≤ length piece → IsFrontOf held bytes → ShowsBytes held (length bytes) n piece → IsFrontOf held (bytes ++ take n piece)
front_of_more held bytes piece n fits front shows =
    let piece_is : length (take n piece) ≡ n = length-take-le n piece fits in
    let sum : length (bytes ++ take n piece) ≡ length bytes + n = length-append bytes (take n piece) ∙ ap (λ k. length bytes + k) piece_is in
    record {
      within = omega (arith, sum, shows.within, front.within);
      front = ap (λ x. bytes ++ x) shows.shown ∙ ap (λ x. x ++ take n (drop (length bytes) held)) front.front ∙ sym (take-add (length bytes) n held) ∙ ap (λ k. take k held) (sym sum);
    }

front_under_more : (o : Option (List ℕ)) (bytes piece : List ℕ) (n : ℕ) → n ≤ length piece → MatchOption o (bytes ≡ []) (λ held. IsFrontOf held bytes) → MatchOption o ⊥ (λ held. ShowsBytes held (length bytes) n piece)
    → MatchOption o (bytes ++ take n piece ≡ []) (λ held. IsFrontOf held (bytes ++ take n piece))
front_under_more None bytes piece n fits front gives = absurd gives
front_under_more (Some held) bytes piece n fits front gives = front_of_more held bytes piece n fits front gives

-- the same of the bytes that are held under a name
pub front_more : (held : Option Files) (name bytes piece : List ℕ) (n : ℕ) → n ≤ length piece → IsFront held name bytes → ReadGives held name (length bytes) n piece → IsFront held name (bytes ++ take n piece)
front_more None name bytes piece n fits front gives = tt
front_more (Some files) name bytes piece n fits front gives = front_under_more (held_under files name) bytes piece n fits front gives

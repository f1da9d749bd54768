-- Writing on from where the last write ended.
use Rattle.std.proofs.Common.{◌≡◌, ℕ, ◌+◌, ◌-◌, List, ◌++◌, length, take, drop, Option, Some, None, ap, sym, ◌∙◌, append_assoc}
use Rattle.std.proofs.Math.Seq.{take-add}
use Rattle.std.proofs.lemmas.List.{take_rest}
use Rattle.tp_outside.specs.Taken.{added}

-- a prefix was taken, and then a prefix of the rest
pub added-more : (first old new : Option (List ℕ)) (bytes : List ℕ) (done n : ℕ) → old ≡ added first (take done bytes) → new ≡ added old (take n (take (length bytes - done) (drop done bytes))) → new ≡ added first (take (done + n) bytes)
added-more None old new bytes done n e e' = e' ∙ ap (λ o. added o (take n (take (length bytes - done) (drop done bytes)))) e
added-more (Some t) old new bytes done n e e' = e' ∙ ap (λ o. added o (take n (take (length bytes - done) (drop done bytes)))) e ∙ ap (λ r. added (added (Some t) (take done bytes)) (take n r)) (take_rest bytes done)
    ∙ ap Some (append_assoc t (take done bytes) (take n (drop done bytes))) ∙ ap (λ x. Some (t ++ x)) (sym (take-add done n bytes))

-- Answers that were taken, in their order.
use Rattle.std.proofs.Common.{◌≡◌, ℕ, suc, ◌+◌, List, [], ◌∷◌, ◌++◌, length, ap, subst, ◌∙◌, arith}
use Rattle.tp_terms.specs.declared.text.Named.{Named}
use Rattle.tp_meaning.specs.World.{World}
use Rattle.tp_parse.specs.Ops.{Entries}
use Rattle.tp_engine.specs.Answers.{Answer, Takes, Took, numbered}

pub numbered-append : (named : List Named) (ops : Entries) (n : ℕ) (xs ys : List (World × ℕ)) → numbered named ops n (xs ++ ys) ≡ numbered named ops n xs ++ numbered named ops (n + length xs) ys
numbered-append named ops n [] ys = ap (λ m. numbered named ops m ys) (let e : n ≡ n + 0 = omega arith in e)
numbered-append named ops n (x ∷ xs) ys =
    let a : Answer = record { world = x.0; number = n + 1; steps = x.1; named = named; ops = ops } in
    ap (λ as_. a ∷ as_) (numbered-append named ops (n + 1) xs ys ∙ ap (λ m. numbered named ops (n + 1) xs ++ numbered named ops m ys) (let e : n + 1 + length xs ≡ n + suc (length xs) = omega arith in e))

-- more answers were taken
pub took-append : {A : Type 0} (takes : Takes A) (before at now : A) (xs ys : List Answer) → Took takes before xs at → Took takes at ys now → Took takes before (xs ++ ys) now
took-append takes before at now [] ys h k = subst (λ b. Took takes b ys now) h k
took-append takes before at now (x ∷ xs) ys h k = (h.0, h.1, took-append takes h.0 at now xs ys h.2 k)

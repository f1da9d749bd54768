-- Layout and comments, one step at a time.
use Rattle.std.proofs.Common.{◌≡◌, ℕ, zero, suc, ◌<◌, ◌≤◌, List, [], ◌∷◌, length, Some, None, Ok, Err, refl, arith}
use Rattle.std.specs.Prelude.{Option, Result}
use Rattle.std.proofs.lemmas.Bool.{ne_eqb}
use Rattle.tp_lex.specs.Characters.{newline}
use Rattle.tp_lex.specs.Layout.{after_line, after_comment, comment_end, after_gap, past_gaps, past_layout}
use Rattle.tp_lex.specs.declared.token.Fault.{Fault}
use Rattle.tp_lex.proofs.Places.Suffixes.{ends-length}
use Rattle.tp_lex.proofs.StandsBehind.Ends.{OkSomeEnd, gap_step, after_gap-none, after_gap-ends}

pub after_line-goes : (c : ℕ) (cs all : List ℕ) → all ≡ c ∷ cs → ¬ (c ≡ newline) → after_line all ≡ after_line cs
unfolding after_line
after_line-goes c cs all e p = let t = ne_eqb c newline p in rw (e, t)

pub after_line-stops : (c : ℕ) (cs all : List ℕ) → all ≡ c ∷ cs → c ≡ newline → after_line all ≡ all
unfolding after_line
after_line-stops c cs all e p = rw (e, p)

pub after_line-none : (all : List ℕ) → all ≡ [] → after_line all ≡ all
unfolding after_line
after_line-none all e = rw e

pub after_comment-goes : (c : ℕ) (cs all : List ℕ) → all ≡ c ∷ cs → comment_end all ≡ None → after_comment all ≡ after_comment cs
unfolding after_comment
after_comment-goes c cs all e p = let q = rw e at p in rw (e, q, after_comment)

pub after_comment-stops : (c : ℕ) (cs all rest : List ℕ) → all ≡ c ∷ cs → comment_end all ≡ Some rest → after_comment all ≡ Some rest
unfolding after_comment
after_comment-stops c cs all rest e p = let q = rw e at p in rw (e, q, after_comment)

pub after_comment-none : (all : List ℕ) → all ≡ [] → after_comment all ≡ None
unfolding after_comment
after_comment-none all e = rw e

-- a bound that is large enough changes nothing
pub past_gaps-more : (n m : ℕ) (cs : List ℕ) → length cs ≤ n → length cs ≤ m → past_gaps n cs ≡ past_gaps m cs
unfolding past_gaps
past_gaps-more zero zero cs a b = refl
past_gaps-more zero (suc m) [] a b = rw (after_gap-none, past_gaps)
past_gaps-more (suc n) zero [] a b = rw (after_gap-none, past_gaps)
past_gaps-more zero (suc m) (c ∷ cs) a b = absurd (omega arith)
past_gaps-more (suc n) zero (c ∷ cs) a b = absurd (omega arith)
past_gaps-more (suc n) (suc m) [] a b = rw (after_gap-none, past_gaps)
past_gaps-more (suc n) (suc m) (c ∷ cs) a b =
    by (after_gap (c ∷ cs)) (after_gap-ends c cs) (λ rest x y. past_gaps-more n m rest x y)
  where
    by : (r : Result (Option (List ℕ)) Fault) → OkSomeEnd cs r →
        ((rest : List ℕ) → length rest ≤ n → length rest ≤ m → past_gaps n rest ≡ past_gaps m rest) →
        gap_step (past_gaps n) (c ∷ cs) r ≡ gap_step (past_gaps m) (c ∷ cs) r
    by (Ok (Some rest)) e more = let l = ends-length cs rest e in more rest (omega arith) (omega arith)
    by (Ok None) e more = refl
    by (Err fault) e more = refl

pub past_layout-goes : (cs rest : List ℕ) → after_gap cs ≡ Ok (Some rest) → past_layout cs ≡ past_layout rest
unfolding past_layout past_gaps
past_layout-goes [] rest e = let absent = after_gap-none in cc
past_layout-goes (c ∷ cs) rest e =
    let short : OkSomeEnd cs (Ok (Some rest)) = rw e at (after_gap-ends c cs) in
    let l = ends-length cs rest short in
    rw (e, past_gaps) (past_gaps-more (length cs) (length rest) rest l (omega arith))

pub past_layout-stops : (cs : List ℕ) → after_gap cs ≡ Ok None → past_layout cs ≡ Ok cs
unfolding past_layout past_gaps
past_layout-stops [] e = refl
past_layout-stops (c ∷ cs) e = rw (e, past_gaps)

pub past_layout-fails : (cs : List ℕ) (fault : Fault) → after_gap cs ≡ Err fault → past_layout cs ≡ Err cs
unfolding past_layout past_gaps
past_layout-fails [] fault e = let absent = after_gap-none in cc
past_layout-fails (c ∷ cs) fault e = rw (e, past_gaps)

pub after_gap-shorter : (cs rest : List ℕ) → after_gap cs ≡ Ok (Some rest) → length rest < length cs
after_gap-shorter [] rest e = let absent = after_gap-none in cc
after_gap-shorter (c ∷ cs) rest e =
    let short : OkSomeEnd cs (Ok (Some rest)) = rw e at (after_gap-ends c cs) in
    let l = ends-length cs rest short in
    omega arith

-- The text of a sample, one clause behind the other.
use Rattle.std.proofs.Common.{◌≡◌, ℕ, zero, suc, ◌+◌, ◌-◌, List, [], ◌∷◌, ◌++◌, flat_map, arith, ap, sym, subst, ◌∙◌, append-nil, append_assoc, add-one}
use Rattle.std.specs.List.{range_with_len}
use Rattle.tp_top.specs.Sample.{first_clauses, last_clause, last_clauses, process_clause, sample_text}

-- one number more
range_more : (f : ℕ → List ℕ) (a m j : ℕ) → a + m ≡ j → flat_map f (range_with_len a (suc m)) ≡ flat_map f (range_with_len a m) ++ f j
range_more f a zero j e = let same : a ≡ j = omega (arith, e) in append-nil (f a) ∙ ap f same
range_more f a (suc m) j e =
    ap (λ x. f a ++ x) (range_more f (a + 1) m j (omega (arith, e)))
    ∙ sym (append_assoc (f a) (flat_map f (range_with_len (a + 1) m)) (f j))

-- one clause more
pub clause_more : (old now new : List ℕ) (m k : ℕ) → k ≡ m + 1 → now ≡ old ++ flat_map process_clause (range_with_len 1 m)
    → new ≡ now ++ process_clause k → new ≡ old ++ flat_map process_clause (range_with_len 1 (m + 1))
clause_more old now new m k same is more =
    more ∙ ap (λ x. x ++ process_clause k) is
    ∙ append_assoc old (flat_map process_clause (range_with_len 1 m)) (process_clause k)
    ∙ ap (λ x. old ++ x) (sym (range_more process_clause 1 m k (omega (arith, same))) ∙ ap (λ n. flat_map process_clause (range_with_len 1 n)) (sym (add-one m)))

-- the whole text, by the texts that were added in turn
pub whole_text : (n m : ℕ) (none one two three whole : List ℕ) → none ≡ [] → m ≡ n - 1 → one ≡ none ++ first_clauses
    → two ≡ one ++ flat_map process_clause (range_with_len 1 m) → three ≡ two ++ last_clause n → whole ≡ three ++ last_clauses → whole ≡ sample_text n
unfolding sample_text
whole_text n m none one two three whole e size first each last end =
    let processes = flat_map process_clause (range_with_len 1 (n - 1)) in
    end ∙ ap (λ x. x ++ last_clauses)
    (last ∙ ap (λ x. x ++ last_clause n)
    (each ∙ ap (λ k. one ++ flat_map process_clause (range_with_len 1 k)) size
    ∙ ap (λ x. x ++ processes) (first ∙ ap (λ x. x ++ first_clauses) e)))
    ∙ append_assoc (first_clauses ++ processes) (last_clause n) last_clauses
    ∙ append_assoc first_clauses processes (last_clause n ++ last_clauses)

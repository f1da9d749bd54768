-- The newest pair of a variable, looked for from the end of a list.
use Rattle.std.proofs.Common.{◌≡◌, ℕ, suc, ◌+◌, ◌<◌, ◌≤◌, true, false, cond, nat_eq, List, [], ◌∷◌, ◌++◌, length, take, drop, reverse, get_or, is_some, Some, ap, sym, subst, ◌∙◌, arith}
use Rattle.std.proofs.lemmas.List.{take_more, drop_more, take_all, drop_all, reverse-append, append_assoc}
use Rattle.std.specs.List.{remove}
use Rattle.tp_terms.specs.declared.cells.Ref.{Ref}
use Rattle.tp_terms.specs.Binds.{bound_in}
use Rattle.tp_store.specs.Logged.{IsBound, without_pair}
use Rattle.tp_store.specs.Trail.{number_at}
use Rattle.tp_store.proofs.Logging.Numbers.{binding_at}

-- the newest pair of the variable stands before this place
pub record IsBefore (pairs : List (ℕ × Ref)) (n at : ℕ) : Type 0 where
  pub within : at ≤ length pairs
  pub bound : IsBound (reverse (take at pairs)) n
  pub removed : without_pair n (reverse pairs) ≡ reverse (drop at pairs) ++ without_pair n (reverse (take at pairs))

newest_first : (pairs : List (ℕ × Ref)) (at : ℕ) (p : ℕ × Ref) → at < length pairs → get_or pairs at p ≡ p → reverse (take (at + 1) pairs) ≡ p ∷ reverse (take at pairs)
newest_first pairs at p lt here =
    ap reverse (take_more pairs at p lt) ∙ reverse-append (take at pairs) (get_or pairs at p ∷ []) ∙ ap (λ q. q ∷ reverse (take at pairs)) here

-- all pairs stand before the end
pub before_end : (pairs : List (ℕ × Ref)) (n at : ℕ) → IsBound (reverse pairs) n → at ≡ length pairs → IsBefore pairs n at
before_end pairs n at b e =
    let all : take at pairs ≡ pairs = take_all at pairs (omega arith) in
    record {
      within = omega arith;
      bound = subst (λ l. IsBound (reverse l) n) (sym all) b;
      removed = ap (λ l. without_pair n (reverse l)) (sym all) ∙ ap (λ l. reverse l ++ without_pair n (reverse (take at pairs))) (sym (drop_all at pairs (omega arith)));
    }

-- a bound variable has a pair
pub some_pair : (pairs : List (ℕ × Ref)) (n : ℕ) → IsBound (reverse pairs) n → 0 < length pairs
some_pair [] n b = absurd (cc)
some_pair (p ∷ pairs) n b = omega arith

-- the last pair before the place is of another variable
pub before_other : (pairs : List (ℕ × Ref)) (n at k : ℕ) → at < length pairs → k ≡ number_at pairs at → nat_eq k n ≡ false → IsBefore pairs n (at + 1) → IsBefore pairs n at
before_other pairs n at k lt is differs i =
    let b = binding_at pairs at lt in
    let p = b.pair in
    let here = b.here in
    let other : nat_eq p.0 n ≡ false = ap (λ m. nat_eq m n) (sym (is ∙ b.number)) ∙ differs in
    let first = newest_first pairs at p lt here in
    record {
      within = omega arith;
      bound = ap (λ b. is_some (cond b (Some p.1) (bound_in (reverse (take at pairs)) n))) (sym other) ∙ subst (λ l. IsBound l n) first i.bound;
      removed =
          i.removed ∙ ap (λ l. reverse (drop (at + 1) pairs) ++ without_pair n l) first
          ∙ ap (λ b. reverse (drop (at + 1) pairs) ++ cond b (reverse (take at pairs)) (p ∷ without_pair n (reverse (take at pairs)))) other
          ∙ sym (append_assoc (reverse (drop (at + 1) pairs)) (p ∷ []) (without_pair n (reverse (take at pairs))))
          ∙ ap (λ l. l ++ without_pair n (reverse (take at pairs))) (sym (reverse-append (p ∷ []) (drop (at + 1) pairs)) ∙ ap (λ q. reverse (q ∷ drop (at + 1) pairs)) (sym here) ∙ ap reverse (sym (drop_more pairs at p lt)));
    }

-- the last pair before the place is of the variable
pub before_found : (pairs : List (ℕ × Ref)) (n at k : ℕ) → at < length pairs → k ≡ number_at pairs at → nat_eq k n ≡ true → IsBefore pairs n (at + 1) → reverse (remove pairs at) ≡ without_pair n (reverse pairs)
before_found pairs n at k lt is found i =
    let b = binding_at pairs at lt in
    let p = b.pair in
    let here = b.here in
    let same : nat_eq p.0 n ≡ true = ap (λ m. nat_eq m n) (sym (is ∙ b.number)) ∙ found in
    let first = newest_first pairs at p lt here in
    reverse-append (take at pairs) (drop (suc at) pairs)
    ∙ ap (λ k. reverse (drop k pairs) ++ reverse (take at pairs)) (let e : suc at ≡ at + 1 = omega arith in e)
    ∙ sym
    (
    i.removed ∙ ap (λ l. reverse (drop (at + 1) pairs) ++ without_pair n l) first
    ∙ ap (λ b. reverse (drop (at + 1) pairs) ++ cond b (reverse (take at pairs)) (p ∷ without_pair n (reverse (take at pairs)))) same
    )

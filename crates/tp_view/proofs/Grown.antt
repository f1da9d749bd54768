-- A store with further cells and bindings.
use Rattle.std.proofs.Common.{◌≡◌, ℕ, suc, List, [], ◌∷◌, ◌++◌, map, length, Bool, true, false, nat_lt, refl, sym, ap, subst, ◌∙◌, arith, if◌then◌else◌, length-append}
use Rattle.tp_terms.specs.declared.cells.Cell.{Cell}
use Rattle.tp_terms.specs.Term.{Name, Term, replaced}
use Rattle.tp_terms.specs.Shown.{shows}
use Rattle.tp_terms.specs.Binds.{Bindings}
use Rattle.tp_meaning.specs.Subst.{Subst, apply, value_at, put, for_one}
use Rattle.tp_meaning.proofs.Unification.Solved.{Over, over_term, idem_over, value-extended}
use Rattle.tp_meaning.proofs.Unification.Complete.{apply-extended}
use Rattle.tp_store.specs.Contents.{Contents, chained, AreChained, IsStore, subst_of}
use Rattle.tp_store.proofs.Substitution.Chained.{IsSubst-chained, unnamed}
use Rattle.tp_store.proofs.Substitution.Kept.{subst_of-append}

-- ---- the new substitution is over the old one

over-trans : (f : ℕ → Term) (s u : Subst) → Over f u → Over (value_at u) s → Over f s
over-trans f s u a b = record { at = λ v. a.at v ∙ ap (replaced f) (b.at v) ∙ sym (over_term f u (value_at s v) a) }

module _ (names : List Name) (cells : List Cell) (vars : ℕ) where
  over-one : (p : ℕ × Rattle.tp_terms.specs.declared.cells.Ref.Ref) (pairs : Bindings) → AreChained names cells vars (p ∷ pairs) → Over (value_at (chained names cells (p ∷ pairs))) (chained names cells pairs)
  unfolding chained
  over-one p pairs h =
      let s : Subst = chained names cells pairs in
      let t : Term = apply s (shows names cells p.1.at) in
      let free = unnamed names cells vars pairs p.0 h.1 (h.0).unbound in
      let idem = (IsSubst-chained names cells vars pairs h.1).idem in
      record { at = λ w. value-extended p.0 w t s free ∙ ap (replaced (for_one p.0 t)) ((idem_over s idem).at w) ∙ sym (apply-extended p.0 t s (value_at s w) free) }

  over-more : (bound pairs : Bindings) → AreChained names cells vars (bound ++ pairs) → AreChained names cells vars pairs → Over (value_at (chained names cells (bound ++ pairs))) (chained names cells pairs)
  over-more [] pairs h k = idem_over (chained names cells pairs) (IsSubst-chained names cells vars pairs k).idem
  over-more (p ∷ bound) pairs h k = over-trans (value_at (chained names cells (p ∷ bound ++ pairs))) (chained names cells pairs) (chained names cells (bound ++ pairs)) (over-one p (bound ++ pairs) h) (over-more bound pairs h.1 k)

  still-chained : (bound pairs : Bindings) → AreChained names cells vars (bound ++ pairs) → AreChained names cells vars pairs
  still-chained [] pairs h = h
  still-chained (p ∷ bound) pairs h = still-chained bound pairs h.1

-- ---- as many variables are bound as there are bindings

put-longer : (v : ℕ) (t : Term) (s : Subst) → length (put v t s) ≡ suc (length s)
put-longer v t [] = refl
put-longer v t (e ∷ es) = go (nat_lt v e.0) (put-longer v t es)
  where
    go : (b : Bool) → length (put v t es) ≡ suc (length es) → length (if b then (v, t) ∷ e ∷ es else e ∷ put v t es) ≡ suc (suc (length es))
    go true r = refl
    go false r = ap suc r

length-mapped : {A B : Type 0} (f : A → B) (xs : List A) → length (map f xs) ≡ length xs
length-mapped f [] = refl
length-mapped f (x ∷ xs) = ap suc (length-mapped f xs)

bound-each : (names : List Name) (cells : List Cell) (pairs : Bindings) → length (chained names cells pairs) ≡ length pairs
unfolding chained
bound-each names cells [] = refl
bound-each names cells (p ∷ pairs) =
    let s : Subst = chained names cells pairs in
    let t : Term = apply s (shows names cells p.1.at) in
    put-longer p.0 t (map (λ e. (e.0, replaced (for_one p.0 t) e.1)) s)
    ∙ ap suc (length-mapped (λ e. (e.0, replaced (for_one p.0 t) e.1)) s ∙ bound-each names cells pairs)

none-left : (bound pairs : Bindings) → length (bound ++ pairs) ≡ length pairs → bound ≡ []
none-left [] pairs e = refl
none-left (p ∷ bound) pairs e = absurd (omega (arith, e, length-append bound pairs))

-- ---- one store grew to another

module _ (names : List Name) (c d : Contents) (more : List Cell) (bound : Bindings) (old : IsStore c) (new : IsStore d) (cells : d.cells ≡ c.cells ++ more) (pairs : d.pairs ≡ bound ++ c.pairs) where
  chained-both : subst_of names d ≡ chained names d.cells (bound ++ c.pairs)
  chained-both = ap (chained names d.cells) pairs

  chained-old : chained names d.cells c.pairs ≡ subst_of names c
  chained-old = ap (λ cs. chained names cs c.pairs) cells ∙ subst_of-append names c more old

  -- what is seen under the new bindings is what the old ones show, under the new ones
  pub seen-over : (t : Term) → apply (subst_of names d) (apply (subst_of names c) t) ≡ apply (subst_of names d) t
  seen-over t =
      let h : AreChained names d.cells d.vars (bound ++ c.pairs) = subst (AreChained names d.cells d.vars) pairs (new.chain names) in
      let o = over-more names d.cells d.vars bound c.pairs h (still-chained names d.cells d.vars bound c.pairs h) in
      subst (λ u. apply u (apply (subst_of names c) t) ≡ apply u t) (sym chained-both)
      (subst (λ s. apply (chained names d.cells (bound ++ c.pairs)) (apply s t) ≡ apply (chained names d.cells (bound ++ c.pairs)) t) chained-old
      (sym (over_term (value_at (chained names d.cells (bound ++ c.pairs))) (chained names d.cells c.pairs) t o)))

  -- where the substitution is the same nothing was bound
  pub none-bound : subst_of names d ≡ subst_of names c → bound ≡ []
  none-bound e = none-left bound c.pairs (ap length (sym pairs) ∙ sym (bound-each names d.cells d.pairs) ∙ ap length e ∙ bound-each names c.cells c.pairs)

-- The place of each clause among those of its predicate, as cells and clauses are added.
use Rattle.std.proofs.Common.{◌≡◌, ℕ, ◌+◌, ◌<◌, true, List, [], ◌∷◌, ◌++◌, length, slice_get, Some, inl, inr, refl, sym, ap, ◌∙◌, arith, length-append}
use Rattle.std.proofs.lemmas.Option.{slice_get_within}
use Rattle.tp_terms.proofs.Naming.Tables.{slice_get-append, slice_get-push}
use Rattle.tp_terms.specs.declared.cells.AtomId.{AtomId}
use Rattle.tp_clauses.specs.Contents.{Contents, places_of}
use Rattle.tp_clauses.specs.Ranks.{AreRanks, IsRank, is_clause_of}
use Rattle.tp_clauses.specs.declared.base.ClauseId.{ClauseId}
use Rattle.tp_clauses.specs.declared.base.ClauseView.{ClauseView}

-- where the places of each predicate stay, and what clause is of which, the ranks do
pub ranks_same : (c d : Contents) (ranks : List ℕ) → length d.clauses ≡ length c.clauses → ((name : AtomId) (arity : ℕ) → places_of name arity d ≡ places_of name arity c)
    → ((name : AtomId) (arity : ℕ) (id : ClauseId) → is_clause_of name arity d id ≡ is_clause_of name arity c id) → AreRanks c ranks → AreRanks d ranks
ranks_same c d ranks long places of h = record {
  count = h.count ∙ sym long;
  each = λ id rank here name arity is. ap (λ l. slice_get l rank) (places name arity) ∙ h.each id rank here name arity (sym (of name arity id) ∙ is);
}

-- no clause has no rank
pub no_ranks : (c : Contents) → c.clauses ≡ [] → AreRanks c []
no_ranks c e = record { count = sym (ap length e); each = λ id rank here. absurd (cc) }

-- the last of a list
pub at_end : {X : Type 0} (xs : List X) (x : X) → slice_get (xs ++ x ∷ []) (length xs) ≡ Some x
at_end [] x = refl
at_end (y ∷ ys) x = at_end ys x

-- one clause more: its rank is the number of its predicate's clauses before it
module _ (c d : Contents) (ranks : List ℕ) (rank : ℕ) (v : ClauseView) (h : AreRanks c ranks) where
  pub ranks_added : d.clauses ≡ c.clauses ++ v ∷ []
      → ((name : AtomId) (arity : ℕ) → is_clause_of name arity d (record { at = length c.clauses }) ≡ true → (rank ≡ length (places_of name arity c)) × (places_of name arity d ≡ places_of name arity c ++ (record { at = length c.clauses }) ∷ []))
      → ((name : AtomId) (arity : ℕ) → (more : List ClauseId) × (places_of name arity d ≡ places_of name arity c ++ more))
      → ((name : AtomId) (arity : ℕ) (id : ClauseId) → id.at < length c.clauses → is_clause_of name arity d id ≡ is_clause_of name arity c id)
      → AreRanks d (ranks ++ rank ∷ [])
  ranks_added pushed last longer before = record {
    count = length-append ranks (rank ∷ []) ∙ ap (λ n. n + 1) h.count ∙ sym (ap length pushed ∙ length-append c.clauses (v ∷ []));
    each = λ id r here. elim (slice_get-push ranks rank id.at r here) [
      | inl old ↦ earlier id r old
      | inr new ↦ latest id r (new.0 ∙ h.count) new.1
    ];
  }
    where
      earlier : (id : ClauseId) (r : ℕ) → slice_get ranks id.at ≡ Some r → IsRank d id r
      earlier id r here name arity is =
          let within : id.at < length ranks = slice_get_within ranks id.at r here in
          let more = longer name arity in
          let found = h.each id r here name arity (sym (before name arity id (omega (arith, within, h.count))) ∙ is) in
          ap (λ l. slice_get l r) more.1
          ∙ slice_get-append (places_of name arity c) more.0 r (slice_get_within (places_of name arity c) r id found) ∙ found

      latest : (id : ClauseId) (r : ℕ) → id.at ≡ length c.clauses → r ≡ rank → IsRank d id r
      latest id r at same name arity is =
          let here : id ≡ (let i : ClauseId = record { at = length c.clauses } in i) = ap (λ n. let i : ClauseId = record { at = n } in i) at in
          let l = last name arity (ap (is_clause_of name arity d) (sym here) ∙ is) in
          ap (λ n. slice_get (places_of name arity d) n) (same ∙ l.0) ∙ ap (λ ids. slice_get ids (length (places_of name arity c))) l.1
          ∙ at_end (places_of name arity c) (record { at = length c.clauses }) ∙ ap Some (sym here)

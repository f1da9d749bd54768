-- The laws of reading, for terms, clauses and goals.
use Rattle.std.proofs.Common.{◌≡◌, ◌≢◌, ℕ, List, [], ◌∷◌, ◌++◌, Some, Ok, Err, refl, sym, ap, subst, ◌∙◌, ◌⊎◌, inl, inr}
use Rattle.tp_lex.specs.Tokens.{Lexed, is_end}
use Rattle.tp_lex.specs.declared.token.TokenKind.TheVariants as kind
use Rattle.tp_parse.specs.Tree.{Tree}
use Rattle.tp_parse.specs.Table.{Table}
use Rattle.tp_parse.specs.Ahead.{first_kind}
use Rattle.tp_parse.specs.Reading.{Read, Stop, ◌>>=◌, reading, finished, ends_clause, clause_reading, ends_goal, goal_reading}
use Rattle.tp_parse.specs.Grammar.{Reads, levels, ReadsClause, clause, ReadsGoal, goal, goal_and_end}
use Rattle.tp_parse.specs.Stopping.{StopsClause, in_clause, clause_without_end, behind_clause, StopsGoal, in_goal, goal_without_end, behind_goal}
use Rattle.tp_parse.specs.Laws.{HasOneOutcome, EachHasOneOutcome, ReadingFollowsGrammar}
use Rattle.tp_parse.specs.declared.fault.ReadCause.{ReadCause}
use Rattle.tp_parse.specs.declared.fault.ReadCause.TheVariants as cause
use Rattle.tp_parse.proofs.OneReading.Tokens.{if_true, if_false, bind_ok, bind_err, ok-of, err-of, chosen, is_end_same, is_end_other, is_end_false, some_other, some_differs}
use Rattle.tp_parse.proofs.OneReading.Complete.{complete}
use Rattle.tp_parse.proofs.OneReading.Sound.{sound}
use Rattle.tp_parse.proofs.OneReading.StopsComplete.{stopped}
use Rattle.tp_parse.proofs.OneReading.StopsSound.{stops}
use Rattle.tp_parse.proofs.OneReading.Places.{ends-StopsClause, ends-StopsGoal}

-- ---- clauses

clause_ended : (x : Tree) (e : Lexed) (us : List Lexed) → e.kind ≡ kind.End → ends_clause x (e ∷ us) ≡ finished x us
clause_ended x e us k = if_true (is_end e.kind) _ _ (ap is_end k)

clause_not_ended : (x : Tree) (us : List Lexed) → first_kind us ≢ Some kind.End → ends_clause x us ≡ Err (cause.Syntax, us)
clause_not_ended x [] n = refl
clause_not_ended x (u ∷ us) n = if_false (is_end u.kind) _ _ (is_end_other u.kind (some_differs u.kind kind.End n))

complete-clause : {ops : Table} {ts : List Lexed} {x : Tree} → ReadsClause ops ts x → clause_reading ops ts ≡ Ok x
unfolding clause_reading
complete-clause {ops} (clause {q} {e} {ts} {x} r k) = ap (λ z. z >>= λ r. ends_clause r.0 r.2) (complete r) ∙ clause_ended x e [] k

stopped-clause : {ops : Table} {ts : List Lexed} {c : ReadCause} {us : List Lexed} → StopsClause ops ts c us → clause_reading ops ts ≡ Err (c, us)
unfolding clause_reading
stopped-clause (in_clause s) = ap (λ z. z >>= λ r. ends_clause r.0 r.2) (stopped s)
stopped-clause (clause_without_end {us = us} {x = x} r n) = ap (λ z. z >>= λ r. ends_clause r.0 r.2) (complete r) ∙ clause_not_ended x us n
stopped-clause (behind_clause {e = e} {u = u} {us = us} {x = x} r k) = ap (λ z. z >>= λ r. ends_clause r.0 r.2) (complete r) ∙ clause_ended x e (u ∷ us) k

sound-ends_clause : (ops : Table) (ts us : List Lexed) (y : Tree) (q : ℕ) (x : Tree) → Reads ops levels 1200 ts y q us → ends_clause y us ≡ Ok x → ReadsClause ops ts x
sound-ends_clause ops ts [] y q x r h = cc
sound-ends_clause ops ts (e ∷ []) y q x r h =
    elim (chosen (is_end e.kind) _ _ _ h) [
      | inl a ↦ subst (λ x. ReadsClause ops ts x) (ok-of a.1) (clause r (is_end_same e.kind a.0))
      | inr a ↦ let z = a.1 in cc
    ]
sound-ends_clause ops ts (e ∷ u ∷ us) y q x r h =
    elim (chosen (is_end e.kind) _ _ _ h) [
      | inl a ↦ let z = a.1 in cc
      | inr a ↦ let z = a.1 in cc
    ]

stop-ends_clause : (ops : Table) (ts us : List Lexed) (y : Tree) (q : ℕ) (e : Stop) → Reads ops levels 1200 ts y q us → ends_clause y us ≡ Err e → StopsClause ops ts e.0 e.1
stop-ends_clause ops ts [] y q e r h = subst (λ (e : Stop). StopsClause ops ts e.0 e.1) (err-of {A = Tree} h) (clause_without_end r (λ z. cc))
stop-ends_clause ops ts (d ∷ []) y q e r h =
    elim (chosen (is_end d.kind) _ _ _ h) [
      | inl a ↦ let z = a.1 in cc
      | inr a ↦ subst (λ (e : Stop). StopsClause ops ts e.0 e.1) (err-of {A = Tree} a.1) (clause_without_end r (some_other d.kind kind.End (is_end_false d.kind a.0)))
    ]
stop-ends_clause ops ts (d ∷ u ∷ us) y q e r h =
    elim (chosen (is_end d.kind) _ _ _ h) [
      | inl a ↦ subst (λ (e : Stop). StopsClause ops ts e.0 e.1) (err-of {A = Tree} a.1) (behind_clause r (is_end_same d.kind a.0))
      | inr a ↦ subst (λ (e : Stop). StopsClause ops ts e.0 e.1) (err-of {A = Tree} a.1) (clause_without_end r (some_other d.kind kind.End (is_end_false d.kind a.0)))
    ]

sound-clause : (ops : Table) (ts : List Lexed) (x : Tree) → clause_reading ops ts ≡ Ok x → ReadsClause ops ts x
unfolding clause_reading
sound-clause ops ts x h =
    let (r, f, g) = bind_ok (reading ops levels 1200 ts) (λ r. ends_clause r.0 r.2) x h in
    sound-ends_clause ops ts r.2 r.0 r.1 x (sound ops levels 1200 ts r f) g

stop-clause : (ops : Table) (ts : List Lexed) (e : Stop) → clause_reading ops ts ≡ Err e → StopsClause ops ts e.0 e.1
unfolding clause_reading
stop-clause ops ts e h =
    elim (bind_err (reading ops levels 1200 ts) (λ r. ends_clause r.0 r.2) e h) [
      | inl a ↦ in_clause (stops ops levels 1200 ts e a)
      | inr a ↦ stop-ends_clause ops ts a.0.2 a.0.0 a.0.1 e (sound ops levels 1200 ts a.0 a.1) a.2
    ]

-- ---- goals

goal_ended : (x : Tree) (e : Lexed) (us : List Lexed) → e.kind ≡ kind.End → ends_goal x (e ∷ us) ≡ finished x us
goal_ended x e us k = if_true (is_end e.kind) _ _ (ap is_end k)

goal_not_ended : (x : Tree) (u : Lexed) (us : List Lexed) → u.kind ≢ kind.End → ends_goal x (u ∷ us) ≡ Err (cause.Syntax, u ∷ us)
goal_not_ended x u us n = if_false (is_end u.kind) _ _ (is_end_other u.kind n)

complete-goal : {ops : Table} {ts : List Lexed} {x : Tree} → ReadsGoal ops ts x → goal_reading ops ts ≡ Ok x
unfolding goal_reading
complete-goal (goal r) = ap (λ z. z >>= λ r. ends_goal r.0 r.2) (complete r)
complete-goal (goal_and_end {e = e} {x = x} r k) = ap (λ z. z >>= λ r. ends_goal r.0 r.2) (complete r) ∙ goal_ended x e [] k

stopped-goal : {ops : Table} {ts : List Lexed} {c : ReadCause} {us : List Lexed} → StopsGoal ops ts c us → goal_reading ops ts ≡ Err (c, us)
unfolding goal_reading
stopped-goal (in_goal s) = ap (λ z. z >>= λ r. ends_goal r.0 r.2) (stopped s)
stopped-goal (goal_without_end {u = u} {us = us} {x = x} r n) = ap (λ z. z >>= λ r. ends_goal r.0 r.2) (complete r) ∙ goal_not_ended x u us n
stopped-goal (behind_goal {e = e} {u = u} {us = us} {x = x} r k) = ap (λ z. z >>= λ r. ends_goal r.0 r.2) (complete r) ∙ goal_ended x e (u ∷ us) k

sound-ends_goal : (ops : Table) (ts us : List Lexed) (y : Tree) (q : ℕ) (x : Tree) → Reads ops levels 1200 ts y q us → ends_goal y us ≡ Ok x → ReadsGoal ops ts x
sound-ends_goal ops ts [] y q x r h = subst (λ x. ReadsGoal ops ts x) (ok-of h) (goal r)
sound-ends_goal ops ts (e ∷ []) y q x r h =
    elim (chosen (is_end e.kind) _ _ _ h) [
      | inl a ↦ subst (λ x. ReadsGoal ops ts x) (ok-of a.1) (goal_and_end r (is_end_same e.kind a.0))
      | inr a ↦ let z = a.1 in cc
    ]
sound-ends_goal ops ts (e ∷ u ∷ us) y q x r h =
    elim (chosen (is_end e.kind) _ _ _ h) [
      | inl a ↦ let z = a.1 in cc
      | inr a ↦ let z = a.1 in cc
    ]

stop-ends_goal : (ops : Table) (ts us : List Lexed) (y : Tree) (q : ℕ) (e : Stop) → Reads ops levels 1200 ts y q us → ends_goal y us ≡ Err e → StopsGoal ops ts e.0 e.1
stop-ends_goal ops ts [] y q e r h = cc
stop-ends_goal ops ts (d ∷ []) y q e r h =
    elim (chosen (is_end d.kind) _ _ _ h) [
      | inl a ↦ let z = a.1 in cc
      | inr a ↦ subst (λ (e : Stop). StopsGoal ops ts e.0 e.1) (err-of {A = Tree} a.1) (goal_without_end r (is_end_false d.kind a.0))
    ]
stop-ends_goal ops ts (d ∷ u ∷ us) y q e r h =
    elim (chosen (is_end d.kind) _ _ _ h) [
      | inl a ↦ subst (λ (e : Stop). StopsGoal ops ts e.0 e.1) (err-of {A = Tree} a.1) (behind_goal r (is_end_same d.kind a.0))
      | inr a ↦ subst (λ (e : Stop). StopsGoal ops ts e.0 e.1) (err-of {A = Tree} a.1) (goal_without_end r (is_end_false d.kind a.0))
    ]

sound-goal : (ops : Table) (ts : List Lexed) (x : Tree) → goal_reading ops ts ≡ Ok x → ReadsGoal ops ts x
unfolding goal_reading
sound-goal ops ts x h =
    let (r, f, g) = bind_ok (reading ops levels 1200 ts) (λ r. ends_goal r.0 r.2) x h in
    sound-ends_goal ops ts r.2 r.0 r.1 x (sound ops levels 1200 ts r f) g

stop-goal : (ops : Table) (ts : List Lexed) (e : Stop) → goal_reading ops ts ≡ Err e → StopsGoal ops ts e.0 e.1
unfolding goal_reading
stop-goal ops ts e h =
    elim (bind_err (reading ops levels 1200 ts) (λ r. ends_goal r.0 r.2) e h) [
      | inl a ↦ in_goal (stops ops levels 1200 ts e a)
      | inr a ↦ stop-ends_goal ops ts a.0.2 a.0.0 a.0.1 e (sound ops levels 1200 ts a.0 a.1) a.2
    ]

-- ---- the laws

same_stop : (c d : ReadCause) (us vs : List Lexed) → ◌≡◌ {A = Stop} (c, us) (d, vs) → (c ≡ d) × (us ≡ vs)
same_stop c d us vs e = (ap (λ (s : Stop). s.0) e, ap (λ (s : Stop). s.1) e)

-- relations that a function decides have one outcome
one_outcome : (ts : List Lexed) (Reading : Tree → Type 0) (StopOf : ReadCause → List Lexed → Type 0) (answer : Read Tree) →
    ((x : Tree) → answer ≡ Ok x → Reading x) → ((x : Tree) → Reading x → answer ≡ Ok x) → ((e : Stop) → answer ≡ Err e → StopOf e.0 e.1) → ((c : ReadCause) (us : List Lexed) → StopOf c us → answer ≡ Err (c, us)) →
    ((c : ReadCause) (us : List Lexed) → StopOf c us → (before : List Lexed) × (ts ≡ before ++ us)) → HasOneOutcome ts Reading StopOf
one_outcome ts Reading StopOf answer reads read stop stopped place = record {
  exists = go answer refl;
  not_both = λ x c left r s. (let a = sym (read x r) ∙ stopped c left s in cc);
  only_reading = λ x y r s. ok-of (sym (read x r) ∙ read y s);
  only_stop = λ c d left other s z. same_stop c d left other (err-of {A = Tree} (sym (stopped c left s) ∙ stopped d other z));
  stop_has_place = place;
}
  where
    go : (a : Read Tree) → answer ≡ a → ((x : Tree) × Reading x) ⊎ ((c : ReadCause) × (left : List Lexed) × StopOf c left)
    go (Ok x) e = inl (x, reads x e)
    go (Err d) e = inr (d.0, d.1, stop d e)

pub each_has_one_outcome : EachHasOneOutcome
each_has_one_outcome ops ts = (
  one_outcome ts (ReadsClause ops ts) (StopsClause ops ts) (clause_reading ops ts) (sound-clause ops ts) (λ x r. complete-clause r) (stop-clause ops ts) (λ c us s. stopped-clause s) (λ c us s. ends-StopsClause s),
  one_outcome ts (ReadsGoal ops ts) (StopsGoal ops ts) (goal_reading ops ts) (sound-goal ops ts) (λ x r. complete-goal r) (stop-goal ops ts) (λ c us s. stopped-goal s) (λ c us s. ends-StopsGoal s),
)

pub reading_follows_grammar : ReadingFollowsGrammar
reading_follows_grammar = record {
  reads = λ ops m p ts x q rest. (sound ops m p ts (x, q, rest), complete);
  stops = λ ops m p ts c left. (stops ops m p ts (c, left), stopped);
  reads_clause = λ ops ts x. (sound-clause ops ts x, complete-clause);
  stops_clause = λ ops ts c left. (stop-clause ops ts (c, left), stopped-clause);
  reads_goal = λ ops ts x. (sound-goal ops ts x, complete-goal);
  stops_goal = λ ops ts c left. (stop-goal ops ts (c, left), stopped-goal);
}

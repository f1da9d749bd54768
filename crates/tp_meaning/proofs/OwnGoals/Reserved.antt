-- The goals that clauses may not define are those that no clause changes.
use Rattle.std.proofs.Common.{◌≡◌, ℕ, Bool, true, false, nat_eq, ◌&&◌, [], ◌∷◌, Option, Some, None, is_some, Result, Ok, Err, refl, sym, ap, ◌∙◌, if◌then◌else◌}
use Rattle.std.specs.Prelude.{IsTrue}
use Rattle.std.proofs.lemmas.Bool.{eq-eqb}
use Rattle.tp_terms.specs.Term.{Name, Terms, NoMore, More, names_eq, term_of, count_of}
use Rattle.tp_terms.proofs.Texts.Equal.{names_eq-same}
use Rattle.tp_meaning.specs.Goals.{GoalKind, goal_kind}
use Rattle.tp_meaning.specs.Goals as kind
use Rattle.tp_meaning.specs.Reserved.{ReservedAreOwn}
use Rattle.tp_meaning.specs.Checks.{unknown}
use Rattle.tp_meaning.specs.Turn.{Turn, Gives, some}
use Rattle.tp_meaning.specs.World.{start}
use Rattle.tp_meaning.specs.Clauses.{Base, Clause, user_goal, worlds_of}
use Rattle.tp_meaning.specs.Step.{goal_by, goal_step}

-- a goal by its kind
step-kind : (base : Base) (t : Turn) (b : ℕ) (f : Name) (ts : Terms) → goal_step base t b (term_of f ts) ≡ goal_by base t b f ts (goal_kind f (count_of ts))
step-kind base t b f NoMore = refl
step-kind base t b f (More x ts) = refl

known-same : (base : Base) (t : Turn) (b : ℕ) (f : Name) (ts : Terms) (k : GoalKind) → goal_by base t b f ts (Some k) ≡ goal_by [] t b f ts (Some k)
known-same base t b f ts (kind.Control k) = refl
known-same base t b f ts (kind.Process k) = refl
known-same base t b f ts (kind.BuiltIn k) = refl

-- a clause of a goal's name and number of arguments
abbrev own_clause : Name → Terms → Clause
own_clause f ts = record { name = f; args = ts; body = None; vars = 0 }

abbrev some_turn : Turn
some_turn = record { world = start (term_of [] NoMore) 0; process = 0; rest = [] }

defined : (f : Name) (ts : Terms) → user_goal (own_clause f ts ∷ []) some_turn f ts ≡ Ok (some (worlds_of some_turn (term_of f ts) (own_clause f ts ∷ [])))
defined f ts = go (names_eq f f && nat_eq (count_of ts) (count_of ts)) (ap (λ b. b && nat_eq (count_of ts) (count_of ts)) (names_eq-same f) ∙ eq-eqb (count_of ts) (count_of ts) refl)
  where
    go : (b : Bool) → b ≡ true → (elim (if b then own_clause f ts ∷ [] else []) as (λ _. Result Gives Rattle.tp_terms.specs.Term.Term) [ [] ↦ Err (unknown f (count_of ts)) | c ∷ cs ↦ Ok (some (worlds_of some_turn (term_of f ts) (c ∷ cs))) ]) ≡ Ok (some (worlds_of some_turn (term_of f ts) (own_clause f ts ∷ [])))
    go true e = refl
    go false e = absurd (cc)

pub reserved_own : ReservedAreOwn
reserved_own f ts = (to (goal_kind f (count_of ts)) refl, from (goal_kind f (count_of ts)) refl)
  where
    by : (base : Base) (t : Turn) (b : ℕ) (o : Option GoalKind) → goal_kind f (count_of ts) ≡ o → goal_step base t b (term_of f ts) ≡ goal_by base t b f ts o
    by base t b o e = step-kind base t b f ts ∙ ap (goal_by base t b f ts) e

    to : (o : Option GoalKind) → goal_kind f (count_of ts) ≡ o → IsTrue (is_some (goal_kind f (count_of ts))) → (base : Base) (t : Turn) (b : ℕ) → goal_step base t b (term_of f ts) ≡ goal_step [] t b (term_of f ts)
    to None e h base t b = absurd (let z : false ≡ true = sym (ap is_some e) ∙ h in cc)
    to (Some k) e h base t b = by base t b (Some k) e ∙ known-same base t b f ts k ∙ sym (by [] t b (Some k) e)

    from : (o : Option GoalKind) → goal_kind f (count_of ts) ≡ o → ((base : Base) (t : Turn) (b : ℕ) → goal_step base t b (term_of f ts) ≡ goal_step [] t b (term_of f ts)) → IsTrue (is_some (goal_kind f (count_of ts)))
    from None e h = absurd (
        let z : Err (unknown f (count_of ts)) ≡ Ok (some (worlds_of some_turn (term_of f ts) (own_clause f ts ∷ []))) =
        sym (by [] some_turn 0 None e) ∙ sym (h (own_clause f ts ∷ []) some_turn 0) ∙ by (own_clause f ts ∷ []) some_turn 0 None e ∙ defined f ts in
        cc)
    from (Some k) e h = ap is_some e

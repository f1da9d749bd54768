-- The parts of a condition.
use Rattle.std.specs.Prelude.{codes}
use Rattle.std.proofs.Common.{◌≡◌, ℕ, zero, suc, ◌+◌, ◌≤◌, Bool, true, false, cond, nat_eq, List, [], ◌∷◌, length, Some, None, refl, ap, ◌∙◌, arith}
use Rattle.std.proofs.lemmas.Bool.{eqb-true}
use Rattle.tp_terms.specs.declared.cells.Ref.{Ref}
use Rattle.tp_terms.specs.declared.cells.Cell.{Cell}
use Rattle.tp_terms.specs.declared.cells.Cell.TheVariants as cell
use Rattle.tp_terms.specs.Names.{IsTable}
use Rattle.tp_terms.specs.StartNames.{start_names}
use Rattle.tp_terms.specs.Shown.{name_at, IsNamed, AreNamed}
use Rattle.tp_terms.specs.Term.{Name, Terms, NoMore, More, names_eq, count_of, term_of}
use Rattle.tp_terms.proofs.Naming.Start.{names_eq-start}
use Rattle.tp_meaning.specs.Control.{parts}
use Rattle.tp_store.specs.Contents.{Contents, seen, args_seen}
use Rattle.tp_store.proofs.Standing.Facts.{count-seen}
use Rattle.tp_machine.specs.declared.task.Call.{Call}
use Rattle.tp_machine.specs.Meets.{IsCall}
use Rattle.tp_machine.specs.Parts.{HasParts}

-- ---- names that are enough

above : Cell → ℕ
above (cell.Var number) = 0
above (cell.Int value) = 0
above (cell.Atom name) = suc name.at
above (cell.Comp name first count) = suc name.at

all_above : List Cell → ℕ
all_above [] = 0
all_above (x ∷ cells) = above x + all_above cells

named-above : (x : Cell) (n : ℕ) → above x ≤ n → IsNamed n x
unfolding above
named-above (cell.Var number) n le = tt
named-above (cell.Int value) n le = tt
named-above (cell.Atom name) n le = omega (arith, le)
named-above (cell.Comp name first count) n le = omega (arith, le)

all_named : (cells : List Cell) (n : ℕ) → all_above cells ≤ n → AreNamed n cells
unfolding all_above
all_named [] n le = tt
all_named (x ∷ cells) n le = (named-above x n (omega (arith, le)), all_named cells n (omega (arith, le)))

blanks : ℕ → List Name
blanks zero = []
blanks (suc n) = [] ∷ blanks n

length-blanks : (n : ℕ) → length (blanks n) ≡ n
unfolding blanks
length-blanks zero = refl
length-blanks (suc n) = ap suc (length-blanks n)

-- the arguments of a goal are places of the store, whatever the names
pub within_call : (c : Contents) (goal : Ref) (call : Call) → ((names : List Name) → AreNamed (length names) c.cells → IsCall names c goal call) → call.first.at + call.count ≤ length c.cells
within_call c goal call h = (h (blanks (all_above c.cells)) (all_named c.cells (length (blanks (all_above c.cells))) (let e = length-blanks (all_above c.cells) in omega (arith, e)))).within

-- ---- the parts

-- a goal that isn't `->` with two arguments has no parts
parts-none : (f : Name) (ts : Terms) → (count_of ts ≡ 2 → names_eq f (codes "->") ≡ false) → parts (term_of f ts) ≡ None
parts-none f NoMore other = refl
parts-none f (More c NoMore) other = refl
parts-none f (More c (More t NoMore)) other = ap (λ b. cond b (Some (c, t)) None) (other refl)
parts-none f (More c (More t (More u ts))) other = refl

not_same : (m n : ℕ) → (m ≡ n → ⊥) → nat_eq m n ≡ false
not_same m n other = go (nat_eq m n) refl
  where
    go : (b : Bool) → nat_eq m n ≡ b → b ≡ false
    go true e = absurd (other (eqb-true m n e))
    go false e = refl

module _ (names : List Name) (c : Contents) (goal : Ref) (call : Call) (table : IsTable names) (h : IsCall names c goal call) where
  named_same : names_eq (name_at names call.name.at) (codes "->") ≡ nat_eq call.name.at 8
  unfolding start_names
  named_same = names_eq-start names table call.name.at 8 (codes "->") h.name refl

  -- a goal with another name is no condition
  pub other_name : (call.name.at ≡ 8 → ⊥) → HasParts names c goal None
  other_name other =
      ap parts h.is ∙ parts-none (name_at names call.name.at) (args_seen names c call.first.at call.count) (λ two. named_same ∙ not_same call.name.at 8 other)

  -- nor is one with another number of arguments
  pub other_count : (call.count ≡ 2 → ⊥) → HasParts names c goal None
  other_count other =
      ap parts h.is ∙ parts-none (name_at names call.name.at) (args_seen names c call.first.at call.count)
      (λ two. absurd (other (let e = count-seen names c call.first.at call.count in omega (arith, e, two))))

  shown_two : (n : ℕ) → n ≡ 2 → parts (term_of (name_at names call.name.at) (args_seen names c call.first.at n)) ≡ cond (names_eq (name_at names call.name.at) (codes "->")) (Some (seen names c call.first.at, seen names c (suc call.first.at))) None
  shown_two n e = ap (λ k. parts (term_of (name_at names call.name.at) (args_seen names c call.first.at k))) e

  -- a condition has its two arguments as parts
  pub two_parts : (second : Ref) → call.name.at ≡ 8 → call.count ≡ 2 → second.at ≡ call.first.at + 1 → HasParts names c goal (Some (call.first, second))
  two_parts second e two next =
      let z : suc call.first.at ≡ second.at = omega (arith, next) in (
        ap parts h.is ∙ shown_two call.count two ∙ ap (λ b. cond b (Some (seen names c call.first.at, seen names c (suc call.first.at))) None) (named_same ∙ ap (λ k. nat_eq k 8) e)
            ∙ ap (λ k. Some (seen names c call.first.at, seen names c k)) z,
        let w = h.within in omega (arith, two, w),
        let w = h.within in omega (arith, two, w, next),
      )

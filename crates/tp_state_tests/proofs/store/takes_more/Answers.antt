use Rattle.std.proofs.Common.{◌≡◌, ℕ, [], ◌∷◌, length, refl, ap, ◌∙◌, arith}
use Rattle.tp_terms.specs.declared.cells.AtomId.{AtomId}
use Rattle.tp_terms.specs.declared.cells.Cell.TheVariants.{Atom, Comp}
use Rattle.tp_terms.specs.declared.cells.Ref.{Ref}
use Rattle.tp_terms.specs.Shown.{terms_from}
use Rattle.tp_terms.specs.Term.{Term, args_of, count_of}
use Rattle.tp_terms.specs.Term as term
use Rattle.tp_store.specs.Contents.{Contents, chained, seen, with_cell}
use Rattle.tp_store.specs.Joined.{is_callable}
use Rattle.tp_state_tests.proofs.store.takes_more.Goals as goal

-- a store with an atom, a compound of it, and a further atom
three : AtomId → AtomId → AtomId → ℕ → Contents
three f a b n = record { cells = Atom a ∷ Comp f (record { at = n }) 1 ∷ Atom b ∷ []; pairs = []; vars = 0 }

shown : (f a b : AtomId) → seen [] (three f a b 0) 1 ≡ term.Comp [] (term.More (term.Atom []) term.NoMore)
unfolding three terms_from chained
shown f a b = refl

module _ (f a b : AtomId) (left goal : Ref) (none one two all : Contents) (start : none ≡ record { cells = []; pairs = []; vars = 0 })
    (first : one ≡ with_cell none (Atom a)) (left_at : left.at ≡ length none.cells) (second : two ≡ with_cell one (Comp f left 1)) (goal_at : goal.at ≡ length one.cells) (third : all ≡ with_cell two (Atom b)) where
  all_is : all ≡ three f a b 0
  unfolding three
  all_is =
      let before : one ≡ record { cells = Atom a ∷ []; pairs = []; vars = 0 } = first ∙ ap (λ c. with_cell c (Atom a)) start in
      third ∙ ap (λ c. with_cell c (Atom b)) (second ∙ ap (λ c. with_cell c (Comp f left 1)) before)
      ∙ ap (λ n. three f a b n) (left_at ∙ ap (λ (c : Contents). length c.cells) start)

  goal_is : seen [] all goal.at ≡ term.Comp [] (term.More (term.Atom []) term.NoMore)
  goal_is =
      let before : one ≡ record { cells = Atom a ∷ []; pairs = []; vars = 0 } = first ∙ ap (λ c. with_cell c (Atom a)) start in
      ap (λ c. seen [] c goal.at) all_is ∙ ap (seen [] (three f a b 0)) (goal_at ∙ ap (λ (c : Contents). length c.cells) before) ∙ shown f a b

pub join-requires-clause-callable : goal.join-requires-clause-callable
join-requires-clause-callable c =
    ap is_callable (goal_is _ _ _ c.in_ok-a.a c.in_ok-goal.goal c.new-store.result c.place.new.self c.place-2.new.self c.place-3.new.self c.new-store.ensures
    c.in_ok-a.ensures.value c.in_ok-a.ensures.place c.in_ok-goal.ensures.value c.in_ok-goal.ensures.place c.in_ok-b.ensures.value)

pub join-requires-clause-room : goal.join-requires-clause-room
join-requires-clause-room c =
    let h = ap (λ t. count_of (args_of t)) (goal_is _ _ _ c.in_ok-a.a c.in_ok-goal.goal c.new-store.result c.place.new.self c.place-2.new.self c.place-3.new.self c.new-store.ensures
    c.in_ok-a.ensures.value c.in_ok-a.ensures.place c.in_ok-goal.ensures.value c.in_ok-goal.ensures.place c.in_ok-b.ensures.value) in
    omega (arith, h)

use Rattle.std.proofs.Common.{◌≡◌, ◌+◌, ◌++◌, ◌∷◌, [], length, reverse, sym, ap, subst, ◌∙◌, arith}
use Rattle.std.specs.Option.{option_to_list}
use Rattle.tp_store.specs.declared.chains.Chains.{Chains}
use Rattle.tp_store.proofs.Copies.Rows.{IsRow, row_start, row_ready, row_turn, is_some_not}
use Rattle.tp_store.proofs.copy.build.Goals as goal
use Rattle.tp_store.proofs.copy.build.Goals.{in-Some+in_ok-place, in_default}

pub row-init : goal.row-init
row-init c = row_start c.args.chains.now c.args.made.now.items c.requires.chains c.requires.ready

pub place-requires-clause-chains : goal.place-requires-clause-chains
place-requires-clause-chains c = c.row.invariant.chains

pub place-requires-clause-before : goal.place-requires-clause-before
place-requires-clause-before c =
    let top : c.row.made.items ≡ c.pop.new.self.items ++ c.in-Some.cell ∷ [] = c.pop.ensures.items ∙ ap (λ o. c.pop.new.self.items ++ option_to_list o) c.in-Some.is in
    (row_ready c.args.chains.now c.row.chains _ _ c.row.k c.row.made.items c.pop.new.self.items c.in-Some.cell c.row.invariant top).0

pub place-requires-clause-numbered : goal.place-requires-clause-numbered
place-requires-clause-numbered c =
    let top : c.row.made.items ≡ c.pop.new.self.items ++ c.in-Some.cell ∷ [] = c.pop.ensures.items ∙ ap (λ o. c.pop.new.self.items ++ option_to_list o) c.in-Some.is in
    (row_ready c.args.chains.now c.row.chains _ _ c.row.k c.row.made.items c.pop.new.self.items c.in-Some.cell c.row.invariant top).1

pub row-preserved : goal.row-preserved
row-preserved c =
    elim c.match-pop.branch [
      | in-Some+in_ok-place w ↦
          let top : c.row.made.items ≡ c.pop.new.self.items ++ w.in-Some.cell ∷ [] = c.pop.ensures.items ∙ ap (λ o. c.pop.new.self.items ++ option_to_list o) w.in-Some.is in
          subst (λ (x : Chains). IsRow c.args.chains.now (reverse c.args.made.now.items) (length c.args.made.now.items) (c.row.k + 1) x c.pop.new.self.items) (sym w.chains-is)
          (row_turn c.args.chains.now c.row.chains _ _ _ c.row.k c.row.made.items c.pop.new.self.items w.in-Some.cell c.row.invariant top w.in_ok-place.ensures.chains w.in_ok-place.ensures.value)
      | in_default w ↦ absurd (is_some_not c.pop.result (c.pop.ensures.variant.1 (omega (arith, c.row.invariant.left, c.row-test.true, c.requires.enough))) w.in_default.not-Some)
    ]

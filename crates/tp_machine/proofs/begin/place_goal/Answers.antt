use Rattle.std.proofs.Common.{length, arith}
use Rattle.tp_terms.specs.declared.symbols.TheConstants.{CALL}
use Rattle.tp_terms.proofs.Naming.Start.{start-within}
use Rattle.tp_machine.proofs.Enters.Begun.{placed, empty_named}
use Rattle.tp_machine.proofs.begin.place_goal.Goals as goal

pub returns : goal.returns
returns c names table named =
    let mid_named = c.in_ok-root.ensures.named (length names) named in
    placed names c.args.goal.now c.args.store.now c.claim.new.self c.instance.new.self c.body.new.self c.in_ok-root.root c.in_ok-base.base c.requires.empty c.in_ok-base.ensures.value c.in_ok-base.ensures.first
    c.in_ok-root.ensures.adds (c.in_ok-root.ensures.shown names) c.in_ok-place.ensures.adds c.in_ok-place.ensures.store
    (λ h. c.in_ok-place.ensures.named (length names) (start-within names table CALL.at (omega arith)) (mid_named h))
    c.in_ok-place.place
    (c.in_ok-place.ensures.body names table (mid_named (empty_named names c.args.goal.now c.args.store.now c.claim.new.self c.requires.empty c.in_ok-base.ensures.value)))
    c.in_ok-place.ensures.place

use Rattle.std.proofs.Common.{◌<◌, length, Option, subst, ap, sym, ◌∙◌}
use Rattle.std.specs.Prelude.{IfSome}
use Rattle.std.specs.Option.{option_map}
use Rattle.tp_terms.specs.declared.cells.Ref.{Ref}
use Rattle.tp_store.specs.Contents.{seen}
use Rattle.tp_machine.proofs.Enters.Entered.{enters_body, body_names, cells-follow}
use Rattle.tp_machine.proofs.enter.enter_bound.Goals as goal

pub returns-in-Some-clause-entered : goal.returns-in-Some-clause-entered
returns-in-Some-clause-entered c names table named =
    let old = c.args.state.now.store in
    let new = c.body.new.self in
    let place = c.in-Some.place in
    enters_body names old new c.args.goal (c.requires.bound names) place
    (ap (option_map (λ (r : Ref). seen names new r.at)) (sym c.in-Some.is) ∙ c.in_ok-place.ensures.body names table named)
    (subst (λ (o : Option Ref). IfSome o (λ r. r.at < length new.cells)) c.in-Some.is c.in_ok-place.ensures.place)
    c.in_ok-place.ensures.adds c.in_ok-place.ensures.keeps (body_names names old new table named c.in_ok-place.ensures.named)

pub returns-in-Some-clause-follows : goal.returns-in-Some-clause-follows
returns-in-Some-clause-follows c = cells-follow c.args.state.now c.body.new.self c.in_ok-place.ensures.adds

pub returns-in-None-clause-follows : goal.returns-in-None-clause-follows
returns-in-None-clause-follows c = cells-follow c.args.state.now c.body.new.self c.in_ok-place.ensures.adds

use Rattle.std.proofs.Common.{◌≡◌, [], IfNone, length, ap, sym, subst, ◌∙◌, eqb-true}
use Rattle.std.specs.List.{position_from}
use Rattle.tp_machine.specs.Trying.{hits_at, places_in}
use Rattle.tp_machine.proofs.Step.Clauses.{is_unknown}
use Rattle.tp_machine.proofs.Trying.Runs.{no-clauses, none-runs}
use Rattle.tp_machine.proofs.Trying.Split.{no-element}
use Rattle.tp_machine.proofs.machine.Machine.run_clauses.Goals as goal

pub raise-requires-clause-cause : goal.raise-requires-clause-cause
raise-requires-clause-cause c =
    let m = c.args.self.now in
    is_unknown m c.args.task c.args.call c.requires.call
    (no-clauses m c.args.task c.args.call c.requires.call (subst (λ o. IfNone o (places_in m c.args.call ≡ [])) c.in_default.is c.candidates.ensures.none))

pub returns-then-is_empty-clause-done : goal.returns-then-is_empty-clause-done
returns-then-is_empty-clause-done c =
    let m = c.args.self.now in
    let t = c.args.task in
    let ids = c.in-Some.ids.now in
    let e : ids ≡ [] = no-element ids (eqb-true (length ids) 0 (sym c.is_empty.ensures ∙ c.if-is_empty.true)) in
    none-runs m t c.args.call c.requires.call c.requires.machine ids (c.in-Some.ensures.tried t c.requires.call) c.in-Some.ensures.some
    (ap (position_from (hits_at m t.goal) 0) e)

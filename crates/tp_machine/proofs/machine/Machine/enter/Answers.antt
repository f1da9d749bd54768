use Rattle.std.proofs.Common.{true, false, length, ap, sym, subst, ◌∙◌}
use Rattle.tp_terms.specs.Shown.{AreNamed}
use Rattle.tp_state.specs.Acts.{bodied, resting}
use Rattle.tp_state.proofs.GoingBack.Follows.{follows-then}
use Rattle.tp_machine.specs.Heads.{EntersClause}
use Rattle.tp_machine.specs.HeadsTried.{TriesHead, is_met}
use Rattle.tp_machine.proofs.Meets.HeadsMet.{head_is}
use Rattle.tp_machine.proofs.Step.Items.{rest-follows}
use Rattle.tp_machine.proofs.Step.Clauses.{enters}
use Rattle.tp_machine.proofs.Trying.Runs.{hit-at, placed-here, placed-hits}
use Rattle.tp_machine.proofs.machine.Machine.enter.Goals as goal

pub returns-in_default-clause-met : goal.returns-in_default-clause-met
returns-in_default-clause-met c =
    let m = c.args.self.now in
    sym (hit-at m c.args.task.goal c.requires.meets.standing c.args.id c.clause-clause.result c.clause-clause.ensures.view c.clause-clause.ensures.fits _ false c.cells.ensures.cells
    (λ names h named. sym (ap is_met c.in_default.is) ∙ c.in_ok-body.ensures.met names h named))

pub returns-clause-met : goal.returns-clause-met
returns-clause-met c =
    let m = c.args.self.now in
    sym (hit-at m c.args.task.goal c.requires.meets.standing c.args.id c.clause-clause.result c.clause-clause.ensures.view c.clause-clause.ensures.fits _ true c.cells.ensures.cells
    (λ names h named. sym (ap is_met c.in-Met.is) ∙ c.in_ok-body.ensures.met names h named))

pub returns-clause-done : goal.returns-clause-done
returns-clause-done c ok call place p =
    let m = c.args.self.now in
    let t = c.args.task in
    let is = c.requires.meets.standing in
    let v = c.clause-clause.result in
    let view = c.clause-clause.ensures.view in
    let fits = c.clause-clause.ensures.fits in
    let cells = m.base.now.cells in
    let mid = c.try_head.new.state in
    let head = subst (λ h. TriesHead t.goal c.cells.result.now.items v m.state mid h) c.in-Met.is c.in_ok-body.ensures.tried in
    let hit = hit-at m t.goal is c.args.id v view fits _ true c.cells.ensures.cells (λ names h named. sym (ap is_met c.in-Met.is) ∙ c.in_ok-body.ensures.met names h named) in
    let named = subst (AreNamed (length m.atoms)) (sym c.cells.ensures.cells) is.program.named in
    let e = subst (λ cs. EntersClause m.atoms t.goal.at cs v m.state.store c.in-Met.body mid.store) c.cells.ensures.cells (head.enters m.atoms (record { distinct = is.program.table.distinct; named = is.stands.atoms }) named) in
    enters m t call place (placed-hits m t call place c.args.id p v view hit) cells v (placed-here m t call place c.args.id p v view) (head_is m.atoms cells v is.program.base.built fits)
    c.in-Met.body mid.store head.store e c.push_body.new.self
    (follows-then _ _ _ head.follows (follows-then _ _ _ (rest-follows mid t.rest) c.in_ok-push_body.ensures.follows))
    (c.in_ok-push_body.ensures.plain ∙ ap (λ q. bodied c.in-Met.body m.stamp (resting t.rest q)) head.plain)

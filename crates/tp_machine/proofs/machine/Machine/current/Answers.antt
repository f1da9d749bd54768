use Rattle.std.proofs.Common.{ap, sym, ◌∙◌, ◌∷◌}
use Rattle.tp_control.specs.Lists.{items_at}
use Rattle.tp_machine.proofs.Enters.GoalsMet.{not_named}
use Rattle.tp_machine.proofs.machine.Machine.current.Goals as goal

pub returns-in_default-met : goal.returns-in_default-met
returns-in_default-met c g b rest f ts list is p run =
    let m = c.args.self.now in
    not_named m.atoms m.state.store c.in-Goal-default.goal g c.in-Goal-default.barrier b (items_at m.state.frames c.get.result.1) rest c.met.result (c.met.ensures m.atoms c.requires.stands.atoms) c.in_default-met.not-Named f ts
    (sym (ap (items_at m.state.frames) c.in_ok-first.was ∙ c.get.ensures.list ∙ ap (λ i. i ∷ items_at m.state.frames c.get.result.1) c.in-Goal-default.is-0) ∙ list) is

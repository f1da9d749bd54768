use Rattle.std.proofs.Common.{◌++◌, sym, ap, ◌∙◌}
use Rattle.tp_write.specs.Work.{compound_pieces}
use Rattle.tp_write.proofs.expand.push_compound.Goals as goal

pub returns-in_ok-push_infix-in-Infix : goal.returns-in_ok-push_infix-in-Infix
returns-in_ok-push_infix-in-Infix c =
    c.in_ok-push_infix-in-Infix.ensures
    ∙ ap (λ form. c.args.stack.now.items ++ compound_pieces c.args.atoms.now form c.args.name c.args.args.0 c.args.args.1) (sym c.in-Infix.is)

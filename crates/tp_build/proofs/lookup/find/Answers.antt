use Rattle.std.proofs.Common.{Some, sym, ap, ◌∙◌}
use Rattle.tp_terms.specs.Shown.{name_at}
use Rattle.tp_build.proofs.RowAnswers.Counts.{count-fits}
use Rattle.tp_build.proofs.lookup.find.Goals as goal

pub returns-in-Some-BuiltIn-clause-count : goal.returns-in-Some-BuiltIn-clause-count
returns-in-Some-BuiltIn-clause-count c names t lt =
    count-fits (name_at names c.args.name.at) c.args.count c.in-Some-BuiltIn.id (sym (c.in-Some-BuiltIn.ensures names t lt) ∙ ap Some c.in-Some-BuiltIn.field-0-is)

use Rattle.std.proofs.lemmas.Option.{slice_get-get_or}
use Rattle.tp_meaning.specs.declared.goals.TheConstants.{GOALS}
use Rattle.tp_meaning.proofs.goals.row_at.Goals as goal

pub returns : goal.returns
returns c = slice_get-get_or GOALS c.args.place _ c.requires

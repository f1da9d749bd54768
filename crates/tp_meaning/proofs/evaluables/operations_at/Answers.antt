use Rattle.std.proofs.lemmas.Option.{slice_get-get_or}
use Rattle.tp_meaning.specs.declared.evaluables.TheConstants.{OPERATIONS}
use Rattle.tp_meaning.proofs.evaluables.operations_at.Goals as goal

pub returns : goal.returns
returns c = slice_get-get_or OPERATIONS c.args.place _ c.requires

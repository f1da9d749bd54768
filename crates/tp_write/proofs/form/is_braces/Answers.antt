use Rattle.tp_write.proofs.Writes.Forms.{named_braces}
use Rattle.tp_write.proofs.form.is_braces.Goals as goal

pub returns : goal.returns
returns c = named_braces c.args.atoms.now c.args.name.at c.name.result.now c.eq.result c.name.ensures.name c.name.utf8 c.eq.ensures

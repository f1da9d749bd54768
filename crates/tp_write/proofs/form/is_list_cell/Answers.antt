use Rattle.tp_write.proofs.Writes.Forms.{named_dot}
use Rattle.tp_write.proofs.form.is_list_cell.Goals as goal

pub returns : goal.returns
returns c = named_dot c.args.atoms.now c.args.name.at c.name.result.now c.eq.result c.name.ensures.name c.name.utf8 c.eq.ensures

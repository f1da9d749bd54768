use Rattle.tp_build.proofs.PlacesShow.Checked.{length-unbound}
use Rattle.tp_build.proofs.atoms.length_wanted.Goals as goal

pub returns-in-Var : goal.returns-in-Var
returns-in-Var c h at top = length-unbound h at c.in-Var.field-0 c.args.cell c.in-Var.is top

use Rattle.tp_build.proofs.PlacesShow.Checked.{integer-other}
use Rattle.tp_build.proofs.checks.integer.Goals as goal

pub returns-in_default : goal.returns-in_default
returns-in_default c h at t = integer-other h at c.args.cell c.in_default.not-Int t

use Rattle.tp_build.proofs.PlacesShow.Checked.{atomic-found}
use Rattle.tp_build.proofs.checks.atomic.Goals as goal

pub returns-in_default : goal.returns-in_default
returns-in_default c h at top = atomic-found h at c.args.cell c.in_default.not-Comp top

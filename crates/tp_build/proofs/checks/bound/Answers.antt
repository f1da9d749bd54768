use Rattle.tp_build.proofs.PlacesShow.Checked.{bound-variable}
use Rattle.tp_build.proofs.checks.bound.Goals as goal

pub returns-in-Var : goal.returns-in-Var
returns-in-Var c h at t = bound-variable h at c.in-Var.field-0 c.args.cell c.in-Var.is t

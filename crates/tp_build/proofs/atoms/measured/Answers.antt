use Rattle.std.proofs.lemmas.Result.{err_from_is_err_and}
use Rattle.tp_build.proofs.PlacesShow.Checked.{measures-no_name}
use Rattle.tp_build.proofs.atoms.measured.Goals as goal

pub returns-in_err-name : goal.returns-in_err-name
returns-in_err-name c h a n top_a top_n =
    let p = err_from_is_err_and c.from_residual-in_err-name.result c.from_residual-in_err-name.ensures.1 in
    rw (p.1, p.2) (measures-no_name h a n c.args.atom _ (c.in_ok-bound.ensures h a top_a) c.in_err-name.ensures.0 c.in_err-name.ensures.1 top_a)

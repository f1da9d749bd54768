use Rattle.std.proofs.lemmas.Result.{err_from_is_err_and}
use Rattle.tp_build.proofs.PlacesShow.Checked.{name-other}
use Rattle.tp_build.proofs.RowAnswers.Parts.{head-found, head-no_name}
use Rattle.tp_build.proofs.parts.head_given.Goals as goal

pub returns-in_err-name : goal.returns-in_err-name
returns-in_err-name c h at top =
    let p = err_from_is_err_and c.from_residual-in_err-name.result c.from_residual-in_err-name.ensures.1 in
    rw (p.1, p.2) (head-no_name h at c.args.cell c.args.count _ _ (c.in_ok-bound.ensures h at top) c.in_err-name.ensures.0 (name-other h at c.args.cell c.in_err-name.ensures.1 top))

pub returns : goal.returns
returns c h at top = head-found h at c.args.cell c.in_ok-name.name c.args.count c.in_ok-count.count top (c.in_ok-bound.ensures h at top) c.in_ok-name.ensures (c.in_ok-count.ensures h)

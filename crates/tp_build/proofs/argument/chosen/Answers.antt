use Rattle.std.proofs.Common.{◌≡◌, Ok, subst, SFits, w64, rules}
use Rattle.std.proofs.lemmas.Result.{err_from_is_err_and}
use Rattle.std.proofs.lemmas.Int.{to_z-of_z}
use Rattle.tp_meaning.specs.Checks.{natural}
use Rattle.tp_build.specs.Errors.{IsFault}
use Rattle.tp_build.proofs.RowAnswers.Argument.{picks, picks-no_args, picks-no_number, places-of}
use Rattle.tp_build.proofs.argument.chosen.Goals as goal

pub nth-requires : goal.nth-requires
nth-requires c = places-of c.args.of c.in_ok-row.ensures.0 c.in_ok-row.row.first c.in_ok-row.row.count c.in_ok-row.ensures.1 c.requires

pub returns-in_err-row : goal.returns-in_err-row
returns-in_err-row c h n t top_n top_t =
    let p = err_from_is_err_and c.from_residual-in_err-row.result c.from_residual-in_err-row.ensures.1 in
    rw (p.1, p.2) (picks-no_args h n t c.args.of c.in_ok-value.value _ (c.in_ok-bound.ensures h n top_n) (c.in_ok-bound-2.ensures h t top_t) (c.in_ok-value.ensures h n top_n) c.in_err-row.ensures.0 c.in_err-row.ensures.1 top_t)

pub returns-in_err-wanted : goal.returns-in_err-wanted
returns-in_err-wanted c h n t top_n top_t =
    let fits : SFits w64 c.in_ok-value.value = search rules in
    let p = err_from_is_err_and c.from_residual-in_err-wanted.result c.from_residual-in_err-wanted.ensures.1 in
    rw (p.1, p.2) (picks-no_number h n t c.args.of c.in_ok-row.ensures.0 c.in_ok-row.row.first c.in_ok-row.row.count c.in_ok-value.value _ (c.in_ok-bound.ensures h n top_n) (c.in_ok-bound-2.ensures h t top_t) (c.in_ok-value.ensures h n top_n) c.in_ok-row.ensures.1 top_t (subst (λ z. IsFault h (natural z) c.in_err-wanted.field-0.0) (to_z-of_z w64 c.in_ok-value.value fits) (c.in_err-wanted.ensures h)))

pub returns : goal.returns
returns c h n t top_n top_t =
    let fits : SFits w64 c.in_ok-value.value = search rules in
    picks h n t c.args.of c.in_ok-row.ensures.0 c.in_ok-row.row.first c.in_ok-row.row.count c.in_ok-value.value c.in_ok-wanted.wanted c.nth.result (c.in_ok-bound.ensures h n top_n) (c.in_ok-bound-2.ensures h t top_t) (c.in_ok-value.ensures h n top_n) c.in_ok-row.ensures.1 top_t (subst (λ z. natural z ≡ Ok c.in_ok-wanted.wanted) (to_z-of_z w64 c.in_ok-value.value fits) (c.in_ok-wanted.ensures h)) c.nth.ensures

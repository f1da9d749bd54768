use Rattle.std.proofs.Common.{rules, sym, subst, SFits, w64}
use Rattle.std.proofs.lemmas.Int.{to_z-of_z}
use Rattle.tp_meaning.specs.Checks.{◌>>=◌, natural}
use Rattle.tp_build.specs.Errors.{Finds, itself}
use Rattle.tp_build.proofs.checks.natural_in.Goals as goal

pub returns : goal.returns
returns c h at top =
    let fits : SFits w64 c.in_ok-value.value = search rules in
    subst (λ m. Finds h (m >>= natural) itself c.natural.result) (sym (c.in_ok-value.ensures h at top)) (subst (λ z. Finds h (natural z) itself c.natural.result) (to_z-of_z w64 c.in_ok-value.value fits) (c.natural.ensures h))

use Rattle.std.proofs.Common.{◌≡◌, Ok, sym, subst, SFits, w64, rules}
use Rattle.std.proofs.lemmas.Int.{to_z-of_z}
use Rattle.tp_meaning.specs.Checks.{natural}
use Rattle.tp_meaning.specs.Answers.{character}
use Rattle.tp_build.specs.Errors.{Finds, IsFault, itself}
use Rattle.tp_build.proofs.RowAnswers.Codes.{natural-is, character-none}
use Rattle.tp_build.proofs.codes.character.Goals as goal

pub returns-in-Ok : goal.returns-in-Ok
returns-in-Ok c h =
    let fits : SFits w64 c.args.value = search rules in
    let e : natural c.args.value ≡ Ok c.in-Ok.code = subst (λ z. natural z ≡ Ok c.in-Ok.code) (to_z-of_z w64 c.args.value fits) (c.in-Ok.ensures h) in
    subst (λ z. Finds h (character z) itself c.coded.result) (sym (natural-is c.args.value c.in-Ok.code e)) (c.coded.ensures h)

pub returns-in-Err : goal.returns-in-Err
returns-in-Err c h =
    let fits : SFits w64 c.args.value = search rules in
    character-none h c.args.value c.in-Err.field-0 (subst (λ z. IsFault h (natural z) c.in-Err.field-0) (to_z-of_z w64 c.args.value fits) (c.in-Err.ensures h))

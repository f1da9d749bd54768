use Rattle.std.proofs.Common.{sym, subst, SFits, w64, rules}
use Rattle.std.proofs.lemmas.Int.{to_z-of_z}
use Rattle.tp_meaning.specs.Heap.{seen}
use Rattle.tp_meaning.specs.Answers.{character}
use Rattle.tp_build.specs.Errors.{Finds, itself}
use Rattle.tp_build.proofs.RowAnswers.Codes.{character-of}
use Rattle.tp_build.proofs.codes.character_of.Goals as goal

pub returns : goal.returns
returns c h at top =
    let fits : SFits w64 c.in_ok-value.value = search rules in
    subst (λ m. Finds h m itself c.character.result) (sym (character-of (seen h at) c.in_ok-value.value (c.in_ok-bound.ensures h at top) (c.in_ok-value.ensures h at top)))
    (subst (λ z. Finds h (character z) itself c.character.result) (to_z-of_z w64 c.in_ok-value.value fits) (c.character.ensures h))

use Rattle.std.proofs.Common.{sym, refl, ◌∙◌, codes}
use Rattle.std.specs.Str.{chars, is_utf8}
use Rattle.std.proofs.lemmas.Str.{IsUtf8-from_is_utf8}
use Rattle.tp_terms.proofs.Texts.Equal.{names_eq-chars}
use Rattle.tp_parse.proofs.ReadsTerms.Exits.{minus-text}
use Rattle.tp_parse.proofs.leaves.is_minus.Goals as goal

pub returns-in-Name : goal.returns-in-Name
unfolding chars is_utf8 lib.Utf8.encode
returns-in-Name c =
    c.eq.ensures ∙ sym (names_eq-chars c.plain_name.result.now (codes "-") c.plain_name.utf8 (IsUtf8-from_is_utf8 (codes "-") refl))
    ∙ minus-text c.args.source.now.text.now c.plain_name.result.now c.args.word c.in-Name.is c.plain_name.ensures

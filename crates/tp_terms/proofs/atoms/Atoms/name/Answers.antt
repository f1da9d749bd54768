use Rattle.std.proofs.Common.{◌≡◌, Some, slice_get, chars, sym, ap, ◌∙◌}
use Rattle.tp_terms.proofs.Texts.Equal.{bytes-chars}
use Rattle.tp_terms.proofs.Naming.Tables.{name_at-slice_get, slice_get-names_of}
use Rattle.tp_terms.proofs.atoms.Atoms.name.Goals as goal

pub returns-clause-bytes : goal.returns-clause-bytes
returns-clause-bytes c =
    let there : slice_get c.args.self.now c.args.atom.at ≡ Some (chars c.as_str.result.now) =
    ap (λ names. slice_get names c.args.atom.at) (sym c.self.view_is)
    ∙ slice_get-names_of c.self.inside.names.keys c.as_str.result.now c.args.atom.at c.index.result.now c.index.ensures c.as_str.ensures.value in
    bytes-chars _ _ c.as_str.utf8 (sym (name_at-slice_get c.args.self.now c.args.atom.at _ there))

use Rattle.std.proofs.Common.{sym, ap, ◌∙◌}
use Rattle.tp_parse.specs.Words.{atom_by, opens_by}
use Rattle.tp_parse.proofs.cursor.Cursor.makes_atom.Goals as goal

pub returns-in-Some : goal.returns-in-Some
returns-in-Some c =
    let w = c.in-Some.word in
    rw (sym c.first.ensures ∙ c.in-Some.is) (c.ends_operator.ensures ∙ ap (λ o. atom_by w.token.kind w (opens_by o)) c.second.ensures)

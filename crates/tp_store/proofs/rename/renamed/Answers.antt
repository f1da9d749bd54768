use Rattle.std.proofs.Common.{◌+◌, ◌∙◌, ap, sym}
use Rattle.std.proofs.lemmas.Option.{same_Some}
use Rattle.tp_terms.specs.declared.cells.Cell.TheVariants.{Var}
use Rattle.tp_meaning.specs.Copy.{place_in}
use Rattle.tp_store.specs.Renamed.{renamed_by}
use Rattle.tp_store.proofs.Copies.Variables.{found-place}
use Rattle.tp_store.proofs.rename.renamed.Goals as goal

pub unreachable-requires : goal.unreachable-requires
unreachable-requires c =
    let vs = c.args.variables.now.keys in
    c.in_default-get_index_of.not-Some (place_in vs c.in-Var.number) (found-place vs c.in-Var.number c.get_index_of.result c.get_index_of.ensures.index (c.requires.known c.in-Var.number c.in-Var.is))

pub returns-in-Some : goal.returns-in-Some
returns-in-Some c =
    let vs = c.args.variables.now.keys in
    let found = found-place vs c.in-Var.number c.get_index_of.result c.get_index_of.ensures.index (c.requires.known c.in-Var.number c.in-Var.is) in
    ap (λ n. Var (c.args.base + n)) (same_Some c.in-Some.place (place_in vs c.in-Var.number) (sym c.in-Some.is ∙ found)) ∙ sym (ap (renamed_by c.args.base vs) c.in-Var.is)

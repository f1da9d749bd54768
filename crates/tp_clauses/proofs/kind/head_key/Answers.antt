use Rattle.std.proofs.Common.{length, sym, ap, ◌∙◌}
use Rattle.tp_terms.specs.declared.cells.Cell.TheVariants as cell
use Rattle.tp_terms.proofs.Places.Shown.{AreNamed-cell}
use Rattle.tp_clauses.specs.Kinds.{head_key}
use Rattle.tp_clauses.proofs.kind.head_key.Goals as goal

pub returns-in-Atom-clause-head : goal.returns-in-Atom-clause-head
returns-in-Atom-clause-head c names h =
    let here = c.in-Atom.ensures.value in
    c.free_key.ensures.free names h.table (AreNamed-cell (length names) c.args.cells.now.items c.args.head.at (cell.Atom c.in-Atom.name) h.named here) ∙ ap (head_key names) (sym here)

pub returns-in-Comp-clause-head : goal.returns-in-Comp-clause-head
returns-in-Comp-clause-head c names h =
    let here = c.in-Comp.ensures.value in
    c.free_key-in-Comp.ensures.free names h.table (AreNamed-cell (length names) c.args.cells.now.items c.args.head.at (cell.Comp c.in-Comp.name c.in-Comp.first c.in-Comp.count) h.named here) ∙ ap (head_key names) (sym here)

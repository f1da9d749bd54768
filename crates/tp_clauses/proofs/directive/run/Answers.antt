use Rattle.std.proofs.Common.{sym, subst}
use Rattle.tp_terms.specs.Shown.{shows}
use Rattle.tp_parse.specs.Ops.{table_of}
use Rattle.tp_clauses.specs.Told.{TellsDirective}
use Rattle.tp_clauses.proofs.Taking.Directives.{Runs, operators_run}
use Rattle.tp_clauses.proofs.directive.run.Goals as goal

pub add_names-requires-clause-within : goal.add_names-requires-clause-within
add_names-requires-clause-within c =
    (subst (Runs c.args.atoms.now c.args.cells.now.items (shows c.args.atoms.now c.args.cells.now.items c.args.goal.at)) (sym c.in-Some.ensures) (operators_run c.args.atoms.now c.args.cells.now.items c.requires.names c.requires.built c.args.goal.at c.requires.within)).1

pub add_names-requires-clause-kind : goal.add_names-requires-clause-kind
add_names-requires-clause-kind c =
    (subst (Runs c.args.atoms.now c.args.cells.now.items (shows c.args.atoms.now c.args.cells.now.items c.args.goal.at)) (sym c.in-Some.ensures) (operators_run c.args.atoms.now c.args.cells.now.items c.requires.names c.requires.built c.args.goal.at c.requires.within)).2

pub returns-in-Some-clause-told : goal.returns-in-Some-clause-told
returns-in-Some-clause-told c =
    let here = subst (Runs c.args.atoms.now c.args.cells.now.items (shows c.args.atoms.now c.args.cells.now.items c.args.goal.at)) (sym c.in-Some.ensures) (operators_run c.args.atoms.now c.args.cells.now.items c.requires.names c.requires.built c.args.goal.at c.requires.within) in
    subst (TellsDirective (table_of c.add_names.new.ops) c.add_names.result) (sym (here.0 (table_of c.args.ops.now))) c.add_names.ensures.told

pub returns-in-None-clause-told : goal.returns-in-None-clause-told
returns-in-None-clause-told c =
    let here = subst (Runs c.args.atoms.now c.args.cells.now.items (shows c.args.atoms.now c.args.cells.now.items c.args.goal.at)) (sym c.in-None.ensures) (operators_run c.args.atoms.now c.args.cells.now.items c.requires.names c.requires.built c.args.goal.at c.requires.within) in
    here (table_of c.args.ops.now)

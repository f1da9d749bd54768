use Rattle.std.proofs.Common.{ap, ◌∙◌, sym, subst, arith, rules, w64, Err}
use Rattle.std.proofs.lemmas.Result.{err_from_is_err_and}
use mir.Val.{SFits}
use Rattle.tp_parse.specs.Table.{add_op}
use Rattle.tp_terms.specs.Shown.{name_at, shows}
use Rattle.tp_parse.specs.Ops.{table_of}
use Rattle.std.proofs.lemmas.Int.{ints, to_z-of_z}
use Rattle.tp_clauses.specs.Directives.{listed_names}
use Rattle.tp_clauses.specs.Told.{each_added, added_or_none}
use Rattle.tp_clauses.proofs.Taking.Directives.{Listed, listed, each_step, each_stops, told_err}
use Rattle.tp_clauses.proofs.directive.add_listed.Goals as goal

pub returns-in-End : goal.returns-in-End
returns-in-End c =
    let here = subst (Listed c.args.atoms.now c.args.cells.now.items c.names.rest.at) (sym c.in-End.ensures) (listed c.args.atoms.now c.args.cells.now.items c.requires.names c.requires.built c.names.rest.at c.names.invariant.within) in
    sym c.names.invariant.same ∙ ap (λ o. each_added c.args.operators.priority (name_at c.args.atoms.now c.args.operators.kind.at) o (table_of c.names.ops)) here

pub add_name-requires-clause-name : goal.add_name-requires-clause-name
add_name-requires-clause-name c =
    let here = subst (Listed c.args.atoms.now c.args.cells.now.items c.names.rest.at) (sym c.in-Name.ensures) (listed c.args.atoms.now c.args.cells.now.items c.requires.names c.requires.built c.names.rest.at c.names.invariant.within) in
    here.2

pub names-smaller : goal.names-smaller
names-smaller c =
    let here = subst (Listed c.args.atoms.now c.args.cells.now.items c.names.rest.at) (sym c.in-Name.ensures) (listed c.args.atoms.now c.args.cells.now.items c.requires.names c.requires.built c.names.rest.at c.names.invariant.within) in
    here.1

pub names-preserved : goal.names-preserved
names-preserved c =
    let here = subst (Listed c.args.atoms.now c.args.cells.now.items c.names.rest.at) (sym c.in-Name.ensures) (listed c.args.atoms.now c.args.cells.now.items c.requires.names c.requires.built c.names.rest.at c.names.invariant.within) in
    record {
      within = (let l = here.1 in let w = c.names.invariant.within in omega arith);
      same =
          sym (each_step c.args.operators.priority (name_at c.args.atoms.now c.args.operators.kind.at) (name_at c.args.atoms.now c.in-Name.name.at) (listed_names (shows c.args.atoms.now c.args.cells.now.items c.in-Name.behind.at)) (table_of c.names.ops) (table_of c.add_name.new.ops) (grind (arith, ints, c.in_ok-add_name-in-Name.ensures.told)))
          ∙ sym (ap (λ o. each_added c.args.operators.priority (name_at c.args.atoms.now c.args.operators.kind.at) o (table_of c.names.ops)) here.0) ∙ c.names.invariant.same;
    }

pub returns-in_err-add_name-in-Name : goal.returns-in_err-add_name-in-Name
returns-in_err-add_name-in-Name c =
    let here = subst (Listed c.args.atoms.now c.args.cells.now.items c.names.rest.at) (sym c.in-Name.ensures) (listed c.args.atoms.now c.args.cells.now.items c.requires.names c.requires.built c.names.rest.at c.names.invariant.within) in
    let p = err_from_is_err_and c.from_residual.result c.from_residual.ensures.1 in
    let fits : SFits w64 c.args.operators.priority = search rules in
    let told = simp to_z-of_z at c.in_err-add_name-in-Name.ensures.told in
    let kind = name_at c.args.atoms.now c.args.operators.kind.at in
    told_err (table_of c.add_name.new.ops) (added_or_none (add_op c.args.operators.priority kind (name_at c.args.atoms.now c.in-Name.name.at) (table_of c.names.ops)))
    (each_added c.args.operators.priority kind (listed_names (shows c.args.atoms.now c.args.cells.now.items c.args.operators.names.at)) (table_of c.args.ops.now))
    c.from_residual.result c.in_err-add_name-in-Name.field-0.0 (p.1 ∙ ap Err p.2)
    (λ e.
    sym c.names.invariant.same ∙ ap (λ o. each_added c.args.operators.priority kind o (table_of c.names.ops)) here.0
    ∙ each_stops c.args.operators.priority kind (name_at c.args.atoms.now c.in-Name.name.at) (listed_names (shows c.args.atoms.now c.args.cells.now.items c.in-Name.behind.at)) (table_of c.names.ops) e)
    told

pub returns-in-Other : goal.returns-in-Other
returns-in-Other c =
    let here = subst (Listed c.args.atoms.now c.args.cells.now.items c.names.rest.at) (sym c.in-Other.ensures) (listed c.args.atoms.now c.args.cells.now.items c.requires.names c.requires.built c.names.rest.at c.names.invariant.within) in
    sym c.names.invariant.same ∙ ap (λ o. each_added c.args.operators.priority (name_at c.args.atoms.now c.args.operators.kind.at) o (table_of c.names.ops)) here

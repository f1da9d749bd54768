use Rattle.std.proofs.Common.{◌≡◌, ap, ◌∙◌, sym, subst, arith, true, rules, w64, Some, None, ◌∷◌, []}
use Rattle.tp_terms.specs.Shown.{name_at, shows}
use Rattle.tp_parse.specs.Ops.{table_of}
use Rattle.std.proofs.lemmas.Int.{ints, to_z-of_z}
use Rattle.tp_clauses.specs.Directives.{allows, op_names, listed_names}
use mir.Val.{SFits}
use Rattle.tp_clauses.specs.Told.{TellsDirective, each_added}
use Rattle.tp_clauses.proofs.Taking.Directives.{lone-named, names_refused, names_allowed, op_names-lone, one_added}
use Rattle.tp_clauses.proofs.Taking.StartNames.{allows-named}
use Rattle.tp_clauses.proofs.directive.add_names.Goals as goal

pub returns-then-not-allows-clause-told : goal.returns-then-not-allows-clause-told
returns-then-not-allows-clause-told c =
    names_refused c.args.operators.priority (name_at c.args.atoms.now c.args.operators.kind.at) (op_names (shows c.args.atoms.now c.args.cells.now.items c.args.operators.names.at)) (table_of c.args.ops.now)
    (allows-named c.args.atoms.now (c.requires.names).table c.args.operators.priority c.args.operators.kind c.requires.kind ∙ grind (arith, ints, c.if-not-allows.ensures))

pub add_name-requires-clause-name : goal.add_name-requires-clause-name
add_name-requires-clause-name c = lone-named c.args.atoms.now c.args.cells.now.items c.requires.names c.args.operators.names.at c.get.result c.in-Some.name c.get.ensures.value (sym c.lone_name.ensures ∙ c.in-Some.is)

pub returns-in-Some-clause-told : goal.returns-in-Some-clause-told
returns-in-Some-clause-told c =
    let kind = name_at c.args.atoms.now c.args.operators.kind.at in
    let lone : op_names (shows c.args.atoms.now c.args.cells.now.items c.args.operators.names.at) ≡ Some (name_at c.args.atoms.now c.in-Some.name.at ∷ []) =
    op_names-lone c.args.atoms.now c.args.cells.now.items c.requires.names c.requires.built c.args.operators.names.at c.get.result c.get.ensures.value
    ∙ ap (λ o. elim o [ None ↦ listed_names (shows c.args.atoms.now c.args.cells.now.items c.args.operators.names.at) | Some name ↦ Some (name_at c.args.atoms.now name.at ∷ []) ]) (sym c.lone_name.ensures ∙ c.in-Some.is) in
    let fits : SFits w64 c.args.operators.priority = search rules in
    let told = simp to_z-of_z at c.add_name.ensures.told in
    let open_to : allows c.args.operators.priority kind ≡ true = allows-named c.args.atoms.now (c.requires.names).table c.args.operators.priority c.args.operators.kind c.requires.kind ∙ grind (arith, ints, c.if-not-allows.ensures) in
    subst (TellsDirective (table_of c.add_name.new.ops) c.add_name.result)
    (sym (names_allowed c.args.operators.priority kind (op_names (shows c.args.atoms.now c.args.cells.now.items c.args.operators.names.at)) (table_of c.args.ops.now) open_to
    ∙ ap (λ o. each_added c.args.operators.priority kind o (table_of c.args.ops.now)) lone
    ∙ one_added c.args.operators.priority kind (name_at c.args.atoms.now c.in-Some.name.at) (table_of c.args.ops.now)))
    told

pub returns-in-None-clause-told : goal.returns-in-None-clause-told
returns-in-None-clause-told c =
    let kind = name_at c.args.atoms.now c.args.operators.kind.at in
    let list : op_names (shows c.args.atoms.now c.args.cells.now.items c.args.operators.names.at) ≡ listed_names (shows c.args.atoms.now c.args.cells.now.items c.args.operators.names.at) =
    op_names-lone c.args.atoms.now c.args.cells.now.items c.requires.names c.requires.built c.args.operators.names.at c.get.result c.get.ensures.value
    ∙ ap (λ o. elim o [ None ↦ listed_names (shows c.args.atoms.now c.args.cells.now.items c.args.operators.names.at) | Some name ↦ Some (name_at c.args.atoms.now name.at ∷ []) ]) (sym c.lone_name.ensures ∙ c.in-None.is) in
    let open_to : allows c.args.operators.priority kind ≡ true = allows-named c.args.atoms.now (c.requires.names).table c.args.operators.priority c.args.operators.kind c.requires.kind ∙ grind (arith, ints, c.if-not-allows.ensures) in
    subst (TellsDirective (table_of c.add_listed.new.ops) c.add_listed.result)
    (sym (names_allowed c.args.operators.priority kind (op_names (shows c.args.atoms.now c.args.cells.now.items c.args.operators.names.at)) (table_of c.args.ops.now) open_to
    ∙ ap (λ o. each_added c.args.operators.priority kind o (table_of c.args.ops.now)) list))
    c.add_listed.ensures

use Rattle.std.proofs.Common.{ap, sym, subst}
use Rattle.tp_terms.specs.Shown.{shows}
use Rattle.tp_parse.specs.Ops.{table_of}
use Rattle.tp_clauses.specs.Model.{kind_of}
use Rattle.tp_clauses.specs.Directives.{directive}
use Rattle.tp_clauses.specs.Told.{outcome, TellsTerm}
use Rattle.tp_clauses.proofs.Taking.Terms.{KindIs, PartsOf, kind_told, parts_told, directive_taken}
use Rattle.tp_clauses.proofs.load.take_term.Goals as goal

pub run-requires-clause-within : goal.run-requires-clause-within
run-requires-clause-within c = subst (PartsOf c.args.cells.now.items c.args.root.at) (sym c.in-Directive.ensures) (parts_told c.args.cells.now.items c.requires.built c.args.root.at c.requires.within)

pub take_rule-requires-clause-head : goal.take_rule-requires-clause-head
take_rule-requires-clause-head c = (subst (PartsOf c.args.cells.now.items c.args.root.at) (sym c.in-Rule.ensures) (parts_told c.args.cells.now.items c.requires.built c.args.root.at c.requires.within)).0

pub take_rule-requires-clause-body : goal.take_rule-requires-clause-body
take_rule-requires-clause-body c = (subst (PartsOf c.args.cells.now.items c.args.root.at) (sym c.in-Rule.ensures) (parts_told c.args.cells.now.items c.requires.built c.args.root.at c.requires.within)).1

pub take_rule-requires-clause-head_below : goal.take_rule-requires-clause-head_below
take_rule-requires-clause-head_below c = λ v o. c.requires.below v ((subst (PartsOf c.args.cells.now.items c.args.root.at) (sym c.in-Rule.ensures) (parts_told c.args.cells.now.items c.requires.built c.args.root.at c.requires.within)).2 v o)

pub take_rule-requires-clause-body_below : goal.take_rule-requires-clause-body_below
take_rule-requires-clause-body_below c = λ v o. c.requires.below v ((subst (PartsOf c.args.cells.now.items c.args.root.at) (sym c.in-Rule.ensures) (parts_told c.args.cells.now.items c.requires.built c.args.root.at c.requires.within)).3 v o)

pub take_rule-requires-clause-nameable : goal.take_rule-requires-clause-nameable
take_rule-requires-clause-nameable c = record { names = c.args.atoms.now; has = c.requires.names; known = c.requires.known }

pub returns-in-Directive-clause-told : goal.returns-in-Directive-clause-told
returns-in-Directive-clause-told c =
    let told = subst (KindIs c.args.atoms.now c.args.cells.now.items (table_of c.args.parts.now.ops) c.args.vars (shows c.args.atoms.now c.args.cells.now.items c.args.root.at)) (sym c.in-Directive.ensures) (kind_told c.args.atoms.now c.args.cells.now.items c.requires.names (table_of c.args.parts.now.ops) c.args.vars c.requires.built c.args.root.at c.requires.within) in
    directive_taken c.args.atoms.now c.args.parts.now c.run.new.ops c.run.result (directive (shows c.args.atoms.now c.args.cells.now.items c.in-Directive.goal.at) (table_of c.args.parts.now.ops))
    (kind_of (table_of c.args.parts.now.ops) (shows c.args.atoms.now c.args.cells.now.items c.args.root.at) c.args.vars) c.requires.parts c.requires.known told c.run.ensures.told

pub returns-in-Query-clause-told : goal.returns-in-Query-clause-told
returns-in-Query-clause-told c =
    ap (outcome (table_of c.args.parts.now.ops)) (subst (KindIs c.args.atoms.now c.args.cells.now.items (table_of c.args.parts.now.ops) c.args.vars (shows c.args.atoms.now c.args.cells.now.items c.args.root.at)) (sym c.in-Query.ensures) (kind_told c.args.atoms.now c.args.cells.now.items c.requires.names (table_of c.args.parts.now.ops) c.args.vars c.requires.built c.args.root.at c.requires.within))

pub returns-in-Grammar-clause-told : goal.returns-in-Grammar-clause-told
returns-in-Grammar-clause-told c =
    ap (outcome (table_of c.args.parts.now.ops)) (subst (KindIs c.args.atoms.now c.args.cells.now.items (table_of c.args.parts.now.ops) c.args.vars (shows c.args.atoms.now c.args.cells.now.items c.args.root.at)) (sym c.in-Grammar.ensures) (kind_told c.args.atoms.now c.args.cells.now.items c.requires.names (table_of c.args.parts.now.ops) c.args.vars c.requires.built c.args.root.at c.requires.within))

pub returns-in-Rule-clause-told : goal.returns-in-Rule-clause-told
returns-in-Rule-clause-told c =
    let told = subst (KindIs c.args.atoms.now c.args.cells.now.items (table_of c.args.parts.now.ops) c.args.vars (shows c.args.atoms.now c.args.cells.now.items c.args.root.at)) (sym c.in-Rule.ensures) (kind_told c.args.atoms.now c.args.cells.now.items c.requires.names (table_of c.args.parts.now.ops) c.args.vars c.requires.built c.args.root.at c.requires.within) in
    subst (λ k. TellsTerm c.args.atoms.now c.args.parts.now c.take_rule.new.parts c.take_rule.result (outcome (table_of c.args.parts.now.ops) k)) (sym told) (c.take_rule.ensures.told c.args.atoms.now c.requires.names c.requires.known)

pub returns-in-Fact-clause-told : goal.returns-in-Fact-clause-told
returns-in-Fact-clause-told c =
    let told = subst (KindIs c.args.atoms.now c.args.cells.now.items (table_of c.args.parts.now.ops) c.args.vars (shows c.args.atoms.now c.args.cells.now.items c.args.root.at)) (sym c.in-Fact.ensures) (kind_told c.args.atoms.now c.args.cells.now.items c.requires.names (table_of c.args.parts.now.ops) c.args.vars c.requires.built c.args.root.at c.requires.within) in
    subst (λ k. TellsTerm c.args.atoms.now c.args.parts.now c.take_fact.new.parts c.take_fact.result (outcome (table_of c.args.parts.now.ops) k)) (sym told) (c.take_fact.ensures.told c.args.atoms.now c.requires.names c.requires.known)

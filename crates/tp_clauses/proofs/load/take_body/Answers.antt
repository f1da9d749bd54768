use Rattle.std.proofs.Common.{◌≡◌, ◌<◌, ap, ◌∙◌, sym, subst, Ok, Some, Result, length, slice_get}
use Rattle.tp_terms.specs.declared.cells.Ref.{Ref}
use Rattle.tp_parse.specs.Ops.{table_of}
use Rattle.tp_meaning.specs.Clauses.{Clause}
use Rattle.tp_clauses.specs.Bodies.{TellsBody}
use Rattle.tp_clauses.specs.Contents.{ViewFits, clause_of}
use Rattle.tp_clauses.specs.Kinds.{key_of}
use Rattle.tp_clauses.specs.Model.{OfClause}
use Rattle.tp_clauses.specs.Moved.{place_on}
use Rattle.tp_clauses.specs.Told.{outcome}
use Rattle.tp_clauses.specs.declared.fault.Cause.{Cause}
use Rattle.tp_clauses.proofs.Taking.Terms.{clause_taken, longer_both, term_within, rule_fits, rule_key, rule_named, rule_told, rule_bodiless, rule_integer}
use Rattle.tp_clauses.proofs.load.take_body.Goals as goal

pub body_of-requires-clause-within : goal.body_of-requires-clause-within
body_of-requires-clause-within c =
    let old = c.args.parts.now in
    let mid = c.add_cells.new.parts in
    let by = length old.store.cells in
    let at : c.place_on.result ≡ place_on by c.args.rule.body = c.place_on.ensures ∙ ap (λ n. place_on n c.args.rule.body) c.in_ok-by.ensures.by in
    subst (λ (r : Ref). r.at < length mid.store.cells) (sym at)
    (term_within old mid mid c.args.cells.now.items c.args.rule.head c.args.rule.body c.args.rule.vars c.args.key c.in_ok-by.ensures.longer c.requires.built c.requires.head c.requires.body c.requires.key c.requires.free)

pub add_clause-requires-clause-fits : goal.add_clause-requires-clause-fits
add_clause-requires-clause-fits c =
    let old = c.args.parts.now in
    let mid = c.add_cells.new.parts in
    let new = c.body_of.new.parts in
    let cells = c.args.cells.now.items in
    let by = length old.store.cells in
    let long = c.in_ok-by.ensures.longer in
    let at : c.place_on.result ≡ place_on by c.args.rule.body = c.place_on.ensures ∙ ap (λ n. place_on n c.args.rule.body) c.in_ok-by.ensures.by in
    let told = subst (λ (r : Ref). TellsBody mid new r c.in_ok-place.field-0) at c.in_ok-place.ensures in
    let head : c.place_on-in-Some.result ≡ place_on by c.args.rule.head = c.place_on-in-Some.ensures ∙ ap (λ n. place_on n c.args.rule.head) c.in_ok-by.ensures.by in
    subst (λ (r : Ref). ViewFits new.store.cells (record { head = r; body = Some c.in-Some.place; vars = c.args.rule.vars })) (sym head)
    (rule_fits old mid new cells c.args.rule.head c.args.rule.body c.args.rule.vars c.args.key long c.requires.built c.requires.head c.requires.body c.requires.key c.requires.free c.in_ok-place.field-0 told c.requires.nameable c.requires.head_below c.requires.body_below c.in-Some.place c.in-Some.is)

pub add_clause-requires-clause-key : goal.add_clause-requires-clause-key
add_clause-requires-clause-key c =
    let old = c.args.parts.now in
    let mid = c.add_cells.new.parts in
    let new = c.body_of.new.parts in
    let cells = c.args.cells.now.items in
    let by = length old.store.cells in
    let long = c.in_ok-by.ensures.longer in
    let at : c.place_on.result ≡ place_on by c.args.rule.body = c.place_on.ensures ∙ ap (λ n. place_on n c.args.rule.body) c.in_ok-by.ensures.by in
    let told = subst (λ (r : Ref). TellsBody mid new r c.in_ok-place.field-0) at c.in_ok-place.ensures in
    let head : c.place_on-in-Some.result ≡ place_on by c.args.rule.head = c.place_on-in-Some.ensures ∙ ap (λ n. place_on n c.args.rule.head) c.in_ok-by.ensures.by in
    subst (λ (r : Ref). key_of (slice_get new.store.cells r.at) ≡ Some c.args.key) (sym head)
    (rule_key old mid new cells c.args.rule.head c.args.rule.body c.args.rule.vars c.args.key long c.requires.built c.requires.head c.requires.body c.requires.key c.requires.free c.in_ok-place.field-0 told)

pub returns-in_ok-add_clause-in-Some-clause-told : goal.returns-in_ok-add_clause-in-Some-clause-told
returns-in_ok-add_clause-in-Some-clause-told c = λ names h k.
    let old = c.args.parts.now in
    let mid = c.add_cells.new.parts in
    let new = c.body_of.new.parts in
    let cells = c.args.cells.now.items in
    let by = length old.store.cells in
    let long = c.in_ok-by.ensures.longer in
    let at : c.place_on.result ≡ place_on by c.args.rule.body = c.place_on.ensures ∙ ap (λ n. place_on n c.args.rule.body) c.in_ok-by.ensures.by in
    let told = subst (λ (r : Ref). TellsBody mid new r c.in_ok-place.field-0) at c.in_ok-place.ensures in
    let head : c.place_on-in-Some.result ≡ place_on by c.args.rule.head = c.place_on-in-Some.ensures ∙ ap (λ n. place_on n c.args.rule.head) c.in_ok-by.ensures.by in
    clause_taken names old new c.add_clause.new.parts _ (record { head = c.place_on-in-Some.result; body = Some c.in-Some.place; vars = c.args.rule.vars }) _ c.requires.parts
    (longer_both old mid new _ told.more long told.longer) c.in_ok-add_clause-in-Some.ensures
    (rule_told old mid new cells c.args.rule.head c.args.rule.body c.args.rule.vars c.args.key long c.requires.built c.requires.head c.requires.body c.requires.key c.requires.free c.in_ok-place.field-0 told names h k c.in-Some.place c.in-Some.is
    ∙ ap (λ (r : Ref). let q : Result Clause Cause = Ok (clause_of names new.store.cells (record { head = r; body = Some c.in-Some.place; vars = c.args.rule.vars })) in q) (sym head))
    (rule_named old mid new cells c.args.rule.head c.args.rule.body c.args.rule.vars c.args.key long c.requires.built c.requires.head c.requires.body c.requires.key c.requires.free c.in_ok-place.field-0 told names h k)

pub returns-in-None-clause-told : goal.returns-in-None-clause-told
returns-in-None-clause-told c = λ names h k.
    let old = c.args.parts.now in
    let mid = c.add_cells.new.parts in
    let new = c.body_of.new.parts in
    let cells = c.args.cells.now.items in
    let by = length old.store.cells in
    let long = c.in_ok-by.ensures.longer in
    let at : c.place_on.result ≡ place_on by c.args.rule.body = c.place_on.ensures ∙ ap (λ n. place_on n c.args.rule.body) c.in_ok-by.ensures.by in
    let told = subst (λ (r : Ref). TellsBody mid new r c.in_ok-place.field-0) at c.in_ok-place.ensures in
    ap (λ r. outcome (table_of old.ops) (OfClause r))
    (rule_bodiless old mid new cells c.args.rule.head c.args.rule.body c.args.rule.vars c.args.key long c.requires.built c.requires.head c.requires.body c.requires.key c.requires.free c.in_ok-place.field-0 told names h k c.in-None.is)

pub returns-in-Int-clause-told : goal.returns-in-Int-clause-told
returns-in-Int-clause-told c = λ names h k.
    ap (λ r. outcome (table_of c.args.parts.now.ops) (OfClause r))
    (rule_integer names c.args.cells.now.items c.args.rule.head c.args.rule.body c.args.rule.vars c.args.key h c.requires.built c.requires.head (c.requires.free names h) _ c.in-Int.ensures.value)

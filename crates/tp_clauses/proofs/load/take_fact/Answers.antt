use Rattle.std.proofs.Common.{◌≡◌, ap, ◌∙◌, sym, subst, Ok, Some, None, Result, length, slice_get}
use Rattle.tp_terms.specs.declared.cells.Ref.{Ref}
use Rattle.tp_parse.specs.Ops.{table_of}
use Rattle.tp_meaning.specs.Clauses.{Clause}
use Rattle.tp_clauses.specs.Contents.{ViewFits, clause_of}
use Rattle.tp_clauses.specs.Kinds.{key_of}
use Rattle.tp_clauses.specs.Model.{OfClause}
use Rattle.tp_clauses.specs.Moved.{place_on}
use Rattle.tp_clauses.specs.Told.{outcome}
use Rattle.tp_clauses.specs.declared.fault.Cause.{Cause}
use Rattle.tp_clauses.proofs.Taking.Terms.{clause_taken, fact_fits, fact_told, head_refused, moved_key, named_behind}
use Rattle.tp_clauses.proofs.load.take_fact.Goals as goal

pub add_clause-requires-clause-fits : goal.add_clause-requires-clause-fits
add_clause-requires-clause-fits c =
    let by = length c.args.parts.now.store.cells in
    let at : c.place_on.result ≡ place_on by c.args.head = c.place_on.ensures ∙ ap (λ n. place_on n c.args.head) c.in_ok-by-in-Ok.ensures.by in
    subst (λ (r : Ref). ViewFits c.add_cells.new.parts.store.cells (record { head = r; body = None; vars = c.args.vars })) (sym at)
    (fact_fits c.args.parts.now c.add_cells.new.parts c.args.cells.now.items c.args.head c.args.vars c.in-Ok.key c.in_ok-by-in-Ok.ensures.longer c.requires.within c.requires.below c.in-Ok.ensures.key)

pub add_clause-requires-clause-key : goal.add_clause-requires-clause-key
add_clause-requires-clause-key c =
    let by = length c.args.parts.now.store.cells in
    let at : c.place_on.result ≡ place_on by c.args.head = c.place_on.ensures ∙ ap (λ n. place_on n c.args.head) c.in_ok-by-in-Ok.ensures.by in
    subst (λ (r : Ref). key_of (slice_get c.add_cells.new.parts.store.cells r.at) ≡ Some c.in-Ok.key) (sym at)
    (moved_key c.args.parts.now c.add_cells.new.parts c.args.cells.now.items c.args.head c.args.vars c.in-Ok.key c.in_ok-by-in-Ok.ensures.longer c.in-Ok.ensures.key)

pub returns-in_ok-add_clause-in-Ok-clause-told : goal.returns-in_ok-add_clause-in-Ok-clause-told
returns-in_ok-add_clause-in-Ok-clause-told c = λ names h k.
    let old = c.args.parts.now in
    let mid = c.add_cells.new.parts in
    let cells = c.args.cells.now.items in
    let by = length old.store.cells in
    let long = c.in_ok-by-in-Ok.ensures.longer in
    let at : c.place_on.result ≡ place_on by c.args.head = c.place_on.ensures ∙ ap (λ n. place_on n c.args.head) c.in_ok-by-in-Ok.ensures.by in
    clause_taken names old mid c.add_clause.new.parts _ (record { head = c.place_on.result; body = None; vars = c.args.vars }) _ c.requires.parts long c.in_ok-add_clause-in-Ok.ensures
    (fact_told old mid cells c.args.head c.args.vars c.in-Ok.key long names h c.requires.built c.requires.within (sym (c.head_key.ensures.head names h) ∙ c.in-Ok.is)
    ∙ ap (λ (r : Ref). let q : Result Clause Cause = Ok (clause_of names mid.store.cells (record { head = r; body = None; vars = c.args.vars })) in q) (sym at))
    (named_behind (length names) old mid cells long h.named k)

pub returns-in-Err-clause-told : goal.returns-in-Err-clause-told
returns-in-Err-clause-told c = λ names h k.
    ap (λ r. outcome (table_of c.args.parts.now.ops) (OfClause r)) (head_refused names c.args.cells.now.items c.args.head c.in-Err.cause h c.requires.built c.requires.within (sym (c.head_key.ensures.head names h) ∙ c.in-Err.is) c.args.vars None)

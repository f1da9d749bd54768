use Rattle.std.proofs.Common.{ap, ◌∙◌, sym}
use Rattle.tp_terms.specs.Shown.{shows}
use Rattle.tp_parse.specs.Ops.{table_of}
use Rattle.tp_meaning.specs.Body.{body}
use Rattle.tp_clauses.specs.Model.{OfClause}
use Rattle.tp_clauses.specs.Told.{outcome}
use Rattle.tp_clauses.proofs.Taking.Terms.{head_refused, refused_rule}
use Rattle.tp_clauses.proofs.load.take_rule.Goals as goal

pub returns-in-Err-clause-told : goal.returns-in-Err-clause-told
returns-in-Err-clause-told c = λ names h k.
    ap (λ r. outcome (table_of c.args.parts.now.ops) (OfClause r))
    (refused_rule (shows names c.args.cells.now.items c.args.rule.head.at) (shows names c.args.cells.now.items c.args.rule.body.at) c.args.rule.vars c.in-Err.cause
    (head_refused names c.args.cells.now.items c.args.rule.head c.in-Err.cause h c.requires.built c.requires.head (sym (c.head_key.ensures.head names h) ∙ c.in-Err.is) c.args.rule.vars (body (shows names c.args.cells.now.items c.args.rule.body.at))))

pub take_body-requires-clause-free : goal.take_body-requires-clause-free
take_body-requires-clause-free c names h = sym (c.head_key.ensures.head names h) ∙ c.in-Ok.is

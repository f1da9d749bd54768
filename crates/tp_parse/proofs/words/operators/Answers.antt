use Rattle.std.proofs.Common.{sym, ap, ◌∙◌}
use Rattle.tp_lex.specs.Next.{token_name}
use Rattle.tp_parse.specs.Ops.{table_of}
use Rattle.tp_parse.specs.Words.{infix_by}
use Rattle.tp_parse.proofs.words.operators.Goals as goal

pub returns-in-Comma-clause-between : goal.returns-in-Comma-clause-between
returns-in-Comma-clause-between c =
    c.comma.ensures ∙ ap (λ k. infix_by (table_of c.args.source.now.ops.now) k (token_name c.args.source.now.text.now c.args.token)) (sym c.in-Comma.is)

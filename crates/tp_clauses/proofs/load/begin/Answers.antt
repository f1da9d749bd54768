use Rattle.std.proofs.lemmas.Str.{IsCharBoundary-start}
use Rattle.tp_clauses.proofs.load.begin.Goals as goal

pub token_at-requires : goal.token_at-requires
token_at-requires c = IsCharBoundary-start c.args.text.now c.utf8.text

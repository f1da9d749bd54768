use Rattle.std.proofs.lemmas.Result.{err_from_is_err_and}
use Rattle.tp_words.specs.Command.{words_of}
use Rattle.tp_words.proofs.ReadsWords.Parsed.{parsed, refused, usage_only}
use Rattle.tp_words.proofs.matched.matched.Goals as goal

pub returns-in_err-try_get_matches_from-clause-usage : goal.returns-in_err-try_get_matches_from-clause-usage
returns-in_err-try_get_matches_from-clause-usage c =
    let p = err_from_is_err_and c.from_residual-in_err-try_get_matches_from.result c.from_residual-in_err-try_get_matches_from.ensures.1 in
    λ usage.
    refused _ (words_of c.args.words.now) c.in_err-try_get_matches_from.field-0.0 c.in_ok-command.ensures
    c.in_err-try_get_matches_from.ensures.kinds
    (usage_only c.from_residual-in_err-try_get_matches_from.result p.0 _ p.1 p.2 usage)

pub returns-clause-ok : goal.returns-clause-ok
returns-clause-ok c =
    parsed _ (words_of c.args.words.now) c.in_ok-try_get_matches_from.field-0 c.in_ok-command.ensures
    c.in_ok-try_get_matches_from.ensures.kinds c.in_ok-try_get_matches_from.ensures.matches

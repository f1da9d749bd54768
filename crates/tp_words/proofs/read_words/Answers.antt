use Rattle.std.proofs.Common.{Err, None, Some, option_map, ap, sym, ◌∙◌}
use Rattle.std.proofs.lemmas.Result.{err_from_is_err_and}
use Rattle.clap.specs.Words.{found_of, rows_of}
use Rattle.tp_words.specs.Asked.{asked_request}
use Rattle.tp_words.specs.Command.{words_of}
use Rattle.tp_words.proofs.ReadsWords.Parsed.{usage_only}
use Rattle.tp_words.proofs.ReadsWords.Requests.{matched_request, unmatched_request}
use Rattle.tp_words.proofs.read_words.Goals as goal

pub returns-in_err-matches-clause-usage : goal.returns-in_err-matches-clause-usage
returns-in_err-matches-clause-usage c =
    let p = err_from_is_err_and c.from_residual.result c.from_residual.ensures.1 in
    λ usage. unmatched_request (words_of c.args.words.now) (c.in_err-matches.ensures.usage (ap Err (usage_only c.from_residual.result p.0 _ p.1 p.2 usage)))

pub returns-in_default-clause-usage : goal.returns-in_default-clause-usage
returns-in_default-clause-usage c = λ _.
    matched_request (words_of c.args.words.now) (rows_of (found_of c.in_ok-matches.matches)) None
    c.in_ok-matches.ensures.ok
    (sym c.parts_of.ensures ∙ ap (option_map asked_request) c.in_default.is)

pub returns-clause-ok : goal.returns-clause-ok
returns-clause-ok c =
    matched_request (words_of c.args.words.now) (rows_of (found_of c.in_ok-matches.matches)) _
    c.in_ok-matches.ensures.ok
    (sym c.parts_of.ensures ∙ ap (option_map asked_request) c.in-Some.is ∙ ap Some (sym c.in_ok-request.ensures))

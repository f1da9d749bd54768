use Rattle.std.proofs.Common.{ap, chars}
use Rattle.std.proofs.lemmas.Str.{IsUtf8-string_bytes}
use Rattle.tp_terms.proofs.Texts.Added.{chars-joined, Adds-none}
use Rattle.tp_terms.proofs.text.push_text.Goals as goal

pub returns-in_err-push_str-clause-added : goal.returns-in_err-push_str-clause-added
returns-in_err-push_str-clause-added c = Adds-none _ _ c.args.out.now c.push_str.new.self _ c.from_residual.ensures.1 (ap chars c.in_err-push_str.ensures.bytes)

pub returns-clause-added : goal.returns-clause-added
returns-clause-added c = chars-joined _ _ c.args.text.now (IsUtf8-string_bytes c.args.out.now) c.in_ok-push_str.ensures.bytes

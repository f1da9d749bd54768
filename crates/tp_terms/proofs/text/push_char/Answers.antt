use Rattle.std.proofs.lemmas.Str.{IsUtf8-string_bytes}
use Rattle.tp_terms.proofs.Texts.Added.{chars-pushed}
use Rattle.tp_terms.proofs.text.push_char.Goals as goal

pub returns-clause-added : goal.returns-clause-added
returns-clause-added c = chars-pushed _ _ c.args.c (IsUtf8-string_bytes c.args.out.now) c.ranges.c.0 c.in_ok-push.ensures.bytes

use Rattle.std.proofs.Common.{rules}
use Rattle.tp_terms.proofs.Texts.Equal.{bytes-chars}
use Rattle.tp_terms.proofs.text.Text.as_str.Goals as goal

pub returns-clause-bytes : goal.returns-clause-bytes
returns-clause-bytes c = bytes-chars _ _ c.as_str.utf8 (search rules)

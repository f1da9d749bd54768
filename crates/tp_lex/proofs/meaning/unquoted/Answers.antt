use Rattle.std.proofs.Common.{◌∙◌, ap, chars, string_bytes}
use Rattle.tp_lex.proofs.Forms.Meant.{quoted_name-of, quoted_name-none}
use Rattle.tp_lex.proofs.meaning.unquoted.Goals as goal
use Rattle.tp_lex.proofs.meaning.unquoted.Goals.{in-Some+in_ok-push_inside, in_default}

pub returns : goal.returns
returns c =
    elim c.match-split_first.branch [
      | in-Some+in_ok-push_inside w ↦
          ap (λ n. chars (string_bytes n)) w.name-is ∙ quoted_name-of _ _ _ _ _ w.in-Some.ensures.split c.new-name.ensures.bytes w.in_ok-push_inside.ensures
      | in_default w ↦
          ap (λ n. chars (string_bytes n)) w.name-is ∙ quoted_name-none _ _ w.in_default.ensures.split c.new-name.ensures.bytes
    ]

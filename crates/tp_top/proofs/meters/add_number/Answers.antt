use Rattle.std.proofs.Common.{codes, ◌∙◌}
use Rattle.std.specs.Prelude.{decimal}
use Rattle.std.proofs.lemmas.Str.{chars-IsAscii}
use Rattle.tp_terms.proofs.Texts.Added.{Adds-as, Adds-none, Adds-then}
use Rattle.tp_top.proofs.meters.add_number.Goals as goal

pub returns : goal.returns
returns c = record {
  added =
      Adds-then c.push_text.result c.args.out.now c.push_char.new.out c.push_text.new.out (codes " ") (decimal c.args.number)
      c.in_ok-push_char.ensures.added
      (Adds-as c.push_text.result c.push_char.new.out c.push_text.new.out _ _
      (chars-IsAscii c.format.result.now c.format.ensures.ascii ∙ c.format.ensures.text) c.push_text.ensures.added);
}

pub returns-in_err-push_char : goal.returns-in_err-push_char
returns-in_err-push_char c = record {
  added = Adds-none _ _ c.args.out.now c.push_char.new.out _ c.from_residual.ensures.1 c.in_err-push_char.ensures.err;
}

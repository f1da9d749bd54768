use Rattle.std.proofs.Common.{chars}
use Rattle.tp_terms.proofs.Texts.Added.{Adds-exit, Adds-none}
use Rattle.tp_write.proofs.Writes.Names.{quoted-stops}
use Rattle.tp_write.proofs.names.write_quoted.Goals as goal

pub returns-in_err-push_char : goal.returns-in_err-push_char
returns-in_err-push_char c = record { added = Adds-none _ _ c.args.out.now c.push_char.new.out _ c.from_residual.ensures.1 c.in_err-push_char.ensures.err }

pub returns-in_err-push_escaped : goal.returns-in_err-push_escaped
returns-in_err-push_escaped c =
    let within = quoted-stops _ _ _ (chars c.args.name.now) (chars c.characters.rest.now) _ c.in-Some.c c.in-Some.ensures.split c.in_err-push_escaped.ensures.added c.characters.invariant.1 in
    record { added = Adds-exit _ _ c.args.out.now c.push_escaped.new.out _ c.from_residual-in_err-push_escaped.ensures.1 within }

use Rattle.tp_terms.proofs.Texts.Added.{Adds-exit, Adds-none, Adds-last, stops}
use Rattle.tp_write.proofs.Writes.Names.{code_started, code_goes}
use Rattle.tp_write.proofs.names.push_code_escape.Goals as goal

pub returns-in_err-push_text : goal.returns-in_err-push_text
returns-in_err-push_text c = record { added = Adds-none _ _ c.args.out.now c.push_text.new.out _ c.from_residual.ensures.1 c.in_err-push_text.ensures.err }

pub returns-in_err-push_char : goal.returns-in_err-push_char
returns-in_err-push_char c =
    let p = code_started c.args.c _ _ _ c.requires c.in_ok-push_text.ensures.added c.escape_start.ensures in
    record { added = Adds-exit _ _ c.args.out.now c.push_char.new.out _ c.from_residual-in_err-push_char.ensures.1 (stops _ _ _ _ _ p c.in_err-push_char.ensures.err) }

pub returns : goal.returns
returns c =
    let p = code_started c.args.c _ _ _ c.requires c.in_ok-push_text.ensures.added c.escape_start.ensures in
    let q = code_goes c.args.c _ _ _ _ c.last_digit.ensures c.in_ok-push_char.ensures.added p in
    record { added = Adds-last c.push_char-2.result c.args.out.now c.push_char.new.out c.push_char-2.new.out _ _ q c.push_char-2.ensures.added }

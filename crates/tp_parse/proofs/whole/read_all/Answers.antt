use Rattle.std.proofs.lemmas.Result.{err_from_is_err_and}
use Rattle.tp_parse.specs.Ops.{table_of}
use Rattle.tp_parse.specs.Words.{ahead}
use Rattle.tp_parse.proofs.ReadsTerms.Whole.{whole-fails, whole-then}
use Rattle.tp_parse.proofs.whole.read_all.Goals as goal

pub returns-in_err-read-clause-whole : goal.returns-in_err-read-clause-whole
returns-in_err-read-clause-whole c =
    let ops = table_of c.args.source.now.ops.now in
    let text = c.args.source.now.text.now in
    let p = err_from_is_err_and c.from_residual.result c.from_residual.ensures.1 in
    rw (p.1, p.2) (whole-fails text c.args.extent ops (ahead text c.args.at.now.cursor) (ahead text c.read.new.at.cursor) _ c.in_err-read.ensures.gives)

pub returns-clause-whole : goal.returns-clause-whole
returns-clause-whole c =
    let ops = table_of c.args.source.now.ops.now in
    let text = c.args.source.now.text.now in
    whole-then text c.args.extent ops c.args.at.now.steps.items c.read.new.at.steps.items (ahead text c.args.at.now.cursor) (ahead text c.read.new.at.cursor) (ahead text c.read_end.new.cursor) _ c.read_end.result c.requires.none
    c.in_ok-read.ensures.gives c.in_ok-read.ensures.going.ready (c.read_end.ensures.end text)

use Rattle.std.proofs.Common.{◌<◌, ◌^◌, length, arith}
use Rattle.std.proofs.lemmas.Result.{on_ok_weaker}
use Rattle.tp_terms.proofs.Texts.Added.{Adds-as}
use Rattle.tp_parse.specs.Ops.{table_of}
use Rattle.tp_write.proofs.Writes.Steps.{step-term, step-behind, step-args, own-name}
use Rattle.tp_write.proofs.write.step.Goals as goal

pub expand_term-requires-clause-named : goal.expand_term-requires-clause-named
expand_term-requires-clause-named g c = c.end-end.ensures.named (length c.args.source.now.atoms.now) c.requires.named

pub expand_behind-requires-clause-named : goal.expand_behind-requires-clause-named
expand_behind-requires-clause-named g c = c.end.ensures.named (length c.args.source.now.atoms.now) c.requires.named

pub returns-in-Name-clause-added : goal.returns-in-Name-clause-added
returns-in-Name-clause-added g c =
    let s = c.args.source.now in
    let same = own-name (table_of s.ops.now) s.atoms.now (g.B.Binds.bindings s.binds.now) s.cells.now.items c.args.piece c.in-Name.name c.name.result.now c.in-Name.is c.name.ensures.name in
    Adds-as c.write_name.result c.args.out.now c.write_name.new.out _ _ same c.write_name.ensures.added

pub returns-in-Term-clause-step : goal.returns-in-Term-clause-step
returns-in-Term-clause-step g c =
    let s = c.args.source.now in
    let small : c.end-end.result.place.at < 2 ^ 64 = omega arith in
    on_ok_weaker c.expand_term.result
    (step-term (table_of s.ops.now) s.atoms.now (g.B.Binds.bindings s.binds.now) s.cells.now.items c.args.piece c.in-Term.at c.in-Term.position c.end-end.result c.args.stack.now.items _ c.in-Term.is c.end-end.ensures small c.requires.named c.requires.pieces)
    c.expand_term.ensures

pub returns-in-Args-clause-step : goal.returns-in-Args-clause-step
returns-in-Args-clause-step g c =
    let s = c.args.source.now in
    on_ok_weaker c.expand_args.result
    (step-args (table_of s.ops.now) s.atoms.now (g.B.Binds.bindings s.binds.now) s.cells.now.items c.args.piece c.in-Args.first c.in-Args.count c.args.stack.now.items _ c.in-Args.is c.requires.piece c.requires.pieces)
    c.expand_args.ensures

pub returns-in-Behind-clause-step : goal.returns-in-Behind-clause-step
returns-in-Behind-clause-step g c =
    let s = c.args.source.now in
    let small : c.end.result.place.at < 2 ^ 64 = omega arith in
    on_ok_weaker c.expand_behind.result
    (step-behind (table_of s.ops.now) s.atoms.now (g.B.Binds.bindings s.binds.now) s.cells.now.items c.args.piece c.in-Behind.at c.end.result c.args.stack.now.items _ c.in-Behind.is c.end.ensures small c.requires.pieces)
    c.expand_behind.ensures

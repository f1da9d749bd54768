use Rattle.std.proofs.Common.{refl}
use Rattle.tp_clauses.proofs.Clauses.Added.{body_ok}
use Rattle.tp_clauses.proofs.parts.body_of.Goals as goal

pub returns : goal.returns
returns c =
    let old = c.args.parts.now in
    body_ok c.body.result old (record { store = c.body.new.self; clauses = old.clauses; ranks = old.ranks; index = old.index; ops = old.ops }) c.args.term
    c.requires.parts c.body.ensures.adds c.body.ensures.store refl refl refl refl c.body.ensures.body c.body.ensures.place c.body.ensures.named

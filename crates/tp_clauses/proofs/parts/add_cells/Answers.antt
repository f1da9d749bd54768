use Rattle.std.proofs.Common.{length, map, refl}
use Rattle.tp_clauses.specs.Moved.{moved}
use Rattle.tp_clauses.proofs.Clauses.Added.{longer_ok}
use Rattle.tp_clauses.proofs.parts.add_cells.Goals as goal

pub returns-clause-longer : goal.returns-clause-longer
returns-clause-longer c =
    let old = c.args.parts.now in
    longer_ok c.append.result old (record { store = c.append.new.store; clauses = old.clauses; ranks = old.ranks; index = old.index; ops = old.ops }) (map (moved (length old.store.cells)) c.args.more.now.items)
    c.requires c.append.ensures.cells refl refl refl refl c.append.ensures.pairs c.append.ensures.built

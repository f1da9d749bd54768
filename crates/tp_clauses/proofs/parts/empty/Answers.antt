use Rattle.std.proofs.Common.{ap}
use Rattle.tp_clauses.proofs.Clauses.Added.{nothing}
use Rattle.tp_store.specs.Contents.{Contents}
use Rattle.tp_clauses.proofs.parts.empty.Goals as goal

pub returns : goal.returns
returns c =
    nothing (record { store = c.new.result; clauses = c.new-2.result; ranks = c.new-3.result; index = c.new-4.result; ops = c.in_ok-start.field-0 })
    (ap (λ (s : Contents). s.cells) c.new.ensures) (ap (λ (s : Contents). s.pairs) c.new.ensures) c.new-2.ensures.items c.new-3.ensures.items c.new-4.ensures c.in_ok-start.ensures

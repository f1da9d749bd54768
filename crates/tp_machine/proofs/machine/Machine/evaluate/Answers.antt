use Rattle.tp_machine.proofs.Grows.Lent.{may_run, place_there, value_back, grew}
use Rattle.tp_machine.proofs.machine.Machine.evaluate.Goals as goal

pub eval-value-requires-clause-heap : goal.eval-value-requires-clause-heap
eval-value-requires-clause-heap c = may_run c.args.self.now c.requires.machine c.swap_terms.new.self c.swap_terms.ensures

pub eval-value-requires-clause-at : goal.eval-value-requires-clause-at
eval-value-requires-clause-at c = place_there c.args.self.now c.requires.machine c.swap_terms.new.self c.args.place c.swap_terms.ensures c.requires.place

pub returns-clause-value : goal.returns-clause-value
returns-clause-value c =
    value_back c.args.self.now c.requires.machine c.swap_terms.new.self c.swap_terms-2.new.self c.eval-value.new.terms c.args.place c.eval-value.result c.swap_terms.ensures c.swap_terms-2.ensures c.eval-value.ensures.value

pub returns-clause-grew : goal.returns-clause-grew
returns-clause-grew c =
    grew c.args.self.now c.swap_terms.new.self c.swap_terms-2.new.self c.eval-value.new.terms c.swap_terms.ensures c.swap_terms-2.ensures c.requires.machine c.eval-value.ensures.adds c.eval-value.ensures.heap c.mark-mark.ensures.store

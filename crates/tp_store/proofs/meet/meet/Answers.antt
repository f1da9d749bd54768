use Rattle.std.proofs.Common.{◌+◌, ◌<◌, [], length, refl, arith}
use Rattle.std.proofs.lemmas.Bool.{eq-eqb}
use Rattle.tp_store.specs.Chain.{contents_of}
use Rattle.tp_store.proofs.Copies.Sources.{stands_by}
use Rattle.tp_store.proofs.HeadsMeet.Binding.{both_same}
use Rattle.tp_store.proofs.HeadsMeet.Turns.{claimed_here, looked_copy, looked_split}
use Rattle.tp_store.proofs.meet.meet.Goals as goal

pub overflow_add-number : goal.overflow_add-number
overflow_add-number c =
    let lt : c.in-Var.number + c.args.base < length c.args.chains.now.trail.bound =
    claimed_here c.args.from.now.items c.args.pair.1.at c.args.base (length c.args.chains.now.trail.bound) c.get-cell.result c.in-Var.number c.requires.claimed (c.get-cell.ensures.shown []) c.in-Var.is (eq-eqb c.in-Var.number c.in-Var.number refl) in
    omega (arith, c.requires.chains.fits)

pub meet_variable-requires-clause-claimed : goal.meet_variable-requires-clause-claimed
meet_variable-requires-clause-claimed c =
    claimed_here c.args.from.now.items c.args.pair.1.at c.args.base (length c.args.chains.now.trail.bound) c.get-cell.result c.in-Var.number c.requires.claimed (c.get-cell.ensures.shown []) c.in-Var.is (eq-eqb c.in-Var.number c.in-Var.number refl)

pub returns-in-Var-clause-named : goal.returns-in-Var-clause-named
returns-in-Var-clause-named c n from old = c.meet_variable.ensures.named n old

pub returns-in-Var-cell : goal.returns-in-Var-cell
returns-in-Var-cell c = record {
  chains = c.bind_copy.ensures.chains;
  adds = c.bind_copy.ensures.adds;
  named = c.bind_copy.ensures.named;
  found = looked_copy c.bind_copy.result (contents_of c.args.chains.now) (contents_of c.bind_copy.new.chains) c.args.from.now.items c.args.base c.args.pair c.args.work.now.items c.end-end.result.cell c.in-Var-cell.number c.end-end.ensures.same c.in-Var-cell.is
      c.bind_copy.ensures.found;
}

pub returns : goal.returns
returns c =
    let old = contents_of c.args.chains.now in
    record {
      chains = c.requires.chains;
      adds = both_same old old refl;
      named = λ n from named. named;
      found = looked_split c.split.result old c.args.from.now.items c.args.base c.args.pair c.end-end.result c.get-cell.result c.args.work.now.items c.split.new.work.items c.requires.chains.store c.end-end.ensures.end c.end-end.ensures.same c.get-cell.ensures.value
          (let lt = c.end-end.ensures.end.place in stands_by c.end-end.result.place.at (length c.args.chains.now.cells.items) c.end-end.result.cell (omega arith) c.end-end.ensures.end.before)
          (stands_by c.args.pair.1.at (length c.args.from.now.items) c.get-cell.result (let lt = c.requires.head in omega arith) c.get-cell.ensures.before)
          c.get-cell.ensures.shown c.requires.claimed c.split.ensures;
    }

use Rattle.std.proofs.Common.{◌∙◌}
use Rattle.tp_store.specs.Chain.{contents_of}
use Rattle.tp_store.proofs.Copies.Variables.{collects_places, collects_smaller, collects_same}
use Rattle.tp_store.proofs.rename.variables_of.Goals as goal

pub places-smaller : goal.places-smaller
places-smaller c =
    let now = contents_of c.args.chains.now in
    collects_smaller now c.places.work.items c.pop.new.self.items c.collect.new.work.items c.in-Some.at c.end.result.cell c.places.variables.keys c.collect.new.variables.keys
    c.in-Some.ensures.items c.end.ensures.same (c.in_ok-collect.ensures now c.requires.chains.store c.end.ensures.end)

pub places-preserved : goal.places-preserved
places-preserved c =
    let now = contents_of c.args.chains.now in
    let k = c.in_ok-collect.ensures now c.requires.chains.store c.end.ensures.end in
    record {
      places = collects_places now c.places.work.items c.pop.new.self.items c.collect.new.work.items c.in-Some.at c.end.result.cell c.places.variables.keys c.collect.new.variables.keys
          c.in-Some.ensures.items c.end.ensures.same k c.places.invariant.places;
      same = λ names.
          collects_same now c.places.work.items c.pop.new.self.items c.collect.new.work.items c.in-Some.at c.end.result.cell c.places.variables.keys c.collect.new.variables.keys
          c.in-Some.ensures.items c.end.ensures.same k names
          ∙ c.places.invariant.same names;
    }

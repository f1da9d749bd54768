use Rattle.std.proofs.Common.{◌≡◌, List, map, take}
use Rattle.tp_terms.specs.Term.{Name}
use Rattle.tp_store.specs.Contents.{Contents}
use Rattle.tp_top.proofs.Metering.Histories.{folded, metered_in}
use Rattle.tp_top.proofs.meters.count.Given as goal

-- the meters hold the numbers over the events so far
abbrev pub invariant-places : goal.invariant-places
invariant-places g l = record {
  kinds : map (λ b. (goal.Meter-dyn g (b.vtable, b.value)).kind_of b.value) l.meters.items
      ≡ map (λ b. (goal.Meter-dyn g (b.vtable, b.value)).kind_of b.value) l.fn.meters.items;
  states : (names : List Name) (c : Contents) →
      map (λ b. (goal.Meter-dyn g (b.vtable, b.value)).state b.value) l.meters.items
      ≡ folded (metered_in names c (take l.at l.view.plain.events)) (map (λ b. (goal.Meter-dyn g (b.vtable, b.value)).kind_of b.value) l.fn.meters.items);
}

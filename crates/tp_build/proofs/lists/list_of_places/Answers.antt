use Rattle.std.proofs.Common.{◌≡◌, ◌<◌, ◌+◌, ◌-◌, ap, subst, arith}
use Rattle.tp_meaning.specs.Heap.{IsTop}
use Rattle.tp_build.proofs.PlacesShow.Lists.{places-none, places-more}
use Rattle.tp_build.proofs.lists.list_of_places.Goals as goal

pub loop-left-init : goal.loop-left-init
loop-left-init g c = record {
  most = omega arith;
  made = places-none (g.T.Terms.heap c.args.terms.now) (c.args.first.at + c.args.count) (c.args.count - c.args.count) c.requires.heap (omega arith);
  heap = c.requires.heap;
}

pub loop-left-preserved : goal.loop-left-preserved
loop-left-preserved g c =
    let h = g.T.Terms.heap c.args.terms.now in
    let i = c.loop-left.invariant in
    let number : c.args.first.at + c.from.result ≡ c.args.first.at + (c.loop-left.left - 1) = ap (λ n. c.args.first.at + n) c.from.ensures in
    let some : 0 < c.loop-left.left = c.loop-left-test.true in
    record {
      most = omega (arith, i.most);
      made = places-more h (g.T.Terms.heap c.loop-left.terms) (g.T.Terms.heap c.link_of.new.terms) (c.args.first.at + (c.loop-left.left - 1)) (c.args.first.at + c.loop-left.left) (c.args.count - c.loop-left.left) (c.args.count - (c.loop-left.left - 1)) c.look-element.result c.loop-left.list c.in_ok-list.list
          (omega (arith, some)) (omega (arith, some, i.most)) (omega (arith, some, i.most, c.requires.stand)) i.made (subst (λ p. IsTop (g.T.Terms.heap c.loop-left.terms) p c.look-element.result) number c.look-element.ensures.top) c.in_ok-list.ensures.made;
      heap = c.in_ok-list.ensures.heap;
    }

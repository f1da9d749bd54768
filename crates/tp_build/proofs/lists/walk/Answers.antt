use Rattle.tp_terms.specs.declared.cells.Ref.{Ref}
use Rattle.std.proofs.Common.{◌≡◌, ◌<◌, ◌+◌, length, arith, ◌++◌, [], ◌∷◌, map, ap, sym, subst, ◌∙◌, refl}
use Rattle.std.proofs.lemmas.List.Elements.{All-nil, All-push}
use Rattle.tp_meaning.specs.Heap.{seen}
use Rattle.tp_build.specs.Lists.{AreWithin, front, place_seen}
use Rattle.tp_build.proofs.PlacesShow.Lists.{walked-more, walked-all, ends-more}
use Rattle.tp_build.proofs.lists.walk.Goals as goal

pub loop-first-init : goal.loop-first-init
loop-first-init g c =
    let h = g.T.Terms.heap c.args.terms.now in
    record {
      elements = ap (λ xs. map (place_seen h) xs ++ front (seen h c.args.list.at)) c.new-elements.ensures.items;
      within = subst (AreWithin h) (sym c.new-elements.ensures.items) (All-nil (λ (p : Ref). p.at < length h.cells));
      ends = refl;
      here = c.requires.list;
    }

pub loop-first-preserved : goal.loop-first-preserved
loop-first-preserved g c =
    let h = g.T.Terms.heap c.args.terms.now in
    let i = c.loop-first.invariant in
    let k = c.in-Element.ensures h c.loop-first.at.at c.requires.heap c.look.ensures.top in
    let e : c.push.new.self.items ≡ c.loop-first.elements.items ++ c.in-Element.first ∷ [] = c.in_ok-push-in-Element.ensures.items in
    let lt : c.in-Element.first.at < length h.cells = omega (arith, k.0) in
    record {
      elements = ap (λ xs. map (place_seen h) xs ++ front (seen h (c.in-Element.first.at + 1))) e ∙ walked-more h c.loop-first.at.at c.in-Element.first c.loop-first.elements.items (front (seen h c.args.list.at)) k i.elements;
      within = subst (AreWithin h) (sym e) (All-push (λ (p : Ref). p.at < length h.cells) c.loop-first.elements.items c.in-Element.first i.within lt);
      ends = i.ends ∙ ends-more h c.loop-first.at.at c.in-Element.first k;
      here = k.0;
    }

pub returns-in-End : goal.returns-in-End
returns-in-End g c =
    let h = g.T.Terms.heap c.args.terms.now in
    let i = c.loop-first.invariant in
    let k = c.in-End.ensures h c.loop-first.at.at c.requires.heap c.look.ensures.top in
    record {
      elements = walked-all (map (place_seen h) c.loop-first.elements.items) (front (seen h c.loop-first.at.at)) (front (seen h c.args.list.at)) k.0 i.elements;
      within = i.within;
      ends = i.ends ∙ k.1;
    }

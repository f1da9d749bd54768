use Rattle.std.proofs.Common.{◌≡◌, ◌∙◌, ◌++◌, ◌∷◌, [], sym, ap, subst, length, take, drop, rules, arith, length-append}
use Rattle.std.proofs.lemmas.List.{length-take-le}
use Rattle.tp_procs.specs.Processes.{named, names_of, AreDistinct}
use Rattle.tp_procs.specs.Tree.{IsTree}
use Rattle.tp_procs.proofs.Kept.{indexed-pop, free-front}
use Rattle.tp_log.proofs.Fronts.{same-front}
use Rattle.tp_procs.proofs.Mended.{tree-popped, tree-lent}
use Rattle.tp_procs.proofs.Procs.undo_make.Goals as goal

pub mend-requires-clause-others : goal.mend-requires-clause-others
mend-requires-clause-others c =
    let ps = c.pop.new.self.items in
    let ns = c.self.inside.nodes.items in
    let tree = subst (λ l. IsTree l ns) c.in-Some.ensures.items c.self.invariant.tree in
    let count : c.len-len.result ≡ length ps = search rules in
    let nodes : c.deref_mut.result.now ≡ take (length ps) ns = search rules in
    rw (c.deref.ensures.value, nodes, count) (tree-popped ps c.in-Some.proc ns tree)

pub invariant_of-self-then-len-gt0 : goal.invariant_of-self-then-len-gt0
invariant_of-self-then-len-gt0 c =
    let ps = c.pop.new.self.items in
    let ns = c.self.inside.nodes.items in
    let lent = c.truncate.new.self in
    let count : c.len-len.result ≡ length ps = search rules in
    let long : lent.len ≡ length ps = sym c.deref_mut.ensures.len ∙ ap length c.deref_mut.ensures.value ∙ ap length c.truncate.ensures.items ∙ ap (λ n. length (take n ns)) count
    ∙ length-take-le (length ps) ns (omega (arith, c.self.invariant.tree.long, ap length c.in-Some.ensures.items, length-append ps (c.in-Some.proc ∷ []))) in
    let names : c.truncate-2.new.self.keys ≡ take (length ps) c.self.inside.names.keys = c.truncate-2.ensures.keys ∙ ap (λ n. take n c.self.inside.names.keys) count in
    let tree = tree-lent ps c.deref.result.now c.mend.new.nodes (drop (length c.mend.new.nodes) lent.items) lent.len c.mend.ensures c.deref.ensures.value long in
    rw (names, c.live_in.ensures)
    (indexed-pop ps c.self.inside.procs.items c.self.inside.names.keys ns _ c.self.inside.live c.in-Some.proc c.self.invariant c.in-Some.ensures.items tree)

pub returns-then-len-gt0-clause-free : goal.returns-then-len-gt0-clause-free
returns-then-len-gt0-clause-free c = λ first last e.
    let whole : c.self.inside.procs.items ≡ first ++ last ∷ [] = c.self.view_is ∙ e in
    let rest : first ≡ c.pop.new.self.items = same-front first c.pop.new.self.items last c.in-Some.proc (sym whole ∙ c.in-Some.ensures.items) in
    ap (named last.name) (sym rest) ∙ free-front first last (subst (λ l. AreDistinct (names_of l)) whole c.self.invariant.distinct)

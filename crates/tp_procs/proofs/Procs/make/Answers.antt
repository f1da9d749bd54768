use Rattle.std.proofs.Common.{◌≡◌, ◌∙◌, ◌++◌, ◌∷◌, [], ap, nat_eq, length, drop, None, rules}
use Rattle.indexmap.specs.IndexSet.{insert_key}
use Rattle.tp_procs.specs.Processes.{named}
use Rattle.tp_procs.specs.Tree.{nothing}
use Rattle.tp_procs.proofs.Kept.{indexed-push}
use Rattle.tp_procs.proofs.Mended.{tree-pushed, tree-lent}
use Rattle.tp_procs.proofs.Procs.make.Goals as goal

pub mend-requires-clause-others : goal.mend-requires-clause-others
mend-requires-clause-others c =
    let ps = c.self.inside.procs.items in
    let ns = c.self.inside.nodes.items in
    let procs : c.deref.result.now ≡ ps ++ c.args.proc ∷ [] = search rules in
    let nodes : c.deref_mut.result.now ≡ ns ++ nothing ∷ [] = search rules in
    let pid : c.len-pid.result ≡ length ps = search rules in
    rw (procs, nodes, pid) (tree-pushed ps ns c.args.proc c.self.invariant.tree)

pub invariant_of-self-2 : goal.invariant_of-self-2
invariant_of-self-2 c =
    let ps = c.self.inside.procs.items in
    let ns = c.self.inside.nodes.items in
    let p = c.args.proc in
    let procs : c.push_reserved.new.self.items ≡ ps ++ p ∷ [] = search rules in
    let names : c.insert.new.self.keys ≡ insert_key nat_eq c.self.inside.names.keys p.name.at = search rules in
    let lent = c.push_reserved-2.new.self in
    let long : lent.len ≡ length (ps ++ p ∷ []) = search rules in
    let free : named p.name ps ≡ None = ap (named p.name) c.self.view_is ∙ c.requires in
    let tree = tree-lent (ps ++ p ∷ []) c.deref.result.now c.mend.new.nodes (drop (length c.mend.new.nodes) lent.items) lent.len c.mend.ensures (c.deref.ensures.value ∙ procs) long in
    rw (procs, names, c.live_in.ensures)
    (indexed-push ps c.self.inside.names.keys ns _ c.self.inside.live p c.self.invariant free tree)

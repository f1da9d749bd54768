use Rattle.std.proofs.Common.{◌≡◌, ◌<◌, ◌-◌, None, length, map, take, get_or, set, sym, ap, subst, ◌∙◌, arith}
use Rattle.std.proofs.lemmas.List.{get_or_default}
use Rattle.std.specs.List.{remove}
use Rattle.tp_store.specs.Trail.{AreLinked, Table, binding_of, number_at}
use Rattle.tp_store.proofs.Linked.Places.{places-set, remove_last}
use Rattle.tp_store.proofs.Linked.Links.{bindings-without, linked-without, linked_within, number_seen, pairs_length}
use Rattle.tp_store.proofs.trail.Trail.pop.Goals as goal

pub index_mut-requires : goal.index_mut-requires
index_mut-requires c =
    let ls = c.self.inside.links.items in
    let ns = c.self.inside.numbers.items in
    let n = c.index-number.result.now in
    let at = c.len-at.result - 1 in
    let lt : at < length ns = omega (arith, pairs_length ls ns c.args.self.now c.self.view_is, c.requires, c.len-at.ensures) in
    let here : n ≡ get_or ns at 0 = c.index-number.ensures ∙ get_or_default ns at n 0 lt in
    omega (arith, here, linked_within ls ns at lt c.self.invariant)

pub invariant_of-self : goal.invariant_of-self
invariant_of-self c =
    let ls = c.self.inside.links.items in
    let ns = c.self.inside.numbers.items in
    let n = c.index-number.result.now in
    let at = length ns - 1 in
    let some : 0 < length ns = omega (arith, pairs_length ls ns c.args.self.now c.self.view_is, c.requires) in
    let lt : at < length ns = omega arith in
    let same : c.len-at.result - 1 ≡ at = omega (arith, c.len-at.ensures) in
    let here : n ≡ get_or ns at 0 = c.index-number.ensures ∙ ap (λ k. get_or ns k n) same ∙ get_or_default ns at n 0 lt in
    subst (AreLinked (set ls n 0)) (remove_last ns some ∙ ap (λ k. take k ns) (sym same) ∙ sym c.truncate.ensures.items) (linked-without ls ns at n lt here c.self.invariant)

pub returns-clause-bound : goal.returns-clause-bound
returns-clause-bound c =
    let ls = c.self.inside.links.items in
    let ns = c.self.inside.numbers.items in
    let n = c.index-number.result.now in
    let at = length ns - 1 in
    let counted : length ns ≡ length c.args.self.now.pairs = pairs_length ls ns c.args.self.now c.self.view_is in
    let lt : at < length ns = omega (arith, counted, c.requires) in
    let same : c.len-at.result - 1 ≡ at = omega (arith, c.len-at.ensures) in
    let here : n ≡ get_or ns at 0 = c.index-number.ensures ∙ ap (λ k. get_or ns k n) same ∙ get_or_default ns at n 0 lt in
    places-set ls n 0
    ∙ ap (λ (t : Table). set t.bound n None) c.self.view_is
    ∙ ap (λ m. set c.args.self.now.bound m None) (here ∙ number_seen ls ns c.args.self.now at c.self.view_is)
    ∙ ap (λ m. set c.args.self.now.bound (number_at c.args.self.now.pairs (m - 1)) None) counted

pub returns-clause-pairs : goal.returns-clause-pairs
returns-clause-pairs c =
    let ls = c.self.inside.links.items in
    let ns = c.self.inside.numbers.items in
    let n = c.index-number.result.now in
    let at = length ns - 1 in
    let counted : length ns ≡ length c.args.self.now.pairs = pairs_length ls ns c.args.self.now c.self.view_is in
    let some : 0 < length ns = omega (arith, counted, c.requires) in
    let lt : at < length ns = omega arith in
    let same : c.len-at.result - 1 ≡ at = omega (arith, c.len-at.ensures) in
    let here : n ≡ get_or ns at 0 = c.index-number.ensures ∙ ap (λ k. get_or ns k n) same ∙ get_or_default ns at n 0 lt in
    let few : length (map (binding_of ls) ns) - 1 ≡ at = ap (λ (t : Table). length t.pairs - 1) c.self.view_is ∙ ap (λ m. m - 1) (sym counted) in
    ap (map (binding_of (set ls n 0))) (c.truncate.ensures.items ∙ ap (λ k. take k ns) same ∙ sym (remove_last ns some))
    ∙ bindings-without ls ns at n lt here c.self.invariant
    ∙ ap (remove (map (binding_of ls) ns)) (sym few)
    ∙ remove_last (map (binding_of ls) ns) (omega (arith, few, counted, ap (λ (t : Table). length t.pairs) c.self.view_is))
    ∙ ap (λ (t : Table). take (length t.pairs - 1) t.pairs) c.self.view_is

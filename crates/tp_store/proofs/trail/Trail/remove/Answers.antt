use Rattle.std.proofs.Common.{◌≡◌, ◌<◌, None, length, map, get_or, set, sym, ap, subst, ◌∙◌, arith}
use Rattle.std.proofs.lemmas.List.{get_or_default}
use Rattle.std.specs.List.{remove}
use Rattle.tp_store.specs.Trail.{AreLinked, Table, binding_of}
use Rattle.tp_store.proofs.Linked.Places.{places-set}
use Rattle.tp_store.proofs.Linked.Links.{bindings-without, linked-without, linked_within, number_seen, pairs_length}
use Rattle.tp_store.proofs.trail.Trail.remove.Goals as goal

pub index_mut-requires : goal.index_mut-requires
index_mut-requires c =
    let ls = c.self.inside.links.items in
    let ns = c.self.inside.numbers.items in
    let lt : c.args.at < length ns = omega (arith, pairs_length ls ns c.args.self.now c.self.view_is, c.requires) in
    let here : c.remove-number.result ≡ get_or ns c.args.at 0 = c.remove-number.ensures.value ∙ get_or_default ns c.args.at c.remove-number.result 0 lt in
    omega (arith, here, linked_within ls ns c.args.at lt c.self.invariant)

pub invariant_of-self : goal.invariant_of-self
invariant_of-self c =
    let ls = c.self.inside.links.items in
    let ns = c.self.inside.numbers.items in
    let lt : c.args.at < length ns = omega (arith, pairs_length ls ns c.args.self.now c.self.view_is, c.requires) in
    let here : c.remove-number.result ≡ get_or ns c.args.at 0 = c.remove-number.ensures.value ∙ get_or_default ns c.args.at c.remove-number.result 0 lt in
    subst (AreLinked (set ls c.remove-number.result 0)) (sym c.remove-number.ensures.items) (linked-without ls ns c.args.at c.remove-number.result lt here c.self.invariant)

pub returns-clause-bound : goal.returns-clause-bound
returns-clause-bound c =
    let ls = c.self.inside.links.items in
    let ns = c.self.inside.numbers.items in
    let lt : c.args.at < length ns = omega (arith, pairs_length ls ns c.args.self.now c.self.view_is, c.requires) in
    let here : c.remove-number.result ≡ get_or ns c.args.at 0 = c.remove-number.ensures.value ∙ get_or_default ns c.args.at c.remove-number.result 0 lt in
    places-set ls c.remove-number.result 0
    ∙ ap (λ (t : Table). set t.bound c.remove-number.result None) c.self.view_is
    ∙ ap (λ n. set c.args.self.now.bound n None) (here ∙ number_seen ls ns c.args.self.now c.args.at c.self.view_is)

pub returns-clause-pairs : goal.returns-clause-pairs
returns-clause-pairs c =
    let ls = c.self.inside.links.items in
    let ns = c.self.inside.numbers.items in
    let lt : c.args.at < length ns = omega (arith, pairs_length ls ns c.args.self.now c.self.view_is, c.requires) in
    let here : c.remove-number.result ≡ get_or ns c.args.at 0 = c.remove-number.ensures.value ∙ get_or_default ns c.args.at c.remove-number.result 0 lt in
    ap (map (binding_of (set ls c.remove-number.result 0))) c.remove-number.ensures.items
    ∙ bindings-without ls ns c.args.at c.remove-number.result lt here c.self.invariant
    ∙ ap (λ (t : Table). remove t.pairs c.args.at) c.self.view_is

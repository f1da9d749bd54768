use Rattle.std.proofs.Common.{◌<◌, ◌∷◌, ◌++◌, [], None, length, get_or, set, ap, ◌∙◌, arith}
use Rattle.tp_store.specs.Trail.{IsApart, Table, place_of}
use Rattle.tp_store.proofs.Linked.Places.{place_of-next, places-set}
use Rattle.tp_store.proofs.Linked.Links.{bindings-bind, bound_length, linked-bind, unbound_apart}
use Rattle.tp_store.proofs.trail.Trail.bind.Goals as goal

pub invariant_of-self-2 : goal.invariant_of-self-2
invariant_of-self-2 c =
    let ls = c.self.inside.links.items in
    let ns = c.self.inside.numbers.items in
    let lt : c.args.number < length ls = omega (arith, bound_length ls ns c.args.self.now c.self.view_is, c.requires.claimed) in
    let apart : IsApart c.args.number ns = unbound_apart ls ns c.args.number (ap (λ (t : Table). get_or t.bound c.args.number None) c.self.view_is ∙ c.requires.unbound) c.self.invariant in
    linked-bind ls ns c.push.new.self.items c.args.number c.in-Some.link c.in_ok-push.ensures.items lt (omega arith) apart c.self.invariant

pub returns-clause-bound : goal.returns-clause-bound
returns-clause-bound c =
    let bound = c.args.self.now.bound in
    places-set c.self.inside.links.items c.args.number c.in-Some.link
    ∙ ap (λ (t : Table). set t.bound c.args.number (place_of c.in-Some.link)) c.self.view_is
    ∙ ap (set bound c.args.number) (place_of-next c.args.place c.in-Some.link (omega arith))

pub returns-clause-pairs : goal.returns-clause-pairs
returns-clause-pairs c =
    let ls = c.self.inside.links.items in
    let ns = c.self.inside.numbers.items in
    let lt : c.args.number < length ls = omega (arith, bound_length ls ns c.args.self.now c.self.view_is, c.requires.claimed) in
    let apart : IsApart c.args.number ns = unbound_apart ls ns c.args.number (ap (λ (t : Table). get_or t.bound c.args.number None) c.self.view_is ∙ c.requires.unbound) c.self.invariant in
    bindings-bind ls ns c.push.new.self.items c.args.number c.in-Some.link c.args.place c.in_ok-push.ensures.items lt (omega arith) apart
    ∙ ap (λ (t : Table). t.pairs ++ (c.args.number, c.args.place) ∷ []) c.self.view_is

use Rattle.std.proofs.Common.{ℕ, ◌≡◌, ◌≤◌, None, map, take, get_or, sym, ap, subst, ◌∙◌}
use Rattle.tp_store.specs.Trail.{AreLinked, Table, binding_of, place_of}
use Rattle.tp_store.proofs.Linked.Places.{places-take}
use Rattle.tp_store.proofs.Linked.Links.{as_cut, same_bindings, still_linked}
use Rattle.tp_store.proofs.trail.Trail.cut_to.Goals as goal

pub invariant_of-self : goal.invariant_of-self
invariant_of-self c =
    let ls = c.self.inside.links.items in
    let ns = c.self.inside.numbers.items in
    let none : (n : ℕ) → c.args.variables ≤ n → get_or (map place_of ls) n None ≡ None = λ n le. ap (λ (t : Table). get_or t.bound n None) c.self.view_is ∙ c.requires n le in
    subst (λ l. AreLinked l ns) (sym c.truncate.ensures.items)
    (still_linked ls (take c.args.variables ls) ns (as_cut ls ns c.args.variables none c.self.invariant) c.self.invariant)

pub returns-clause-bound : goal.returns-clause-bound
returns-clause-bound c =
    ap (map place_of) c.truncate.ensures.items ∙ places-take c.args.variables c.self.inside.links.items ∙ ap (λ (t : Table). take c.args.variables t.bound) c.self.view_is

pub returns-clause-pairs : goal.returns-clause-pairs
returns-clause-pairs c =
    let ls = c.self.inside.links.items in
    let ns = c.self.inside.numbers.items in
    let none : (n : ℕ) → c.args.variables ≤ n → get_or (map place_of ls) n None ≡ None = λ n le. ap (λ (t : Table). get_or t.bound n None) c.self.view_is ∙ c.requires n le in
    ap (λ l. map (binding_of l) ns) c.truncate.ensures.items
    ∙ same_bindings ls (take c.args.variables ls) ns (as_cut ls ns c.args.variables none c.self.invariant)
    ∙ ap (λ (t : Table). t.pairs) c.self.view_is

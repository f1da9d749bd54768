use Rattle.std.proofs.Common.{◌≡◌, ◌-◌, ◌++◌, None, map, replicate, sym, ap, subst, ◌∙◌, arith}
use Rattle.std.specs.Prelude.{vec_len}
use Rattle.std.proofs.lemmas.List.{take_all}
use Rattle.tp_store.specs.Trail.{AreLinked, Table, binding_of, place_of}
use Rattle.tp_store.proofs.Linked.Places.{places-more}
use Rattle.tp_store.proofs.Linked.Links.{as_more, same_bindings, still_linked}
use Rattle.tp_store.proofs.trail.Trail.claim.Goals as goal

pub invariant_of-self-2 : goal.invariant_of-self-2
invariant_of-self-2 c =
    let ls = c.self.inside.links.items in
    let ns = c.self.inside.numbers.items in
    let k = c.in-Some.len - vec_len c.self.inside.links in
    let more : c.resize.new.self.items ≡ ls ++ replicate k 0 = c.in_ok-resize.ensures.items ∙ ap (λ l. l ++ replicate k 0) (take_all c.in-Some.len ls (omega arith)) in
    subst (λ l. AreLinked l ns) (sym more) (still_linked ls (ls ++ replicate k 0) ns (as_more ls ns k c.self.invariant) c.self.invariant)

pub returns-clause-bound : goal.returns-clause-bound
returns-clause-bound c =
    let ls = c.self.inside.links.items in
    let k = c.in-Some.len - vec_len c.self.inside.links in
    let more : c.resize.new.self.items ≡ ls ++ replicate k 0 = c.in_ok-resize.ensures.items ∙ ap (λ l. l ++ replicate k 0) (take_all c.in-Some.len ls (omega arith)) in
    let all : k ≡ c.args.n = omega (arith, c.in-Some.ensures) in
    ap (map place_of) more ∙ places-more ls k ∙ ap (λ (t : Table). t.bound ++ replicate k None) c.self.view_is
    ∙ ap (λ n. c.args.self.now.bound ++ replicate n None) all

pub returns-clause-pairs : goal.returns-clause-pairs
returns-clause-pairs c =
    let ls = c.self.inside.links.items in
    let ns = c.self.inside.numbers.items in
    let k = c.in-Some.len - vec_len c.self.inside.links in
    let more : c.resize.new.self.items ≡ ls ++ replicate k 0 = c.in_ok-resize.ensures.items ∙ ap (λ l. l ++ replicate k 0) (take_all c.in-Some.len ls (omega arith)) in
    ap (λ l. map (binding_of l) ns) more ∙ same_bindings ls (ls ++ replicate k 0) ns (as_more ls ns k c.self.invariant) ∙ ap (λ (t : Table). t.pairs) c.self.view_is

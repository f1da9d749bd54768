use Rattle.std.proofs.Common.{rules, Some, ◌≡◌, ◌+◌, [], ◌∷◌, ◌++◌, List, reverse, sym, subst, ap, ◌∙◌, refl}
use Rattle.std.specs.Prelude.{FitsSigned}
use Rattle.std.specs.Int.{w64}
use Rattle.tp_terms.specs.declared.cells.Ref.{Ref}
use Rattle.tp_terms.specs.Shown.{name_at}
use Rattle.tp_arith.specs.declared.evaluate.Operation.TheVariants as operation
use Rattle.tp_arith.specs.declared.evaluate.Waiting.{Waiting}
use Rattle.tp_arith.specs.declared.evaluate.Waiting.TheVariants.{Unary, Left}
use Rattle.tp_arith.specs.declared.evaluate.Next.TheVariants.{Look, Give}
use Rattle.tp_arith.specs.Work.{GoesOn, operation_in, outcome, all_weight}
use Rattle.tp_arith.proofs.Evaluation.Bounds.{bits_of-fits}
use Rattle.tp_arith.proofs.Evaluation.Steps.{newest, looks-int, looks-unbound, looks-atom, looks-none, looks-unary, looks-binary}
use Rattle.tp_arith.proofs.evaluate.look_at.Goals as goal

pub returns-in-Int : goal.returns-in-Int
returns-in-Int g c =
    let h = g.T.Terms.heap c.args.terms.now in
    let ws = reverse c.args.waiting.now.items in
    let f : FitsSigned w64 c.in-Int.value = search rules in
    subst (λ z. GoesOn h (outcome h (Look c.args.at) ws) (all_weight h (Look c.args.at) ws) (Give z) ws) (sym (bits_of-fits c.in-Int.value f)) (looks-int h c.args.at ws c.in-Int.value c.in-Int.ensures.top c.requires.waiting)

pub returns-in-Var : goal.returns-in-Var
returns-in-Var g c = looks-unbound (g.T.Terms.heap c.args.terms.now) c.args.at (reverse c.args.waiting.now.items) c.in-Var.field-0 c.in-Var.ensures.top

pub returns-in-Atom : goal.returns-in-Atom
returns-in-Atom g c = looks-atom (g.T.Terms.heap c.args.terms.now) c.args.at (reverse c.args.waiting.now.items) c.in-Atom.name c.in-Atom.ensures.top

pub returns-in-None : goal.returns-in-None
returns-in-None g c =
    let h = g.T.Terms.heap c.args.terms.now in
    let top = c.in-Comp.ensures.top in
    looks-none h c.args.at (reverse c.args.waiting.now.items) c.in-Comp.name c.in-Comp.first c.in-Comp.count top (c.in-None.ensures h.names c.requires.heap.table top.stands.named)

pub returns-in_ok-push-in-Some-Unary : goal.returns-in_ok-push-in-Some-Unary
returns-in_ok-push-in-Some-Unary g c =
    let h = g.T.Terms.heap c.args.terms.now in
    let ws = reverse c.args.waiting.now.items in
    let top = c.in-Comp.ensures.top in
    let op = c.in-Some-Unary.operation in
    let found : Some (operation.Unary op) ≡ operation_in (name_at h.names c.in-Comp.name.at) c.in-Comp.count = let k = c.in-Some-Unary.ensures h.names c.requires.heap.table top.stands.named in cc in
    let items : c.push.new.self.items ≡ c.args.waiting.now.items ++ Unary op ∷ [] = search rules in
    let new = ap reverse items ∙ newest c.args.waiting.now.items (Unary op) in
    subst (λ (vs : List Waiting). GoesOn h (outcome h (Look c.args.at) ws) (all_weight h (Look c.args.at) ws) (Look c.in-Comp.first) vs) (sym new)
    (looks-unary h c.args.at ws c.in-Comp.name c.in-Comp.first c.in-Comp.count op top found c.requires.waiting)

pub returns-in_ok-push-in-Some-Binary : goal.returns-in_ok-push-in-Some-Binary
returns-in_ok-push-in-Some-Binary g c =
    let h = g.T.Terms.heap c.args.terms.now in
    let ws = reverse c.args.waiting.now.items in
    let top = c.in-Comp.ensures.top in
    let op = c.in-Some-Binary.operation in
    let right : Ref = record { at = c.in-Comp.first.at + 1 } in
    let found : Some (operation.Binary op) ≡ operation_in (name_at h.names c.in-Comp.name.at) c.in-Comp.count = let k = c.in-Some-Binary.ensures h.names c.requires.heap.table top.stands.named in cc in
    let items : c.push-in-Some-Binary.new.self.items ≡ c.args.waiting.now.items ++ Left op right ∷ [] = search rules in
    let new = ap reverse items ∙ newest c.args.waiting.now.items (Left op right) in
    subst (λ (vs : List Waiting). GoesOn h (outcome h (Look c.args.at) ws) (all_weight h (Look c.args.at) ws) (Look c.in-Comp.first) vs) (sym new)
    (looks-binary h c.args.at ws c.in-Comp.name c.in-Comp.first right c.in-Comp.count op top found refl c.requires.waiting)

use Rattle.std.proofs.Common.{◌≡◌, ◌≤◌, ◌-◌, ◌∷◌, ◌++◌, [], None, length, take, set, refl, sym, ap, ◌∙◌, arith}
use Rattle.std.proofs.lemmas.List.{take-append-le, length-set, length-take}
use Rattle.tp_store.specs.Trail.{number_at}
use Rattle.tp_store.proofs.Logging.Numbers.{binding_at, newest_split}
use Rattle.tp_store.proofs.Substitution.Kept.{IsChains-undo}
use Rattle.tp_store.proofs.chains.Chains.undo_to.Goals as goal

pub undo-preserved : goal.undo-preserved
undo-preserved c =
    let ps = c.undo.self.trail.pairs in
    let at = length ps - 1 in
    let b = binding_at ps at (omega arith) in
    let split : ps ≡ c.pop.new.self.pairs ++ b.pair ∷ [] = newest_split ps at b.pair (omega arith) b.here ∙ ap (λ l. l ++ b.pair ∷ []) (sym c.pop.ensures.pairs) in
    let within : c.args.kept ≤ length c.pop.new.self.pairs = omega (arith, ap length c.pop.ensures.pairs, length-take at ps) in
    record {
      chains = IsChains-undo c.undo.self _ b.pair c.undo.invariant.chains split refl (c.pop.ensures.bound ∙ ap (λ n. set c.undo.self.trail.bound n None) b.number) refl;
      kept = within;
      cells = c.undo.invariant.cells;
      vars = ap length c.pop.ensures.bound ∙ length-set c.undo.self.trail.bound (number_at ps at) None ∙ c.undo.invariant.vars;
      pairs = sym (take-append-le c.args.kept c.pop.new.self.pairs (b.pair ∷ []) within) ∙ ap (take c.args.kept) (sym split) ∙ c.undo.invariant.pairs;
    }

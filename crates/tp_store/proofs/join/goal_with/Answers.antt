use Rattle.std.proofs.Common.{◌≡◌, [], length, take, refl, sym, ap, ◌∙◌, arith, append-nil}
use Rattle.std.proofs.Math.Seq.{take-append_seam}
use Rattle.tp_store.proofs.Substitution.Closed.{IsChains-cut}
use Rattle.tp_store.proofs.join.goal_with.Goals as goal

pub returns-in-Err-clause-chains : goal.returns-in-Err-clause-chains
returns-in-Err-clause-chains c = IsChains-cut c.args.chains.now c.push_joined.new.chains _ c.len-kept.result c.requires.chains c.in-Err.ensures.chains c.in-Err.ensures.adds (omega arith) c.cut_to.ensures.items refl refl refl

pub returns-in-Err-clause-adds : goal.returns-in-Err-clause-adds
returns-in-Err-clause-adds c =
    let old = c.args.chains.now.cells.items in
    let now = c.push_joined.new.chains.cells.items in
    let a = c.in-Err.ensures.adds in
    let kept : c.len-kept.result ≡ length c.args.chains.now.cells.items = omega arith in
    let same : c.cut_to.new.self.items ≡ old = c.cut_to.ensures.items ∙ ap (λ n. take n now) kept ∙ ap (take (length old)) a.cells ∙ take-append_seam old a.more in
    record { more = []; cells = same ∙ sym (append-nil old); pairs = a.pairs; vars = a.vars }

use Rattle.std.proofs.Common.{◌≡◌, ◌+◌, ◌-◌, ◌++◌, refl, ap, ◌∙◌, arith, reverse}
use Rattle.tp_store.specs.Work.{pairs_from}
use Rattle.tp_store.proofs.Unifier.Work.{rows_pushed}
use Rattle.tp_store.proofs.Copies.Rows.{newest_first}
use Rattle.tp_store.proofs.pairs.push_rows.Goals as goal

pub rows-preserved : goal.rows-preserved
rows-preserved c =
    rows_pushed c.args.work.now.items c.rows.work.items c.push.new.self.items c.args.left.at c.args.right.at c.args.count c.rows.k _ _ c.rows-test.true c.rows.invariant
    (newest_first c.push.new.self.items c.rows.work.items _ c.in_ok-push.ensures.items) refl refl

pub returns : goal.returns
returns c =
    let all : c.rows.k ≡ c.args.count = omega arith in
    let a : c.args.left.at + (c.args.count - c.rows.k) ≡ c.args.left.at = omega arith in
    let b : c.args.right.at + (c.args.count - c.rows.k) ≡ c.args.right.at = omega arith in
    c.rows.invariant
    ∙ ap (λ i. pairs_from i (c.args.right.at + (c.args.count - c.rows.k)) c.rows.k ++ reverse c.args.work.now.items) a
    ∙ ap (λ i. pairs_from c.args.left.at i c.rows.k ++ reverse c.args.work.now.items) b
    ∙ ap (λ n. pairs_from c.args.left.at c.args.right.at n ++ reverse c.args.work.now.items) all

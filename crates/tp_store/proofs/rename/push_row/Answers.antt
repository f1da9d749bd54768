use Rattle.std.proofs.Common.{◌≡◌, ◌+◌, ◌-◌, ◌++◌, refl, ap, ◌∙◌, arith, reverse}
use Rattle.tp_store.specs.Work.{places_from}
use Rattle.tp_store.proofs.Copies.Rows.{newest_first}
use Rattle.tp_store.proofs.Copies.Variables.{row_pushed}
use Rattle.tp_store.proofs.rename.push_row.Goals as goal

pub row-preserved : goal.row-preserved
row-preserved c =
    row_pushed c.args.work.now.items c.row.work.items c.push.new.self.items c.args.first.at c.args.count c.row.k _ c.row-test.true c.row.invariant
    (newest_first c.push.new.self.items c.row.work.items _ c.in_ok-push.ensures.items) refl

pub returns : goal.returns
returns c =
    let all : c.row.k ≡ c.args.count = omega arith in
    let a : c.args.first.at + (c.args.count - c.row.k) ≡ c.args.first.at = omega arith in
    c.row.invariant
    ∙ ap (λ i. places_from i c.row.k ++ reverse c.args.work.now.items) a
    ∙ ap (λ n. places_from c.args.first.at n ++ reverse c.args.work.now.items) all

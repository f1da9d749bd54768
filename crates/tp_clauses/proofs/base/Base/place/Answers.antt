use Rattle.std.proofs.Common.{◌≡◌, ◌<◌, ◌^◌, length, ap, ◌∙◌, arith}
use Rattle.tp_clauses.specs.Contents.{Contents}
use Rattle.tp_clauses.proofs.Clauses.Rising.{rank-low}
use Rattle.tp_clauses.proofs.base.Base.place.Goals as goal

pub returns-clause-few : goal.returns-clause-few
returns-clause-few c =
    let m = c.args.self.now in
    let low = rank-low m c.args.id c.clause-clause.result c.clause-clause.ensures.view c.clause-clause.ensures.fits c.rank.result c.rank.ensures in
    let count : c.bounded_len-count.result ≡ length m.clauses = c.bounded_len-count.ensures.count ∙ ap length c.as_slice.ensures.value ∙ c.self.invariant.0.ranks.count ∙ ap (λ (b : Contents). length b.clauses) c.self.view_is in
    let few : c.bounded_len-count.result < 2 ^ 63 = c.bounded_len-count.ensures.few in
    let within : c.args.id.at < length m.clauses = c.requires in
    omega (arith, count)

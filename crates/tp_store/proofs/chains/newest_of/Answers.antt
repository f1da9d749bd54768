use Rattle.std.proofs.Common.{rules, ◌≡◌, ◌+◌, ◌-◌, ◌<◌, true, false, nat_eq, take, subst, arith}
use Rattle.std.proofs.lemmas.List.{length-take}
use Rattle.tp_store.proofs.Logging.Search.{IsBefore, before_found, before_other, some_pair}
use Rattle.tp_store.proofs.chains.newest_of.Goals as goal

pub search-preserved : goal.search-preserved
search-preserved c =
    let ps = c.args.trail.now.pairs in
    let n = c.args.number in
    let at = c.search.at in
    let i = c.search.invariant in
    let differs : nat_eq c.number.result n ≡ false = search rules in
    let earlier : IsBefore ps n at = before_other ps n at c.number.result i.within c.number.ensures differs i.before in
    let some : 0 < at = omega (arith, some_pair (take at ps) n earlier.bound, length-take at ps) in
    let same : at ≡ at - 1 + 1 = omega arith in
    record { within = omega arith; before = subst (IsBefore ps n) same earlier }

pub returns-clause-removed : goal.returns-clause-removed
returns-clause-removed c =
    let found : nat_eq c.number.result c.args.number ≡ true = search rules in
    before_found c.args.trail.now.pairs c.args.number c.search.at c.number.result c.search.invariant.within c.number.ensures found c.search.invariant.before

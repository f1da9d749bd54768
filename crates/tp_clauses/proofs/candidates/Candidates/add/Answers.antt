use Rattle.std.proofs.Common.{◌≡◌, length, arith}
use Rattle.tp_clauses.specs.Candidates.{merged}
use Rattle.tp_clauses.proofs.Lists.Keys.{put_keys}
use Rattle.tp_clauses.proofs.Lists.Spans.{within_added, listed_added}
use Rattle.tp_clauses.proofs.candidates.Candidates.add.Goals as goal

pub returns-clause-within : goal.returns-clause-within
returns-clause-within c =
    let from : c.len-from.result ≡ length c.args.self.now.ids.items = omega (arith, c.len-from.ensures, c.args.self.now.ids.ok.0) in
    let to : c.len-to.result ≡ length c.merge.new.ids.items = omega (arith, c.len-to.ensures, c.merge.new.ids.ok.0) in
    within_added c.args.self.now (record { ids = c.merge.new.ids; spans = c.insert.new.self }) c.args.key (record { from = c.len-from.result; to = c.len-to.result }) (merged c.args.own.now c.args.others.now)
    c.in_ok-merge.ensures from to (put_keys c.args.key (record { from = c.len-from.result; to = c.len-to.result }) c.args.self.now.spans.entries c.insert.new.self.entries c.in_ok-insert.ensures.updates.0) c.requires

pub returns-clause-listed : goal.returns-clause-listed
returns-clause-listed c =
    let from : c.len-from.result ≡ length c.args.self.now.ids.items = omega (arith, c.len-from.ensures, c.args.self.now.ids.ok.0) in
    let to : c.len-to.result ≡ length c.merge.new.ids.items = omega (arith, c.len-to.ensures, c.merge.new.ids.ok.0) in
    listed_added c.args.self.now (record { ids = c.merge.new.ids; spans = c.insert.new.self }) c.args.key (record { from = c.len-from.result; to = c.len-to.result }) (merged c.args.own.now c.args.others.now)
    c.in_ok-merge.ensures from to (put_keys c.args.key (record { from = c.len-from.result; to = c.len-to.result }) c.args.self.now.spans.entries c.insert.new.self.entries c.in_ok-insert.ensures.updates.0) c.requires

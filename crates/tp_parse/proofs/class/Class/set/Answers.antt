use Rattle.std.proofs.Common.{◌≤◌, ap, length, ◌∙◌, arith}
use Rattle.tp_parse.specs.Ops.{found_in}
use Rattle.tp_parse.specs.Table.{changed}
use Rattle.tp_parse.proofs.Operators.{inserted, within-inserted, within-same}
use Rattle.tp_parse.proofs.class.Class.set.Goals as goal

pub invariant_of-self : goal.invariant_of-self
invariant_of-self c =
    let more : c.self.inside.longest ≤ c.max-self-inside.result = omega (arith, c.max-self-inside.ensures) in
    within-same c.self.inside.entries.entries c.insert.new.self.entries c.self.inside.longest c.max-self-inside.result c.in_err-insert.ensures.err more c.self.invariant

pub invariant_of-self-2 : goal.invariant_of-self-2
invariant_of-self-2 c =
    let more : c.self.inside.longest ≤ c.max-self-inside.result = omega (arith, c.max-self-inside.ensures) in
    let fits : length c.args.name.now ≤ c.max-self-inside.result = omega (arith, c.max-self-inside.ensures) in
    within-inserted c.self.inside.entries.entries c.insert.new.self.entries c.self.inside.longest c.max-self-inside.result c.in_ok-owned.owned c.args.name.now c.args.entry c.in_ok-insert.ensures.entries c.in_ok-owned.ensures.ok more fits c.self.invariant

pub returns-clause-ok : goal.returns-clause-ok
returns-clause-ok c =
    inserted c.self.inside.entries.entries c.insert.new.self.entries c.in_ok-owned.owned c.args.name.now c.args.entry c.in_ok-insert.ensures.entries c.in_ok-owned.ensures.ok
    ∙ ap (λ es. changed (Rattle.std.specs.Str.chars c.args.name.now) c.args.entry (found_in es)) c.self.view_is

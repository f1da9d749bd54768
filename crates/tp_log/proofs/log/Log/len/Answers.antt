use Rattle.std.proofs.Common.{◌≡◌, ◌≤◌, length, ap, arith}
use Rattle.tp_log.specs.Entries.{entries, bindings_before}
use Rattle.tp_log.proofs.EntryAdded.{length-entries}
use Rattle.tp_log.proofs.log.Log.len.Goals as goal

pub returns : goal.returns
returns c =
    let ns = c.self.inside.numbers.items in
    let os = c.self.inside.others.items in
    let within : bindings_before os ≤ length ns = omega (arith, c.self.invariant) in
    let same : length (entries ns os) ≡ length c.args.self.now = ap length c.self.view_is in
    omega (arith, length-entries ns os within, same, c.len.ensures, c.len-2.ensures)

use Rattle.std.proofs.Common.{◌≡◌, true, false, Some, length, arith}
use Rattle.std.proofs.lemmas.Grind.{common_steps}
use Rattle.tp_outside.specs.Files.{held_under}
use Rattle.tp_outside.specs.Memory.{files_of, is_failing}
use Rattle.tp_outside.proofs.InMemory.Reads.{failed_read, given_read}
use Rattle.tp_outside.proofs.memory.MemShelfShelf.read.Goals as goal

-- a held name, by a call that fails
pub returns-then-contains-clause-exact : goal.returns-then-contains-clause-exact
returns-then-contains-clause-exact c =
    let held : held_under (files_of c.self.inside.files.items) c.args.name.now ≡ Some c.in-Some.bytes.now = grind (arith, common_steps) in
    let fails : is_failing c.self.inside.fails.items c.saturating_add-self-inside.result ≡ true = grind (arith, common_steps) in
    rw (← c.self.view_is) (failed_read _ c.args.name.now c.in-Some.bytes.now c.args.at (length c.args.buf.now) c.saturating_add-self-inside.result c.saturating_add-self-inside-then-contains.result held c.saturating_add-self-inside.ensures c.saturating_add-self-inside-then-contains.ensures fails)

-- a held name, by a call that doesn't
pub returns-clause-exact : goal.returns-clause-exact
returns-clause-exact c =
    let held : held_under (files_of c.self.inside.files.items) c.args.name.now ≡ Some c.in-Some.bytes.now = grind (arith, common_steps) in
    let fails : is_failing c.self.inside.fails.items c.saturating_add-self-inside.result ≡ false = grind (arith, common_steps) in
    rw (← c.self.view_is) (given_read _ c.args.name.now c.in-Some.bytes.now c.args.at (length c.args.buf.now) c.saturating_add-self-inside.result c.copy_piece-count.result c.saturating_add-self-inside-2.result held c.saturating_add-self-inside.ensures fails c.copy_piece-count.ensures.count c.saturating_add-self-inside-2.ensures)

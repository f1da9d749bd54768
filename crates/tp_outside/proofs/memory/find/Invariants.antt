use Rattle.std.proofs.Common.{◌≡◌, drop}
use Rattle.tp_outside.specs.Files.{held_under}
use Rattle.tp_outside.specs.Memory.{files_of}
use Rattle.tp_outside.proofs.memory.find.Given as goal

-- the name is looked up in the files that are left
abbrev pub invariant-loop-file : goal.invariant-loop-file
invariant-loop-file l = held_under (files_of l.files) l.name ≡ held_under (files_of (drop l.file-index l.files)) l.name

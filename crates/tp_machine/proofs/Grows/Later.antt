-- What is added to a machine's names changes none of its clauses.
use Rattle.std.proofs.Common.{◌≡◌, ap, ◌∙◌}
use Rattle.tp_clauses.specs.Contents.{base_of}
use Rattle.tp_machine.specs.declared.machine.Machine.{Machine}
use Rattle.tp_machine.specs.Machine.{IsProgram, SameProgram, base_in}
use Rattle.tp_machine.proofs.Worlds.Names.{base-later}

-- what is added to a machine's names changes none of its clauses
pub base_stays : (old new : Machine) → IsProgram old → SameProgram old new → base_in new ≡ base_in old
base_stays old new h same = ap (base_of new.atoms) same.base ∙ base-later old.atoms new.atoms same.names old.base.now h.named

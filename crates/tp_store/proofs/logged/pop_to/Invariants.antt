use Rattle.std.proofs.Common.{◌≡◌, length, take}
use Rattle.tp_store.proofs.logged.pop_to.Given as goal

abbrev pub invariant-pops : goal.invariant-pops
invariant-pops l = take l.kept l.log ≡ take l.kept l.fn.log

abbrev pub decreases-pops : goal.decreases-pops
decreases-pops l = length l.log

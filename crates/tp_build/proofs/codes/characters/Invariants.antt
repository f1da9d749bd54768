use Rattle.std.proofs.Common.{◌≡◌}
use Rattle.tp_build.proofs.codes.characters.Given as goal

abbrev pub invariant-loop-character : goal.invariant-loop-character
invariant-loop-character l = l.name.items ≡ l.yielded

use Rattle.std.proofs.Common.{◌≡◌, chars, drop, map}
use Rattle.tp_parse.specs.Numbers.{number_in}
use Rattle.tp_parse.specs.Tells.{named_of}
use Rattle.tp_parse.proofs.variables.find_first.Given as goal

-- the name's number is that among the names that are left
abbrev pub invariant-loop-named : goal.invariant-loop-named
invariant-loop-named l = number_in (map named_of l.few) (chars l.name) ≡ number_in (map named_of (drop l.named-index l.few)) (chars l.name)

use Rattle.std.proofs.Common.{◌≡◌, ◌++◌, map}
use Rattle.tp_parse.specs.Tells.{named_of}
use Rattle.tp_parse.specs.Variables.{numbers_of}
use Rattle.tp_parse.proofs.variables.with_names.Given as goal

-- the names so far, and then those that are left
abbrev pub invariant-loop-name : goal.invariant-loop-name
invariant-loop-name l = map named_of l.names.items ++ numbers_of l.name-iterator ≡ map named_of l.initial.names.items ++ numbers_of l.initial.name-iterator

use Rattle.std.proofs.Common.{◌≤◌, take}
use Rattle.tp_terms.specs.Names.{Grows}
use Rattle.tp_parse.specs.Making.{IsMade}
use Rattle.tp_parse.specs.NewNames.{AddsOnly, writes_any}
use Rattle.tp_parse.specs.Steps.{trees_of}
use Rattle.tp_parse.proofs.build.build.Given as goal

-- what was made so far, and that the steps that are left can be made
abbrev pub invariant-loop-step : goal.invariant-loop-step
invariant-loop-step l = record {
  made : IsMade l.atoms l.making (trees_of l.text (take l.step-index l.steps));
  room : l.making.variables.vars ≤ l.step-index;
  grows : Grows l.fn.atoms l.atoms;
  names : AddsOnly (λ name. writes_any name (trees_of l.text (take l.step-index l.steps))) l.fn.atoms l.atoms;
}

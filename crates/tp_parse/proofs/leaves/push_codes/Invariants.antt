use Rattle.std.proofs.Common.{◌≡◌, []}
use Rattle.tp_parse.specs.Steps.{AreReady, onto_codes, trees_of}
use Rattle.tp_parse.proofs.leaves.push_codes.Given as goal

abbrev pub invariant-loop-character : goal.invariant-loop-character
invariant-loop-character l = record {
  made : trees_of l.source.text.now l.steps.items ≡ onto_codes l.yielded (trees_of l.source.text.now l.fn.steps.items);
  ready : AreReady l.source.text.now [] l.steps.items;
}

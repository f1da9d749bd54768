use Rattle.std.proofs.Common.{◌∙◌, arith}
use Rattle.tp_clauses.specs.Parts.{contents_of}
use Rattle.tp_clauses.proofs.Lists.Turns.{list_turn, lists_whole}
use Rattle.tp_clauses.proofs.candidates.candidates_of.Goals as goal

pub loop-at-preserved : goal.loop-at-preserved
loop-at-preserved c = record {
  within = c.in_ok-add_list.ensures.within;
  kept = list_turn (contents_of c.args.parts.now) c.in_ok-groups.groups c.in_ok-groups.ensures c.loop-at.at c.entry.result.0 c.entry.result.1.now c.ids-others.result.now c.ids-all.result.now c.loop-at.candidates c.add_list.new.candidates
      c.entry.ensures.key c.entry.ensures.ids c.ids-others.ensures (c.ids-all.ensures ∙ c.requires.index c.entry.result.0.key.name c.entry.result.0.key.arity) c.in_ok-add_list.ensures.listed c.loop-at.invariant.kept;
}

pub returns : goal.returns
returns c = lists_whole (contents_of c.args.parts.now) c.in_ok-groups.groups c.in_ok-groups.ensures c.loop-at.candidates c.loop-at.at (omega (arith, c.loop-at-test.false, c.len-at-end.ensures)) c.loop-at.invariant.within c.loop-at.invariant.kept

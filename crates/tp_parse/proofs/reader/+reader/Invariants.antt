use Rattle.std.proofs.Common.{◌+◌, ◌-◌, ◌*◌, ◌≤◌, length}
use Rattle.tp_parse.specs.Gives.{IsGoing}
use Rattle.tp_parse.specs.Ops.{table_of}
use Rattle.tp_parse.specs.Reading.{args, elements, infix_parts, reading}
use Rattle.tp_parse.specs.Steps.{top_of, trees_of, under}
use Rattle.tp_parse.specs.Words.{ahead}
use Rattle.tp_parse.proofs.ReadsTerms.Loops.{ArgsSoFar, ElementsSoFar, PartsSoFar}
use Rattle.tp_parse.proofs.reader.+reader.Given as goal

abbrev pub decreases-follow_element : goal.decreases-follow_element
decreases-follow_element l = 8 * l.levels + 2

abbrev pub decreases-read : goal.decreases-read
decreases-read l = 8 * l.levels

abbrev pub decreases-read_args : goal.decreases-read_args
decreases-read_args l = 8 * l.levels + 2

abbrev pub decreases-read_argument : goal.decreases-read_argument
decreases-read_argument l = 8 * l.levels + 1

abbrev pub decreases-read_braced : goal.decreases-read_braced
decreases-read_braced l = 8 * l.levels + 1

abbrev pub decreases-read_bracketed : goal.decreases-read_bracketed
decreases-read_bracketed l = 8 * l.levels + 1

abbrev pub decreases-read_compound : goal.decreases-read_compound
decreases-read_compound l = 8 * l.levels + 3

abbrev pub decreases-read_element : goal.decreases-read_element
decreases-read_element l = 8 * l.levels + 3

abbrev pub decreases-read_elements : goal.decreases-read_elements
decreases-read_elements l = 8 * l.levels + 4

abbrev pub decreases-read_infix_part : goal.decreases-read_infix_part
decreases-read_infix_part l = 8 * l.levels + 1

abbrev pub decreases-read_infix_parts : goal.decreases-read_infix_parts
decreases-read_infix_parts l = 8 * l.levels + 2

abbrev pub decreases-read_listed : goal.decreases-read_listed
decreases-read_listed l = 8 * l.levels + 5

abbrev pub decreases-read_named : goal.decreases-read_named
decreases-read_named l = 8 * l.levels + 4

abbrev pub decreases-read_operand : goal.decreases-read_operand
decreases-read_operand l = 8 * l.levels + 1

abbrev pub decreases-read_prefixed : goal.decreases-read_prefixed
decreases-read_prefixed l = 8 * l.levels + 2

abbrev pub decreases-read_primary : goal.decreases-read_primary
decreases-read_primary l = 8 * l.levels + 6

abbrev pub decreases-read_tail : goal.decreases-read_tail
decreases-read_tail l = 8 * l.levels + 1

abbrev pub invariant-read_args-arguments : goal.invariant-read_args-arguments
invariant-read_args-arguments l =
    let ops = table_of l.source.ops.now in let text = l.source.text.now in
    record {
      so_far : ArgsSoFar (reading ops l.levels) (args (reading ops l.levels) 255 (ahead text l.fn.at.cursor)) (255 - l.index) l.index (trees_of text l.fn.at.steps.items) (trees_of text l.at.steps.items) (ahead text l.at.cursor);
      going : IsGoing ops text l.at.cursor l.at.steps.items;
      shorter : length l.at.cursor ≤ length l.fn.at.cursor;
    }

abbrev pub invariant-read_elements-elements : goal.invariant-read_elements-elements
invariant-read_elements-elements l =
    let ops = table_of l.source.ops.now in let text = l.source.text.now in
    record {
      so_far : ElementsSoFar (reading ops l.levels) (elements (reading ops l.levels) (length (ahead text l.fn.at.cursor)) (ahead text l.fn.at.cursor)) (l.most - l.index) l.index (trees_of text l.fn.at.steps.items) (trees_of text l.at.steps.items) (ahead text l.at.cursor);
      going : IsGoing ops text l.at.cursor l.at.steps.items;
      shorter : length l.at.cursor ≤ length l.fn.at.cursor;
    }

abbrev pub invariant-read_infix_parts-parts : goal.invariant-read_infix_parts-parts
invariant-read_infix_parts-parts l =
    let ops = table_of l.source.ops.now in let text = l.source.text.now in
    record {
      so_far : PartsSoFar ops (reading ops l.levels) l.bound (infix_parts ops (reading ops l.levels) (length (ahead text l.fn.at.cursor)) l.bound (top_of (trees_of text l.fn.at.steps.items)) l.fn.priority (ahead text l.fn.at.cursor)) (l.most - l.counter) l.priority (under (trees_of text l.fn.at.steps.items)) (trees_of text l.at.steps.items) (ahead text l.at.cursor);
      going : IsGoing ops text l.at.cursor l.at.steps.items;
      shorter : length l.at.cursor ≤ length l.fn.at.cursor;
    }

use Rattle.tp_write.proofs.Writes.Names.{graphic-none, graphic-then}
use Rattle.tp_write.proofs.names.is_graphic_name.Goals as goal

pub returns-in-empty : goal.returns-in-empty
returns-in-empty c = graphic-none c.args.name.now c.in-empty.is

pub returns-in-empty-2 : goal.returns-in-empty-2
returns-in-empty-2 c = graphic-none c.args.name.now c.in-empty.is

pub returns-then-are_in_class : goal.returns-then-are_in_class
returns-then-are_in_class c = graphic-then c.args.name.now c.are_in_class.result c.begins_comment.result c.utf8.name c.in_default.not-empty c.in_default.not-text c.are_in_class.ensures c.if-are_in_class.true c.begins_comment.ensures

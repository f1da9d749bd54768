use Rattle.tp_parse.proofs.Numbered.Cells.{all-take, all-drop}
use Rattle.tp_parse.proofs.build.gather.Goals as goal

pub add_all-requires : goal.add_all-requires
add_all-requires c = rw c.deref.ensures.value (all-take _ _ _ (all-drop _ _ _ c.requires.stands))

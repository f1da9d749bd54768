use Rattle.std.proofs.Common.{refl}
use Rattle.tp_outside.proofs.Untold.AnyAnswer.{IfOk-from_all}
use Rattle.tp_outside.proofs.system.FileShelfShelf.TheImpl.Goals as goal

-- no bytes are told, so none are shown
pub read-tells : goal.read-tells
read-tells g c = record {
  held_stays = refl;
  never_falls = c.ensures.never_falls;
  bound = c.ensures.bound;
  gives = IfOk-from_all (λ _. Unit {0}) (λ _. tt) c.result;
  no_fault = c.ensures.no_fault;
  given = c.ensures.given;
  fails = c.ensures.rose;
  none_given = c.ensures.none_given;
}

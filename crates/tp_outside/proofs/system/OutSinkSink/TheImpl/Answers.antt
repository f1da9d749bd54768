use Rattle.std.proofs.Common.{◌≡◌, List, ℕ, Option, None, refl}
use Rattle.tp_outside.proofs.Untold.AnyAnswer.{IfOk-from_all, OnErr-from_fact}
use Rattle.tp_outside.proofs.system.OutSinkSink.TheImpl.Goals as goal

abbrev TellsNothing : Type 0
TellsNothing = let told : Option (List ℕ) = None in told ≡ None

-- no bytes are told, so none are added
pub write-tells : goal.write-tells
write-tells g c = record {
  never_falls = c.ensures.never_falls;
  some = c.ensures.some;
  bound = c.ensures.bound;
  added = IfOk-from_all (λ _. TellsNothing) (λ _. refl) c.result;
  no_fault = c.ensures.no_fault;
  rose = c.ensures.rose;
  none_added = OnErr-from_fact TellsNothing refl c.result;
}

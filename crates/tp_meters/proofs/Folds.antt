-- A history with one more event.
use Rattle.std.proofs.Common.{◌≡◌, List, [], ◌∷◌, ◌++◌, refl}
use Rattle.std.specs.Prelude.{fold}
use Rattle.tp_meters.specs.declared.MeterKind.{MeterKind}
use Rattle.tp_meters.specs.declared.EventView.{EventView}
use Rattle.tp_meters.specs.Meters.{meter_fold, meter_next, zeros}

fold-append : {A B : Type 0} (f : B → A → B) (b : B) (xs : List A) (x : A) → fold f b (xs ++ x ∷ []) ≡ f (fold f b xs) x
fold-append f b [] x = refl
fold-append f b (y ∷ ys) x = fold-append f (f b y) ys x

-- the numbers over one more event are one step on
pub fold-next : (kind : MeterKind) (events : List EventView) (event : EventView) → meter_fold kind (events ++ event ∷ []) ≡ meter_next kind (meter_fold kind events) event
fold-next kind events event = fold-append (meter_next kind) (zeros kind) events event

-- What becomes of the numbers of meters.
use Rattle.std.proofs.Common.{◌≡◌, ◌∙◌, ℕ, Bool, true, false, List, [], ◌∷◌, map, Option, Some, None, Result, Ok, Err, refl}
use Rattle.std.specs.List.{last_or}
use Rattle.tp_meaning.specs.World.{Event}
use Rattle.tp_meters.specs.declared.MeterKind.{MeterKind}
use Rattle.tp_engine.specs.declared.answers.AnswerFault.{AnswerFault}
use Rattle.tp_engine.specs.declared.answers.AnswerFault.TheVariants.{NoMemory}
use Rattle.tp_top.specs.declared.program.Status.{Status}
use Rattle.tp_top.specs.Metered.{HasCounted, MayCount, numbers_over}

-- where no answer is printed the numbers stay
pub stay_counted : {T E : Type 0} (res : Result T E) (b : Bool) (kinds : List MeterKind) (before after : List (List ℕ)) → after ≡ before → MayCount res b kinds None before after
stay_counted (Ok x) true kinds before after e = e
stay_counted (Ok x) false kinds before after e = e
stay_counted (Err x) true kinds before after e = tt
stay_counted (Err x) false kinds before after e = e

-- where a call met a fault they stay too
pub fault_counted : (b : Bool) (kinds : List MeterKind) (last : Option (List Event)) (before : List (List ℕ)) → let res : Result Status AnswerFault = Err NoMemory in MayCount res b kinds last before before
fault_counted true kinds last before = tt
fault_counted false kinds last before = refl

-- meters that aren't printed
pub unprinted_stay : {T E : Type 0} (res : Result T E) (kinds : List MeterKind) (last : Option (List Event)) (before after : List (List ℕ)) → MayCount res false kinds last before after → after ≡ before
unprinted_stay (Ok x) kinds last before after h = h
unprinted_stay (Err x) kinds last before after h = h

-- the same by what says whether they are
pub unprinted_any : {T E : Type 0} (res : Result T E) (b : Bool) (kinds : List MeterKind) (last : Option (List Event)) (before after : List (List ℕ)) → b ≡ false → MayCount res b kinds last before after → after ≡ before
unprinted_any res false kinds last before after e h = unprinted_stay res kinds last before after h
unprinted_any res true kinds last before after e h = absurd (cc)

pub unprinted : (b : Bool) (kinds : List MeterKind) (last : Option (List Event)) (before after : List (List ℕ)) → b ≡ false → HasCounted b kinds last before after → after ≡ before
unprinted false kinds last before after e h = h
unprinted true kinds last before after e h = absurd (cc)

-- a call behind one that counted, which may meet a fault
pub counted_then_any : {T E : Type 0} (res : Result T E) (b : Bool) (kinds : List MeterKind) (last : Option (List Event)) (before after : List (List ℕ)) → HasCounted b kinds last before after → MayCount res b kinds last before after
counted_then_any (Ok x) b kinds last before after h = h
counted_then_any (Err x) true kinds last before after h = tt
counted_then_any (Err x) false kinds last before after h = h

-- ---- one answer behind another

-- once a history was printed, the numbers before don't matter
over-later : (kinds : List MeterKind) (h : List Event) (hs : List (List Event)) (one other : List (List ℕ)) → numbers_over kinds (last_or (Some h) hs) one ≡ numbers_over kinds (last_or (Some h) hs) other
over-later kinds h [] one other = refl
over-later kinds h (x ∷ xs) one other = over-later kinds x xs one other

-- the numbers of the last of some histories behind one that was printed
pub counted_later : (b : Bool) (kinds : List MeterKind) (h : List Event) (hs : List (List Event)) (first mid last : List (List ℕ))
    → HasCounted b kinds (Some h) first mid → HasCounted b kinds (last_or None hs) mid last → HasCounted b kinds (last_or (Some h) hs) first last
counted_later false kinds h hs first mid last e f = f ∙ e
counted_later true kinds h [] first mid last e f = f ∙ e
counted_later true kinds h (x ∷ xs) first mid last e f = f ∙ over-later kinds x xs mid first

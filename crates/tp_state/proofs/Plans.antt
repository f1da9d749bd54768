-- How entries, processes and messages that were added or taken out are taken back.
use Rattle.std.proofs.Common.{◌≡◌, ℕ, zero, suc, ◌<◌, ◌≤◌, List, [], ◌∷◌, ◌++◌, length, refl, ap, sym, subst, arith}
use Rattle.std.specs.List.{remove}
use Rattle.tp_terms.specs.declared.cells.Ref.{Ref}
use Rattle.tp_terms.specs.declared.world.Proc.{Proc}
use Rattle.tp_terms.specs.declared.world.Slot.{Slot}
use Rattle.tp_log.specs.declared.entry.Entry.{Entry}
use Rattle.tp_log.specs.declared.entry.Entry.TheVariants as entry
use Rattle.tp_log.specs.Front.{front}
use Rattle.tp_calendar.specs.Order.{without_slot}
use Rattle.tp_mail.specs.Mail.{Receives, AllAtMost, at_box}
use Rattle.tp_state.specs.Undo.{Covers}
use Rattle.tp_state.specs.Going.{Held, Follows, parts_of}
use Rattle.tp_state.proofs.GoingBack.Logs.{covers-same}
use Rattle.tp_state.proofs.GoingBack.Follows.{acts, follows-then}

-- an entry of the calendar is taken out
pub plan-follows : (h : Held) (s : Slot) (slots : List Slot) (log : List Entry) (room insertion : ℕ) → log ≡ h.log ++ entry.Put s ∷ [] → without_slot s slots ≡ h.plain.slots → h.rooms.slots ≤ room → Follows h (record { plain = record h.plain { slots = slots; insertion = insertion }; log = log; rooms = record h.rooms { slots = room } })
plan-follows h s slots log room insertion l inverse le =
    acts h (record { plain = record h.plain { slots = slots; insertion = insertion }; log = log; rooms = record h.rooms { slots = room } }) (entry.Put s) l
    (ap (λ es. record (parts_of h.plain) { slots = es }) inverse) tt
    (record { slots = le; boxes = (covers-same h.rooms).boxes }) refl (omega arith) refl refl

-- the last process is taken out with its box
pub add-follows : (h : Held) (procs : List Proc) (boxes : List (List Ref)) (rooms : List ℕ) (mid log : List Entry) → mid ≡ h.log ++ entry.Made ∷ [] → front procs ≡ h.plain.procs → log ≡ mid ++ entry.BoxMade ∷ [] → front boxes ≡ h.plain.boxes → front rooms ≡ h.rooms.boxes → Follows h (record { plain = record h.plain { procs = procs; boxes = boxes }; log = log; rooms = record h.rooms { boxes = rooms } })
add-follows h procs boxes rooms mid log m made l boxed room =
    let one : Held = record { plain = record h.plain { procs = procs }; log = mid; rooms = h.rooms } in
    let two : Held = record { plain = record h.plain { procs = procs; boxes = boxes }; log = log; rooms = record h.rooms { boxes = rooms } } in
    follows-then h one two
    (acts h one entry.Made m (ap (λ ps. record (parts_of h.plain) { procs = ps }) made) tt (covers-same h.rooms) refl (omega arith) refl refl)
    (acts one two entry.BoxMade l (ap (λ bs. record (parts_of one.plain) { boxes = bs }) boxed) tt
    (subst (λ r. Covers h.rooms (record h.rooms { boxes = r })) (sym room) (covers-same h.rooms)) refl (omega arith) refl refl)

-- boxes of which one is changed are as many
pub at_box-length : (pid : ℕ) (f : List Ref → List Ref) (boxes : List (List Ref)) → length (at_box pid f boxes) ≡ length boxes
at_box-length pid f [] = refl
at_box-length zero f (b ∷ boxes) = refl
at_box-length (suc pid) f (b ∷ boxes) = ap suc (at_box-length pid f boxes)

-- the last message of a box is taken out
pub deliver-follows : (h : Held) (pid : ℕ) (boxes : List (List Ref)) (rooms : List ℕ) (log : List Entry) → pid < length h.plain.boxes → log ≡ h.log ++ entry.Sent pid ∷ [] → at_box pid front boxes ≡ h.plain.boxes → AllAtMost h.rooms.boxes rooms → Follows h (record { plain = record h.plain { boxes = boxes }; log = log; rooms = record h.rooms { boxes = rooms } })
deliver-follows h pid boxes rooms log lt l inverse more =
    acts h (record { plain = record h.plain { boxes = boxes }; log = log; rooms = record h.rooms { boxes = rooms } }) (entry.Sent pid) l
    (ap (λ bs. record (parts_of h.plain) { boxes = bs }) inverse) (omega (arith, lt, ap length (sym inverse), at_box-length pid front boxes))
    (record { slots = omega arith; boxes = more }) refl (omega arith) refl refl

-- a message is put in again
pub receive-follows : (h : Held) (pid place : ℕ) (message : Ref) (boxes : List (List Ref)) (rooms : List ℕ) (log : List Entry) → pid < length h.plain.boxes → log ≡ h.log ++ entry.Received pid place message ∷ [] → Receives pid place message (record { boxes = h.plain.boxes; rooms = h.rooms.boxes }) (record { boxes = boxes; rooms = rooms }) → rooms ≡ h.rooms.boxes → Follows h (record { plain = record h.plain { boxes = boxes }; log = log; rooms = record h.rooms { boxes = rooms } })
receive-follows h pid place message boxes rooms log lt l r same =
    acts h (record { plain = record h.plain { boxes = boxes }; log = log; rooms = record h.rooms { boxes = rooms } }) (entry.Received pid place message) l
    (ap (λ bs. record (parts_of h.plain) { boxes = bs }) r.inverse)
    (omega (arith, lt, ap length r.taken, at_box-length pid (λ b. remove b place) h.plain.boxes), r.within, r.room)
    (subst (λ n. Covers h.rooms (record h.rooms { boxes = n })) (sym same) (covers-same h.rooms)) refl (omega arith) refl refl

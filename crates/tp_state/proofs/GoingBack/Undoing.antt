-- Entries that are taken back one by one, the last one first.
use Rattle.std.proofs.Common.{◌≡◌, ℕ, ◌<◌, ◌≤◌, List, [], ◌∷◌, ◌++◌, length, take, drop, refl, ap, sym, subst, ◌∙◌, arith, length-append}
use Rattle.std.proofs.lemmas.List.{take-append-le, drop-append-le, take_all, drop_all}
use Rattle.tp_log.specs.declared.entry.Entry.{Entry}
use Rattle.tp_state.specs.Undo.{Covers, Allows, CanUndo, undo, undone, undo_rooms}
use Rattle.tp_state.specs.Going.{Held, IsSafe, parts_of, with_parts}
use Rattle.tp_state.proofs.GoingBack.Logs.{undone-append, can-before, can-behind, can-more}

-- What holds of a state once some entries were taken back, down to so many.
pub record IsUndone (kept : ℕ) (old now : Held) : Type 0 where
  pub parts : undone (drop kept now.log) (parts_of now.plain) ≡ undone (drop kept old.log) (parts_of old.plain)
  pub plain : now.plain ≡ with_parts (parts_of now.plain) old.plain
  pub log : take kept now.log ≡ take kept old.log
  pub safe : IsSafe now

-- at the start
pub undone-start : (kept : ℕ) (h : Held) → IsSafe h → IsUndone kept h h
undone-start kept h s = record { parts = refl; plain = refl; log = refl; safe = s }

-- the last entry can be taken back
pub last-allowed : (h : Held) (es : List Entry) (e : Entry) → h.log ≡ es ++ e ∷ [] → IsSafe h → Allows e (parts_of h.plain) h.rooms
last-allowed h es e l s = (can-behind es (e ∷ []) (parts_of h.plain) h.rooms (subst (λ x. CanUndo x (parts_of h.plain) h.rooms) l s)).0

-- and then it goes on so
pub undone-more : (kept : ℕ) (old now new : Held) (e : Entry) → now.log ≡ new.log ++ e ∷ [] → kept < length now.log → new.plain ≡ with_parts (undo e (parts_of now.plain)) now.plain → Covers (undo_rooms e now.rooms) new.rooms → IsUndone kept old now → IsUndone kept old new
undone-more kept old now new e l lt p r i =
    let le : kept ≤ length new.log = omega (arith, lt, ap length l, length-append new.log (e ∷ [])) in
    let parts : parts_of new.plain ≡ undo e (parts_of now.plain) = ap parts_of p in
    record {
      parts =
          ap (undone (drop kept new.log)) parts
          ∙ sym (undone-append (drop kept new.log) (e ∷ []) (parts_of now.plain))
          ∙ ap (λ es. undone es (parts_of now.plain)) (sym (ap (drop kept) l ∙ drop-append-le kept new.log (e ∷ []) le))
          ∙ i.parts;
      plain = p ∙ ap (with_parts (undo e (parts_of now.plain))) i.plain ∙ ap (λ x. with_parts x old.plain) (sym parts);
      log = sym (ap (take kept) l ∙ take-append-le kept new.log (e ∷ []) le) ∙ i.log;
      safe = subst (λ x. CanUndo new.log x new.rooms) (sym parts)
          (can-more new.log (undo e (parts_of now.plain)) (undo_rooms e now.rooms) new.rooms r
          (can-before new.log (e ∷ []) (parts_of now.plain) now.rooms (subst (λ x. CanUndo x (parts_of now.plain) now.rooms) l i.safe)));
    }

-- down to so many entries
pub undone-plain : (kept : ℕ) (old now : Held) → IsUndone kept old now → length now.log ≤ kept → now.plain ≡ with_parts (undone (drop kept old.log) (parts_of old.plain)) old.plain
undone-plain kept old now i le = i.plain ∙ ap (λ x. with_parts x old.plain) (sym (ap (λ es. undone es (parts_of now.plain)) (drop_all kept now.log le)) ∙ i.parts)

pub undone-log : (kept : ℕ) (old now : Held) → IsUndone kept old now → length now.log ≤ kept → now.log ≡ take kept old.log
undone-log kept old now i le = sym (take_all kept now.log le) ∙ i.log

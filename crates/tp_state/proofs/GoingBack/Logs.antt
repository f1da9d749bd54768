-- Logs that are taken back in parts, and the memory that this needs.
use Rattle.std.proofs.Common.{◌≡◌, ℕ, zero, suc, ◌-◌, ◌≤◌, List, [], ◌∷◌, ◌++◌, length, take, refl, ap, sym, subst, arith}
use Rattle.tp_log.specs.declared.entry.Entry.{Entry}
use Rattle.tp_log.specs.declared.entry.Entry.TheVariants as entry
use Rattle.tp_log.specs.Front.{front}
use Rattle.tp_mail.specs.Mail.{room_of, AllAtMost}
use Rattle.tp_state.specs.Undo.{Parts, Rooms, Covers, Allows, CanUndo, undo, undone, undo_rooms, rooms_undone}

-- ---- one log behind another

-- the later log is taken back first
pub undone-append : (xs ys : List Entry) (p : Parts) → undone (xs ++ ys) p ≡ undone xs (undone ys p)
undone-append [] ys p = refl
undone-append (e ∷ xs) ys p = ap (undo e) (undone-append xs ys p)

pub rooms-append : (xs ys : List Entry) (r : Rooms) → rooms_undone (xs ++ ys) r ≡ rooms_undone xs (rooms_undone ys r)
rooms-append [] ys r = refl
rooms-append (e ∷ xs) ys r = ap (undo_rooms e) (rooms-append xs ys r)

-- two logs can be taken back, where the later one can, and then the earlier one
pub can-append : (xs ys : List Entry) (p : Parts) (r : Rooms) → CanUndo xs (undone ys p) (rooms_undone ys r) → CanUndo ys p r → CanUndo (xs ++ ys) p r
can-append [] ys p r h k = k
can-append (e ∷ xs) ys p r h k = (
  subst (λ q. Allows e q (rooms_undone (xs ++ ys) r)) (sym (undone-append xs ys p))
      (subst (Allows e (undone xs (undone ys p))) (sym (rooms-append xs ys r)) h.0),
  can-append xs ys p r h.1 k,
)

-- and the other way round
pub can-before : (xs ys : List Entry) (p : Parts) (r : Rooms) → CanUndo (xs ++ ys) p r → CanUndo xs (undone ys p) (rooms_undone ys r)
can-before [] ys p r h = tt
can-before (e ∷ xs) ys p r h = (
  subst (λ q. Allows e q (rooms_undone xs (rooms_undone ys r))) (undone-append xs ys p)
      (subst (Allows e (undone (xs ++ ys) p)) (rooms-append xs ys r) h.0),
  can-before xs ys p r h.1,
)

pub can-behind : (xs ys : List Entry) (p : Parts) (r : Rooms) → CanUndo (xs ++ ys) p r → CanUndo ys p r
can-behind [] ys p r h = h
can-behind (e ∷ xs) ys p r h = can-behind xs ys p r h.1

-- ---- more memory does no harm

at-most-same : (xs : List ℕ) → AllAtMost xs xs
at-most-same [] = tt
at-most-same (x ∷ xs) = (omega arith, at-most-same xs)

at-most-then : (xs ys zs : List ℕ) → AllAtMost xs ys → AllAtMost ys zs → AllAtMost xs zs
at-most-then [] [] [] h k = tt
at-most-then [] [] (z ∷ zs) h k = absurd k
at-most-then [] (y ∷ ys) zs h k = absurd h
at-most-then (x ∷ xs) [] zs h k = absurd h
at-most-then (x ∷ xs) (y ∷ ys) [] h k = absurd k
at-most-then (x ∷ xs) (y ∷ ys) (z ∷ zs) h k = (omega (arith, h.0, k.0), at-most-then xs ys zs h.1 k.1)

at-most-take : (n : ℕ) (xs ys : List ℕ) → AllAtMost xs ys → AllAtMost (take n xs) (take n ys)
at-most-take zero xs ys h = tt
at-most-take (suc n) [] [] h = tt
at-most-take (suc n) [] (y ∷ ys) h = absurd h
at-most-take (suc n) (x ∷ xs) [] h = absurd h
at-most-take (suc n) (x ∷ xs) (y ∷ ys) h = (h.0, at-most-take n xs ys h.1)

at-most-length : (xs ys : List ℕ) → AllAtMost xs ys → length xs ≡ length ys
at-most-length [] [] h = refl
at-most-length [] (y ∷ ys) h = absurd h
at-most-length (x ∷ xs) [] h = absurd h
at-most-length (x ∷ xs) (y ∷ ys) h = ap suc (at-most-length xs ys h.1)

at-most-front : (xs ys : List ℕ) → AllAtMost xs ys → AllAtMost (front xs) (front ys)
at-most-front xs ys h = subst (λ n. AllAtMost (front xs) (take (n - 1) ys)) (at-most-length xs ys h) (at-most-take (length xs - 1) xs ys h)

at-most-room : (pid : ℕ) (xs ys : List ℕ) → AllAtMost xs ys → room_of xs pid ≤ room_of ys pid
at-most-room pid [] [] h = omega arith
at-most-room pid [] (y ∷ ys) h = absurd h
at-most-room pid (x ∷ xs) [] h = absurd h
at-most-room zero (x ∷ xs) (y ∷ ys) h = h.0
at-most-room (suc pid) (x ∷ xs) (y ∷ ys) h = at-most-room pid xs ys h.1

-- memory covers itself
pub covers-same : (r : Rooms) → Covers r r
covers-same r = record { slots = omega arith; boxes = at-most-same r.boxes }

pub covers-then : (r s t : Rooms) → Covers r s → Covers s t → Covers r t
covers-then r s t h k = record { slots = omega (arith, h.slots, k.slots); boxes = at-most-then r.boxes s.boxes t.boxes h.boxes k.boxes }

covers-undo : (e : Entry) (r s : Rooms) → Covers r s → Covers (undo_rooms e r) (undo_rooms e s)
covers-undo (entry.Bind v) r s h = h
covers-undo entry.Made r s h = h
covers-undo (entry.Set pid old) r s h = h
covers-undo (entry.Put e) r s h = h
covers-undo (entry.Took e) r s h = h
covers-undo entry.BoxMade r s h = record { slots = h.slots; boxes = at-most-front r.boxes s.boxes h.boxes }
covers-undo (entry.Sent pid) r s h = h
covers-undo (entry.Received pid place m) r s h = h

covers-undone : (es : List Entry) (r s : Rooms) → Covers r s → Covers (rooms_undone es r) (rooms_undone es s)
covers-undone [] r s h = h
covers-undone (e ∷ es) r s h = covers-undo e (rooms_undone es r) (rooms_undone es s) (covers-undone es r s h)

allows-more : (e : Entry) (p : Parts) (r s : Rooms) → Covers r s → Allows e p r → Allows e p s
allows-more (entry.Bind v) p r s h a = a
allows-more entry.Made p r s h a = a
allows-more (entry.Set pid old) p r s h a = a
allows-more (entry.Put e) p r s h a = a
allows-more (entry.Took e) p r s h a = (a.0, omega (arith, a.1, h.slots))
allows-more entry.BoxMade p r s h a = a
allows-more (entry.Sent pid) p r s h a = a
allows-more (entry.Received pid place m) p r s h a = (a.0, a.1, omega (arith, a.2, at-most-room pid r.boxes s.boxes h.boxes))

-- what can be taken back can be with more memory
pub can-more : (es : List Entry) (p : Parts) (r s : Rooms) → Covers r s → CanUndo es p r → CanUndo es p s
can-more [] p r s h c = tt
can-more (e ∷ es) p r s h c = (allows-more e (undone es p) (rooms_undone es r) (rooms_undone es s) (covers-undone es r s h) c.0, can-more es p r s h c.1)

-- memory after an act is taken back
pub covers-as : (e f : Entry) (r s : Rooms) → e ≡ f → Covers (undo_rooms f r) s → Covers (undo_rooms e r) s
covers-as e f r s w h = subst (λ x. Covers (undo_rooms x r) s) (sym w) h

pub covers-rooms : (r s : Rooms) → r ≡ s → Covers r s
covers-rooms r s e = subst (Covers r) e (covers-same r)

pub covers-slots : (r : Rooms) (n : ℕ) → r.slots ≤ n → Covers r (record r { slots = n })
covers-slots r n le = record { slots = le; boxes = at-most-same r.boxes }

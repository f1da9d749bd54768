-- A change of one box of many, and that each act on a box can be taken back.
use Rattle.std.proofs.Common.{◌≡◌, ◌∙◌, sym, ap, refl, ℕ, zero, suc, ◌<◌, ◌≤◌, List, [], ◌∷◌, ◌++◌, length, Some, arith, slice_get, slice_set, slice_index_or, IfOk, Result, Ok, Err}
use Rattle.std.proofs.lemmas.Option.{same_Some}
use Rattle.std.specs.List.{insert, remove}
use Rattle.std.specs.VecDeque.{deque_capacity}
use Rattle.std.specs.Global.{Global}
use Rattle.std.specs.declared.collections.VecDeque.{VecDeque}
use Rattle.tp_terms.specs.declared.cells.Ref.{Ref}
use Rattle.tp_log.specs.Front.{front}
use Rattle.tp_log.proofs.Fronts.{front-push}
use Rattle.tp_mail.specs.Mail.{at_box, AllAtMost, Receives, boxes_of, rooms_of, mail_of}

-- a box as it is kept
abbrev Ring : Type 0
Ring = VecDeque Ref Global

-- a box of many, changed
pub box_changed : (f : List Ref → List Ref) (l : List Ring) (pid : ℕ) (old new : Ring) → pid < length l → old ≡ slice_index_or l pid old → new.items ≡ f old.items → boxes_of (slice_set l pid new) ≡ at_box pid f (boxes_of l)
box_changed f [] pid old new p read e = refl
box_changed f (x ∷ l) zero old new p read e = ap (λ b. b ∷ boxes_of l) (e ∙ ap (λ (v : Ring). f v.items) read)
box_changed f (x ∷ l) (suc pid) old new p read e = ap (λ bs. x.items ∷ bs) (box_changed f l pid old new (omega arith) read e)

pub box_same : (l : List Ring) (pid : ℕ) (old new : Ring) → pid < length l → old ≡ slice_index_or l pid old → new.items ≡ old.items → boxes_of (slice_set l pid new) ≡ boxes_of l
box_same [] pid old new p read e = refl
box_same (x ∷ l) zero old new p read e = ap (λ b. b ∷ boxes_of l) (e ∙ ap (λ (v : Ring). v.items) read)
box_same (x ∷ l) (suc pid) old new p read e = ap (λ bs. x.items ∷ bs) (box_same l pid old new (omega arith) read e)

-- what a box is, and its room
pub box_read : (l : List Ring) (pid : ℕ) (old : Ring) → pid < length l → old ≡ slice_index_or l pid old → slice_index_or (boxes_of l) pid [] ≡ old.items
box_read [] pid old p read = absurd (omega arith)
box_read (x ∷ l) zero old p read = ap (λ (v : Ring). v.items) (sym read)
box_read (x ∷ l) (suc pid) old p read = box_read l pid old (omega arith) read

pub room_read : (l : List Ring) (pid : ℕ) (old : Ring) → pid < length l → old ≡ slice_index_or l pid old → slice_index_or (rooms_of l) pid 0 ≡ deque_capacity old
room_read [] pid old p read = absurd (omega arith)
room_read (x ∷ l) zero old p read = ap (λ (v : Ring). deque_capacity v) (sym read)
room_read (x ∷ l) (suc pid) old p read = room_read l pid old (omega arith) read

pub box_written : (l : List Ring) (pid : ℕ) (new : Ring) → pid < length l → (slice_index_or (boxes_of (slice_set l pid new)) pid [] ≡ new.items) × (slice_index_or (rooms_of (slice_set l pid new)) pid 0 ≡ deque_capacity new)
box_written [] pid new p = absurd (omega arith)
box_written (x ∷ l) zero new p = (refl, refl)
box_written (x ∷ l) (suc pid) new p = box_written l pid new (omega arith)

-- a change of a box taken back
pub at_box_back : (f g : List Ref → List Ref) (bs : List (List Ref)) (pid : ℕ) → g (f (slice_index_or bs pid [])) ≡ slice_index_or bs pid [] → at_box pid g (at_box pid f bs) ≡ bs
at_box_back f g [] pid e = refl
at_box_back f g (b ∷ bs) zero e = ap (λ x. x ∷ bs) e
at_box_back f g (b ∷ bs) (suc pid) e = ap (λ xs. b ∷ xs) (at_box_back f g bs pid e)

pub insert_removed : (xs : List Ref) (i : ℕ) (x : Ref) → slice_get xs i ≡ Some x → insert (remove xs i) i x ≡ xs
insert_removed [] i x e = absurd (cc)
insert_removed (y ∷ xs) zero x e = ap (λ z. z ∷ xs) (sym (same_Some y x e))
insert_removed (y ∷ xs) (suc i) x e = ap (λ zs. y ∷ zs) (insert_removed xs i x e)

pub place_removed : (xs : List Ref) (i : ℕ) (x : Ref) → slice_get xs i ≡ Some x → i ≤ length (remove xs i)
place_removed [] i x e = absurd (cc)
place_removed (y ∷ xs) zero x e = omega arith
place_removed (y ∷ xs) (suc i) x e = omega (arith, place_removed xs i x e)

pub rooms_same : (l : List Ring) (pid : ℕ) (old new : Ring) → pid < length l → old ≡ slice_index_or l pid old → deque_capacity new ≡ deque_capacity old → rooms_of (slice_set l pid new) ≡ rooms_of l
rooms_same [] pid old new p read e = refl
rooms_same (x ∷ l) zero old new p read e = ap (λ n. n ∷ rooms_of l) (e ∙ ap (λ (v : Ring). deque_capacity v) read)
rooms_same (x ∷ l) (suc pid) old new p read e = ap (λ ns. deque_capacity x ∷ ns) (rooms_same l pid old new (omega arith) read e)

pub at-most-same : (xs : List ℕ) → AllAtMost xs xs
at-most-same [] = tt
at-most-same (x ∷ xs) = (omega arith, at-most-same xs)

pub rooms_more : (l : List Ring) (pid : ℕ) (old new : Ring) → pid < length l → old ≡ slice_index_or l pid old → deque_capacity old ≤ deque_capacity new → AllAtMost (rooms_of l) (rooms_of (slice_set l pid new))
rooms_more [] pid old new p read e = tt
rooms_more (x ∷ l) zero old new p read e = (rw (← read) e, at-most-same (rooms_of l))
rooms_more (x ∷ l) (suc pid) old new p read e = (omega arith, rooms_more l pid old new (omega arith) read e)

pub send_back : (bs : List (List Ref)) (pid : ℕ) (message : Ref) → at_box pid front (at_box pid (λ b. b ++ message ∷ []) bs) ≡ bs
send_back bs pid message = at_box_back (λ b. b ++ message ∷ []) front bs pid (front-push (slice_index_or bs pid []) message)

pub receive_back : (bs : List (List Ref)) (pid place : ℕ) (m : Ref) → slice_get (slice_index_or bs pid []) place ≡ Some m → at_box pid (λ b. insert b place m) (at_box pid (λ b. remove b place) bs) ≡ bs
receive_back bs pid place m e = at_box_back (λ b. remove b place) (λ b. insert b place m) bs pid (insert_removed (slice_index_or bs pid []) place m e)

-- what a take out of one box says of all
pub received : (l : List Ring) (pid place : ℕ) (m : Ref) (old new : Ring) → pid < length l → old ≡ slice_index_or l pid old → slice_get old.items place ≡ Some m → new.items ≡ remove old.items place → length new.items < deque_capacity new → Receives pid place m (mail_of l) (mail_of (slice_set l pid new))
received l pid place m old new p read g e short =
    let stood : slice_get (slice_index_or (boxes_of l) pid []) place ≡ Some m = rw (box_read l pid old p read) g in
    let taken : boxes_of (slice_set l pid new) ≡ at_box pid (λ b. remove b place) (boxes_of l) = box_changed (λ b. remove b place) l pid old new p read e in
    record {
      stood = stood;
      taken = taken;
      inverse = ap (at_box pid (λ b. insert b place m)) taken ∙ receive_back (boxes_of l) pid place m stood;
      within = rw ((box_written l pid new p).0, e) (place_removed old.items place m g);
      room = rw ((box_written l pid new p).0, (box_written l pid new p).1) short;
    }

-- what follows from three clauses on an Ok
pub ok_from : {X Y : Type 0} (r : Result X Y) (P Q R S : X → Type 0) → IfOk r P → IfOk r Q → IfOk r R → ((x : X) → P x → Q x → R x → S x) → IfOk r S
ok_from (Ok x) P Q R S p q t f = f x p q t
ok_from (Err e) P Q R S p q t f = tt

-- Entries stay in order when one is put in and when one goes, and each of these takes the other back.
use Rattle.std.proofs.Common.{◌≡◌, ◌∙◌, sym, ap, refl, ℕ, zero, suc, ◌<◌, ◌≤◌, Bool, true, false, cond, List, [], ◌∷◌, length, get_or, arith}
use Rattle.std.specs.List.{AllByRecursion, AllWithin, insert, remove}
use Rattle.std.specs.List.Sorted.{IsPartitionedBy}
use Rattle.tp_terms.specs.declared.world.Slot.{Slot}
use Rattle.tp_calendar.specs.Order.{goes_before, is_beside, put_slot, without_slot, IsFree, IsOrdered}
use Rattle.tp_calendar.proofs.Before.{beside-itself, before-turned, before-otherwise, behind-otherwise, before-trans, apart-before, apart-behind}

-- an entry comes before all of these
abbrev IsAhead : Slot → List Slot → Type 0
IsAhead e fs = AllByRecursion (λ (f : Slot). goes_before e f ≡ true) fs

ahead-trans : (e f : Slot) (fs : List Slot) → goes_before e f ≡ true → IsAhead f fs → IsAhead e fs
ahead-trans e f [] h k = tt
ahead-trans e f (g ∷ fs) h k = (before-trans e f g h k.0, ahead-trans e f fs h k.1)

ahead-free : (e : Slot) (fs : List Slot) → IsAhead e fs → IsFree e fs
ahead-free e [] h = tt
ahead-free e (f ∷ fs) h = (apart-behind e f h.0, ahead-free e fs h.1)

-- ---- the equations of an entry put in and taken out

put-here : (e f : Slot) (fs : List Slot) → goes_before e f ≡ true → put_slot e (f ∷ fs) ≡ e ∷ f ∷ fs
put-here e f fs h = ap (λ b. cond b (e ∷ f ∷ fs) (f ∷ put_slot e fs)) h

put-further : (e f : Slot) (fs : List Slot) → goes_before e f ≡ false → put_slot e (f ∷ fs) ≡ f ∷ put_slot e fs
put-further e f fs h = ap (λ b. cond b (e ∷ f ∷ fs) (f ∷ put_slot e fs)) h

without-here : (e f : Slot) (fs : List Slot) → is_beside e f ≡ true → without_slot e (f ∷ fs) ≡ fs
without-here e f fs h = ap (λ b. cond b fs (f ∷ without_slot e fs)) h

without-further : (e f : Slot) (fs : List Slot) → is_beside e f ≡ false → without_slot e (f ∷ fs) ≡ f ∷ without_slot e fs
without-further e f fs h = ap (λ b. cond b fs (f ∷ without_slot e fs)) h

-- ---- the order stays

ahead-put : (e f : Slot) (fs : List Slot) → goes_before f e ≡ true → IsAhead f fs → IsAhead f (put_slot e fs)
ahead-put e f [] h k = (h, tt)
ahead-put e f (g ∷ fs) h k = go (goes_before e g) h k (ahead-put e f fs h k.1)
  where
    go : (b : Bool) → goes_before f e ≡ true → IsAhead f (g ∷ fs) → IsAhead f (put_slot e fs) → IsAhead f (cond b (e ∷ g ∷ fs) (g ∷ put_slot e fs))
    go true h k rest = (h, k)
    go false h k rest = (k.0, rest)

pub ordered-put : (e : Slot) (fs : List Slot) → IsFree e fs → IsOrdered fs → IsOrdered (put_slot e fs)
ordered-put e [] free h = (tt, tt)
ordered-put e (f ∷ fs) free h = go (goes_before e f) refl (ordered-put e fs free.1 h.1)
  where
    go : (b : Bool) → goes_before e f ≡ b → IsOrdered (put_slot e fs) → IsOrdered (cond b (e ∷ f ∷ fs) (f ∷ put_slot e fs))
    go true here rest = ((here, ahead-trans e f fs here h.0), h)
    go false there rest = (ahead-put e f fs (behind-otherwise e f there free.0) h.0, rest)

ahead-without : (e f : Slot) (fs : List Slot) → IsAhead f fs → IsAhead f (without_slot e fs)
ahead-without e f [] h = tt
ahead-without e f (g ∷ fs) h = go (is_beside e g) h (ahead-without e f fs h.1)
  where
    go : (b : Bool) → IsAhead f (g ∷ fs) → IsAhead f (without_slot e fs) → IsAhead f (cond b fs (g ∷ without_slot e fs))
    go true h rest = h.1
    go false h rest = (h.0, rest)

pub ordered-without : (e : Slot) (fs : List Slot) → IsOrdered fs → IsOrdered (without_slot e fs)
ordered-without e [] h = tt
ordered-without e (f ∷ fs) h = go (is_beside e f) h (ahead-without e f fs h.0) (ordered-without e fs h.1)
  where
    go : (b : Bool) → IsOrdered (f ∷ fs) → IsAhead f (without_slot e fs) → IsOrdered (without_slot e fs) → IsOrdered (cond b fs (f ∷ without_slot e fs))
    go true h ahead rest = h.1
    go false h ahead rest = (ahead, rest)

-- ---- each takes the other back

pub without-put : (e : Slot) (fs : List Slot) → IsFree e fs → without_slot e (put_slot e fs) ≡ fs
without-put e [] free = without-here e e [] (beside-itself e)
without-put e (f ∷ fs) free = go (goes_before e f) (without-put e fs free.1)
  where
    go : (b : Bool) → without_slot e (put_slot e fs) ≡ fs → without_slot e (cond b (e ∷ f ∷ fs) (f ∷ put_slot e fs)) ≡ f ∷ fs
    go true rest = without-here e e (f ∷ fs) (beside-itself e)
    go false rest = without-further e f (put_slot e fs) free.0 ∙ ap (λ gs. f ∷ gs) rest

-- the first, taken and put in again
pub put-first : (e : Slot) (fs : List Slot) → IsOrdered (e ∷ fs) → put_slot e fs ≡ e ∷ fs
put-first e [] h = refl
put-first e (f ∷ fs) h = put-here e f fs h.0.0

pub free-first : (e : Slot) (fs : List Slot) → IsOrdered (e ∷ fs) → IsFree e fs
free-first e fs h = ahead-free e fs h.0

-- ---- the place that a search by halving finds

ahead-at : (e : Slot) (fs : List Slot) (j : ℕ) (d : Slot) → IsAhead e fs → j < length fs → goes_before e (get_or fs j d) ≡ true
ahead-at e [] j d h l = absurd (omega arith)
ahead-at e (f ∷ fs) zero d h l = h.0
ahead-at e (f ∷ fs) (suc j) d h l = ahead-at e fs j d h.1 (omega arith)

-- the entries that come before another stand in front
pub ordered-parted : (e : Slot) (fs : List Slot) → IsOrdered fs → IsPartitionedBy (λ f. goes_before f e) fs
ordered-parted e [] h i j d le lt b = absurd (omega arith)
ordered-parted e (f ∷ fs) h zero zero d le lt b = b
ordered-parted e (f ∷ fs) h zero (suc j) d le lt b = before-trans f (get_or fs j d) e (ahead-at f fs j d h.0 (omega arith)) b
ordered-parted e (f ∷ fs) h (suc i) zero d le lt b = absurd (omega arith)
ordered-parted e (f ∷ fs) h (suc i) (suc j) d le lt b = ordered-parted e fs h.1 i j d (omega arith) (omega arith) b

-- all before a place come before the entry, and none from there on
abbrev pub IsFront : Slot → List Slot → ℕ → Type 0
IsFront e fs i = AllWithin (λ f. goes_before f e ≡ true) fs 0 i

abbrev pub IsBack : Slot → List Slot → ℕ → Type 0
IsBack e fs i = AllWithin (λ f. goes_before f e ≡ false) fs i (length fs)

pub put-place : (e : Slot) (fs : List Slot) (i : ℕ) → i ≤ length fs → IsFront e fs i → IsBack e fs i → IsFree e fs → insert fs i e ≡ put_slot e fs
put-place e [] i le front back free = ap (λ k. insert [] k e) (zero-of i le)
  where
    zero-of : (i : ℕ) → i ≤ 0 → i ≡ 0
    zero-of i h = omega arith
put-place e (f ∷ fs) zero le front back free = sym (put-here e f fs (before-otherwise e f (back 0 f (omega arith) (omega arith)) free.0))
put-place e (f ∷ fs) (suc i) le front back free =
    ap (λ gs. f ∷ gs) (put-place e fs i (omega arith) (λ k d l h. front (suc k) d (omega arith) (omega arith)) (λ k d l h. back (suc k) d (omega arith) (omega arith)) free.1)
    ∙ sym (put-further e f fs (before-turned e f (front 0 f (omega arith) (omega arith))))

-- where the entry of that place is beside this one, it is the one that goes
pub without-place : (e : Slot) (fs : List Slot) (i : ℕ) (d : Slot) → i < length fs → IsFront e fs i → is_beside e (get_or fs i d) ≡ true → remove fs i ≡ without_slot e fs
without-place e [] i d lt front b = absurd (omega arith)
without-place e (f ∷ fs) zero d lt front b = sym (without-here e f fs b)
without-place e (f ∷ fs) (suc i) d lt front b =
    ap (λ gs. f ∷ gs) (without-place e fs i d (omega arith) (λ k c l h. front (suc k) c (omega arith) (omega arith)) b)
    ∙ sym (without-further e f fs (apart-before e f (front 0 f (omega arith) (omega arith))))

without-ahead : (e : Slot) (fs : List Slot) → IsAhead e fs → without_slot e fs ≡ fs
without-ahead e [] h = refl
without-ahead e (f ∷ fs) h = without-further e f fs (apart-behind e f h.0) ∙ ap (λ gs. f ∷ gs) (without-ahead e fs h.1)

-- and where it isn't, none goes
pub without-none : (e : Slot) (fs : List Slot) (i : ℕ) → IsOrdered fs → i ≤ length fs → IsFront e fs i → IsBack e fs i → ((d : Slot) → i < length fs → is_beside e (get_or fs i d) ≡ false) → without_slot e fs ≡ fs
without-none e [] i h le front back apart = refl
without-none e (f ∷ fs) zero h le front back apart =
    let other : is_beside e f ≡ false = apart f (omega arith) in
    let ahead : goes_before e f ≡ true = before-otherwise e f (back 0 f (omega arith) (omega arith)) other in
    without-further e f fs other ∙ ap (λ gs. f ∷ gs) (without-ahead e fs (ahead-trans e f fs ahead h.0))
without-none e (f ∷ fs) (suc i) h le front back apart =
    without-further e f fs (apart-before e f (front 0 f (omega arith) (omega arith)))
    ∙ ap (λ gs. f ∷ gs) (without-none e fs i h.1 (omega arith) (λ k d l g. front (suc k) d (omega arith) (omega arith)) (λ k d l g. back (suc k) d (omega arith) (omega arith)) (λ d l. apart d (omega arith)))

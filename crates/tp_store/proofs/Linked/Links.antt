-- The bindings of variables, by their links.
use Rattle.std.proofs.Common.{◌≡◌, ◌≢◌, ℕ, zero, suc, ◌+◌, ◌-◌, ◌<◌, ◌≤◌, Bool, true, false, nat_lt, List, [], ◌∷◌, ◌++◌, length, map, take, replicate, get_or, set, None, refl, ap, sym, subst, ◌∙◌, arith}
use Rattle.std.proofs.lemmas.Bool.{ltb-true, ltb-false}
use Rattle.std.proofs.lemmas.List.{get_or-set_same, get_or-set_other, get_or-take, length-map, map-append}
use Rattle.std.proofs.Math.ListN.{get_or-eq_default}
use Rattle.std.specs.List.{remove}
use Rattle.tp_terms.specs.declared.cells.Ref.{Ref}
use Rattle.tp_store.specs.Trail.{AreLinked, IsApart, Table, binding_of, linked, number_at, place_of, table_of}
use Rattle.tp_store.proofs.Linked.Places.{map-remove, no_place, places-at}

-- ---- numbers whose links are the same

abbrev pub AreAs : List ℕ → List ℕ → List ℕ → Type 0
AreAs links after [] = Unit {0}
AreAs links after (n ∷ ns) = (get_or after n 0 ≡ get_or links n 0) × AreAs links after ns

-- their bindings are the same
pub same_bindings : (links after ns : List ℕ) → AreAs links after ns → map (binding_of after) ns ≡ map (binding_of links) ns
same_bindings links after [] h = refl
same_bindings links after (n ∷ ns) h =
    ap (λ (k : ℕ). linked n k ∷ map (binding_of after) ns) h.0 ∙ ap (λ l. binding_of links n ∷ l) (same_bindings links after ns h.1)

-- and they have links still
pub still_linked : (links after ns : List ℕ) → AreAs links after ns → AreLinked links ns → AreLinked after ns
still_linked links after [] h k = tt
still_linked links after (n ∷ ns) h k = (subst (λ (i : ℕ). 0 < i) (sym h.0) k.0, k.1, still_linked links after ns h.1 k.2)

-- the link of another variable is set
pub as_set : (links ns : List ℕ) (n l : ℕ) → IsApart n ns → AreAs links (set links n l) ns
as_set links [] n l h = tt
as_set links (m ∷ ms) n l h = (get_or-set_other links n m l 0 h.0, as_set links ms n l h.1)

-- all links are the same
as_linked : (links after ns : List ℕ) → ((n : ℕ) → 0 < get_or links n 0 → get_or after n 0 ≡ get_or links n 0) → AreLinked links ns → AreAs links after ns
as_linked links after [] f h = tt
as_linked links after (n ∷ ns) f h = (f n h.0, as_linked links after ns f h.2)

-- further variables have the link 0, as have those past the end
more_same : (links : List ℕ) (k n : ℕ) → get_or (links ++ replicate k 0) n 0 ≡ get_or links n 0
more_same [] zero n = refl
more_same [] (suc k) zero = refl
more_same [] (suc k) (suc n) = more_same [] k n ∙ refl
more_same (l ∷ links) k zero = refl
more_same (l ∷ links) k (suc n) = more_same links k n

pub as_more : (links ns : List ℕ) (k : ℕ) → AreLinked links ns → AreAs links (links ++ replicate k 0) ns
as_more links ns k h = as_linked links (links ++ replicate k 0) ns (λ n lt. more_same links k n) h

-- the variables that are cut off are unbound
pub as_cut : (links ns : List ℕ) (count : ℕ) → ((n : ℕ) → count ≤ n → get_or (map place_of links) n None ≡ None) → AreLinked links ns → AreAs links (take count links) ns
as_cut links ns count none h = as_linked links (take count links) ns (λ n lt. below n lt (nat_lt n count) refl) h
  where
    below : (n : ℕ) → 0 < get_or links n 0 → (b : Bool) → nat_lt n count ≡ b → get_or (take count links) n 0 ≡ get_or links n 0
    below n lt true e = get_or-take count links n 0 (ltb-true n count e)
    below n lt false e =
        let zero_link : get_or links n 0 ≡ 0 = no_place (get_or links n 0) (places-at links n ∙ none n (ltb-false n count e)) in
        absurd (omega arith)

-- ---- a binding more

-- a number that has no link is none of these
pub unlinked_apart : (links ns : List ℕ) (n : ℕ) → get_or links n 0 ≡ 0 → AreLinked links ns → IsApart n ns
unlinked_apart links [] n z h = tt
unlinked_apart links (m ∷ ms) n z h = (λ (e : m ≡ n). differ e, unlinked_apart links ms n z h.2)
  where
    differ : m ≡ n → ⊥
    differ e = let lt : 0 < get_or links n 0 = subst (λ (i : ℕ). 0 < get_or links i 0) e h.0 in omega arith

-- a number with no place is none of these
pub unbound_apart : (links ns : List ℕ) (n : ℕ) → get_or (map place_of links) n None ≡ None → AreLinked links ns → IsApart n ns
unbound_apart links ns n none h = unlinked_apart links ns n (no_place (get_or links n 0) (places-at links n ∙ none)) h

apart-push : (m : ℕ) (ns : List ℕ) (n : ℕ) → IsApart m ns → n ≢ m → IsApart m (ns ++ n ∷ [])
apart-push m [] n h k = (k, tt)
apart-push m (x ∷ xs) n h k = (h.0, apart-push m xs n h.1 k)

linked-push : (links ns : List ℕ) (n : ℕ) → AreLinked links ns → 0 < get_or links n 0 → IsApart n ns → AreLinked links (ns ++ n ∷ [])
linked-push links [] n h k a = (k, tt, tt)
linked-push links (m ∷ ms) n h k a = (h.0, apart-push m ms n h.1 (λ e. a.0 (sym e)), linked-push links ms n h.2 k a.1)

-- an unbound variable is bound
pub linked-bind : (links ns more : List ℕ) (n l : ℕ) → more ≡ ns ++ n ∷ [] → n < length links → 0 < l → IsApart n ns → AreLinked links ns → AreLinked (set links n l) more
linked-bind links ns more n l e lt some a h =
    subst (AreLinked (set links n l)) (sym e)
    (linked-push (set links n l) ns n (still_linked links (set links n l) ns (as_set links ns n l a) h) (subst (λ (i : ℕ). 0 < i) (sym (get_or-set_same links n l 0 lt)) some) a)

-- its binding is the newest
pub bindings-bind : (links ns more : List ℕ) (n l : ℕ) (place : Ref) → more ≡ ns ++ n ∷ [] → n < length links → l ≡ place.at + 1 → IsApart n ns → map (binding_of (set links n l)) more ≡ map (binding_of links) ns ++ (n, place) ∷ []
bindings-bind links ns more n l place e lt same a =
    let here : l - 1 ≡ place.at = omega arith in
    ap (map (binding_of (set links n l))) e
    ∙ map-append (binding_of (set links n l)) ns (n ∷ [])
    ∙ ap (λ ps. ps ++ binding_of (set links n l) n ∷ []) (same_bindings links (set links n l) ns (as_set links ns n l a))
    ∙ ap (λ (k : ℕ). map (binding_of links) ns ++ linked n k ∷ []) (get_or-set_same links n l 0 lt)
    ∙ ap (λ (k : ℕ). map (binding_of links) ns ++ at_place k ∷ []) here
  where
    at_place : ℕ → ℕ × Ref
    at_place k = (n, record { at = k })

-- ---- a binding less

apart-remove : (n : ℕ) (ns : List ℕ) (at : ℕ) → IsApart n ns → IsApart n (remove ns at)
apart-remove n [] zero h = tt
apart-remove n [] (suc at) h = tt
apart-remove n (m ∷ ms) zero h = h.1
apart-remove n (m ∷ ms) (suc at) h = (h.0, apart-remove n ms at h.1)

linked-remove : (links ns : List ℕ) (at : ℕ) → AreLinked links ns → AreLinked links (remove ns at)
linked-remove links [] zero h = tt
linked-remove links [] (suc at) h = tt
linked-remove links (m ∷ ms) zero h = h.2
linked-remove links (m ∷ ms) (suc at) h = (h.0, apart-remove m ms at h.1, linked-remove links ms at h.2)

not_at : (m : ℕ) (ms : List ℕ) (at : ℕ) → at < length ms → IsApart m ms → m ≢ get_or ms at 0
not_at m [] at lt h = absurd (omega arith)
not_at m (x ∷ xs) zero lt h = λ e. h.0 (sym e)
not_at m (x ∷ xs) (suc at) lt h = not_at m xs at (omega arith) h.1

apart_at : (links ns : List ℕ) (at : ℕ) → at < length ns → AreLinked links ns → IsApart (get_or ns at 0) (remove ns at)
apart_at links [] at lt h = absurd (omega arith)
apart_at links (m ∷ ms) zero lt h = h.1
apart_at links (m ∷ ms) (suc at) lt h = (not_at m ms at (omega arith) h.1, apart_at links ms at (omega arith) h.2)

-- a bound variable is one of those that there are
pub linked_within : (links ns : List ℕ) (at : ℕ) → at < length ns → AreLinked links ns → get_or ns at 0 < length links
linked_within links [] at lt h = absurd (omega arith)
linked_within links (m ∷ ms) zero lt h = go (nat_lt m (length links)) refl
  where
    go : (b : Bool) → nat_lt m (length links) ≡ b → m < length links
    go true e = ltb-true m (length links) e
    go false e =
        let past : get_or links m 0 ≡ 0 = get_or-eq_default links 0 {n = m} (ltb-false m (length links) e) in
        let some : 0 < get_or links m 0 = h.0 in
        absurd (omega arith)
linked_within links (m ∷ ms) (suc at) lt h = linked_within links ms at (omega arith) h.2

-- the binding at a place is taken back
pub linked-without : (links ns : List ℕ) (at n : ℕ) → at < length ns → n ≡ get_or ns at 0 → AreLinked links ns → AreLinked (set links n 0) (remove ns at)
linked-without links ns at n lt e h =
    still_linked links (set links n 0) (remove ns at) (as_set links (remove ns at) n 0 (subst (λ (k : ℕ). IsApart k (remove ns at)) (sym e) (apart_at links ns at lt h))) (linked-remove links ns at h)

-- the others stay
pub bindings-without : (links ns : List ℕ) (at n : ℕ) → at < length ns → n ≡ get_or ns at 0 → AreLinked links ns → map (binding_of (set links n 0)) (remove ns at) ≡ remove (map (binding_of links) ns) at
bindings-without links ns at n lt e h =
    same_bindings links (set links n 0) (remove ns at) (as_set links (remove ns at) n 0 (subst (λ (k : ℕ). IsApart k (remove ns at)) (sym e) (apart_at links ns at lt h)))
    ∙ map-remove (binding_of links) ns at

-- the variables of the bindings
pub numbers_same : (links ns : List ℕ) → map (λ (p : ℕ × Ref). p.0) (map (binding_of links) ns) ≡ ns
numbers_same links [] = refl
numbers_same links (n ∷ ns) = ap (λ l. n ∷ l) (numbers_same links ns)

pub number_same : (links ns : List ℕ) (at : ℕ) → number_at (map (binding_of links) ns) at ≡ get_or ns at 0
number_same links ns at = ap (λ (l : List ℕ). get_or l at 0) (numbers_same links ns)

-- ---- the lists that contracts see

-- the number of variables, and of bindings
pub bound_length : (links ns : List ℕ) (t : Table) → table_of links ns ≡ t → length links ≡ length t.bound
bound_length links ns t e = sym (length-map links place_of) ∙ ap (λ (x : Table). length x.bound) e

pub pairs_length : (links ns : List ℕ) (t : Table) → table_of links ns ≡ t → length ns ≡ length t.pairs
pairs_length links ns t e = sym (length-map ns (binding_of links)) ∙ ap (λ (x : Table). length x.pairs) e

-- the variable of a binding
pub number_seen : (links ns : List ℕ) (t : Table) (at : ℕ) → table_of links ns ≡ t → get_or ns at 0 ≡ number_at t.pairs at
number_seen links ns t at e = sym (number_same links ns at) ∙ ap (λ (x : Table). number_at x.pairs at) e

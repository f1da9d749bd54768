-- The places of a predicate's clauses rise, and each is the place of a clause of it.
use Rattle.std.proofs.Common.{◌≡◌, ℕ, zero, suc, ◌+◌, ◌<◌, ◌≤◌, nat_eq, ◌&&◌, Bool, true, false, List, [], ◌∷◌, length, filter, slice_get, Option, Some, None, refl, ap, ◌∙◌, arith, if◌then◌else◌}
use Rattle.std.proofs.lemmas.Bool.{eq-eqb}
use Rattle.std.proofs.lemmas.Option.{slice_get_within}
use Rattle.tp_terms.specs.declared.cells.Cell.{Cell}
use Rattle.tp_terms.specs.declared.cells.Cell.TheVariants as cell
use Rattle.tp_terms.specs.declared.cells.AtomId.{AtomId}
use Rattle.tp_clauses.specs.Contents.{Contents, IsHead, ViewFits, is_of, is_of_by, places_from, places_of}
use Rattle.tp_clauses.specs.Ranks.{IsRank, Rises, is_clause_of, is_view_of}
use Rattle.tp_clauses.specs.declared.base.ClauseId.{ClauseId}
use Rattle.tp_clauses.specs.declared.base.ClauseView.{ClauseView}

rises-later : (m n : ℕ) (ids : List ClauseId) → m ≤ n → Rises n ids → Rises m ids
rises-later m n [] le h = tt
rises-later m n (id ∷ ids) le h = (let k = h.0 in omega arith, h.1)

-- some of them rise too
pub rises-filter : (p : ClauseId → Bool) (n : ℕ) (ids : List ClauseId) → Rises n ids → Rises n (filter p ids)
rises-filter p n [] h = tt
rises-filter p n (id ∷ ids) h = go (p id) (rises-filter p (suc id.at) ids h.1)
  where
    go : (b : Bool) → Rises (suc id.at) (filter p ids) → Rises n (if b then id ∷ filter p ids else filter p ids)
    go true rest = (h.0, rest)
    go false rest = rises-later n (suc id.at) (filter p ids) (let k = h.0 in omega arith) rest

-- an element is no less than how many stand before it
pub rises-at : (n : ℕ) (ids : List ClauseId) (i : ℕ) (id : ClauseId) → Rises n ids → slice_get ids i ≡ Some id → n + i ≤ id.at
rises-at n [] i id h e = absurd (cc)
rises-at n (x ∷ ids) zero id h e = let same : x ≡ id = cc in let k = h.0 in omega (arith, ap (λ (y : ClauseId). y.at) same)
rises-at n (x ∷ ids) (suc i) id h e = let k = h.0 in let l = rises-at (suc x.at) ids i id h.1 e in omega arith

-- an earlier element is less than a later one
pub rises-before : (n : ℕ) (ids : List ClauseId) (i j : ℕ) (x y : ClauseId) → Rises n ids → slice_get ids i ≡ Some x → slice_get ids j ≡ Some y → i < j → x.at < y.at
rises-before n [] i j x y h e f lt = absurd (cc)
rises-before n (z ∷ ids) zero zero x y h e f lt = absurd (omega arith)
rises-before n (z ∷ ids) zero (suc j) x y h e f lt = let same : z ≡ x = cc in let k = rises-at (suc z.at) ids j y h.1 f in omega (arith, ap (λ (w : ClauseId). w.at) same)
rises-before n (z ∷ ids) (suc i) zero x y h e f lt = absurd (omega arith)
rises-before n (z ∷ ids) (suc i) (suc j) x y h e f lt = rises-before (suc z.at) ids i j x y h.1 e f (omega arith)

-- and stands once
pub rises-once : (n : ℕ) (ids : List ClauseId) (i j : ℕ) (id : ClauseId) → Rises n ids → slice_get ids i ≡ Some id → slice_get ids j ≡ Some id → i ≡ j
rises-once n [] i j id h e f = absurd (cc)
rises-once n (x ∷ ids) zero zero id h e f = refl
rises-once n (x ∷ ids) zero (suc j) id h e f = let same : x ≡ id = cc in let k = rises-at (suc x.at) ids j id h.1 f in absurd (omega (arith, ap (λ (y : ClauseId). y.at) same))
rises-once n (x ∷ ids) (suc i) zero id h e f = let same : x ≡ id = cc in let k = rises-at (suc x.at) ids i id h.1 e in absurd (omega (arith, ap (λ (y : ClauseId). y.at) same))
rises-once n (x ∷ ids) (suc i) (suc j) id h e f = ap suc (rises-once (suc x.at) ids i j id h.1 e f)

module _ (name : AtomId) (arity : ℕ) (cells : List Cell) where
  from-rises : (at : ℕ) (vs : List ClauseView) → Rises at (places_from name arity cells at vs)
  from-rises at [] = tt
  from-rises at (v ∷ vs) = go (is_of name arity cells v) (from-rises (suc at) vs)
    where
      go : (b : Bool) → Rises (suc at) (places_from name arity cells (suc at) vs) → Rises at (if b then (record { at = at }) ∷ places_from name arity cells (suc at) vs else places_from name arity cells (suc at) vs)
      go true rest = (omega arith, rest)
      go false rest = rises-later at (suc at) (places_from name arity cells (suc at) vs) (omega arith) rest

  -- a place is that of a clause of the predicate, of so many from a place on
  pub record IsThere (at : ℕ) (vs : List ClauseView) (id : ClauseId) : Type 0 where
    pub count : ℕ
    pub view : ClauseView
    pub here : id.at ≡ at + count
    pub there : slice_get vs count ≡ Some view
    pub of_it : is_of name arity cells view ≡ true

  later-there : (at : ℕ) (v : ClauseView) (vs : List ClauseView) (id : ClauseId) → IsThere (suc at) vs id → IsThere at (v ∷ vs) id
  later-there at v vs id t = record { count = suc t.count; view = t.view; here = (let k = t.here in omega arith); there = t.there; of_it = t.of_it }

  from-there : (at : ℕ) (vs : List ClauseView) (i : ℕ) (id : ClauseId) → slice_get (places_from name arity cells at vs) i ≡ Some id → IsThere at vs id
  from-there at [] i id e = absurd (cc)
  from-there at (v ∷ vs) i id e = go (is_of name arity cells v) refl i e (from-there (suc at) vs)
    where
      go : (b : Bool) → is_of name arity cells v ≡ b → (i : ℕ) → slice_get (if b then (record { at = at }) ∷ places_from name arity cells (suc at) vs else places_from name arity cells (suc at) vs) i ≡ Some id
          → ((j : ℕ) (x : ClauseId) → slice_get (places_from name arity cells (suc at) vs) j ≡ Some x → IsThere (suc at) vs x) → IsThere at (v ∷ vs) id
      go true is zero f rest = let same : (let x : ClauseId = record { at = at } in x) ≡ id = cc in record { count = 0; view = v; here = omega (arith, ap (λ (y : ClauseId). y.at) same); there = refl; of_it = is }
      go true is (suc j) f rest = later-there at v vs id (rest j id f)
      go false is j f rest = later-there at v vs id (rest j id f)

-- all of them rise
pub places-rise : (name : AtomId) (arity : ℕ) (c : Contents) → Rises 0 (places_of name arity c)
places-rise name arity c = from-rises name arity c.cells 0 c.clauses

module _ (name : AtomId) (arity : ℕ) (c : Contents) (i : ℕ) (id : ClauseId) (e : slice_get (places_of name arity c) i ≡ Some id) where
  -- the clause that stands there
  pub there : IsThere name arity c.cells 0 c.clauses id
  there = from-there name arity c.cells 0 c.clauses i id e

  -- the view of a clause at one of them
  pub place-view : slice_get c.clauses id.at ≡ Some (there).view
  place-view = ap (slice_get c.clauses) (let k = (there).here in let z : id.at ≡ (there).count = omega arith in z) ∙ (there).there

  -- it is a clause's
  pub place-within : id.at < length c.clauses
  place-within = slice_get_within c.clauses id.at (there).view place-view

  -- and that of a clause of the predicate
  pub place-of : is_clause_of name arity c id ≡ true
  place-of = ap (is_view_of name arity c.cells) place-view ∙ (there).of_it

  -- its rank is where it stands
  pub place-rank : (rank : ℕ) → IsRank c id rank → rank ≡ i
  place-rank rank r = rises-once 0 (places_of name arity c) rank i id (places-rise name arity c) (r name arity place-of) e

-- a rank is no greater than how many clauses stand before its clause
pub rank-low : (c : Contents) (id : ClauseId) (v : ClauseView) → slice_get c.clauses id.at ≡ Some v → ViewFits c.cells v → (rank : ℕ) → IsRank c id rank → rank ≤ id.at
rank-low c id v here fits rank r = go (slice_get c.cells v.head.at) refl fits.named
  where
    by : (name : AtomId) (arity : ℕ) → is_of name arity c.cells v ≡ true → rank ≤ id.at
    by name arity is = let k = rises-at 0 (places_of name arity c) rank id (places-rise name arity c) (r name arity (ap (is_view_of name arity c.cells) here ∙ is)) in omega arith

    both : (a b : Bool) → a ≡ true → b ≡ true → (a && b) ≡ true
    both true true e f = refl
    both true false e f = absurd (cc)
    both false b e f = absurd (cc)

    go : (o : Option Cell) → slice_get c.cells v.head.at ≡ o → IsHead o → rank ≤ id.at
    go None e h = absurd h
    go (Some (cell.Var w)) e h = absurd h
    go (Some (cell.Int z)) e h = absurd h
    go (Some (cell.Atom a)) e h = by a 0 (ap (is_of_by a 0) e ∙ both (nat_eq a.at a.at) (nat_eq 0 0) (eq-eqb a.at a.at refl) refl)
    go (Some (cell.Comp f first count)) e h = by f count (ap (is_of_by f count) e ∙ both (nat_eq f.at f.at) (nat_eq count count) (eq-eqb f.at f.at refl) (eq-eqb count count refl))

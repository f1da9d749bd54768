-- The first of a goal's candidates that has a unifier with it is the first of all its clauses that has one.
use Rattle.std.proofs.Common.{◌≡◌, ℕ, zero, suc, ◌+◌, ◌-◌, ◌<◌, ◌≤◌, Bool, true, false, not, nat_le, List, [], ◌∷◌, map, drop, filter, slice_get, Option, Some, None, is_some, refl, ap, sym, subst, ◌∙◌, arith, if◌then◌else◌, inl, inr}
use Rattle.std.specs.List.{All, position_from}
use Rattle.std.specs.Option.{option_map, option_map_or}
use Rattle.std.proofs.Math.Nat.{eq-or-lt_of_le}
use Rattle.std.proofs.lemmas.Bool.{le-leb, lt-leb}
use Rattle.std.proofs.lemmas.Option.{get_or_from_slice_get, slice_get_within}
use Rattle.tp_terms.specs.Term.{Name, Terms, NoMore, More, term_of, args_of}
use Rattle.tp_terms.specs.Shown.{name_at, shows}
use Rattle.tp_store.specs.Contents.{args_seen, seen, subst_of}
use Rattle.tp_clauses.specs.declared.base.ClauseId.{ClauseId}
use Rattle.tp_clauses.specs.declared.base.ClauseView.{ClauseView}
use Rattle.tp_clauses.specs.declared.first.FirstArg.{FirstArg}
use Rattle.tp_clauses.specs.Contents.{ViewFits, clause_of}
use Rattle.tp_clauses.specs.First.{candidates_of, first_arg, is_indexed, may_match}
use Rattle.tp_clauses.specs.Matching.{BeginWith}
use Rattle.tp_clauses.specs.Ranks.{Rises}
use Rattle.tp_clauses.proofs.Clauses.Rising.{place-within, places-rise, rises-before}
use Rattle.tp_clauses.proofs.Loading.Whole.{predicate_at}
use Rattle.tp_clauses.proofs.Matching.Clash.{no_unifier}
use Rattle.tp_machine.specs.declared.machine.Machine.{Machine}
use Rattle.tp_machine.specs.declared.task.Task.{Task}
use Rattle.tp_machine.specs.declared.task.Call.{Call}
use Rattle.tp_machine.specs.Heads.{hits, unifier}
use Rattle.tp_machine.specs.Machine.{IsProgram}
use Rattle.tp_machine.specs.Meets.{Calls, clauses_of, found_from}
use Rattle.tp_machine.specs.Trying.{AreClauses, AreTried, IsPlaced, StillTries, clause_at, hits_at, places_in}
use Rattle.tp_machine.proofs.Meets.HeadsMet.{head_is}
use Rattle.tp_machine.proofs.Step.Clauses.{drop-drop}
use Rattle.tp_machine.proofs.Trying.Lists.{none_hits, first_hit, position-found, drop-found, here-drop, drop-next, filter-swap, filter-split}

-- what holds of each element holds of the one at a place
all-there : {X : Type 0} (P : X → Type 0) (xs : List X) (i : ℕ) (x : X) → All P xs → slice_get xs i ≡ Some x → P x
all-there P xs i x h e = subst P (get_or_from_slice_get xs i x x e) (h i x (slice_get_within xs i x e))

-- ---- the clauses that are left

-- an element of those that pass a test is one of all
filter-among : {A : Type 0} (p : A → Bool) (xs : List A) (k : ℕ) (x : A) → slice_get (filter p xs) k ≡ Some x → (j : ℕ) × (slice_get xs j ≡ Some x)
filter-among p [] k x e = absurd (cc)
filter-among {A} p (y ∷ ys) k x e = go (p y) k e (λ j f. filter-among p ys j x f)
  where
    go : (b : Bool) (k : ℕ) → slice_get (if b then y ∷ filter p ys else filter p ys) k ≡ Some x → ((j : ℕ) → slice_get (filter p ys) j ≡ Some x → (i : ℕ) × (slice_get ys i ≡ Some x)) → (i : ℕ) × (slice_get (y ∷ ys) i ≡ Some x)
    go true zero f rest = (0, f)
    go true (suc k) f rest = let r = rest k f in (suc r.0, r.1)
    go false k f rest = let r = rest k f in (suc r.0, r.1)

-- and one of those behind a place is one of all
drop-among : {A : Type 0} (n : ℕ) (xs : List A) (k : ℕ) (x : A) → slice_get (drop n xs) k ≡ Some x → (j : ℕ) × (slice_get xs j ≡ Some x)
drop-among zero xs k x e = (k, e)
drop-among (suc n) [] k x e = absurd (cc)
drop-among (suc n) (y ∷ ys) k x e = let r = drop-among n ys k x e in (suc r.0, r.1)

module _ (m : Machine) (t : Task) (c : Call) (from : ℕ) (ids : List ClauseId) (h : AreTried m t c from ids) where
  -- each of them is a clause of the goal
  pub among : (k : ℕ) (id : ClauseId) → slice_get ids k ≡ Some id → (j : ℕ) × (slice_get (places_in m c) j ≡ Some id)
  among k id e =
      let f = filter-among h.tried (drop from (places_in m c)) k id (sym (ap (λ l. slice_get l k) h.places) ∙ e) in
      drop-among from (places_in m c) f.0 id f.1

  -- they are clauses
  pub tried-clauses : AreClauses m ids
  tried-clauses k id e = let a = among k id e in place-within c.name c.count m.base.now a.0 id a.1

pub still-clauses : (m : Machine) (t : Task) (ids : List ClauseId) → StillTries m t ids → AreClauses m ids
still-clauses m t ids s = tried-clauses m t s.call s.from ids s.rest

-- ---- which clause comes next

module _ (m : Machine) (t : Task) (c : Call) (calls : Calls m t c None) where
  -- the clauses at the places of a goal
  pub clauses-stand : map (clause_at m) (places_in m c) ≡ map Some (clauses_of m c)
  clauses-stand =
      let is = calls.meets.standing.program in
      predicate_at m.atoms m.base.now c.name c.count is.base is.table.distinct is.named calls.call.name

  found-same : (from : ℕ) → position_from (hits_at m t.goal) from (drop from (places_in m c)) ≡ found_from m t c from
  found-same from =
      position-found (clause_at m) (hits m.atoms m.state.store t.goal.at) from (drop from (places_in m c)) (drop from (clauses_of m c))
      (drop-found (clause_at m) from (places_in m c) (clauses_of m c) clauses-stand)

  -- where no candidate has a unifier with the goal, no clause has
  pub none-left : (from : ℕ) (ids : List ClauseId) → AreTried m t c from ids → position_from (hits_at m t.goal) 0 ids ≡ None → found_from m t c from ≡ None
  none-left from ids h e =
      sym (found-same from)
      ∙ none_hits h.tried (hits_at m t.goal) h.others 0 from (drop from (places_in m c)) (ap (position_from (hits_at m t.goal) 0) (sym h.places) ∙ e)

  -- The first candidate that has one is the first clause that has one, at its place among all.
  pub record NextCandidate (from k : ℕ) (ids : List ClauseId) : Type 0 where
    pub place : ℕ
    pub found : found_from m t c from ≡ Some place
    pub id : ClauseId
    pub here : slice_get ids k ≡ Some id
    pub placed : IsPlaced m t c place id
    pub left : AreTried m t c (place + 1) (drop (k + 1) ids)
    pub passes : hits_at m t.goal id ≡ true

  pub next-candidate : (from k : ℕ) (ids : List ClauseId) → AreTried m t c from ids → position_from (hits_at m t.goal) 0 ids ≡ Some k → NextCandidate from k ids
  next-candidate from k ids h e =
      let all = places_in m c in
      let hit = first_hit h.tried (hits_at m t.goal) h.others from 0 k (drop from all) (ap (position_from (hits_at m t.goal) 0) (sym h.places) ∙ e) in
      let here : drop (from + hit.at) all ≡ hit.element ∷ hit.more = sym (drop-drop from hit.at all) ∙ hit.here in
      let rest : drop k ids ≡ hit.element ∷ filter h.tried hit.more = ap (drop k) h.places ∙ ap (λ n. drop n (filter h.tried (drop from all))) (let z : k ≡ k - 0 = omega arith in z) ∙ hit.left in
      record {
        place = from + hit.at;
        found = sym (found-same from) ∙ hit.place;
        id = hit.element;
        here = here-drop k ids hit.element (filter h.tried hit.more) rest;
        placed = record { calls = calls; there = here-drop (from + hit.at) all hit.element hit.more here };
        left = record {
          tried = h.tried;
          places = ap (λ n. drop n ids) (let z : k + 1 ≡ suc k = omega arith in z) ∙ drop-next k ids hit.element (filter h.tried hit.more) rest
              ∙ ap (filter h.tried) (sym (ap (λ n. drop n all) (let z : from + hit.at + 1 ≡ suc (from + hit.at) = omega arith in z) ∙ drop-next (from + hit.at) all hit.element hit.more here));
          others = h.others;
        };
        passes = hit.passes;
      }

  -- ---- which clauses are tried

  seen-args : args_of (seen m.atoms m.state.store t.goal.at) ≡ args_seen m.atoms m.state.store c.first.at c.count
  seen-args = ap args_of calls.call.is ∙ args-of (name_at m.atoms c.name.at) (args_seen m.atoms m.state.store c.first.at c.count)
    where
      args-of : (f : Name) (ts : Terms) → args_of (term_of f ts) ≡ ts
      args-of f NoMore = refl
      args-of f (More u us) = refl

  -- a clause of another first argument has no unifier with the goal
  misses : (f : FirstArg) → BeginWith m.atoms f (args_seen m.atoms m.state.store c.first.at c.count) → (id : ClauseId) → may_match f (first_arg m.base.now id) ≡ false → hits_at m t.goal id ≡ false
  misses f has id apart = go (slice_get m.base.now.clauses id.at) refl
    where
      is : IsProgram m
      is = calls.meets.standing.program

      go : (o : Option ClauseView) → slice_get m.base.now.clauses id.at ≡ o → option_map_or (hits m.atoms m.state.store t.goal.at) (option_map (clause_of m.atoms m.base.now.cells) o) false ≡ false
      go None here = refl
      go (Some v) here =
          let fits = all-there (ViewFits m.base.now.cells) m.base.now.clauses id.at v is.base.clauses here in
          ap (λ h. is_some (unifier m.atoms m.state.store t.goal.at h)) (sym (head_is m.atoms m.base.now.cells v is.base.built fits))
          ∙ ap is_some (no_unifier m.atoms is.table.distinct m.base.now is.base.built is.named id v here fits.head f (subst_of m.atoms m.state.store) m.state.store.vars (shows m.atoms m.state.store.cells t.goal.at)
          (subst (BeginWith m.atoms f) (sym seen-args) has) apart)

  filter-all : (xs : List ClauseId) → xs ≡ filter (λ x. true) xs
  filter-all [] = refl
  filter-all (x ∷ xs) = ap (λ l. x ∷ l) (filter-all xs)

  -- the candidates for its first argument are tried, and no others need be
  pub candidates-tried : (f : FirstArg) (ids : List ClauseId) → BeginWith m.atoms f (args_seen m.atoms m.state.store c.first.at c.count) → ids ≡ candidates_of c.name c.count f m.base.now → AreTried m t c 0 ids
  candidates-tried f ids has e = subst (AreTried m t c 0) (sym e) (go (is_indexed c.name c.count m.base.now))
    where
      go : (b : Bool) → AreTried m t c 0 (if b then filter (λ id. may_match f (first_arg m.base.now id)) (places_in m c) else places_in m c)
      go true = record { tried = λ id. may_match f (first_arg m.base.now id); places = refl; others = misses f has }
      go false = record { tried = λ id. true; places = filter-all (places_in m c); others = λ id e'. absurd (cc) }

  -- the candidates behind a clause
  pub behind-tried : (place : ℕ) (id : ClauseId) (ids : List ClauseId) → slice_get (places_in m c) place ≡ Some id → AreTried m t c 0 ids → AreTried m t c (place + 1) (filter (λ other. not (nat_le other.at id.at)) ids)
  behind-tried place id ids there h =
      let all = places_in m c in
      let rise = places-rise c.name c.count m.base.now in
      record {
        tried = h.tried;
        places =
            ap (filter (λ (other : ClauseId). not (nat_le other.at id.at))) h.places
            ∙ filter-swap (λ (other : ClauseId). not (nat_le other.at id.at)) h.tried all
            ∙ ap (filter h.tried) (sym (filter-split (λ (other : ClauseId). nat_le other.at id.at) (place + 1) all
            (λ k x lt e. le-leb x.at id.at (front rise k x e (omega arith)))
            (λ k x le e. above rise k x e (omega arith))));
        others = h.others;
      }
    where
      front : Rises 0 (places_in m c) → (k : ℕ) (x : ClauseId) → slice_get (places_in m c) k ≡ Some x → k ≤ place → x.at ≤ id.at
      front rise k x e le = elim (eq-or-lt_of_le le) [
        | inr lt ↦ (let z = rises-before 0 (places_in m c) k place x id rise e there lt in omega arith)
        | inl same ↦ (let w : Some x ≡ Some id = sym e ∙ ap (slice_get (places_in m c)) same ∙ there in let v : x ≡ id = cc in omega (arith, ap (λ (y : ClauseId). y.at) v))
      ]

      above : Rises 0 (places_in m c) → (k : ℕ) (x : ClauseId) → slice_get (places_in m c) k ≡ Some x → place < k → nat_le x.at id.at ≡ false
      above rise k x e lt = (let z = rises-before 0 (places_in m c) place k id x rise there e lt in lt-leb x.at id.at z)

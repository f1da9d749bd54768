-- Trying the candidates of a goal gives the worlds of its predicate.
use Rattle.std.proofs.Common.{◌≡◌, ℕ, zero, suc, ◌<◌, Bool, true, false, cond, List, [], ◌∷◌, length, map, filter, slice_get, Option, Some, None, option_map, refl, sym, ap, subst, ◌∙◌, arith, if◌then◌else◌}
use Rattle.std.specs.List.{AllByRecursion, cons_option, filter_map}
use Rattle.tp_terms.specs.declared.cells.Cell.{Cell}
use Rattle.tp_terms.specs.declared.cells.Cell.TheVariants as cell
use Rattle.tp_terms.specs.declared.cells.AtomId.{AtomId}
use Rattle.tp_terms.specs.Term.{Name, Term, Comp, term_of}
use Rattle.tp_terms.specs.Names.{AreDistinct}
use Rattle.tp_terms.specs.Shown.{name_at, shows, shown_from, args_at, StandsBefore, AreBuilt, AreNamed}
use Rattle.tp_terms.proofs.Places.Shown.{shows-cell}
use Rattle.tp_meaning.specs.Clauses.{Clause, head_of, predicate, renamed, try_clause, by_clause}
use Rattle.tp_meaning.specs.Subst.{Subst, mgu, apply}
use Rattle.tp_meaning.specs.Turn.{Turn}
use Rattle.tp_meaning.specs.World.{World, world_under}
use Rattle.tp_clauses.specs.Contents.{Contents, IsBase, IsHead, ViewFits, base_of, clause_by, clause_of, clauses_at, places_of}
use Rattle.tp_clauses.specs.First.{candidates_of, first_arg, is_indexed, may_match}
use Rattle.tp_clauses.specs.Matching.{GivesWorlds, HasFirst}
use Rattle.tp_clauses.specs.declared.base.ClauseId.{ClauseId}
use Rattle.tp_clauses.specs.declared.base.ClauseView.{ClauseView}
use Rattle.tp_clauses.specs.declared.first.FirstArg.{FirstArg}
use Rattle.tp_clauses.proofs.Matching.Clash.{no_unifier}
use Rattle.tp_clauses.proofs.Lists.Fitting.{all_at}
use Rattle.tp_clauses.proofs.Taking.Directives.{cell_at}

-- ---- lists

-- what is left out gives nothing
filter_map-filter : {X Y : Type 0} (h : X → Option Y) (p : X → Bool) (xs : List X) → AllByRecursion (λ x. p x ≡ false → h x ≡ None) xs → filter_map h (filter p xs) ≡ filter_map h xs
filter_map-filter h p [] n = refl
filter_map-filter h p (x ∷ xs) n = go (p x) refl (filter_map-filter h p xs n.1)
  where
    go : (b : Bool) → p x ≡ b → filter_map h (filter p xs) ≡ filter_map h xs → filter_map h (cond b (x ∷ filter p xs) (filter p xs)) ≡ cons_option (h x) (filter_map h xs)
    go true e rest = ap (cons_option (h x)) rest
    go false e rest = rest ∙ sym (ap (λ o. cons_option o (filter_map h xs)) (n.0 e))

module _ {A B C : Type 0} (look : A → Option B) (try : B → Option C) where
  abbrev found : Option B → Option C
  found None = None
  found (Some b) = try b

  -- trying what is found at some places
  at_places : (xs : List A) (bs : List B) → map look xs ≡ map Some bs → filter_map try bs ≡ filter_map (λ a. found (look a)) xs
  at_places [] [] e = refl
  at_places [] (b ∷ bs) e = absurd (cc)
  at_places (a ∷ xs) [] e = absurd (cc)
  at_places (a ∷ xs) (b ∷ bs) e =
      let here : look a ≡ Some b = cc in
      let rest : map look xs ≡ map Some bs = cc in
      ap (cons_option (try b)) (at_places xs bs rest) ∙ sym (ap (λ o. cons_option (found o) (filter_map (λ x. found (look x)) xs)) here)

-- something is found at each of the chosen places
chosen_stand : {A B : Type 0} (look : A → Option B) (p : A → Bool) (xs : List A) (bs : List B) → map look xs ≡ map Some bs → (cs : List B) × (map look (filter p xs) ≡ map Some cs)
chosen_stand look p [] bs e = ([], refl)
chosen_stand look p (a ∷ xs) [] e = absurd (cc)
chosen_stand {A} {B} look p (a ∷ xs) (b ∷ bs) e = go (p a) (let here : look a ≡ Some b = cc in here) (chosen_stand look p xs bs (let rest : map look xs ≡ map Some bs = cc in rest))
  where
    go : (t : Bool) → look a ≡ Some b → ((cs : List B) × (map look (filter p xs) ≡ map Some cs)) → (cs : List B) × (map look (cond t (a ∷ filter p xs) (filter p xs)) ≡ map Some cs)
    go true here rest = (b ∷ rest.0, ap (λ o. o ∷ map look (filter p xs)) here ∙ ap (λ l. Some b ∷ l) rest.1)
    go false here rest = rest

-- ---- heads

some_args : (names : List Name) (cells : List Cell) (f : Name) (a n : ℕ) → 0 < n → term_of f (args_at names cells a n) ≡ Comp f (args_at names cells a n)
some_args names cells f a zero lt = absurd (omega arith)
some_args names cells f a (suc n) lt = refl

-- the head of a clause is the term that its place shows
pub head_shown : (names : List Name) (cells : List Cell) (v : ClauseView) → AreBuilt cells → ViewFits cells v → head_of (clause_of names cells v) ≡ shows names cells v.head.at
head_shown names cells v built fits =
    let x = cell_at cells v.head.at fits.head in
    let is = shows-cell names cells v.head.at x.0 x.1 (built v.head.at x.0 x.1) in
    subst (λ t. head_of (clause_by t (option_map (λ place. shows names cells place.at) v.body) v.vars) ≡ t) (sym is)
    (go x.0 (subst (λ o. IsHead o) x.1 fits.named) (built v.head.at x.0 x.1))
  where
    go : (c : Cell) → IsHead (Some c) → StandsBefore v.head.at c → head_of (clause_by (shown_from names cells c) (option_map (λ place. shows names cells place.at) v.body) v.vars) ≡ shown_from names cells c
    go (cell.Var w) k b = absurd k
    go (cell.Int z) k b = absurd k
    go (cell.Atom a) k b = refl
    go (cell.Comp f first n) k b = some_args names cells (name_at names f.at) first.at n b.0

-- ---- the worlds

module _ (names : List Name) (distinct : AreDistinct names) (c : Contents) (base : IsBase c) (named : AreNamed (length names) c.cells) where
  -- a clause that doesn't match gives no world
  left_out : (f : FirstArg) (t : Turn) (goal : Term) → HasFirst names f (apply t.world.subst goal) → (id : ClauseId) → may_match f (first_arg c id) ≡ false
      → found (λ (i : ClauseId). option_map (clause_of names c.cells) (slice_get c.clauses i.at)) (try_clause t goal) (option_map (clause_of names c.cells) (slice_get c.clauses id.at)) ≡ None
  left_out f t goal has id apart = go (slice_get c.clauses id.at) refl
    where
      go : (o : Option ClauseView) → slice_get c.clauses id.at ≡ o → found (λ (i : ClauseId). option_map (clause_of names c.cells) (slice_get c.clauses i.at)) (try_clause t goal) (option_map (clause_of names c.cells) o) ≡ None
      go None here = refl
      go (Some v) here =
          let fits = all_at (ViewFits c.cells) c.clauses id.at v base.clauses here in
          let none : mgu t.world.subst goal (renamed t.world.next (head_of (clause_of names c.cells v))) ≡ None =
          ap (λ h. mgu t.world.subst goal (renamed t.world.next h)) (head_shown names c.cells v base.built fits)
          ∙ no_unifier names distinct c base.built named id v here fits.head f t.world.subst t.world.next goal has apart in
          ap (λ (o : Option Subst). elim o as (λ _. Option World) [ None ↦ None | Some u ↦ Some (world_under u (by_clause t (clause_of names c.cells v))) ]) none

  every : {X : Type 0} (P : X → Type 0) → ((x : X) → P x) → (xs : List X) → AllByRecursion P xs
  every P h [] = tt
  every P h (x ∷ xs) = (h x, every P h xs)

  -- the candidates, where the places stand for the clauses of the predicate
  pub candidates_give : (name : AtomId) (arity : ℕ) (f : FirstArg) (ids : List ClauseId) → ids ≡ candidates_of name arity f c → clauses_at names c (places_of name arity c) ≡ map Some (predicate (base_of names c) (name_at names name.at) arity) → GivesWorlds names c name arity f ids
  candidates_give name arity f ids are all = subst (λ (l : List ClauseId). GivesWorlds names c name arity f l) (sym are) (go (is_indexed name arity c))
    where
      look : ClauseId → Option Clause
      look id = option_map (clause_of names c.cells) (slice_get c.clauses id.at)

      go : (b : Bool) → GivesWorlds names c name arity f (if b then filter (λ id. may_match f (first_arg c id)) (places_of name arity c) else places_of name arity c)
      go false = record { clauses = predicate (base_of names c) (name_at names name.at) arity; stand = all; worlds = λ t goal has. refl }
      go true =
          let chosen = chosen_stand look (λ id. may_match f (first_arg c id)) (places_of name arity c) (predicate (base_of names c) (name_at names name.at) arity) all in
          record {
            clauses = chosen.0;
            stand = chosen.1;
            worlds = λ t goal has.
                at_places look (try_clause t goal) (filter (λ id. may_match f (first_arg c id)) (places_of name arity c)) chosen.0 chosen.1
                ∙ filter_map-filter (λ id. found look (try_clause t goal) (look id)) (λ id. may_match f (first_arg c id)) (places_of name arity c)
                (every (λ id. may_match f (first_arg c id) ≡ false → found look (try_clause t goal) (look id) ≡ None) (left_out f t goal has) (places_of name arity c))
                ∙ sym (at_places look (try_clause t goal) (places_of name arity c) (predicate (base_of names c) (name_at names name.at) arity) all);
          }

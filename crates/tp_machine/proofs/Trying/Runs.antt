-- Steps and choices by a goal's candidates.
use Rattle.std.proofs.Common.{◌≡◌, ℕ, suc, ◌+◌, ◌-◌, ◌<◌, ◌^◌, Bool, true, false, cond, List, [], ◌∷◌, map, length, take, drop, slice_get, Option, Some, None, is_some, refl, ap, sym, subst, ◌∙◌, arith}
use Rattle.std.specs.List.{position_from}
use Rattle.std.specs.Option.{option_map, option_map_or}
use Rattle.std.proofs.lemmas.Option.{slice_get_within}
use Rattle.tp_terms.specs.declared.cells.Cell.{Cell}
use Rattle.tp_terms.specs.declared.cells.Ref.{Ref}
use Rattle.tp_terms.specs.Term.{Name}
use Rattle.tp_terms.specs.Shown.{AreNamed}
use Rattle.tp_meaning.specs.declared.DeadCause.TheVariants.{Failed}
use Rattle.tp_meaning.specs.Clauses.{Base, Clause}
use Rattle.tp_store.specs.Contents.{Names}
use Rattle.tp_clauses.specs.declared.base.ClauseId.{ClauseId}
use Rattle.tp_clauses.specs.declared.base.ClauseView.{ClauseView}
use Rattle.tp_clauses.specs.Contents.{ViewFits, clause_of}
use Rattle.tp_clauses.specs.Ranks.{IsRank}
use Rattle.tp_clauses.proofs.Clauses.Rising.{place-rank}
use Rattle.tp_control.specs.declared.choices.Alt.TheVariants as alt
use Rattle.tp_machine.specs.declared.machine.Machine.{Machine}
use Rattle.tp_machine.specs.declared.task.Task.{Task}
use Rattle.tp_machine.specs.declared.task.Call.{Call}
use Rattle.tp_machine.specs.declared.stepped.Stepped.TheVariants.{Went, Dead}
use Rattle.tp_machine.specs.Program.{head_term}
use Rattle.tp_machine.specs.Heads.{hits, unifier}
use Rattle.tp_machine.specs.Machine.{IsMachine, IsStanding, Steps, world_in}
use Rattle.tp_machine.specs.Meets.{Calls, Hits, Meets, clauses_of, found_from}
use Rattle.tp_machine.specs.Goes.{Enters, IsKept, MayKeep}
use Rattle.tp_machine.specs.Trying.{AreTried, IsPlaced, StillTries, clause_at, hits_at, places_in}
use Rattle.tp_machine.proofs.Meets.HeadsMet.{here_next, view_hits}
use Rattle.tp_machine.proofs.Step.Back.{hits_kept, untried-same}
use Rattle.tp_machine.proofs.Step.Clauses.{kept_from, kept_none, may_clause, next_untried, runs_none, runs_some}
use Rattle.tp_machine.proofs.Step.Parts.{to_branch}
use Rattle.tp_machine.proofs.Trying.Lists.{here-drop, drop-here, drop-found, position-shift, filter-rest}
use Rattle.tp_machine.proofs.Trying.Split.{take-rest}
use Rattle.tp_machine.proofs.Trying.Found.{NextCandidate, among, clauses-stand, next-candidate, none-left}

-- ---- a clause at its place

-- whether a clause has a unifier with a goal, as its head was found to
pub hit-at : (m : Machine) (goal : Ref) (is : IsStanding m) (id : ClauseId) (v : ClauseView) → slice_get m.base.now.clauses id.at ≡ Some v → ViewFits m.base.now.cells v → (cells : List Cell) (found : Bool) → cells ≡ m.base.now.cells
    → ((names : List Name) → Names names m.state.store.cells → AreNamed (length names) cells → found ≡ is_some (unifier names m.state.store goal.at (head_term names cells v)))
    → hits_at m goal id ≡ found
hit-at m goal is id v view fits cells found e met =
    ap (λ o. option_map_or (hits m.atoms m.state.store goal.at) (option_map (clause_of m.atoms m.base.now.cells) o) false) view
    ∙ view_hits m.atoms m.base.now.cells v is.program.base.built fits m.state.store goal.at found
    (subst (λ cs. found ≡ is_some (unifier m.atoms m.state.store goal.at (head_term m.atoms cs v))) e
    (met m.atoms (record { distinct = is.program.table.distinct; named = is.stands.atoms }) (subst (AreNamed (length m.atoms)) (sym e) is.program.named)))

-- a clause at its place among all of its goal
module _ (m : Machine) (t : Task) (c : Call) (place : ℕ) (id : ClauseId) (p : IsPlaced m t c place id) (v : ClauseView) (view : slice_get m.base.now.clauses id.at ≡ Some v) where
  pub placed-here : drop place (clauses_of m c) ≡ clause_of m.atoms m.base.now.cells v ∷ drop (place + 1) (clauses_of m c)
  placed-here = here_next m.atoms m.base.now (clauses_of m c) (places_in m c) (clauses-stand m t c p.calls) place id p.there v view

  pub placed-hits : hits_at m t.goal id ≡ true → Hits m t c place
  placed-hits e = record {
    calls = p.calls;
    clause = clause_of m.atoms m.base.now.cells v;
    more = drop (place + 1) (clauses_of m c);
    here = placed-here;
    hit = sym (ap (λ o. option_map_or (hits m.atoms m.state.store t.goal.at) (option_map (clause_of m.atoms m.base.now.cells) o) false) view) ∙ e;
  }

-- a clause that has a unifier with the goal, by its place among all
module _ (m : Machine) (t : Task) (c : Call) (place : ℕ) (h : Hits m t c place) where
  same-length : (xs : List ClauseId) (cs : Base) → map (clause_at m) xs ≡ map Some cs → length xs ≡ length cs
  same-length [] [] e = refl
  same-length [] (d ∷ cs) e = absurd (cc)
  same-length (x ∷ xs) [] e = absurd (cc)
  same-length (x ∷ xs) (d ∷ cs) e = ap suc (same-length xs cs (let rest : map (clause_at m) xs ≡ map Some cs = cc in rest))

  pub hit-within : place < length (places_in m c)
  hit-within =
      let lt = slice_get_within (clauses_of m c) place h.clause (here-drop place (clauses_of m c) h.clause h.more h.here) in
      omega (arith, same-length (places_in m c) (clauses_of m c) (clauses-stand m t c h.calls))

  pub hit-placed : (id : ClauseId) → slice_get (places_in m c) place ≡ Some id → hits_at m t.goal id ≡ true
  hit-placed id there =
      let both : map (clause_at m) (id ∷ drop (suc place) (places_in m c)) ≡ map Some (h.clause ∷ h.more) =
      ap (map (clause_at m)) (sym (drop-here place (places_in m c) id there))
      ∙ drop-found (clause_at m) place (places_in m c) (clauses_of m c) (clauses-stand m t c h.calls) ∙ ap (map Some) h.here in
      let first : clause_at m id ≡ Some h.clause = cc in
      ap (λ o. option_map_or (hits m.atoms m.state.store t.goal.at) o false) first ∙ h.hit

-- ---- what a choice leaves

module _ (m mid : Machine) (next : _) (k : IsKept m next mid) where
  pub kept-hits : (goal : Ref) (id : ClauseId) → hits_at mid goal id ≡ hits_at m goal id
  kept-hits goal id = ap (λ (x : Machine). hits_at x goal id) k.same

  pub kept-placed : (t : Task) (c : Call) (place : ℕ) (id : ClauseId) → Hits m t c place → slice_get (places_in m c) place ≡ Some id → IsPlaced mid t c place id
  kept-placed t c place id h there = record {
    calls = (hits_kept m mid next k t c place h).calls;
    there = subst (λ (x : Machine). slice_get (places_in x c) place ≡ Some id) (sym k.same) there;
  }

-- ---- steps

some-clauses : (m : Machine) (t : Task) (c : Call) (k : ℕ) → found_from m t c 0 ≡ Some k → (d : Clause) × ((ds : Base) × (clauses_of m c ≡ d ∷ ds))
some-clauses m t c k e = go (clauses_of m c) refl
  where
    go : (cs : Base) → clauses_of m c ≡ cs → (d : Clause) × ((ds : Base) × (clauses_of m c ≡ d ∷ ds))
    go [] is = let none : None ≡ Some k = sym (ap (λ cs. position_from (hits m.atoms m.state.store t.goal.at) 0 cs) is) ∙ e in absurd (cc)
    go (d ∷ ds) is = (d, (ds, is))

-- where there is no place, there is no clause
pub no-clauses : (m : Machine) (t : Task) (c : Call) → Calls m t c None → places_in m c ≡ [] → clauses_of m c ≡ []
no-clauses m t c calls e = go (clauses_of m c) (sym (clauses-stand m t c calls) ∙ ap (map (clause_at m)) e)
  where
    go : (cs : Base) → map Some cs ≡ [] → cs ≡ []
    go [] f = refl
    go (d ∷ ds) f = absurd (cc)

module _ (m : Machine) (t : Task) (c : Call) (calls : Calls m t c None) (is : IsMachine m) (ids : List ClauseId) (h : AreTried m t c 0 ids) where
  -- no candidate has a unifier with the goal
  pub none-runs : 0 < length (places_in m c) → position_from (hits_at m t.goal) 0 ids ≡ None → Steps m m (Dead Failed)
  none-runs some e = go (clauses_of m c) refl
    where
      stand : map (clause_at m) (places_in m c) ≡ map Some (clauses_of m c)
      stand = clauses-stand m t c calls

      go : (cs : Base) → clauses_of m c ≡ cs → Steps m m (Dead Failed)
      go [] e' = absurd (empty (places_in m c) some (stand ∙ ap (map Some) e'))
        where
          empty : (xs : List ClauseId) → 0 < length xs → map (clause_at m) xs ≡ map Some [] → ⊥
          empty [] lt f = omega arith
          empty (x ∷ xs) lt f = cc
      go (d ∷ ds) e' = runs_none m t c calls d ds is e' (none-left m t c calls 0 ids h e)

  -- one has: the goal goes on with the first of them, once a choice is kept for the others
  pub first-runs : (k : ℕ) (n : NextCandidate m t c calls 0 k ids) (mid new : Machine) → IsKept m (alt.Clause (n.place + 1)) mid → Enters mid n.place new → Steps m new Went
  first-runs k n mid new kept e =
      let some = some-clauses m t c n.place n.found in
      to_branch m mid new (alt.Clause (n.place + 1)) is kept e.goes
      (runs_some m t c calls some.0 some.1.0 n.place (world_in new) some.1.1 n.found
      (sym (untried-same m mid (alt.Clause (n.place + 1)) kept (alt.Clause n.place)) ∙ e.world ∙ ap (λ ws. world_in new ∷ ws) (untried-same m mid (alt.Clause (n.place + 1)) kept (alt.Clause (n.place + 1)))))

-- some clauses that may be all, of which the first is looked at last
module _ (m : Machine) (t : Task) (c : Call) (calls : Calls m t c None) (is : IsMachine m) (id : ClauseId) (others : List ClauseId) (h : AreTried m t c 0 (id ∷ others)) where
  at-first : hits_at m t.goal id ≡ true → position_from (hits_at m t.goal) 0 (id ∷ others) ≡ Some 0
  at-first e = ap (λ q. cond q (Some 0) (position_from (hits_at m t.goal) 1 others)) e

  -- the first has no unifier with the goal: what is next is the next of the others
  pub at-others : (next : Option ℕ) → next ≡ position_from (hits_at m t.goal) 0 others → hits_at m t.goal id ≡ false → position_from (hits_at m t.goal) 0 (id ∷ others) ≡ option_map suc next
  at-others next e miss =
      ap (λ q. cond q (Some 0) (position_from (hits_at m t.goal) 1 others)) miss
      ∙ position-shift (hits_at m t.goal) 0 1 others refl ∙ ap (option_map suc) (sym e)

  -- the others are tried from some place on
  pub still-others : StillTries m t others
  still-others =
      let r = filter-rest h.tried (places_in m c) id others h.places in
      record { call = c; calls = calls; from = r.0; rest = record { tried = h.tried; places = r.1; others = h.others } }

  some-places : 0 < length (places_in m c)
  some-places =
      let a = among m t c 0 (id ∷ others) h 0 id refl in
      let lt = slice_get_within (places_in m c) a.0 id a.1 in
      omega arith

  first-next : hits_at m t.goal id ≡ true → NextCandidate m t c calls 0 0 (id ∷ others)
  first-next e = next-candidate m t c calls 0 0 (id ∷ others) h (at-first e)

  -- the first has a unifier with the goal, which goes on with it, once a choice is kept for the others
  pub it-runs : (mid new : Machine) → hits_at m t.goal id ≡ true → ((from : ℕ) → AreTried m t c from others → IsKept m (alt.Clause from) mid)
      → ((place : ℕ) → IsPlaced mid t c place id → Enters mid place new) → Steps m new Went
  it-runs mid new e kept enter =
      let n = first-next e in
      let k = kept (n.place + 1) n.left in
      let there : slice_get (places_in m c) n.place ≡ Some id = n.placed.there ∙ sym n.here in
      first-runs m t c calls is (id ∷ others) h 0 n mid new k
      (enter n.place (kept-placed m mid (alt.Clause (n.place + 1)) k t c n.place id (next_untried m t c calls 0 n.place n.found).hit there))

  -- neither it nor another has one
  pub none-goes : hits_at m t.goal id ≡ false → position_from (hits_at m t.goal) 0 others ≡ None → Steps m m (Dead Failed)
  none-goes miss none = none-runs m t c calls is (id ∷ others) h some-places (at-others None (sym none) miss)

  -- the first has none, and the next that has one is another
  module _ (next : ℕ) (found : position_from (hits_at m t.goal) 0 others ≡ Some next) (miss : hits_at m t.goal id ≡ false) where
    other-next : NextCandidate m t c calls 0 (suc next) (id ∷ others)
    other-next = next-candidate m t c calls 0 (suc next) (id ∷ others) h (at-others (Some next) (sym found) miss)

    -- those behind it
    abbrev pub behind : List ClauseId
    behind = take (length others - (next + 1)) (drop (next + 1) others)

    other-left : AreTried m t c (other-next.place + 1) behind
    other-left =
        let more : suc next + 1 ≡ suc (next + 1) = omega arith in
        subst (AreTried m t c (other-next.place + 1)) (ap (λ k. drop k (id ∷ others)) more ∙ sym (take-rest (next + 1) others)) other-next.left

    pub other-tries : StillTries m t behind
    other-tries = record { call = c; calls = calls; from = other-next.place + 1; rest = other-left }

    -- the goal goes on with it, once a choice is kept for those behind it
    module _ (mid : Machine) (keep : (from : ℕ) → AreTried m t c from behind → IsKept m (alt.Clause from) mid) (other : ClauseId) (here : slice_get others next ≡ Some other) where
      other-kept : IsKept m (alt.Clause (other-next.place + 1)) mid
      other-kept = keep (other-next.place + 1) other-left

      other-there : slice_get (places_in m c) other-next.place ≡ Some other
      other-there = other-next.placed.there ∙ sym other-next.here ∙ here

      other-hits : Hits m t c other-next.place
      other-hits = (next_untried m t c calls 0 other-next.place other-next.found).hit

      pub other-meets : Meets mid t
      other-meets = (hits_kept m mid (alt.Clause (other-next.place + 1)) other-kept t c other-next.place other-hits).calls.meets

      pub other-hit : hits_at mid t.goal other ≡ true
      other-hit = kept-hits m mid (alt.Clause (other-next.place + 1)) other-kept t.goal other ∙ hit-placed m t c other-next.place other-hits other other-there

      pub other-runs : (new : Machine) → ((place : ℕ) → IsPlaced mid t c place other → Enters mid place new) → Steps m new Went
      other-runs new enter =
          first-runs m t c calls is (id ∷ others) h (suc next) other-next mid new other-kept
          (enter other-next.place (kept-placed m mid (alt.Clause (other-next.place + 1)) other-kept t c other-next.place other other-hits other-there))

-- ---- choices

module _ (m : Machine) (t : Task) (c : Call) (calls : Calls m t c None) (is : IsMachine m) (from : ℕ) (ids : List ClauseId) (h : AreTried m t c from ids) where
  -- no candidate has a unifier with the goal: there is nothing to keep
  pub none-kept : position_from (hits_at m t.goal) 0 ids ≡ None → IsKept m (alt.Clause from) m
  none-kept e = kept_none m t c calls from is (none-left m t c calls from ids h e)

  module _ (k : ℕ) (e : position_from (hits_at m t.goal) 0 ids ≡ Some k) (id : ClauseId) (here : slice_get ids k ≡ Some id) (rank : ℕ) (r : IsRank m.base.now id rank) where
    next : NextCandidate m t c calls from k ids
    next = next-candidate m t c calls from k ids h e

    found : found_from m t c from ≡ Some rank
    found = (next).found ∙ ap Some (sym (place-rank c.name c.count m.base.now (next).place id there rank r))
      where
        there : slice_get (places_in m c) (next).place ≡ Some id
        there = (next).placed.there ∙ sym (next).here ∙ here

    -- a choice of it may be kept
    pub one-may : rank < 2 ^ 63 → MayKeep m (alt.Clause rank)
    one-may few = let n = next_untried m t c calls from rank found in may_clause m t c calls rank is n.hit few n.left

    -- and is what is wanted
    pub one-kept : (new : Machine) → IsKept m (alt.Clause rank) new → IsKept m (alt.Clause from) new
    one-kept new kept = let n = next_untried m t c calls from rank found in kept_from m t c calls from rank new n.same kept

-- Goals met with the heads of clauses, and clauses entered.
use Rattle.std.proofs.Common.{◌≡◌, ℕ, zero, suc, ◌+◌, ◌<◌, ◌≤◌, Bool, true, false, if◌then◌else◌, List, [], ◌∷◌, ◌++◌, map, length, drop, get_or, slice_get, Option, Some, None, is_some, refl, ap, sym, subst, ◌∙◌, arith, length-append, append-nil, append_assoc}
use Rattle.std.specs.Option.{option_map}
use Rattle.std.specs.List.{position_from}
use Rattle.std.proofs.lemmas.Option.{slice_get_within, slice_get-get_or, get_or_from_slice_get}
use Rattle.tp_terms.specs.declared.cells.Cell.{Cell}
use Rattle.tp_terms.specs.declared.cells.Cell.TheVariants as cell
use Rattle.tp_terms.specs.declared.cells.Ref.{Ref}
use Rattle.tp_terms.specs.declared.world.StoreMark.{StoreMark}
use Rattle.tp_log.specs.declared.entry.Entry.{Entry}
use Rattle.tp_state.specs.Going.{StoreGrows}
use Rattle.tp_terms.specs.Term.{Name, Comp, term_of}
use Rattle.tp_terms.specs.Shown.{name_at, shows, shown_from, args_at, AreBuilt, StandsBefore, AreNamed}
use Rattle.tp_terms.proofs.Places.Shown.{shows-cell}
use Rattle.tp_meaning.specs.Subst.{Subst, mgu}
use Rattle.tp_meaning.specs.Clauses.{Clause, Base, renamed, head_of}
use Rattle.tp_store.specs.Contents.{Contents, IsStore, Names, Keeps, AddsCells, CanGoBack, with_vars, subst_of, cut_to_mark}
use Rattle.tp_store.specs.Copy.{IsClaimed}
use Rattle.tp_store.specs.Logged.{LogsHead}
use Rattle.tp_store.proofs.Standing.Facts.{can_go_back, went_back}
use Rattle.tp_clauses.specs.declared.base.ClauseId.{ClauseId}
use Rattle.tp_clauses.specs.declared.base.ClauseView.{ClauseView}
use Rattle.tp_clauses.specs.Contents as kept
use Rattle.tp_clauses.specs.Contents.{AreBelow, IsHead, ViewFits, clause_of, clauses_at}
use Rattle.tp_machine.specs.Program.{head_term, body_term}
use Rattle.tp_machine.specs.Heads.{unifier, hits, EntersClause}

-- variables that were claimed and are given back
module _ (old claimed : Contents) (n : ℕ) (vars : claimed ≡ with_vars old n) (mark : StoreMark) (s : IsStore old) (cells_marked : mark.cells ≡ length old.cells) (vars_marked : mark.vars ≡ old.vars) where
  claimed_cells : claimed.cells ≡ old.cells ++ []
  claimed_cells = ap (λ (c : Contents). c.cells) vars ∙ sym (append-nil old.cells)

  claimed_pairs : claimed.pairs ≡ old.pairs
  claimed_pairs = ap (λ (c : Contents). c.pairs) vars

  claimed_vars : claimed.vars ≡ old.vars + n
  claimed_vars = ap (λ (c : Contents). c.vars) vars

  pub claimed_can : CanGoBack claimed mark
  claimed_can = can_go_back old claimed mark [] s claimed_cells claimed_pairs (omega (arith, claimed_vars)) cells_marked vars_marked

  pub claimed_back : cut_to_mark claimed mark ≡ old
  claimed_back = went_back old claimed mark [] s claimed_cells claimed_pairs (omega (arith, claimed_vars)) cells_marked vars_marked

-- what a call that answers a unifier found
pub was_found : (r : Bool) (u : Subst) (o : Option Subst) → o ≡ (if r then Some u else None) → is_some o ≡ true → o ≡ Some u
was_found true u o e h = e
was_found false u o e h = absurd (let k : is_some o ≡ false = ap is_some e in cc)

-- variables numbered on from the claimed number
pub claimed_by : (cells : List Cell) (at : Ref) (base vars n : ℕ) → AreBelow cells n at → vars ≡ base + n → IsClaimed cells at.at base vars
claimed_by cells at base vars n h e = λ v o. let lt : v < n = h v o in omega (arith, e)

-- ---- the clauses at the places of a predicate

module _ (names : List Name) (cells : List Cell) (vs : List ClauseView) where
  abbrev at_id : ClauseId → Option Clause
  at_id id = option_map (clause_of names cells) (slice_get vs id.at)

  pub record Here (cs : Base) (k : ℕ) (i : ClauseId) : Type 0 where
    pub view : ClauseView
    pub there : slice_get vs i.at ≡ Some view
    pub next : drop k cs ≡ clause_of names cells view ∷ drop (suc k) cs

  found_view : (i : ClauseId) (c : Clause) (cs : Base) (o : Option ClauseView) → slice_get vs i.at ≡ o → option_map (clause_of names cells) o ≡ Some c → Here (c ∷ cs) 0 i
  found_view i c cs None e h = absurd (cc)
  found_view i c cs (Some v) e h = let same : clause_of names cells v ≡ c = some_same (clause_of names cells v) c h in record { view = v; there = e; next = ap (λ (d : Clause). d ∷ cs) (sym same) }
    where
      some_same : (x y : Clause) → Some x ≡ Some y → x ≡ y
      some_same x y e' = cc

  pub clause_here : (d : ClauseId) (ps : List ClauseId) (cs : Base) (k : ℕ) → map at_id ps ≡ map Some cs → k < length ps → Here cs k (get_or ps k d)
  clause_here d [] cs k h lt = absurd (omega arith)
  clause_here d (p ∷ ps) [] k h lt = absurd (cc)
  clause_here d (p ∷ ps) (c ∷ cs) zero h lt = found_view p c cs (slice_get vs p.at) refl (let e : at_id p ≡ Some c = cc in e)
  clause_here d (p ∷ ps) (c ∷ cs) (suc k) h lt =
      let rest : map at_id ps ≡ map Some cs = cc in
      let found = clause_here d ps cs k rest (omega arith) in
      record { view = found.view; there = found.there; next = found.next }

  pub none_past : (ps : List ClauseId) (cs : Base) (k : ℕ) → map at_id ps ≡ map Some cs → length ps ≤ k → drop k cs ≡ []
  none_past [] [] k h le = drop-nil k
    where
      drop-nil : (k : ℕ) → ◌≡◌ {A = Base} (drop k []) []
      drop-nil zero = refl
      drop-nil (suc k) = refl
  none_past [] (c ∷ cs) k h le = absurd (cc)
  none_past (p ∷ ps) [] k h le = absurd (cc)
  none_past (p ∷ ps) (c ∷ cs) zero h le = absurd (omega arith)
  none_past (p ∷ ps) (c ∷ cs) (suc k) h le = none_past ps cs k (let rest : map at_id ps ≡ map Some cs = cc in rest) (omega arith)

-- ---- the head of a clause

some_args : (names : List Name) (cells : List Cell) (f : Name) (a n : ℕ) → 0 < n → Comp f (args_at names cells a n) ≡ term_of f (args_at names cells a n)
some_args names cells f a zero lt = absurd (omega arith)
some_args names cells f a (suc n) lt = refl

pub head_is : (names : List Name) (cells : List Cell) (v : ClauseView) → AreBuilt cells → ViewFits cells v → head_term names cells v ≡ head_of (clause_of names cells v)
head_is names cells v built fits = go (get_or cells v.head.at (cell.Var 0)) (slice_get-get_or cells v.head.at (cell.Var 0) fits.head)
  where
    cell_head : (x : Cell) → IsHead (Some x) → StandsBefore v.head.at x → shown_from names cells x ≡ head_of (kept.clause_by (shown_from names cells x) (body_term names cells v) v.vars)
    cell_head (cell.Var w) k b = absurd k
    cell_head (cell.Int z) k b = absurd k
    cell_head (cell.Atom a) k b = refl
    cell_head (cell.Comp f first n) k b = some_args names cells (name_at names f.at) first.at n b.0

    go : (x : Cell) → slice_get cells v.head.at ≡ Some x → shows names cells v.head.at ≡ head_of (kept.clause_by (shows names cells v.head.at) (body_term names cells v) v.vars)
    go x e =
        subst (λ t. t ≡ head_of (kept.clause_by t (body_term names cells v) v.vars)) (sym (shows-cell names cells v.head.at x e (built v.head.at x e)))
        (cell_head x (subst (λ o. IsHead o) e fits.named) (built v.head.at x e))

-- ---- the first hit

pub hit_here : {A : Type 0} (t : A → Bool) (n : ℕ) (xs : List A) (x : A) (more : List A) → xs ≡ x ∷ more → t x ≡ true → position_from t n xs ≡ Some n
hit_here t n xs x more e h = ap (position_from t n) e ∙ ap (λ b. if b then Some n else position_from t (n + 1) more) h

pub hit_later : {A : Type 0} (t : A → Bool) (n : ℕ) (xs : List A) (x : A) (more : List A) → xs ≡ x ∷ more → t x ≡ false → position_from t n xs ≡ position_from t (n + 1) more
hit_later t n xs x more e h = ap (position_from t n) e ∙ ap (λ b. if b then Some n else position_from t (n + 1) more) h

-- ---- a clause entered

module _ (names : List Name) (goal : ℕ) (cells : List Cell) (t : ClauseView) (old claimed new : Contents) (before after : List Entry) (vars : claimed ≡ with_vars old t.vars) (base : ℕ) (met : Bool) (first : base ≡ old.vars)
    (found : mgu (subst_of names claimed) (shows names claimed.cells goal) (renamed base (head_term names cells t)) ≡ (if met then Some (subst_of names new) else None))
    (logged : LogsHead claimed new before after) (keeps : (at : ℕ) → at < length claimed.cells → shows names new.cells at ≡ shows names claimed.cells at) (named : AreNamed (length names) new.cells) where
  unified : is_some (unifier names old goal (head_term names cells t)) ≡ true → unifier names old goal (head_term names cells t) ≡ Some (subst_of names new)
  unified h =
      was_found met (subst_of names new) (unifier names old goal (head_term names cells t))
      (sym (ap (λ (c : Contents). mgu (subst_of names c) (shows names c.cells goal) (renamed base (head_term names cells t))) vars
      ∙ ap (λ b. mgu (subst_of names old) (shows names old.cells goal) (renamed b (head_term names cells t))) first)
      ∙ found) h

  -- whether the head and the goal have a unifier is what was answered
  pub unifies : met ≡ is_some (unifier names old goal (head_term names cells t))
  unifies =
      sym (ap is_some (sym (ap (λ (c : Contents). mgu (subst_of names c) (shows names c.cells goal) (renamed base (head_term names cells t))) vars
      ∙ ap (λ b. mgu (subst_of names old) (shows names old.cells goal) (renamed b (head_term names cells t))) first) ∙ found) ∙ by_met met)
    where
      by_met : (b : Bool) → is_some (if b then Some (subst_of names new) else None) ≡ b
      by_met true = refl
      by_met false = refl

  new_vars : new.vars ≡ old.vars + t.vars
  new_vars = logged.vars ∙ ap (λ (c : Contents). c.vars) vars

  new_cells : new.cells ≡ old.cells ++ logged.more_cells
  new_cells = logged.cells ∙ ap (λ (c : Contents). c.cells ++ logged.more_cells) vars

  new_longer : length old.cells ≤ length new.cells
  new_longer = omega (arith, ap length new_cells, length-append old.cells logged.more_cells)

  new_kept : (at : ℕ) → at < length old.cells → shows names new.cells at ≡ shows names old.cells at
  new_kept at lt = keeps at (subst (λ (c : Contents). at < length c.cells) (sym vars) lt) ∙ ap (λ (c : Contents). shows names c.cells at) vars

  pub entered_none : t.body ≡ None → EntersClause names goal cells t old None new
  entered_none e = record {
    unified = unified;
    vars = new_vars;
    longer = new_longer;
    kept = new_kept;
    body = ap (λ o. option_map (renamed old.vars) (option_map (λ (r : Ref). shows names cells r.at) o)) (sym e);
    within = tt;
    atoms = named;
  }

  pub entered_some : (last : Contents) (b r : Ref) → AddsCells new last → Keeps new last → t.body ≡ Some b → shows names last.cells r.at ≡ renamed base (shows names cells b.at) → r.at < length last.cells → AreNamed (length names) last.cells → EntersClause names goal cells t old (Some r) last
  entered_some last b r more kept e is lt all = record {
    unified = λ h. unified h ∙ ap Some (sym (kept.bindings names));
    vars = more.vars ∙ new_vars;
    longer = (let h = new_longer in omega (arith, ap length more.cells, length-append new.cells more.more));
    kept = λ at l. kept.terms names at (let h = new_longer in omega arith) ∙ new_kept at l;
    body = ap Some (is ∙ ap (λ n. renamed n (shows names cells b.at)) first) ∙ ap (λ o. option_map (renamed old.vars) (option_map (λ (q : Ref). shows names cells q.at) o)) (sym e);
    within = lt;
    atoms = all;
  }

-- names for the cells behind a head
pub head_names : (names : List Name) (cells : List Cell) (old claimed new : Contents) (n : ℕ) → claimed ≡ with_vars old n → AreNamed (length names) cells → Names names old.cells → ((k : ℕ) → AreNamed k cells → AreNamed k claimed.cells → AreNamed k new.cells) → AreNamed (length names) new.cells
head_names names cells old claimed new n vars named h more = more (length names) named (subst (λ (c : Contents). AreNamed (length names) c.cells) (sym vars) h.named)

pub claimed_names : (names : List Name) (old claimed : Contents) (n : ℕ) → claimed ≡ with_vars old n → Names names old.cells → Names names claimed.cells
claimed_names names old claimed n vars h = subst (λ (c : Contents). Names names c.cells) (sym vars) h

-- the store grew by that
pub grows_none : (old claimed new : Contents) (before after : List Entry) (n : ℕ) → claimed ≡ with_vars old n → LogsHead claimed new before after → StoreGrows old new before after
grows_none old claimed new before after n vars l = record {
  more_cells = l.more_cells;
  more = l.more;
  cells = l.cells ∙ ap (λ (c : Contents). c.cells ++ l.more_cells) vars;
  pairs = l.pairs ∙ ap (λ (c : Contents). l.more ++ c.pairs) vars;
  vars = omega (arith, l.vars, ap (λ (c : Contents). c.vars) vars);
  log = l.log;
}

pub grows_some : (old claimed new last : Contents) (before after : List Entry) (n : ℕ) → claimed ≡ with_vars old n → LogsHead claimed new before after → AddsCells new last → StoreGrows old last before after
grows_some old claimed new last before after n vars l a =
    let same : claimed.vars ≡ old.vars + n = ap (λ (c : Contents). c.vars) vars in
    record {
      more_cells = l.more_cells ++ a.more;
      more = l.more;
      cells = a.cells ∙ ap (λ cs. cs ++ a.more) (l.cells ∙ ap (λ (c : Contents). c.cells ++ l.more_cells) vars) ∙ append_assoc old.cells l.more_cells a.more;
      pairs = a.pairs ∙ l.pairs ∙ ap (λ (c : Contents). l.more ++ c.pairs) vars;
      vars = omega (arith, same, l.vars, a.vars);
      log = l.log;
    }

-- the clause of a place, and the view that the code reads there
module _ (names : List Name) (b : kept.Contents) (cs : Base) (ps : List ClauseId) (h : clauses_at names b ps ≡ map Some cs) (k : ℕ) (i : ClauseId) (at : slice_get ps k ≡ Some i) where
  here : Here names b.cells b.clauses cs k i
  here = subst (Here names b.cells b.clauses cs k) (get_or_from_slice_get ps k i i at) (clause_here names b.cells b.clauses i ps cs k h (slice_get_within ps k i at))

  pub place_within : i.at < length b.clauses
  place_within = slice_get_within b.clauses i.at (here).view (here).there

  module _ (v : ClauseView) (is : slice_get b.clauses i.at ≡ Some v) where
    view_is : (here).view ≡ v
    view_is = some_same (here).view v (sym (here).there ∙ is)
      where
        some_same : (x y : ClauseView) → Some x ≡ Some y → x ≡ y
        some_same x y e = cc

    pub here_next : drop k cs ≡ clause_of names b.cells v ∷ drop (k + 1) cs
    here_next = (here).next ∙ ap (λ (u : ClauseView). clause_of names b.cells u ∷ drop (suc k) cs) view_is ∙ ap (λ j. clause_of names b.cells v ∷ drop j cs) (let z : suc k ≡ k + 1 = omega arith in z)

pub view_hits : (names : List Name) (cells : List Cell) (v : ClauseView) → AreBuilt cells → ViewFits cells v → (c : Contents) (goal : ℕ) (found : Bool) → found ≡ is_some (unifier names c goal (head_term names cells v)) → hits names c goal (clause_of names cells v) ≡ found
view_hits names cells v built fits c goal found e = ap (λ q. is_some (unifier names c goal q)) (sym (head_is names cells v built fits)) ∙ sym e

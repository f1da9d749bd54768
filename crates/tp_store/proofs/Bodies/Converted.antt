-- Bodies of goals.
use Rattle.std.specs.Prelude.{codes}
use Rattle.std.proofs.Common.{◌≡◌, ℕ, zero, suc, ◌+◌, ◌<◌, ◌≤◌, Bool, true, false, cond, nat_eq, ◌&&◌, ◌||◌, List, [], ◌∷◌, ◌++◌, length, reverse, get_or, Option, Some, None, slice_get, Result, Ok, Err, IfOk, OnOk, OnErr, refl, sym, ap, subst, ◌∙◌, arith, append_assoc, append-nil, length-append, add-one}
use Rattle.std.proofs.lemmas.Bool.{eqb-true}
use Rattle.std.proofs.lemmas.List.{reverse-reverse}
use Rattle.std.proofs.lemmas.Option.{slice_get_within}
use Rattle.tp_terms.specs.declared.cells.AtomId.{AtomId}
use Rattle.tp_terms.specs.declared.cells.Cell.{Cell}
use Rattle.tp_terms.specs.declared.cells.Cell.TheVariants as cell
use Rattle.tp_terms.specs.declared.cells.Ref.{Ref}
use Rattle.tp_terms.specs.declared.symbols.TheConstants.{CALL}
use Rattle.tp_terms.specs.Names.{IsTable}
use Rattle.tp_terms.specs.StartNames.{start_names}
use Rattle.tp_terms.specs.Shown.{name_at, shows, StandsBefore, AreNamed, IsNamed}
use Rattle.tp_terms.specs.Term.{Name, Term, Var, Comp, NoMore, More, names_eq, term_size}
use Rattle.tp_terms.proofs.Places.Shown.{shows-push, shows-cell, AreNamed-append, AreNamed-cell}
use Rattle.tp_terms.proofs.Naming.Tables.{slice_get-append}
use Rattle.tp_terms.proofs.Naming.Start.{start-name_at, start-within, names_eq-start}
use Rattle.tp_meaning.specs.Body.{body, joins_goals, pair_body}
use Rattle.tp_meaning.specs.Subst.{apply, value_at}
use Rattle.tp_meaning.proofs.Unification.Complete.{has_size}
use Rattle.tp_store.specs.declared.body.Form.TheVariants.{Integer, Variable, Pair, Plain}
use Rattle.tp_store.specs.declared.body.Job.{Job}
use Rattle.tp_store.specs.declared.body.Job.TheVariants.{Convert, Join}
use Rattle.tp_store.specs.declared.chains.End.{End}
use Rattle.tp_store.specs.Contents.{Contents, AddsCells, IsStore, IsUnbound, chained, subst_of, seen, seen_cell, with_cell}
use Rattle.tp_store.specs.Chain.{IsEnd}
use Rattle.tp_store.specs.Work.{AreIn}
use Rattle.tp_store.specs.Bodies.{joins, compound_form, form_of, pair_of, IsPair, asks_memory, onward, bodies_by, seen_each, AreJobs, AreOwn, AsksMemory, KeepsOwn, jobs_size, Goes, Looked}
use Rattle.tp_store.proofs.Substitution.Kept.{seen-append, subst_of-append}
use Rattle.tp_store.proofs.Standing.Facts.{value-unbound}

-- ---- cells that are added

pub adds_none : (c : Contents) → AddsCells c c
adds_none c = record { more = []; cells = sym (append-nil c.cells); pairs = refl; vars = refl }

pub adds_both : (a b c : Contents) → AddsCells a b → AddsCells b c → AddsCells a c
adds_both a b c f g = record {
  more = f.more ++ g.more;
  cells = g.cells ∙ ap (λ cs. cs ++ g.more) f.cells ∙ append_assoc a.cells f.more g.more;
  pairs = g.pairs ∙ f.pairs;
  vars = g.vars ∙ f.vars;
}

pub adds_cell : (c c' : Contents) (x : Cell) → c' ≡ with_cell c x → AddsCells c c'
adds_cell c c' x e = record { more = x ∷ []; cells = ap (λ (y : Contents). y.cells) e; pairs = ap (λ (y : Contents). y.pairs) e; vars = ap (λ (y : Contents). y.vars) e }

onward_same : (o : Option Term) (f g : Term → Option (List Term)) → ((t : Term) → f t ≡ g t) → onward o f ≡ onward o g
onward_same None f g h = refl
onward_same (Some t) f g h = h t

module _ (c c' : Contents) (s : IsStore c) (a : AddsCells c c') where
  pub longer : length c.cells ≤ length c'.cells
  longer = omega (arith, ap length a.cells, length-append c.cells a.more)

  pub seen-later : (names : List Name) (at : ℕ) → at < length c.cells → seen names c' at ≡ seen names c at
  seen-later names at lt =
      ap (λ cs. apply (chained names cs c'.pairs) (shows names cs at)) a.cells
      ∙ ap (λ ps. apply (chained names (c.cells ++ a.more) ps) (shows names (c.cells ++ a.more) at)) a.pairs
      ∙ seen-append names c a.more at s lt

  AreIn-later : (rs : List Ref) → AreIn c.cells rs → AreIn c'.cells rs
  AreIn-later [] h = tt
  AreIn-later (r ∷ rs) h = ((let lt : r.at < length c.cells = h.0 in omega (arith, longer)), AreIn-later rs h.1)

  seen_each-later : (names : List Name) (rs : List Ref) → AreIn c.cells rs → seen_each names c' rs ≡ seen_each names c rs
  seen_each-later names [] h = refl
  seen_each-later names (r ∷ rs) h = ap (λ t. t ∷ seen_each names c' rs) (seen-later names r.at h.0) ∙ ap (λ ts. seen names c r.at ∷ ts) (seen_each-later names rs h.1)

  IsPair-later : (at : ℕ) (name : AtomId) (left right : ℕ) → IsPair c at name left right → IsPair c' at name left right
  IsPair-later at name left right h = record {
    within = (let lt : at < length c.cells = h.within in omega (arith, longer));
    first = (let lt : left < length c.cells = h.first in omega (arith, longer));
    second = (let lt : right < length c.cells = h.second in omega (arith, longer));
    joined = λ names. seen-later names at h.within ∙ h.joined names
        ∙ ap (λ t. pair_of (name_at names name.at) t (seen names c right)) (sym (seen-later names left h.first))
        ∙ ap (pair_of (name_at names name.at) (seen names c' left)) (sym (seen-later names right h.second));
  }

  AreJobs-later : (jobs : List Job) (n : ℕ) → AreJobs c jobs n → AreJobs c' jobs n
  AreJobs-later [] n h = h
  AreJobs-later (Convert at ∷ jobs) n h = ((let lt : at.at < length c.cells = h.0 in omega (arith, longer)), AreJobs-later jobs (suc n) h.1)
  AreJobs-later (Join at name left right ∷ jobs) n h = (IsPair-later at.at name left.at right.at h.0, (h.1.0, h.1.1, AreJobs-later jobs (suc h.1.0) h.1.2))

  bodies_by-later : (names : List Name) (jobs : List Job) (n : ℕ) (ts : List Term) → AreJobs c jobs n → bodies_by names c' jobs ts ≡ bodies_by names c jobs ts
  bodies_by-later names [] n ts h = refl
  bodies_by-later names (Convert at ∷ jobs) n ts h =
      ap (λ t. onward (body t) (λ b. bodies_by names c' jobs (b ∷ ts))) (seen-later names at.at h.0)
      ∙ onward_same (body (seen names c at.at)) (λ b. bodies_by names c' jobs (b ∷ ts)) (λ b. bodies_by names c jobs (b ∷ ts)) (λ b. bodies_by-later names jobs (suc n) (b ∷ ts) h.1)
  bodies_by-later names (Join at name left right ∷ jobs) n [] h = refl
  bodies_by-later names (Join at name left right ∷ jobs) n (b ∷ []) h = refl
  bodies_by-later names (Join at name left right ∷ jobs) n (b ∷ a ∷ ts) h = bodies_by-later names jobs (suc h.1.0) (pair_of (name_at names name.at) a b ∷ ts) h.1.2

  jobs_size-later : (jobs : List Job) (n : ℕ) → AreJobs c jobs n → jobs_size c' jobs ≡ jobs_size c jobs
  jobs_size-later [] n h = refl
  jobs_size-later (Convert at ∷ jobs) n h =
      ap (λ t. term_size t + term_size t + jobs_size c' jobs) (seen-later [] at.at h.0) ∙ ap (λ k. term_size (seen [] c at.at) + term_size (seen [] c at.at) + k) (jobs_size-later jobs (suc n) h.1)
  jobs_size-later (Join at name left right ∷ jobs) n h = ap (λ k. 1 + k) (jobs_size-later jobs (suc h.1.0) h.1.2)

-- ---- what a cell is as a goal

module _ (names : List Name) (table : IsTable names) where
  joins-same : (name : AtomId) → name.at < length names → joins_goals (name_at names name.at) ≡ joins name
  unfolding start_names
  joins-same name lt =
      ap (λ b. (b || names_eq (name_at names name.at) (codes ";")) || names_eq (name_at names name.at) (codes "->")) (names_eq-start names table name.at 5 (codes ",") lt refl)
      ∙ ap (λ b. (nat_eq name.at 5 || b) || names_eq (name_at names name.at) (codes "->")) (names_eq-start names table name.at 7 (codes ";") lt refl)
      ∙ ap (λ b. (nat_eq name.at 5 || nat_eq name.at 7) || b) (names_eq-start names table name.at 8 (codes "->") lt refl)

  call-named : name_at names CALL.at ≡ codes "call"
  unfolding start_names
  call-named = start-name_at names table 10 (codes "call") refl

never_integer : (b : Bool) (name : AtomId) (first : Ref) → cond b (Pair name first) Plain ≡ Integer → ⊥
never_integer true name first e = cc
never_integer false name first e = cc

never_variable : (b : Bool) (name : AtomId) (first : Ref) → cond b (Pair name first) Plain ≡ Variable → ⊥
never_variable true name first e = cc
never_variable false name first e = cc

plain_not : (b : Bool) (name : AtomId) (first : Ref) → cond b (Pair name first) Plain ≡ Plain → b ≡ false
plain_not true name first e = absurd (cc)
plain_not false name first e = refl

-- a compound is two goals exactly by its name and its two arguments
pair_is : (count : ℕ) (n name : AtomId) (f first : Ref) → compound_form n f count ≡ Pair name first → (cell.Comp n f count ≡ cell.Comp name first 2) × (joins name ≡ true)
pair_is count n name f first e = go (nat_eq count 2) refl (joins n) refl e
  where
    go : (a : Bool) → nat_eq count 2 ≡ a → (b : Bool) → joins n ≡ b → cond (a && b) (Pair n f) Plain ≡ Pair name first → (cell.Comp n f count ≡ cell.Comp name first 2) × (joins name ≡ true)
    go false x b y w = absurd (cc)
    go true x false y w = absurd (cc)
    go true x true y w =
        let two : count ≡ 2 = eqb-true count 2 x in
        let same_name : n ≡ name = cc in
        let same_first : f ≡ first = cc in
        (ap (cell.Comp n f) two ∙ ap (λ k. cell.Comp k f 2) same_name ∙ ap (λ k. cell.Comp name k 2) same_first, ap joins (sym same_name) ∙ y)

pair_cell : (x : Cell) (name : AtomId) (first : Ref) → form_of x ≡ Pair name first → (x ≡ cell.Comp name first 2) × (joins name ≡ true)
pair_cell (cell.Var v) name first e = absurd (cc)
pair_cell (cell.Int value) name first e = absurd (cc)
pair_cell (cell.Atom n) name first e = absurd (cc)
pair_cell (cell.Comp n f count) name first e = pair_is count n name f first e

-- ---- bodies by cells

module _ (names : List Name) (c : Contents) where
  body-integer : (x : Cell) → form_of x ≡ Integer → body (seen_cell names c x) ≡ None
  body-integer (cell.Var v) e = absurd (cc)
  body-integer (cell.Int value) e = refl
  body-integer (cell.Atom name) e = absurd (cc)
  body-integer (cell.Comp name first count) e = absurd (never_integer (nat_eq count 2 && joins name) name first e)

  body-variable : IsStore c → (x : Cell) → form_of x ≡ Variable → IsUnbound c.pairs x → body (seen_cell names c x) ≡ Some (Comp (codes "call") (More (seen_cell names c x) NoMore))
  body-variable s (cell.Var v) e free = let own : value_at (subst_of names c) v ≡ Var v = value-unbound names c v s free in ap body own ∙ ap (λ t. Some (Comp (codes "call") (More t NoMore))) (sym own)
  body-variable s (cell.Int value) e free = absurd (cc)
  body-variable s (cell.Atom name) e free = absurd (cc)
  body-variable s (cell.Comp name first count) e free = absurd (never_variable (nat_eq count 2 && joins name) name first e)

  -- a variable isn't its own body
  variable_called : IsStore c → (x : Cell) → form_of x ≡ Variable → IsUnbound c.pairs x → body (seen_cell names c x) ≡ Some (seen_cell names c x) → ⊥
  variable_called s (cell.Var v) e free own =
      let value : value_at (subst_of names c) v ≡ Var v = value-unbound names c v s free in
      let called : Some (Comp (codes "call") (More (value_at (subst_of names c) v) NoMore)) ≡ Some (value_at (subst_of names c) v) = sym (body-variable s (cell.Var v) e free) ∙ own in
      absurd (cc)
  variable_called s (cell.Int value) e free own = absurd (cc)
  variable_called s (cell.Atom name) e free own = absurd (cc)
  variable_called s (cell.Comp name first count) e free own = absurd (never_variable (nat_eq count 2 && joins name) name first e)

  body-plain : IsTable names → (x : Cell) → IsNamed (length names) x → form_of x ≡ Plain → body (seen_cell names c x) ≡ Some (seen_cell names c x)
  body-plain t (cell.Var v) lt e = absurd (cc)
  body-plain t (cell.Int value) lt e = absurd (cc)
  body-plain t (cell.Atom name) lt e = refl
  body-plain t (cell.Comp name first zero) lt e = refl
  body-plain t (cell.Comp name first (suc zero)) lt e = refl
  body-plain t (cell.Comp name first (suc (suc zero))) lt e =
      let a : Term = seen names c first.at in
      let b : Term = seen names c (suc first.at) in
      ap (λ z. cond z (pair_body (name_at names name.at) (body a) (body b)) (Some (pair_of (name_at names name.at) a b))) (joins-same names t name lt ∙ plain_not (joins name) name first e)
  body-plain t (cell.Comp name first (suc (suc (suc n)))) lt e = refl

  body-pair : IsTable names → (x : Cell) (name : AtomId) (first : Ref) → IsNamed (length names) x → form_of x ≡ Pair name first → body (seen_cell names c x) ≡ pair_body (name_at names name.at) (body (seen names c first.at)) (body (seen names c (suc first.at)))
  body-pair t x name first lt e =
      let p = pair_cell x name first e in
      let a : Term = seen names c first.at in
      let b : Term = seen names c (suc first.at) in
      let low : name.at < length names = subst (IsNamed (length names)) p.0 lt in
      ap (λ y. body (seen_cell names c y)) p.0
      ∙ ap (λ z. cond z (pair_body (name_at names name.at) (body a) (body b)) (Some (pair_of (name_at names name.at) a b))) (joins-same names t name low ∙ p.1)

-- two goals that are their own bodies when they are joined are their own bodies each
parts_own : (f : Name) (x y : Option Term) (a b : Term) → pair_body f x y ≡ Some (pair_of f a b) → (x ≡ Some a) × (y ≡ Some b)
parts_own f None y a b e = absurd (cc)
parts_own f (Some x) None a b e = absurd (cc)
parts_own f (Some x) (Some y) a b e = (cc, cc)

pair_onward : (f : Name) (a b : Option Term) (k : Term → Option (List Term)) → onward a (λ x. onward b (λ y. k (pair_of f x y))) ≡ onward (pair_body f a b) k
pair_onward f None b k = refl
pair_onward f (Some x) None k = refl
pair_onward f (Some x) (Some y) k = refl

-- ---- one goal

module _ (c : Contents) (s : IsStore c) (at : Ref) (jobs : List Job) (made : List Ref) (can : AreJobs c (Convert at ∷ jobs) (length made)) (within : AreIn c.cells made)
    (e : End) (end : IsEnd c e) (same : (names : List Name) → seen_cell names c e.cell ≡ seen names c at.at) where
  one_more : (c' : Contents) → AddsCells c c' → (p : Ref) → p.at < length c'.cells →
      ((names : List Name) → IsTable names → AreNamed (length names) c.cells → body (seen names c at.at) ≡ Some (seen names c' p.at)) →
      ((names : List Name) → IsTable names → AreNamed (length names) c.cells → body (seen names c at.at) ≡ Some (seen names c at.at) → (c' ≡ c) × (p ≡ at)) →
      ((n : ℕ) → CALL.at < n → AreNamed n c.cells → AreNamed n c'.cells) → Looked true c at jobs made c' jobs (p ∷ made)
  one_more c' a p lt is own named = (
    record {
      adds = a;
      can = AreJobs-later c c' s a jobs (suc (length made)) can.1;
      within = (lt, AreIn-later c c' s a made within);
      named = λ n k h j. (named n k h, j);
      same = λ names t h j.
          bodies_by-later c c' s a names jobs (suc (length made)) (seen names c' p.at ∷ seen_each names c' made) can.1
          ∙ ap (λ ts. bodies_by names c jobs (seen names c' p.at ∷ ts)) (seen_each-later c c' s a names made within)
          ∙ ap (λ o. onward o (λ t. bodies_by names c jobs (t ∷ seen_each names c made))) (sym (is names t h));
      own = λ names t h root o.
          let q = own names t h o.0 in
          (q.0, subst (λ (x : Contents). AreOwn names x root jobs (p ∷ made)) (sym q.0) (subst (λ (r : Ref). AreOwn names c root jobs (r ∷ made)) (sym q.1) o.1));
    },
    let z : jobs_size c' jobs ≡ jobs_size c jobs = jobs_size-later c c' s a jobs (suc (length made)) can.1 in omega (arith, z, has_size (seen [] c at.at)),
  )

  named_cell : (names : List Name) → AreNamed (length names) c.cells → IsNamed (length names) e.cell
  named_cell names h = AreNamed-cell (length names) c.cells e.place.at e.cell h end.cell

  place_seen : (names : List Name) → seen names c e.place.at ≡ seen_cell names c e.cell
  place_seen names = ap (apply (subst_of names c)) (shows-cell names c.cells e.place.at e.cell end.cell end.before)

  pub looked_plain : form_of e.cell ≡ Plain → Looked true c at jobs made c jobs (at ∷ made)
  looked_plain is = one_more c (adds_none c) at can.0
      (λ names t h. ap body (sym (same names)) ∙ body-plain names c t e.cell (named_cell names h) is ∙ ap Some (same names)) (λ names t h o. (refl, refl)) (λ n k h. h)

  pub looked_variable : form_of e.cell ≡ Variable → (c' : Contents) → AddsCells c c' → (p : Ref) → p.at < length c'.cells →
      ((names : List Name) → seen names c' p.at ≡ Comp (name_at names CALL.at) (More (seen names c e.place.at) NoMore)) →
      ((n : ℕ) → CALL.at < n → AreNamed n c.cells → AreNamed n c'.cells) → Looked true c at jobs made c' jobs (p ∷ made)
  looked_variable is c' a p lt shown named = one_more c' a p lt
      (λ names t h.
      ap body (sym (same names)) ∙ body-variable names c s e.cell is end.unbound
      ∙ ap Some (ap (λ u. Comp (codes "call") (More u NoMore)) (sym (place_seen names)) ∙ ap (λ f. Comp f (More (seen names c e.place.at) NoMore)) (sym (call-named names t)) ∙ sym (shown names)))
      (λ names t h o. absurd (variable_called names c s e.cell is end.unbound (ap body (same names) ∙ o ∙ ap Some (sym (same names)))))
      named

  module _ (name : AtomId) (first second : Ref) (is : form_of e.cell ≡ Pair name first) (next : second.at ≡ first.at + 1) where
    pub second_within : first.at + 1 < e.place.at
    second_within = let b = subst (StandsBefore e.place.at) (pair_cell e.cell name first is).0 end.before in let le : first.at + 2 ≤ e.place.at = b.1 in omega arith

    following : second.at ≡ suc first.at
    following = next ∙ add-one first.at

    two : IsPair c at.at name first.at second.at
    two =
        let room : e.place.at < length c.cells = end.place in
        record {
          within = can.0;
          first = omega (arith, second_within);
          second = omega (arith, second_within);
          joined = λ names. sym (same names) ∙ ap (seen_cell names c) (pair_cell e.cell name first is).0 ∙ ap (λ k. pair_of (name_at names name.at) (seen names c first.at) (seen names c k)) (sym following);
        }

    pub looked_pair : Looked true c at jobs made c (Convert first ∷ Convert second ∷ Join at name first second ∷ jobs) made
    looked_pair = (
      record {
        adds = adds_none c;
        can = (two.first, (two.second, (two, (length made, refl, can.1))));
        within = within;
        named = λ n k h j. (h, (subst (IsNamed n) (pair_cell e.cell name first is).0 (AreNamed-cell n c.cells e.place.at e.cell h end.cell), j));
        same = λ names t h j.
            pair_onward (name_at names name.at) (body (seen names c first.at)) (body (seen names c second.at)) (λ u. bodies_by names c jobs (u ∷ seen_each names c made))
            ∙ ap (λ k. onward (pair_body (name_at names name.at) (body (seen names c first.at)) (body (seen names c k))) (λ u. bodies_by names c jobs (u ∷ seen_each names c made))) following
            ∙ ap (λ o. onward o (λ u. bodies_by names c jobs (u ∷ seen_each names c made))) (sym (body-pair names c t e.cell name first (named_cell names h) is))
            ∙ ap (λ u. onward (body u) (λ v. bodies_by names c jobs (v ∷ seen_each names c made))) (same names);
        own = λ names t h root o.
            let b : pair_body (name_at names name.at) (body (seen names c first.at)) (body (seen names c second.at)) ≡ Some (pair_of (name_at names name.at) (seen names c first.at) (seen names c second.at)) =
            ap (λ k. pair_body (name_at names name.at) (body (seen names c first.at)) (body (seen names c k))) following
            ∙ sym (body-pair names c t e.cell name first (named_cell names h) is) ∙ ap body (same names) ∙ o.0 ∙ ap Some (two.joined names) in
            let q = parts_own (name_at names name.at) (body (seen names c first.at)) (body (seen names c second.at)) (seen names c first.at) (seen names c second.at) b in
            (refl, (q.0, (q.1, (made, refl, o.1))));
      },
      let z : term_size (seen [] c at.at) ≡ 1 + (term_size (seen [] c first.at) + (term_size (seen [] c second.at) + 0)) = ap term_size (two.joined []) in omega (arith, z),
    )

-- ---- two goals joined

module _ (c c' : Contents) (s : IsStore c) (a : AddsCells c c') (at : Ref) (name : AtomId) (left right : Ref) (jobs : List Job) (x y : Ref) (made : List Ref)
    (can : AreJobs c (Join at name left right ∷ jobs) (length (y ∷ x ∷ made))) (within : AreIn c.cells (y ∷ x ∷ made)) (p : Ref) (lt : p.at < length c'.cells)
    (shown : (names : List Name) → seen names c' p.at ≡ pair_of (name_at names name.at) (seen names c x.at) (seen names c y.at)) (named : (n : ℕ) → name.at < n → AreNamed n c.cells → AreNamed n c'.cells)
    (own : x ≡ left → y ≡ right → (c' ≡ c) × (p ≡ at)) where
  left_over : AreJobs c jobs (suc (length made))
  left_over = let q : suc (suc (length made)) ≡ suc (suc can.1.0) = can.1.1 in let r : can.1.0 ≡ length made = omega arith in subst (λ n. AreJobs c jobs (suc n)) r can.1.2

  pub joined_on : Goes c (Join at name left right ∷ jobs) (y ∷ x ∷ made) c' jobs (p ∷ made)
  joined_on = record {
    adds = a;
    can = AreJobs-later c c' s a jobs (suc (length made)) left_over;
    within = (lt, AreIn-later c c' s a made within.1.1);
    named = λ n k h j. (named n j.0 h, j.1);
    same = λ names t h j.
        bodies_by-later c c' s a names jobs (suc (length made)) (seen names c' p.at ∷ seen_each names c' made) left_over
        ∙ ap (λ ts. bodies_by names c jobs (seen names c' p.at ∷ ts)) (seen_each-later c c' s a names made within.1.1)
        ∙ ap (λ u. bodies_by names c jobs (u ∷ seen_each names c made)) (shown names);
    own = λ names t h root o.
        let is : y ∷ x ∷ made ≡ right ∷ left ∷ o.0 = o.1 in
        let first : x ≡ left = cc in
        let second : y ≡ right = cc in
        let q = own first second in
        let rest : o.0 ≡ made = cc in (
          q.0,
          subst (λ (c2 : Contents). AreOwn names c2 root jobs (p ∷ made)) (sym q.0)
              (subst (λ (r : Ref). AreOwn names c root jobs (r ∷ made)) (sym q.1) (subst (λ (rs : List Ref). AreOwn names c root jobs (at ∷ rs)) rest o.2)),
        );
  }

-- ---- jobs one after another

pub goes_on : (c d e : Contents) (js ks ls : List Job) (ms ns os : List Ref) → Goes c js ms d ks ns → Goes d ks ns e ls os → Goes c js ms e ls os
goes_on c d e js ks ls ms ns os g h = record {
  adds = adds_both c d e g.adds h.adds;
  can = h.can;
  within = h.within;
  named = λ n k b j. let r = g.named n k b j in h.named n k r.0 r.1;
  same = λ names t b j. let r = g.named (length names) (start-within names t 10 (omega arith)) b j in h.same names t r.0 r.1 ∙ g.same names t b j;
  own = λ names t b root o.
      let q = g.own names t b root o in
      let r = h.own names t (subst (λ (x : Contents). AreNamed (length names) x.cells) (sym q.0) b) root q.1 in
      (r.0 ∙ q.0, r.1);
}

none_onward : (o : Option Term) → onward o (λ t. Some (t ∷ [])) ≡ None → o ≡ None
none_onward None e = refl
none_onward (Some t) e = absurd (cc)

some_onward : (o : Option Term) (t : Term) → Some (t ∷ []) ≡ onward o (λ u. Some (u ∷ [])) → Some t ≡ o
some_onward None t e = absurd (cc)
some_onward (Some u) t e = cc

-- where a goal without a body was come to, the first one has none
pub no_body : (c now : Contents) (root at : Ref) (jobs : List Job) (made : List Ref) → Goes c (Convert root ∷ []) [] now (Convert at ∷ jobs) made →
    ((names : List Name) → IsTable names → AreNamed (length names) now.cells → body (seen names now at.at) ≡ None) → (names : List Name) → IsTable names → AreNamed (length names) c.cells → body (seen names c root.at) ≡ None
no_body c now root at jobs made g none names t h =
    let r = g.named (length names) (start-within names t 10 (omega arith)) h tt in
    none_onward (body (seen names c root.at)) (sym (g.same names t h tt) ∙ ap (λ o. onward o (λ u. bodies_by names now jobs (u ∷ seen_each names now made))) (none names t r.0))

-- where no job is left, one body is made, and it is that of the first goal
pub record IsDone (c : Contents) (root : Ref) (now : Contents) (made : List Ref) : Type 0 where
  pub place : Ref
  pub only : made ≡ place ∷ []
  pub within : place.at < length now.cells
  pub found : (names : List Name) → IsTable names → AreNamed (length names) c.cells → Some (seen names now place.at) ≡ body (seen names c root.at)
  pub named : (n : ℕ) → CALL.at < n → AreNamed n c.cells → AreNamed n now.cells
  pub own : KeepsOwn c now root (Some place)

pub done : (c now : Contents) (root : Ref) (made : List Ref) → Goes c (Convert root ∷ []) [] now [] made → IsDone c root now made
done c now root [] g = absurd (let e = g.can in omega arith)
done c now root (r ∷ q ∷ made) g = absurd (let e = g.can in omega arith)
done c now root (r ∷ []) g = record {
  place = r;
  only = refl;
  within = g.within.0;
  found = λ names t h. some_onward (body (seen names c root.at)) (seen names now r.at) (g.same names t h tt);
  named = λ n k h. (g.named n k h tt).0;
  own = λ names t h o.
      let q = g.own names t h root (o, refl) in
      let is : r ∷ [] ≡ root ∷ [] = q.1 in
      record { place = (let e : r ≡ root = cc in ap Some e); same = q.0 };
}

-- a place was found for another one
pub own_at : (c now : Contents) (root p q : Ref) → q ≡ p → KeepsOwn c now root (Some p) → KeepsOwn c now root (Some q)
own_at c now root p q e h = subst (λ (r : Ref). KeepsOwn c now root (Some r)) (sym e) h

-- ---- goals that are made

-- what a new cell shows
pub new_cell : (c c' : Contents) (x : Cell) (at : ℕ) → IsStore c → c' ≡ with_cell c x → at ≡ length c.cells → (names : List Name) → seen names c' at ≡ seen_cell names c x
new_cell c c' x at s e last names =
    ap (λ (y : Contents). apply (chained names y.cells y.pairs) (shows names y.cells at)) e
    ∙ ap (λ u. apply u (shows names (c.cells ++ x ∷ []) at)) (subst_of-append names c (x ∷ []) s)
    ∙ ap (apply (subst_of names c)) (ap (shows names (c.cells ++ x ∷ [])) last ∙ shows-push names c.cells x)

pub named_more : (n : ℕ) (c c' : Contents) (x : Cell) → c' ≡ with_cell c x → AreNamed n c.cells → IsNamed n x → AreNamed n c'.cells
named_more n c c' x e h i = subst (λ (y : Contents). AreNamed n y.cells) (sym e) (AreNamed-append n c.cells (x ∷ []) h (i, tt))

pub called_shown : {E : Type 0} (r : Result Ref E) (c c' : Contents) (place : Ref) → IsStore c → IfOk r (λ at. at.at ≡ length c.cells) → OnOk r (c' ≡ with_cell c (cell.Comp CALL place 1)) →
    IfOk r (λ at. (names : List Name) → seen names c' at.at ≡ Comp (name_at names CALL.at) (More (seen names c place.at) NoMore))
called_shown (Ok at) c c' place s last e = new_cell c c' (cell.Comp CALL place 1) at.at s e last
called_shown (Err x) c c' place s last e = tt

pub called_named : {E : Type 0} (r : Result Ref E) (c c' : Contents) (place : Ref) → OnOk r (c' ≡ with_cell c (cell.Comp CALL place 1)) → OnOk r ((n : ℕ) → CALL.at < n → AreNamed n c.cells → AreNamed n c'.cells)
called_named (Ok at) c c' place e = λ n k h. named_more n c c' (cell.Comp CALL place 1) e h k
called_named (Err x) c c' place e = tt

-- two cells are put side by side, and then their compound
module _ (c d e : Contents) (s : IsStore c) (sd : IsStore d) (se : IsStore e) (left right : ℕ) (x y : Cell) (name : AtomId) (first : Ref)
    (at_left : slice_get c.cells left ≡ Some x) (before_left : StandsBefore left x) (at_right : slice_get c.cells right ≡ Some y) (before_right : StandsBefore right y)
    (put_left : d ≡ with_cell c x) (put_right : e ≡ with_cell d y) (starts : first.at ≡ length c.cells) where
  length-d : length d.cells ≡ length c.cells + 1
  length-d = ap (λ (z : Contents). length z.cells) put_left ∙ length-append c.cells (x ∷ [])

  seen_left : (names : List Name) → seen names e first.at ≡ seen names c left
  seen_left names =
      seen-later d e sd (adds_cell d e y put_right) names first.at (omega (arith, starts, length-d)) ∙ new_cell c d x first.at s put_left starts names
      ∙ ap (apply (subst_of names c)) (sym (shows-cell names c.cells left x at_left before_left))

  still_right : slice_get d.cells right ≡ Some y
  still_right = ap (λ (z : Contents). slice_get z.cells right) put_left ∙ slice_get-append c.cells (x ∷ []) right (slice_get_within c.cells right y at_right) ∙ at_right

  seen_right : (names : List Name) → seen names e (suc first.at) ≡ seen names c right
  seen_right names =
      new_cell d e y (suc first.at) sd put_right (omega (arith, starts, length-d)) names
      ∙ ap (apply (subst_of names d)) (sym (shows-cell names d.cells right y still_right before_right))
      ∙ seen-later c d s (adds_cell c d x put_left) names right (slice_get_within c.cells right y at_right)

  pub joined_shown : {E : Type 0} (r : Result Ref E) (c' : Contents) → IfOk r (λ at. at.at ≡ length e.cells) → OnOk r (c' ≡ with_cell e (cell.Comp name first 2)) →
      IfOk r (λ at. (names : List Name) → seen names c' at.at ≡ pair_of (name_at names name.at) (seen names c left) (seen names c right))
  joined_shown (Ok at) c' last put = λ names.
      new_cell e c' (cell.Comp name first 2) at.at se put last names
      ∙ ap (λ t. pair_of (name_at names name.at) t (seen names e (suc first.at))) (seen_left names) ∙ ap (pair_of (name_at names name.at) (seen names c left)) (seen_right names)
  joined_shown (Err z) c' last put = tt

  pub joined_named : {E : Type 0} (r : Result Ref E) (c' : Contents) → OnOk r (c' ≡ with_cell e (cell.Comp name first 2)) → OnOk r ((n : ℕ) → name.at < n → AreNamed n c.cells → AreNamed n c'.cells)
  joined_named (Ok at) c' put = λ n k h.
      let more_left : AreNamed n d.cells = named_more n c d x put_left h (AreNamed-cell n c.cells left x h at_left) in
      let more_right : AreNamed n e.cells = named_more n d e y put_right more_left (AreNamed-cell n c.cells right y h at_right) in
      named_more n e c' (cell.Comp name first 2) put more_right k
  joined_named (Err z) c' put = tt

pub join_smaller : (c c' : Contents) → IsStore c → AddsCells c c' → (at : Ref) (name : AtomId) (left right : Ref) (jobs : List Job) (n : ℕ) → AreJobs c (Join at name left right ∷ jobs) n → jobs_size c' jobs < jobs_size c (Join at name left right ∷ jobs)
join_smaller c c' s a at name left right jobs n h = let z : jobs_size c' jobs ≡ jobs_size c jobs = jobs_size-later c c' s a jobs (suc h.1.0) h.1.2 in omega (arith, z)

-- the only body that is made
pub first_made : (xs : List Ref) (x y : Ref) → reverse xs ≡ x ∷ [] → y ≡ get_or xs 0 y → y ≡ x
first_made xs x y only e = e ∙ ap (λ rs. get_or rs 0 y) (sym (reverse-reverse xs) ∙ ap reverse only)

pub plain_own : (c : Contents) (at : ℕ) (e : End) → IsEnd c e → ((names : List Name) → seen_cell names c e.cell ≡ seen names c at) → form_of e.cell ≡ Plain →
    (names : List Name) → IsTable names → AreNamed (length names) c.cells → body (seen names c at) ≡ Some (seen names c at)
plain_own c at e end same is names t h = ap body (sym (same names)) ∙ body-plain names c t e.cell (AreNamed-cell (length names) c.cells e.place.at e.cell h end.cell) is ∙ ap Some (same names)

pub none_own : (c now : Contents) (goal : Ref) → ((names : List Name) → IsTable names → AreNamed (length names) c.cells → body (seen names c goal.at) ≡ None) → KeepsOwn c now goal None
none_own c now goal none = λ names t h o. absurd (let e = none names t h in cc)

pub pairs_same : (p q : Ref × Ref) → p.0 ≡ q.0 → p.1 ≡ q.1 → p ≡ q
pairs_same (a, b) (c, d) e f = ap (λ (x : Ref). (x, b)) e ∙ ap (λ (x : Ref). (c, x)) f

asks_joined : (b : Bool) (name : AtomId) (first : Ref) → (cond b (Pair name first) Plain ≡ Plain → ⊥) → b ≡ true
asks_joined true name first plain = refl
asks_joined false name first plain = absurd (plain refl)

not_two : (n : ℕ) → nat_eq (suc (suc (suc n))) 2 ≡ false
not_two n = go (nat_eq (suc (suc (suc n))) 2) refl
  where
    go : (b : Bool) → nat_eq (suc (suc (suc n))) 2 ≡ b → b ≡ false
    go true e = let two : suc (suc (suc n)) ≡ 2 = eqb-true (suc (suc (suc n))) 2 e in absurd (omega arith)
    go false e = refl

-- a goal is a variable or two joined goals where it isn't its own body and no integer
module _ (c : Contents) (s : IsStore c) (names : List Name) (table : IsTable names) where
  asks_cell : (x : Cell) → IsNamed (length names) x → IsUnbound c.pairs x → (form_of x ≡ Plain → ⊥) → (form_of x ≡ Integer → ⊥) → asks_memory (seen_cell names c x) ≡ true
  asks_cell (cell.Var v) lt free plain integer = ap asks_memory (value-unbound names c v s free)
  asks_cell (cell.Int value) lt free plain integer = absurd (integer refl)
  asks_cell (cell.Atom name) lt free plain integer = absurd (plain refl)
  asks_cell (cell.Comp name first zero) lt free plain integer = absurd (plain refl)
  asks_cell (cell.Comp name first (suc zero)) lt free plain integer = absurd (plain refl)
  asks_cell (cell.Comp name first (suc (suc zero))) lt free plain integer = joins-same names table name lt ∙ asks_joined (joins name) name first plain
  asks_cell (cell.Comp name first (suc (suc (suc n)))) lt free plain integer = absurd (plain (ap (λ b. cond (b && joins name) (Pair name first) Plain) (not_two n)))

pub asks_for : (c : Contents) (goal : Ref) (e : End) → IsStore c → IsEnd c e → ((names : List Name) → seen_cell names c e.cell ≡ seen names c goal.at) →
    (form_of e.cell ≡ Plain → ⊥) → (form_of e.cell ≡ Integer → ⊥) → AsksMemory c goal
asks_for c goal e s end same plain integer = λ names t h.
    ap asks_memory (sym (same names)) ∙ asks_cell c s names t e.cell (AreNamed-cell (length names) c.cells e.place.at e.cell h end.cell) end.unbound plain integer

pub on_any_err : {A E P : Type 0} (r : Result A E) → P → OnErr r P
on_any_err (Ok x) p = tt
on_any_err (Err x) p = p

pub ok_value : {A E : Type 0} (r : Result A E) (a b : A) → r ≡ Ok a → r ≡ Ok b → a ≡ b
ok_value r a b e f = cc

-- Names are no matter for the form of what a place shows.
use Rattle.std.proofs.Common.{◌≡◌, ℕ, zero, suc, ◌+◌, Bool, true, false, cond, nat_eq, nat_lt, List, [], ◌∷◌, ◌++◌, map, get_or, refl, ap, sym, ◌∙◌}
use Rattle.std.proofs.lemmas.List.{map-append}
use Rattle.tp_terms.specs.declared.cells.Cell.{Cell}
use Rattle.tp_terms.specs.declared.cells.Cell.TheVariants as cell
use Rattle.tp_terms.specs.Binds.{Bindings}
use Rattle.tp_terms.specs.Shown.{name_at, row_at, shown_by, shows, terms_from}
use Rattle.tp_terms.specs.Term.{Name, Term, Terms, Var, Int, Atom, Comp, NoMore, More, replaced, all_replaced, count_of, args_of}
use Rattle.tp_meaning.specs.Subst.{Subst, apply, extended, for_one, put, value_at}
use Rattle.tp_store.specs.Contents.{Contents, chained, seen, subst_of}
use Rattle.tp_store.specs.Joined.{is_callable}

-- a term without its names
abbrev mutual
  pub nameless : Term → Term
  nameless (Var v) = Var v
  nameless (Int n) = Int n
  nameless (Atom a) = Atom []
  nameless (Comp f ts) = Comp [] (all_nameless ts)

  pub all_nameless : Terms → Terms
  all_nameless NoMore = NoMore
  all_nameless (More t ts) = More (nameless t) (all_nameless ts)

-- a substitution without names
abbrev pub without_names : Subst → Subst
without_names = map (λ e. (e.0, nameless e.1))

-- ---- what places show

name_at-none : (k : ℕ) → name_at [] k ≡ []
name_at-none zero = refl
name_at-none (suc k) = refl

at-nameless : (ts : List Term) (i : ℕ) → get_or (map nameless ts) i (Atom []) ≡ nameless (get_or ts i (Atom []))
at-nameless [] zero = refl
at-nameless [] (suc i) = refl
at-nameless (t ∷ ts) zero = refl
at-nameless (t ∷ ts) (suc i) = at-nameless ts i

row-nameless : (ts : List Term) (first n : ℕ) → row_at (map nameless ts) first n ≡ all_nameless (row_at ts first n)
row-nameless ts first zero = refl
row-nameless ts first (suc n) = ap (λ t. More t (row_at (map nameless ts) (suc first) n)) (at-nameless ts first) ∙ ap (More (nameless (get_or ts first (Atom [])))) (row-nameless ts (suc first) n)

module _ (names : List Name) where
  cell-nameless : (ts : List Term) (x : Cell) → shown_by [] (map nameless ts) x ≡ nameless (shown_by names ts x)
  cell-nameless ts (cell.Var number) = refl
  cell-nameless ts (cell.Int value) = refl
  cell-nameless ts (cell.Atom name) = ap Atom (name_at-none name.at)
  cell-nameless ts (cell.Comp name first count) = ap (λ f. Comp f (row_at (map nameless ts) first.at count)) (name_at-none name.at) ∙ ap (Comp []) (row-nameless ts first.at count)

  terms-nameless : (ts : List Term) (cs : List Cell) → terms_from [] (map nameless ts) cs ≡ map nameless (terms_from names ts cs)
  unfolding terms_from
  terms-nameless ts [] = refl
  terms-nameless ts (x ∷ cs) =
      ap (λ t. terms_from [] (map nameless ts ++ t ∷ []) cs) (cell-nameless ts x)
      ∙ ap (λ us. terms_from [] us cs) (sym (map-append nameless ts (shown_by names ts x ∷ [])))
      ∙ terms-nameless (ts ++ shown_by names ts x ∷ []) cs

  pub shows-nameless : (cells : List Cell) (at : ℕ) → shows [] cells at ≡ nameless (shows names cells at)
  shows-nameless cells at = ap (λ ts. get_or ts at (Atom [])) (terms-nameless [] cells) ∙ at-nameless (terms_from names [] cells) at

-- ---- under the bindings

mutual
  replaced-nameless : (f g : ℕ → Term) → ((v : ℕ) → g v ≡ nameless (f v)) → (t : Term) → replaced g (nameless t) ≡ nameless (replaced f t)
  replaced-nameless f g h (Var v) = h v
  replaced-nameless f g h (Int n) = refl
  replaced-nameless f g h (Atom a) = refl
  replaced-nameless f g h (Comp c ts) = ap (Comp []) (all_replaced-nameless f g h ts)

  all_replaced-nameless : (f g : ℕ → Term) → ((v : ℕ) → g v ≡ nameless (f v)) → (ts : Terms) → all_replaced g (all_nameless ts) ≡ all_nameless (all_replaced f ts)
  all_replaced-nameless f g h NoMore = refl
  all_replaced-nameless f g h (More t ts) = ap (λ x. More x (all_replaced g (all_nameless ts))) (replaced-nameless f g h t) ∙ ap (More (nameless (replaced f t))) (all_replaced-nameless f g h ts)

for_one-nameless : (v : ℕ) (t : Term) (w : ℕ) → for_one v (nameless t) w ≡ nameless (for_one v t w)
for_one-nameless v t w = by (nat_eq v w)
  where
    by : (b : Bool) → cond b (nameless t) (Var w) ≡ nameless (cond b t (Var w))
    by true = refl
    by false = refl

put-nameless : (v : ℕ) (t : Term) (s : Subst) → put v (nameless t) (without_names s) ≡ without_names (put v t s)
put-nameless v t [] = refl
put-nameless v t (e ∷ es) = by (nat_lt v e.0) (put-nameless v t es)
  where
    by : (b : Bool) → put v (nameless t) (without_names es) ≡ without_names (put v t es) → cond b ((v, nameless t) ∷ without_names (e ∷ es)) ((e.0, nameless e.1) ∷ put v (nameless t) (without_names es)) ≡ without_names (cond b ((v, t) ∷ e ∷ es) (e ∷ put v t es))
    by true h = refl
    by false h = ap (λ l. (e.0, nameless e.1) ∷ l) h

mapped-nameless : (v : ℕ) (t : Term) (s : Subst) → map (λ e. (e.0, replaced (for_one v (nameless t)) e.1)) (without_names s) ≡ without_names (map (λ e. (e.0, replaced (for_one v t) e.1)) s)
mapped-nameless v t [] = refl
mapped-nameless v t (e ∷ es) =
    ap (λ u. (e.0, u) ∷ map (λ e. (e.0, replaced (for_one v (nameless t)) e.1)) (without_names es)) (replaced-nameless (for_one v t) (for_one v (nameless t)) (for_one-nameless v t) e.1)
    ∙ ap (λ l. (e.0, nameless (replaced (for_one v t) e.1)) ∷ l) (mapped-nameless v t es)

extended-nameless : (s : Subst) (v : ℕ) (t : Term) → extended (without_names s) v (nameless t) ≡ without_names (extended s v t)
extended-nameless s v t = ap (put v (nameless t)) (mapped-nameless v t s) ∙ put-nameless v t (map (λ e. (e.0, replaced (for_one v t) e.1)) s)

value-nameless : (s : Subst) (v : ℕ) → value_at (without_names s) v ≡ nameless (value_at s v)
value-nameless [] v = refl
value-nameless (e ∷ es) v = by (nat_eq e.0 v) (value-nameless es v)
  where
    by : (b : Bool) → value_at (without_names es) v ≡ nameless (value_at es v) → cond b (nameless e.1) (value_at (without_names es) v) ≡ nameless (cond b e.1 (value_at es v))
    by true h = refl
    by false h = h

apply-nameless : (s : Subst) (t : Term) → apply (without_names s) (nameless t) ≡ nameless (apply s t)
apply-nameless s t = replaced-nameless (value_at s) (value_at (without_names s)) (value-nameless s) t

module _ (names : List Name) (cells : List Cell) where
  chained-nameless : (pairs : Bindings) → chained [] cells pairs ≡ without_names (chained names cells pairs)
  unfolding chained
  chained-nameless [] = refl
  chained-nameless (p ∷ pairs) =
      let s : Subst = chained names cells pairs in
      ap (λ u. extended u p.0 (apply u (shows [] cells p.1.at))) (chained-nameless pairs)
      ∙ ap (λ t. extended (without_names s) p.0 (apply (without_names s) t)) (shows-nameless names cells p.1.at)
      ∙ ap (extended (without_names s) p.0) (apply-nameless s (shows names cells p.1.at))
      ∙ extended-nameless s p.0 (apply s (shows names cells p.1.at))

-- Under a table without names a place shows its term without names.
pub seen-nameless : (names : List Name) (c : Contents) (at : ℕ) → seen [] c at ≡ nameless (seen names c at)
seen-nameless names c at =
    ap (λ u. apply u (shows [] c.cells at)) (chained-nameless names c.cells c.pairs)
    ∙ ap (apply (without_names (subst_of names c))) (shows-nameless names c.cells at)
    ∙ apply-nameless (subst_of names c) (shows names c.cells at)

-- ---- what is no matter of names

count-nameless : (t : Term) → count_of (args_of (nameless t)) ≡ count_of (args_of t)
count-nameless (Var v) = refl
count-nameless (Int n) = refl
count-nameless (Atom a) = refl
count-nameless (Comp f ts) = all ts
  where
    all : (us : Terms) → count_of (all_nameless us) ≡ count_of us
    all NoMore = refl
    all (More u us) = ap (λ n. 1 + n) (all us)

callable-nameless : (t : Term) → is_callable (nameless t) ≡ is_callable t
callable-nameless (Var v) = refl
callable-nameless (Int n) = refl
callable-nameless (Atom a) = refl
callable-nameless (Comp f ts) = refl

-- the number of arguments of what a place shows
pub count-any_names : (names : List Name) (c : Contents) (at : ℕ) → count_of (args_of (seen [] c at)) ≡ count_of (args_of (seen names c at))
count-any_names names c at = ap (λ t. count_of (args_of t)) (seen-nameless names c at) ∙ count-nameless (seen names c at)

-- whether a place shows an atom or a compound
pub callable-any_names : (names : List Name) (c : Contents) (at : ℕ) → is_callable (seen [] c at) ≡ is_callable (seen names c at)
callable-any_names names c at = ap is_callable (seen-nameless names c at) ∙ callable-nameless (seen names c at)

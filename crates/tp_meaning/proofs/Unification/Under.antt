-- Unifiers bring no new variables, and a world stays valid under a unifier.
use Rattle.std.proofs.Common.{◌≡◌, ℕ, zero, suc, ◌+◌, ◌<◌, ◌≤◌, Bool, true, false, ◌&&◌, nat_eq, nat_lt, List, [], ◌∷◌, ◌++◌, map, length, Option, Some, None, IfSome, refl, ap, ◌∙◌, sym, arith, if◌then◌else◌}
use Rattle.std.specs.List.{AllByRecursion}
use Rattle.tp_terms.specs.Term.{Term, Terms, Var, Int, Atom, Comp, NoMore, More, replaced, all_replaced, occurs, term_eq, names_eq, count_of, term_size}
use Rattle.tp_meaning.specs.Subst.{Subst, IsSubst, Equations, Next, mgu, value_at, apply, extended, put, for_one, solve_pair, walk, rounds, size_under, pairs_of}
use Rattle.tp_meaning.specs.World.{World, Process, Item, Goal, Commit, Retry, EventKind, New, Start, End, Hold, Send, Take, Note, world_under, process_under, item_under, event_under, kind_under, status_at}
use Rattle.tp_meaning.specs.Scheduler.{is_late}
use Rattle.tp_meaning.specs.Valid.{Below, AllBelow, ItemFits, ItemsFit, KindFits, EventFits, busy, waits_or_runs, Valid, is_running, due}
use Rattle.tp_meaning.proofs.ValidWorlds.Places.{all-append, all-map, all-weaker, map-map}
use Rattle.tp_meaning.proofs.Unification.Solved.{mgu_good}

abbrev pub Bound : ℕ → Subst → Type 0
Bound n = AllByRecursion (λ e. (e.0 < n) × Below n e.1)

abbrev EqsBelow : ℕ → Equations → Type 0
EqsBelow n = AllByRecursion (λ e. Below n e.0 × Below n e.1)

mutual
  pub replaced-below : (n m : ℕ) (f : ℕ → Term) (t : Term) → ((v : ℕ) → v < n → Below m (f v)) → Below n t → Below m (replaced f t)
  replaced-below n m f (Var v) h b = h v b
  replaced-below n m f (Int z) h b = tt
  replaced-below n m f (Atom a) h b = tt
  replaced-below n m f (Comp c ts) h b = all_replaced-below n m f ts h b

  pub all_replaced-below : (n m : ℕ) (f : ℕ → Term) (ts : Terms) → ((v : ℕ) → v < n → Below m (f v)) → AllBelow n ts → AllBelow m (all_replaced f ts)
  all_replaced-below n m f NoMore h b = tt
  all_replaced-below n m f (More t ts) h b = (replaced-below n m f t h b.0, all_replaced-below n m f ts h b.1)

pub value-below : (n : ℕ) (s : Subst) (v : ℕ) → Bound n s → v < n → Below n (value_at s v)
value-below n [] v b h = h
value-below n (e ∷ es) v b h = go (nat_eq e.0 v) (value-below n es v b.1 h)
  where
    go : (c : Bool) → Below n (value_at es v) → Below n (if c then e.1 else value_at es v)
    go true r = b.0.1
    go false r = r

pub apply-below : (n : ℕ) (s : Subst) (t : Term) → Bound n s → Below n t → Below n (apply s t)
apply-below n s t b h = replaced-below n n (value_at s) t (λ v l. value-below n s v b l) h

for_one-below : (n v : ℕ) (t : Term) → Below n t → (w : ℕ) → w < n → Below n (for_one v t w)
for_one-below n v t h w l = go (nat_eq v w)
  where
    go : (c : Bool) → Below n (if c then t else Var w)
    go true = h
    go false = l

put-below : (n v : ℕ) (t : Term) (s : Subst) → v < n → Below n t → Bound n s → Bound n (put v t s)
put-below n v t [] l h b = ((l, h), tt)
put-below n v t (e ∷ es) l h b = go (nat_lt v e.0) (put-below n v t es l h b.1)
  where
    go : (c : Bool) → Bound n (put v t es) → Bound n (if c then (v, t) ∷ e ∷ es else e ∷ put v t es)
    go true r = ((l, h), b)
    go false r = (b.0, r)

pub extended-below : (n v : ℕ) (t : Term) (s : Subst) → v < n → Below n t → Bound n s → Bound n (extended s v t)
extended-below n v t s l h b = put-below n v t (map (λ e. (e.0, replaced (for_one v t) e.1)) s) l h
    (all-map _ _ _ (λ e x. (x.0, replaced-below n n (for_one v t) e.1 (for_one-below n v t h) x.1)) s b)

-- further variables
mutual
  pub below-more : (n m : ℕ) (t : Term) → n ≤ m → Below n t → Below m t
  below-more n m (Var v) le h = omega arith
  below-more n m (Int z) le h = tt
  below-more n m (Atom a) le h = tt
  below-more n m (Comp f ts) le h = all_below-more n m ts le h

  pub all_below-more : (n m : ℕ) (ts : Terms) → n ≤ m → AllBelow n ts → AllBelow m ts
  all_below-more n m NoMore le h = tt
  all_below-more n m (More t ts) le h = (below-more n m t le h.0, all_below-more n m ts le h.1)

pub bound-more : (n m : ℕ) (s : Subst) → n ≤ m → Bound n s → Bound m s
bound-more n m s le h = all-weaker (λ e. (e.0 < n) × Below n e.1) (λ e. (e.0 < m) × Below m e.1) (λ e x. (let k = x.0 in omega arith, below-more n m e.1 le x.1)) s h

-- how equations are solved brings no variable
Keeps : ℕ → Next → Type 0
Keeps n next = (es : Equations) (s : Subst) → EqsBelow n es → Bound n s → IfSome (next es s) (Bound n)

pairs-below : (n : ℕ) (ts us : Terms) → AllBelow n ts → AllBelow n us → EqsBelow n (pairs_of ts us)
pairs-below n NoMore us a b = tt
pairs-below n (More t ts) NoMore a b = tt
pairs-below n (More t ts) (More u us) a b = ((a.0, b.0), pairs-below n ts us a.1 b.1)

unless : (P : Subst → Type 0) (c : Bool) (o : Option Subst) → IfSome o P → IfSome (if c then None else o) P
unless P true o h = tt
unless P false o h = h

where_true : (P : Subst → Type 0) (c : Bool) (o : Option Subst) → IfSome o P → IfSome (if c then o else None) P
where_true P true o h = h
where_true P false o h = tt

chosen : (P : Subst → Type 0) (c : Bool) (o p : Option Subst) → IfSome o P → IfSome p P → IfSome (if c then o else p) P
chosen P true o p h k = h
chosen P false o p h k = k

pair-below : (n : ℕ) (same next : Next) → Keeps n same → Keeps n next → (x y : Term) (es : Equations) (s : Subst) → Below n x → Below n y → EqsBelow n es → Bound n s → IfSome (solve_pair same next x y es s) (Bound n)
unfolding Keeps
pair-below n same next ks kn (Var v) (Var w) es s a b q h =
    chosen (Bound n) (nat_eq v w) _ _ (ks es s q h)
    (chosen (Bound n) (nat_lt v w) _ _ (kn es (extended s w (Var v)) q (extended-below n w (Var v) s b a h)) (kn es (extended s v (Var w)) q (extended-below n v (Var w) s a b h)))
pair-below n same next ks kn (Var v) (Int z) es s a b q h = kn es (extended s v (Int z)) q (extended-below n v (Int z) s a b h)
pair-below n same next ks kn (Var v) (Atom c) es s a b q h = kn es (extended s v (Atom c)) q (extended-below n v (Atom c) s a b h)
pair-below n same next ks kn (Var v) (Comp c ts) es s a b q h = unless (Bound n) (occurs v (Comp c ts)) _ (kn es (extended s v (Comp c ts)) q (extended-below n v (Comp c ts) s a b h))
pair-below n same next ks kn (Int z) (Var w) es s a b q h = kn es (extended s w (Int z)) q (extended-below n w (Int z) s b a h)
pair-below n same next ks kn (Atom c) (Var w) es s a b q h = kn es (extended s w (Atom c)) q (extended-below n w (Atom c) s b a h)
pair-below n same next ks kn (Comp c ts) (Var w) es s a b q h = unless (Bound n) (occurs w (Comp c ts)) _ (kn es (extended s w (Comp c ts)) q (extended-below n w (Comp c ts) s b a h))
pair-below n same next ks kn (Int y) (Int z) es s a b q h = where_true (Bound n) (term_eq (Int y) (Int z)) _ (ks es s q h)
pair-below n same next ks kn (Atom c) (Atom d) es s a b q h = where_true (Bound n) (names_eq c d) _ (ks es s q h)
pair-below n same next ks kn (Comp c ts) (Comp d us) es s a b q h =
    where_true (Bound n) (names_eq c d && nat_eq (count_of ts) (count_of us)) _ (ks (pairs_of ts us ++ es) s (all-append _ (pairs_of ts us) es (pairs-below n ts us a b) q) h)
pair-below n same next ks kn _ _ es s a b q h = tt

walk-below : (n : ℕ) (next : Next) → Keeps n next → (z : ℕ) → Keeps n (walk next z)
unfolding Keeps
walk-below n next kn zero [] s q h = h
walk-below n next kn (suc z) [] s q h = h
walk-below n next kn zero (e ∷ es) s q h = tt
walk-below n next kn (suc z) (e ∷ es) s q h = pair-below n (walk next z) next (walk-below n next kn z) kn (apply s e.0) (apply s e.1) es s (apply-below n s e.0 h q.0.0) (apply-below n s e.1 h q.0.1) q.1 h

rounds-below : (n k : ℕ) → Keeps n (rounds k)
unfolding Keeps
rounds-below n zero es s q h = walk-below n (λ es' s'. None) (λ es' s' q' h'. tt) (size_under s es) es s q h
rounds-below n (suc k) es s q h = walk-below n (rounds k) (rounds-below n k) (size_under s es) es s q h

pub mgu-below : (n : ℕ) (s : Subst) (a b : Term) → Below n a → Below n b → Bound n s → IfSome (mgu s a b) (Bound n)
unfolding mgu Keeps
mgu-below n s a b x y h = rounds-below n (term_size (apply s a) + term_size (apply s b)) ((a, b) ∷ []) s ((x, y), tt) h

-- a unifier, as a world takes it
pub record Unifies (n : ℕ) (u : Subst) : Type 0 where
  pub bound : Bound n u
  pub is_subst : IsSubst u

pub mgu-unifies : (n : ℕ) (s : Subst) (a b : Term) → Below n a → Below n b → Bound n s → IsSubst s → IfSome (mgu s a b) (Unifies n)
mgu-unifies n s a b x y h id = go (mgu s a b) refl (mgu-below n s a b x y h)
  where
    go : (o : Option Subst) → mgu s a b ≡ o → IfSome o (Bound n) → IfSome o (Unifies n)
    go None e b' = tt
    go (Some u) e b' = record { bound = b'; is_subst = (mgu_good s a b u e id).is_subst }

-- ---- worlds under a unifier

item_under-fits : (n d : ℕ) (u : Subst) → Bound n u → (i : Item) → ItemFits n d i → ItemFits n d (item_under u i)
item_under-fits n d u b (Goal g c) h = (apply-below n u g b h.0, h.1)
item_under-fits n d u b (Commit c) h = h
item_under-fits n d u b (Retry g) h = apply-below n u g b h

kind_under-fits : (count n : ℕ) (u : Subst) → Bound n u → (k : EventKind) → KindFits count n k → KindFits count n (kind_under u k)
kind_under-fits count n u b (New a s l) h = h
kind_under-fits count n u b Start h = h
kind_under-fits count n u b End h = h
kind_under-fits count n u b (Hold d) h = h
kind_under-fits count n u b (Send m p) h = (apply-below n u m b h.0, h.1)
kind_under-fits count n u b (Take m) h = apply-below n u m b h
kind_under-fits count n u b (Note m) h = apply-below n u m b h

length-map : {A B : Type 0} (f : A → B) (xs : List A) → length (map f xs) ≡ length xs
length-map f [] = refl
length-map f (x ∷ xs) = ap suc (length-map f xs)

status-under : (u : Subst) (ps : List Process) (q : ℕ) → status_at (map (process_under u) ps) q ≡ status_at ps q
status-under u [] q = refl
status-under u (x ∷ xs) zero = refl
status-under u (x ∷ xs) (suc q) = status-under u xs q

busy-under : (u : Subst) (ps : List Process) → busy (map (process_under u) ps) ≡ busy ps
busy-under u [] = refl
busy-under u (x ∷ xs) = ap (λ k. waits_or_runs x.status + k) (busy-under u xs)

pub under-valid : (u : Subst) (w : World) → Unifies w.next u → Valid w → Valid (world_under u w)
under-valid u w h v =
    let f = process_under u in
    let len : length (map f w.processes) ≡ length w.processes = length-map f w.processes in
    record {
      distinct = rw (map-map (λ q. q.name) f w.processes) v.distinct;
      box_each = length-map (map (apply u)) w.boxes ∙ v.box_each ∙ sym len;
      entries = rw len v.entries;
      in_order = v.in_order;
      placed = λ q. v.placed q ∙ ap due (sym (status-under u w.processes q));
      one_runs = λ q. ap is_running (status-under u w.processes q) ∙ v.one_runs q;
      from_zero = v.from_zero;
      none_late = all-map _ f (λ q. is_late w.clock q ≡ false) (λ q x. x) w.processes v.none_late;
      events = rw len (all-map _ (event_under u) (EventFits (length w.processes) w.next w.clock) (λ e x. record { known = x.known; fits = kind_under-fits (length w.processes) w.next u h.bound e.kind x.fits; past = x.past }) w.history v.events);
      todo = all-map _ f (λ q. ItemsFit w.next w.stamp q.items) (λ q x. all-map (ItemFits w.next w.stamp) (item_under u) (ItemFits w.next w.stamp) (item_under-fits w.next w.stamp u h.bound) q.items x) w.processes v.todo;
      mail = all-map _ (map (apply u)) (AllByRecursion (Below w.next)) (λ b x. all-map (Below w.next) (apply u) (Below w.next) (λ t y. apply-below w.next u t h.bound y) b x) w.boxes v.mail;
      bindings = h.bound;
      is_subst = h.is_subst;
      insertions = rw (busy-under u w.processes) v.insertions;
    }

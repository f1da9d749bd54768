-- What solving equations binds, and that a class of unbound variables goes to its least number.
use Rattle.std.proofs.Common.{◌≡◌, ℕ, zero, suc, ◌+◌, ◌<◌, ◌≤◌, ◌≢◌, Bool, true, false, nat_eq, nat_lt, ◌&&◌, ◌||◌, cond, [], ◌∷◌, ◌++◌, map, Some, None, is_some, refl, ap, sym, subst, ◌∙◌, arith, inl, inr}
use Rattle.std.proofs.lemmas.Bool.{eqb-true, eq-eqb, eqb-false, ltb-true, ltb-false}
use Rattle.tp_terms.specs.Term.{Term, Terms, Var, Int, Atom, Comp, NoMore, More, replaced, all_replaced, occurs, occurs_in, term_eq, names_eq, count_of, term_size}
use Rattle.tp_meaning.specs.Subst.{IsSubst, Subst, Equations, Next, mgu, value_at, apply, extended, put, for_one, bound_to, bind, solve_pair, walk, rounds, size_under, pairs_of}
use Rattle.tp_meaning.proofs.Unification.Solved.{differ, Good, Free, From, unbound, mapped-none, put-none, value-extended, occurs-replaced, subst_extended, one_free, flip_eq, tested, free_applied, rounds_good}
use Rattle.tp_meaning.proofs.Unification.Complete.{apply-extended, left, right, twice}

-- u binds what s binds, and else only variables with P; no unbound variable goes to a greater one
pub record Made (P : ℕ → Type 0) (s u : Subst) : Type 0 where
  pub binds : (v : ℕ) → bound_to u v ≡ None → bound_to s v ≡ None
  pub only : (v : ℕ) → bound_to s v ≡ None → is_some (bound_to u v) ≡ true → P v
  pub least : (v y : ℕ) → bound_to s y ≡ None → value_at u y ≡ Var v → v ≤ y

-- each variable of a term has P
pub record Inside (P : ℕ → Type 0) (t : Term) : Type 0 where
  pub at : (w : ℕ) → occurs w t ≡ true → P w

record AllInside (P : ℕ → Type 0) (ts : Terms) : Type 0 where
  at : (w : ℕ) → occurs_in w ts ≡ true → P w

abbrev EqsInside : (ℕ → Type 0) → Subst → Equations → Type 0
EqsInside P s [] = Unit {0}
EqsInside P s (e ∷ es) = Inside P (apply s e.0) × Inside P (apply s e.1) × EqsInside P s es

abbrev MadeBy : (ℕ → Type 0) → Next → Type 0
MadeBy P next = (es : Equations) (s u : Subst) → next es s ≡ Some u → IsSubst s → EqsInside P s es → Made P s u

made-none : (P : ℕ → Type 0) → MadeBy P (λ es s. None)
made-none P es s u e id q = absurd (cc)

made-same : (P : ℕ → Type 0) (s : Subst) → Made P s s
made-same P s = record {
  binds = λ v h. h;
  only = λ v h e. absurd (differ (is_some (bound_to s v)) e (ap is_some h));
  least = λ v y h e. let q : Var y ≡ Var v = sym (unbound y s h) ∙ e in let q' : y ≡ v = cc in omega arith;
}

-- what a new entry leaves unbound was unbound
put-back : (v w : ℕ) (t : Term) (s : Subst) → bound_to (put v t s) w ≡ None → bound_to s w ≡ None
put-back v w t [] h = refl
put-back v w t (e ∷ es) h = go (put-back v w t es) (nat_lt v e.0) h
  where
    tail : (b c : Bool) → cond b (Some t) (cond c (Some e.1) (bound_to es w)) ≡ None → cond c (Some e.1) (bound_to es w) ≡ None
    tail true c h' = absurd (cc)
    tail false c h' = h'

    later : (c : Bool) → (bound_to (put v t es) w ≡ None → bound_to es w ≡ None) → cond c (Some e.1) (bound_to (put v t es) w) ≡ None → cond c (Some e.1) (bound_to es w) ≡ None
    later true ih h' = absurd (cc)
    later false ih h' = ih h'

    go : (bound_to (put v t es) w ≡ None → bound_to es w ≡ None) → (b : Bool) → bound_to (cond b ((v, t) ∷ e ∷ es) (e ∷ put v t es)) w ≡ None → cond (nat_eq e.0 w) (Some e.1) (bound_to es w) ≡ None
    go ih true h' = tail (nat_eq v w) (nat_eq e.0 w) h'
    go ih false h' = later (nat_eq e.0 w) ih h'

mapped-back : (f : Term → Term) (w : ℕ) (s : Subst) → bound_to (map (λ e. (e.0, f e.1)) s) w ≡ None → bound_to s w ≡ None
mapped-back f w [] h = refl
mapped-back f w (e ∷ es) h = go (mapped-back f w es) (nat_eq e.0 w) h
  where
    go : (bound_to (map (λ e'. (e'.0, f e'.1)) es) w ≡ None → bound_to es w ≡ None) → (b : Bool) → cond b (Some (f e.1)) (bound_to (map (λ e'. (e'.0, f e'.1)) es) w) ≡ None → cond b (Some e.1) (bound_to es w) ≡ None
    go ih true h' = absurd (cc)
    go ih false h' = ih h'

extended-back : (v w : ℕ) (t : Term) (s : Subst) → bound_to (extended s v t) w ≡ None → bound_to s w ≡ None
extended-back v w t s h = mapped-back (replaced (for_one v t)) w s (put-back v w t (map (λ e. (e.0, replaced (for_one v t) e.1)) s) h)

extended-none : (v w : ℕ) (t : Term) (s : Subst) → nat_eq v w ≡ false → bound_to s w ≡ None → bound_to (extended s v t) w ≡ None
extended-none v w t s n h = put-none v w t (map (λ e. (e.0, replaced (for_one v t) e.1)) s) n (mapped-none (replaced (for_one v t)) w s h)

-- where a term is a variable, it has a lesser number
abbrev Lower : ℕ → Term → Type 0
Lower v t = (x : ℕ) → t ≡ Var x → x < v

inside-extended : (P : ℕ → Type 0) (v : ℕ) (t y : Term) (s : Subst) → bound_to s v ≡ None → Inside P t → Inside P (apply s y) → Inside P (apply (extended s v t) y)
inside-extended P v t y s h it iy = record { at = λ w o. go w (occurs-replaced w v t (apply s y) (ap (occurs w) (sym (apply-extended v t s y h)) ∙ o)) }
  where
    go : (w : ℕ) → From w v t (occurs w (apply s y)) → P w
    go w (inl o) = it.at w o
    go w (inr k) = iy.at w k.0

eqs-extended : (P : ℕ → Type 0) (v : ℕ) (t : Term) (s : Subst) (es : Equations) → bound_to s v ≡ None → Inside P t → EqsInside P s es → EqsInside P (extended s v t) es
eqs-extended P v t s [] h it q = tt
eqs-extended P v t s (e ∷ es) h it q = (inside-extended P v t e.0 s h it q.0, inside-extended P v t e.1 s h it q.1, eqs-extended P v t s es h it q.2)

made-bind : (P : ℕ → Type 0) (next : Next) → Good next → MadeBy P next → (v : ℕ) (t : Term) (es : Equations) (s u : Subst) → next es (extended s v t) ≡ Some u → occurs v t ≡ false → bound_to s v ≡ None → Free s t → IsSubst s → Lower v t → P v → Inside P t → EqsInside P s es → Made P s u
made-bind P next good made v t es s u e out h fr id low pv it q =
    let ids : IsSubst (extended s v t) = subst_extended v t s h out fr id in
    let m : Made P (extended s v t) u = made es (extended s v t) u e ids (eqs-extended P v t s es h it q) in
    let at : value_at u v ≡ replaced (value_at u) t = (good es (extended s v t) u e ids).over.at v ∙ ap (replaced (value_at u)) (value-extended v v t s h ∙ ap (replaced (for_one v t)) (unbound v s h) ∙ ap (λ b. cond b t (Var v)) (eq-eqb v v refl)) in
    record {
      binds = λ w n. extended-back v w t s (m.binds w n);
      only = λ w n e'. only m w n e' (nat_eq v w) refl;
      least = λ z y n e'. least m at z y n e' (nat_eq v y) refl;
    }
  where
    only : Made P (extended s v t) u → (w : ℕ) → bound_to s w ≡ None → is_some (bound_to u w) ≡ true → (b : Bool) → nat_eq v w ≡ b → P w
    only m w n e' true eb = subst P (eqb-true v w eb) pv
    only m w n e' false eb = m.only w (extended-none v w t s eb n) e'

    of_term : Made P (extended s v t) u → (z : ℕ) (r : Term) → t ≡ r → replaced (value_at u) r ≡ Var z → z ≤ v
    of_term m z (Var x) er e' =
        let lt : x < v = low x er in
        let ne : nat_eq v x ≡ false = sym (ap (occurs v) er) ∙ out in
        let free : bound_to s x ≡ None = fr.free x (ap (occurs x) er ∙ eq-eqb x x refl) in
        let le : z ≤ x = m.least z x (extended-none v x t s ne free) e' in
        omega arith
    of_term m z (Int n) er e' = absurd (cc)
    of_term m z (Atom a) er e' = absurd (cc)
    of_term m z (Comp c ts) er e' = absurd (cc)

    least : Made P (extended s v t) u → value_at u v ≡ replaced (value_at u) t → (z y : ℕ) → bound_to s y ≡ None → value_at u y ≡ Var z → (b : Bool) → nat_eq v y ≡ b → z ≤ y
    least m at z y n e' true eb = let ey : v ≡ y = eqb-true v y eb in let le : z ≤ v = of_term m z t refl (sym at ∙ ap (value_at u) ey ∙ e') in omega arith
    least m at z y n e' false eb = m.least z y (extended-none v y t s eb n) e'

-- a term in which the variable doesn't occur
made-unless : (P : ℕ → Type 0) (next : Next) → Good next → MadeBy P next → (v : ℕ) (t : Term) (es : Equations) (s u : Subst) → bind next v t es s ≡ Some u → bound_to s v ≡ None → Free s t → IsSubst s → Lower v t → P v → Inside P t → EqsInside P s es → Made P s u
made-unless P next good made v t es s u e h fr id low pv it q = go (occurs v t) refl e
  where
    go : (b : Bool) → occurs v t ≡ b → cond b None (next es (extended s v t)) ≡ Some u → Made P s u
    go true eb e' = absurd (cc)
    go false eb e' = made-bind P next good made v t es s u e' eb h fr id low pv it q

pairs-inside : (P : ℕ → Type 0) (s : Subst) (ts us : Terms) (es : Equations) → all_replaced (value_at s) ts ≡ ts → all_replaced (value_at s) us ≡ us → AllInside P ts → AllInside P us → EqsInside P s es → EqsInside P s (pairs_of ts us ++ es)
pairs-inside P s (More t ts) (More u us) es et eu it iu q =
    let t0 : apply s t ≡ t = cc in
    let u0 : apply s u ≡ u = cc in
    let t1 : all_replaced (value_at s) ts ≡ ts = cc in
    let u1 : all_replaced (value_at s) us ≡ us = cc in (
      record { at = λ w o. it.at w (left (occurs w t) (occurs_in w ts) (ap (occurs w) (sym t0) ∙ o)) },
      record { at = λ w o. iu.at w (left (occurs w u) (occurs_in w us) (ap (occurs w) (sym u0) ∙ o)) },
      pairs-inside P s ts us es t1 u1 (record { at = λ w o. it.at w (right (occurs w t) (occurs_in w ts) o) }) (record { at = λ w o. iu.at w (right (occurs w u) (occurs_in w us) o) }) q,
    )
pairs-inside P s NoMore us es et eu it iu q = q
pairs-inside P s (More t ts) NoMore es et eu it iu q = q

own : (P : ℕ → Type 0) (v : ℕ) → Inside P (Var v) → P v
own P v i = i.at v (eq-eqb v v refl)

made-pair : (P : ℕ → Type 0) (same next : Next) → MadeBy P same → Good next → MadeBy P next → (x y : Term) (es : Equations) (s u : Subst) → solve_pair same next x y es s ≡ Some u → Free s x → Free s y → apply s x ≡ x → apply s y ≡ y → IsSubst s → Inside P x → Inside P y → EqsInside P s es → Made P s u
made-pair P same next ms gn mn (Var v) (Var w) es s u e fx fy ax ay id ix iy q = two (nat_eq v w) (nat_lt v w) refl refl e
  where
    two : (b c : Bool) → nat_eq v w ≡ b → nat_lt v w ≡ c → cond b (same es s) (cond c (next es (extended s w (Var v))) (next es (extended s v (Var w)))) ≡ Some u → Made P s u
    two true c eb ec e' = ms es s u e' id q
    two false true eb ec e' =
        made-bind P next gn mn w (Var v) es s u e' (flip_eq v w eb) (one_free s w fy) fx id
        (λ x ex. let lt : v < w = ltb-true v w ec in let vx : v ≡ x = cc in omega arith) (own P w iy) ix q
    two false false eb ec e' =
        made-bind P next gn mn v (Var w) es s u e' eb (one_free s v fx) fy id
        (λ x ex. let le : w ≤ v = ltb-false v w ec in let ne : v ≢ w = eqb-false v w eb in let wx : w ≡ x = cc in omega (arith, ne)) (own P v ix) iy q
made-pair P same next ms gn mn (Var v) (Int n) es s u e fx fy ax ay id ix iy q = made-unless P next gn mn v (Int n) es s u e (one_free s v fx) fy id (λ x ex. absurd (cc)) (own P v ix) iy q
made-pair P same next ms gn mn (Var v) (Atom a) es s u e fx fy ax ay id ix iy q = made-unless P next gn mn v (Atom a) es s u e (one_free s v fx) fy id (λ x ex. absurd (cc)) (own P v ix) iy q
made-pair P same next ms gn mn (Var v) (Comp c ts) es s u e fx fy ax ay id ix iy q = made-unless P next gn mn v (Comp c ts) es s u e (one_free s v fx) fy id (λ x ex. absurd (cc)) (own P v ix) iy q
made-pair P same next ms gn mn (Int n) (Var w) es s u e fx fy ax ay id ix iy q = made-unless P next gn mn w (Int n) es s u e (one_free s w fy) fx id (λ x ex. absurd (cc)) (own P w iy) ix q
made-pair P same next ms gn mn (Atom a) (Var w) es s u e fx fy ax ay id ix iy q = made-unless P next gn mn w (Atom a) es s u e (one_free s w fy) fx id (λ x ex. absurd (cc)) (own P w iy) ix q
made-pair P same next ms gn mn (Comp c ts) (Var w) es s u e fx fy ax ay id ix iy q = made-unless P next gn mn w (Comp c ts) es s u e (one_free s w fy) fx id (λ x ex. absurd (cc)) (own P w iy) ix q
made-pair P same next ms gn mn (Int m) (Int n) es s u e fx fy ax ay id ix iy q = tested (term_eq (Int m) (Int n)) _ _ u e (λ t e'. ms es s u e' id q)
made-pair P same next ms gn mn (Atom a) (Atom b) es s u e fx fy ax ay id ix iy q = tested (names_eq a b) _ _ u e (λ t e'. ms es s u e' id q)
made-pair P same next ms gn mn (Comp c ts) (Comp d us) es s u e fx fy ax ay id ix iy q =
    let at : all_replaced (value_at s) ts ≡ ts = cc in
    let au : all_replaced (value_at s) us ≡ us = cc in
    tested (names_eq c d && nat_eq (count_of ts) (count_of us)) _ _ u e (λ t e'.
    ms (pairs_of ts us ++ es) s u e' id (pairs-inside P s ts us es at au (record { at = λ w o. ix.at w o }) (record { at = λ w o. iy.at w o }) q))
made-pair P same next ms gn mn _ _ es s u e fx fy ax ay id ix iy q = absurd (cc)

made-walk : (P : ℕ → Type 0) (next : Next) → Good next → MadeBy P next → (z : ℕ) → MadeBy P (walk next z)
made-walk P next gn mn zero [] s u e id q = let es : s ≡ u = cc in subst (Made P s) es (made-same P s)
made-walk P next gn mn (suc z) [] s u e id q = let es : s ≡ u = cc in subst (Made P s) es (made-same P s)
made-walk P next gn mn zero (x ∷ es) s u e id q = absurd (cc)
made-walk P next gn mn (suc z) (x ∷ es) s u e id q =
    made-pair P (walk next z) next (made-walk P next gn mn z) gn mn (apply s x.0) (apply s x.1) es s u e
    (record { free = λ w. free_applied s x.0 w id.idem }) (record { free = λ w. free_applied s x.1 w id.idem })
    (twice s x.0 id.idem) (twice s x.1 id.idem) id q.0 q.1 q.2

made-rounds : (P : ℕ → Type 0) (n : ℕ) → MadeBy P (rounds n)
made-rounds P zero es s u e id q = made-walk P (λ es' s'. None) (λ es' s' u' e' id'. absurd (cc)) (made-none P) (size_under s es) es s u e id q
made-rounds P (suc n) es s u e id q = made-walk P (rounds n) (rounds_good n) (made-rounds P n) (size_under s es) es s u e id q

-- a variable of one of two terms seen under a map
abbrev pub OfEither : Subst → Term → Term → ℕ → Type 0
OfEither s a b w = (occurs w (apply s a) || occurs w (apply s b)) ≡ true

pub mgu-made : (s : Subst) (a b : Term) (u : Subst) → mgu s a b ≡ Some u → IsSubst s → Made (OfEither s a b) s u
unfolding mgu
mgu-made s a b u e id =
    made-rounds (OfEither s a b) (term_size (apply s a) + term_size (apply s b)) ((a, b) ∷ []) s u e id (
      record { at = λ w o. left (occurs w (apply s a)) (occurs w (apply s b)) o },
      record { at = λ w o. right (occurs w (apply s a)) (occurs w (apply s b)) o },
      tt,
    )

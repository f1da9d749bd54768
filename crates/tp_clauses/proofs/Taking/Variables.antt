-- Which variables occur in what a place shows: the table of names doesn't matter, nor does the conversion to a body.
use Rattle.std.proofs.Common.{◌≡◌, ℕ, zero, suc, Bool, true, false, ◌||◌, List, [], ◌∷◌, ◌++◌, map, get_or, Option, Some, None, refl, sym, ap, ◌∙◌, if◌then◌else◌, codes}
use Rattle.std.proofs.lemmas.List.{map-append}
use Rattle.tp_terms.specs.declared.cells.Cell.{Cell}
use Rattle.tp_terms.specs.declared.cells.Cell.TheVariants as cell
use Rattle.tp_terms.specs.Term.{Name, Term, Var, Int, Atom, Comp, NoMore, More, occurs, occurs_in}
use Rattle.tp_terms.specs.Shown.{shows, shown_by, terms_from, terms, row_at}
use Rattle.tp_meaning.specs.Body.{body, joins_goals, pair_body}

get_or-map : {X Y : Type 0} (f : X → Y) (xs : List X) (i : ℕ) (d : X) → f (get_or xs i d) ≡ get_or (map f xs) i (f d)
get_or-map f [] i d = refl
get_or-map f (x ∷ xs) zero d = refl
get_or-map f (x ∷ xs) (suc i) d = get_or-map f xs i d

module _ (v : ℕ) where
  same_at : (ts us : List Term) → map (occurs v) ts ≡ map (occurs v) us → (i : ℕ) → occurs v (get_or ts i (Atom [])) ≡ occurs v (get_or us i (Atom []))
  same_at ts us e i = get_or-map (occurs v) ts i (Atom []) ∙ ap (λ l. get_or l i false) e ∙ sym (get_or-map (occurs v) us i (Atom []))

  same_row : (ts us : List Term) → map (occurs v) ts ≡ map (occurs v) us → (first n : ℕ) → occurs_in v (row_at ts first n) ≡ occurs_in v (row_at us first n)
  same_row ts us e first zero = refl
  same_row ts us e first (suc n) = ap (λ b. b || occurs_in v (row_at ts (suc first) n)) (same_at ts us e first) ∙ ap (λ b. occurs v (get_or us first (Atom [])) || b) (same_row ts us e (suc first) n)

  same_cell : (m n : List Name) (ts us : List Term) → map (occurs v) ts ≡ map (occurs v) us → (c : Cell) → occurs v (shown_by m ts c) ≡ occurs v (shown_by n us c)
  same_cell m n ts us e (cell.Var w) = refl
  same_cell m n ts us e (cell.Int z) = refl
  same_cell m n ts us e (cell.Atom a) = refl
  same_cell m n ts us e (cell.Comp f first count) = same_row ts us e first.at count

  same_terms : (m n : List Name) (ts us : List Term) → map (occurs v) ts ≡ map (occurs v) us → (cs : List Cell) → map (occurs v) (terms_from m ts cs) ≡ map (occurs v) (terms_from n us cs)
  unfolding terms_from
  same_terms m n ts us e [] = e
  same_terms m n ts us e (c ∷ cs) =
      same_terms m n (ts ++ shown_by m ts c ∷ []) (us ++ shown_by n us c ∷ [])
      (map-append (occurs v) ts (shown_by m ts c ∷ []) ∙ ap (λ l. l ++ occurs v (shown_by m ts c) ∷ []) e ∙ ap (λ b. map (occurs v) us ++ b ∷ []) (same_cell m n ts us e c) ∙ sym (map-append (occurs v) us (shown_by n us c ∷ []))) cs

  -- under every table of names the same variables occur
  pub occurs-names : (m n : List Name) (cs : List Cell) (at : ℕ) → occurs v (shows m cs at) ≡ occurs v (shows n cs at)
  occurs-names m n cs at = same_at (terms m cs) (terms n cs) (same_terms m n [] [] refl cs) at

  or_left : (a b : Bool) → a ≡ true → (a || b) ≡ true
  or_left a b e = ap (λ x. x || b) e

  or_right : (a b : Bool) → b ≡ true → (a || b) ≡ true
  or_right true b e = refl
  or_right false b e = e

  or_cases : (a b : Bool) (P : Type 0) → (a || b) ≡ true → (a ≡ true → P) → (b ≡ true → P) → P
  or_cases true b P e f g = f refl
  or_cases false b P e f g = g e

  -- what occurs in the body of a term occurs in the term
  pub occurs-body : (t b : Term) → body t ≡ Some b → occurs v b ≡ true → occurs v t ≡ true
  occurs-body (Var w) b e o = same (Comp (codes "call") (More (Var w) NoMore)) b e o (λ h. or_cases (occurs v (Var w)) false (occurs v (Var w) ≡ true) h (λ x. x) (λ x. absurd (cc)))
    where
      same : (c b : Term) → Some c ≡ Some b → occurs v b ≡ true → (occurs v c ≡ true → occurs v (Var w) ≡ true) → occurs v (Var w) ≡ true
      same c b e o f = f (ap (occurs v) (let x : c ≡ b = cc in x) ∙ o)
  occurs-body (Int z) b e o = absurd (cc)
  occurs-body (Atom a) b e o = ap (occurs v) (let x : Atom a ≡ b = cc in x) ∙ o
  occurs-body (Comp f NoMore) b e o = ap (occurs v) (let x : Comp f NoMore ≡ b = cc in x) ∙ o
  occurs-body (Comp f (More s NoMore)) b e o = ap (occurs v) (let x : Comp f (More s NoMore) ≡ b = cc in x) ∙ o
  occurs-body (Comp f (More s (More u NoMore))) b e o = go (λ p ex x. occurs-body s p ex x) (λ q ey y. occurs-body u q ey y) (joins_goals f) refl (body s) (body u) refl refl
    where
      go : ((p : Term) → body s ≡ Some p → occurs v p ≡ true → occurs v s ≡ true) → ((q : Term) → body u ≡ Some q → occurs v q ≡ true → occurs v u ≡ true) → (j : Bool) → joins_goals f ≡ j → (x y : Option Term) → body s ≡ x → body u ≡ y → occurs v (Comp f (More s (More u NoMore))) ≡ true
      go hs hu false j x y ex ey = ap (occurs v) (let z : Some (Comp f (More s (More u NoMore))) ≡ Some b = sym (ap (λ c. if c then pair_body f (body s) (body u) else Some (Comp f (More s (More u NoMore)))) j) ∙ e in let w : Comp f (More s (More u NoMore)) ≡ b = cc in w) ∙ o
      go hs hu true j None y ex ey = absurd (no_pair y (sym (ap (λ x. pair_body f x y) ex) ∙ sym (ap (pair_body f (body s)) ey) ∙ sym (ap (λ c. if c then pair_body f (body s) (body u) else Some (Comp f (More s (More u NoMore)))) j) ∙ e))
        where
          no_pair : (y : Option Term) → pair_body f None y ≡ Some b → ⊥
          no_pair None h = cc
          no_pair (Some t) h = cc
      go hs hu true j (Some p) None ex ey = absurd (let z : None ≡ Some b = sym (ap (λ x. pair_body f x None) ex) ∙ sym (ap (pair_body f (body s)) ey) ∙ sym (ap (λ c. if c then pair_body f (body s) (body u) else Some (Comp f (More s (More u NoMore)))) j) ∙ e in cc)
      go hs hu true j (Some p) (Some q) ex ey =
          let z : Some (Comp f (More p (More q NoMore))) ≡ Some b = sym (ap (λ x. pair_body f x (Some q)) ex) ∙ sym (ap (pair_body f (body s)) ey) ∙ sym (ap (λ c. if c then pair_body f (body s) (body u) else Some (Comp f (More s (More u NoMore)))) j) ∙ e in
          let w : Comp f (More p (More q NoMore)) ≡ b = cc in
          or_cases (occurs v p) (occurs v q || false) (occurs v (Comp f (More s (More u NoMore))) ≡ true) (ap (occurs v) w ∙ o)
          (λ x. or_left (occurs v s) (occurs v u || false) (hs p ex x))
          (λ x. or_right (occurs v s) (occurs v u || false) (or_cases (occurs v q) false ((occurs v u || false) ≡ true) x (λ y. or_left (occurs v u) false (hu q ey y)) (λ y. absurd (cc))))
  occurs-body (Comp f (More s (More u (More w ts)))) b e o = ap (occurs v) (let x : Comp f (More s (More u (More w ts))) ≡ b = cc in x) ∙ o

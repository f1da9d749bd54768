-- The facts of every store are kept by each change.
use Rattle.std.proofs.Common.{◌≡◌, ℕ, zero, suc, ◌+◌, ◌^◌, ◌<◌, ◌≤◌, Bool, true, false, cond, nat_eq, nat_lt, List, [], ◌∷◌, ◌++◌, length, take, replicate, reverse, Option, Some, None, Result, Ok, Err, OnOk, slice_get, get_or, set, refl, ap, sym, subst, ◌∙◌, arith, length-append, inl, inr}
use Rattle.std.proofs.lemmas.Bool.{eqb-true, eq-eqb, ltb-true, ltb-false}
use Rattle.std.proofs.lemmas.List.{get_or-set_same, get_or-set_other, get_or-take, length-set, length-take, reverse-append}
use Rattle.std.proofs.Math.ListN.{get_or-eq_default}
use Rattle.std.proofs.lemmas.Option.{slice_get_within}
use Rattle.tp_terms.specs.declared.cells.Cell.{Cell}
use Rattle.tp_terms.specs.declared.cells.Cell.TheVariants as cell
use Rattle.tp_terms.specs.declared.cells.Ref.{Ref}
use Rattle.tp_terms.specs.declared.world.StoreMark.{StoreMark}
use Rattle.tp_terms.specs.Term.{Name, occurs}
use Rattle.tp_terms.specs.Shown.{shows, StandsBefore, AreBuilt}
use Rattle.tp_terms.specs.Binds.{Bindings, bound_in}
use Rattle.tp_terms.proofs.Places.Shown.{shows-append, shows-take}
use Rattle.tp_terms.proofs.Naming.Tables.{slice_get-append, slice_get-push}
use Rattle.tp_meaning.specs.Subst.{apply, extended}
use Rattle.tp_store.specs.Contents.{Contents, chained, subst_of, seen, Adds, AreChained, IsStore, IsNumbered, AddsCells, CanGoBack, Keeps, cut_to_mark, with_cell, with_vars, with_pair}
use Rattle.tp_store.specs.Chain.{IsTable, IsChains, IsClosed, contents_of}
use Rattle.tp_store.specs.declared.chains.Chains.{Chains}

-- ---- cells that show the same at the places of the bindings

pub record Agrees (names : List Name) (cells cells' : List Cell) (place : Ref) : Type 0 where
  pub within : place.at < length cells'
  pub term : shows names cells' place.at ≡ shows names cells place.at
  pub cell : slice_get cells' place.at ≡ slice_get cells place.at

abbrev pub AllAgree : List Name → List Cell → List Cell → ℕ → Bindings → Type 0
AllAgree names cells cells' vars [] = Unit {0}
AllAgree names cells cells' vars (p ∷ pairs) = (p.0 < vars) × Agrees names cells cells' p.1 × AllAgree names cells cells' vars pairs

pub chained-agree : (names : List Name) (cells cells' : List Cell) (vars : ℕ) (pairs : Bindings) → AllAgree names cells cells' vars pairs → chained names cells' pairs ≡ chained names cells pairs
unfolding chained
chained-agree names cells cells' vars [] h = refl
chained-agree names cells cells' vars (p ∷ pairs) h =
    ap (λ s. extended s p.0 (apply s (shows names cells' p.1.at))) (chained-agree names cells cells' vars pairs h.2)
    ∙ ap (λ t. extended (chained names cells pairs) p.0 (apply (chained names cells pairs) t)) h.1.term

pub AreChained-agree : (names : List Name) (cells cells' : List Cell) (vars vars' : ℕ) (pairs : Bindings) → AreChained names cells vars pairs → AllAgree names cells cells' vars' pairs → AreChained names cells' vars' pairs
AreChained-agree names cells cells' vars vars' [] c h = tt
AreChained-agree names cells cells' vars vars' (p ∷ pairs) c h = (
  record {
    claimed = h.0;
    stands = h.1.within;
    unbound = (c.0).unbound;
    apart = ap (λ s. occurs p.0 (apply s (shows names cells' p.1.at))) (chained-agree names cells cells' vars' pairs h.2) ∙ ap (λ t. occurs p.0 (apply (chained names cells pairs) t)) h.1.term ∙ (c.0).apart;
    older = λ w e. (c.0).older w (sym h.1.cell ∙ e);
  },
  AreChained-agree names cells cells' vars vars' pairs c.1 h.2,
)

-- further cells, and further variables
agree-append : (names : List Name) (cells more : List Cell) (vars vars' : ℕ) (pairs : Bindings) → vars ≤ vars' → AreChained names cells vars pairs → AllAgree names cells (cells ++ more) vars' pairs
agree-append names cells more vars vars' [] le c = tt
agree-append names cells more vars vars' (p ∷ pairs) le c = (
  (let lt : p.0 < vars = (c.0).claimed in omega arith),
  record {
    within = (let lt : p.1.at < length cells = (c.0).stands in omega (arith, length-append cells more));
    term = shows-append names cells more p.1.at (c.0).stands;
    cell = slice_get-append cells more p.1.at (c.0).stands;
  },
  agree-append names cells more vars vars' pairs le c.1,
)

pub subst_of-append : (names : List Name) (c : Contents) (more : List Cell) → IsStore c → chained names (c.cells ++ more) c.pairs ≡ subst_of names c
subst_of-append names c more s = chained-agree names c.cells (c.cells ++ more) c.vars c.pairs (agree-append names c.cells more c.vars c.vars c.pairs (omega arith) (s.chain names))

pub seen-append : (names : List Name) (c : Contents) (more : List Cell) (at : ℕ) → IsStore c → at < length c.cells → apply (chained names (c.cells ++ more) c.pairs) (shows names (c.cells ++ more) at) ≡ seen names c at
seen-append names c more at s lt = ap (λ u. apply u (shows names (c.cells ++ more) at)) (subst_of-append names c more s) ∙ ap (apply (subst_of names c)) (shows-append names c.cells more at lt)

AreBuilt-push : (cells : List Cell) (x : Cell) → AreBuilt cells → StandsBefore (length cells) x → AreBuilt (cells ++ x ∷ [])
AreBuilt-push cells x b h at y e = elim (slice_get-push cells x at y e) [ inl old ↦ b at y old | inr new ↦ subst (λ n. StandsBefore n y) (sym new.0) (subst (StandsBefore (length cells)) (sym new.1) h) ]

pub IsStore-cell : (c : Contents) (x : Cell) → IsStore c → StandsBefore (length c.cells) x → IsNumbered c.vars x → IsStore (with_cell c x)
IsStore-cell c x s b n = record {
  built = AreBuilt-push c.cells x s.built b;
  chain = λ names. AreChained-agree names c.cells (c.cells ++ x ∷ []) c.vars c.vars c.pairs (s.chain names) (agree-append names c.cells (x ∷ []) c.vars c.vars c.pairs (omega arith) (s.chain names));
  numbered = λ at v e. elim (slice_get-push c.cells x at (cell.Var v) e) [ inl old ↦ s.numbered at v old | inr new ↦ subst (IsNumbered c.vars) (sym new.1) n ];
}

pub IsStore-vars : (c : Contents) (n : ℕ) → IsStore c → IsStore (with_vars c n)
IsStore-vars c n s = record {
  built = s.built;
  chain = λ names. AreChained-more names c.pairs (s.chain names);
  numbered = λ at v e. let lt : v < c.vars = s.numbered at v e in omega arith;
}
  where
    AreChained-more : (names : List Name) (pairs : Bindings) → AreChained names c.cells c.vars pairs → AreChained names c.cells (c.vars + n) pairs
    AreChained-more names [] h = tt
    AreChained-more names (p ∷ pairs) h = (
      record { claimed = (let lt : p.0 < c.vars = (h.0).claimed in omega arith); stands = (h.0).stands; unbound = (h.0).unbound; apart = (h.0).apart; older = (h.0).older },
      AreChained-more names pairs h.1,
    )

pub IsStore-pair : (c : Contents) (v : ℕ) (place : Ref) → IsStore c → ((names : List Name) → Adds names c.cells c.vars c.pairs v place) → IsStore (with_pair c v place)
IsStore-pair c v place s a = record { built = s.built; chain = λ names. (a names, s.chain names); numbered = s.numbered }

-- a binding taken back
pub IsStore-unpair : (c : Contents) (v : ℕ) (place : Ref) → IsStore (with_pair c v place) → IsStore c
IsStore-unpair c v place s = record { built = s.built; chain = λ names. (s.chain names).1; numbered = s.numbered }

-- ---- cells and variables cut to a mark

-- an element before the cut stays
pub slice_get-take : {X : Type 0} (n : ℕ) (xs : List X) (i : ℕ) → i < n → slice_get (take n xs) i ≡ slice_get xs i
slice_get-take zero xs i lt = absurd (omega arith)
slice_get-take (suc n) [] i lt = refl
slice_get-take (suc n) (x ∷ xs) zero lt = refl
slice_get-take (suc n) (x ∷ xs) (suc i) lt = slice_get-take n xs i (omega arith)

-- what a later binding says is said of another variable than the newest
newest_other : (names : List Name) (cells : List Cell) (vars : ℕ) (p : ℕ × Ref) (pairs : Bindings) (x : ℕ) (place : Ref) → bound_in pairs p.0 ≡ None → bound_in pairs x ≡ Some place → bound_in (p ∷ pairs) x ≡ Some place
newest_other names cells vars p pairs x place none e = go (nat_eq p.0 x) refl
  where
    go : (b : Bool) → nat_eq p.0 x ≡ b → cond b (Some p.1) (bound_in pairs x) ≡ Some place
    go true same = let n : None ≡ Some place = sym none ∙ ap (bound_in pairs) (eqb-true p.0 x same) ∙ e in absurd (cc)
    go false same = e

agree-take : (names : List Name) (cells : List Cell) (m vars vars' : ℕ) (pairs : Bindings) → m ≤ length cells → AreChained names cells vars pairs → ((v : ℕ) → vars' ≤ v → bound_in pairs v ≡ None) → ((v : ℕ) (place : Ref) → bound_in pairs v ≡ Some place → place.at < m) → AllAgree names cells (take m cells) vars' pairs
agree-take names cells m vars vars' [] le c h k = tt
agree-take names cells m vars vars' (p ∷ pairs) le c h k =
    let here : bound_in (p ∷ pairs) p.0 ≡ Some p.1 = ap (λ b. cond b (Some p.1) (bound_in pairs p.0)) (eq-eqb p.0 p.0 refl) in
    let lt : p.1.at < m = k p.0 p.1 here in (
      below (nat_lt p.0 vars') refl,
      record { within = omega (arith, length-take m cells); term = shows-take names m cells p.1.at le lt; cell = slice_get-take m cells p.1.at lt },
      agree-take names cells m vars vars' pairs le c.1 (λ v le'. later v (bound_in pairs v) refl (h v le')) (λ v place e. k v place (newest_other names cells vars p pairs v place (c.0).unbound e)),
    )
  where
    below : (b : Bool) → nat_lt p.0 vars' ≡ b → p.0 < vars'
    below true e = ltb-true p.0 vars' e
    below false e =
        let n : None ≡ Some p.1 = sym (h p.0 (ltb-false p.0 vars' e)) ∙ ap (λ b. cond b (Some p.1) (bound_in pairs p.0)) (eq-eqb p.0 p.0 refl) in
        absurd (cc)

    later : (v : ℕ) (o : Option Ref) → bound_in pairs v ≡ o → bound_in (p ∷ pairs) v ≡ None → bound_in pairs v ≡ None
    later v None e n = e
    later v (Some place) e n = let z : None ≡ Some place = sym n ∙ newest_other names cells vars p pairs v place (c.0).unbound e in absurd (cc)

below_mark : (c : Contents) (mark : StoreMark) (at : ℕ) (x : Cell) → slice_get (take mark.cells c.cells) at ≡ Some x → at < mark.cells
below_mark c mark at x e = omega (arith, slice_get_within (take mark.cells c.cells) at x e, length-take mark.cells c.cells)

pub IsStore-cut : (c : Contents) (mark : StoreMark) → IsStore c → CanGoBack c mark → IsStore (cut_to_mark c mark)
IsStore-cut c mark s can = record {
  built = λ at x e. s.built at x (sym (slice_get-take mark.cells c.cells at (below_mark c mark at x e)) ∙ e);
  chain = λ names. AreChained-agree names c.cells (take mark.cells c.cells) c.vars mark.vars c.pairs (s.chain names) (agree-take names c.cells mark.cells c.vars mark.vars c.pairs can.cells (s.chain names) can.numbers can.places);
  numbered = λ at v e.
      let lt' : at < mark.cells = below_mark c mark at (cell.Var v) e in
      can.variables at v lt' (sym (slice_get-take mark.cells c.cells at lt') ∙ e);
}

-- what the bindings stand for is the same after the cut
pub subst_of-cut : (names : List Name) (c : Contents) (mark : StoreMark) → IsStore c → CanGoBack c mark → subst_of names (cut_to_mark c mark) ≡ subst_of names c
subst_of-cut names c mark s can = chained-agree names c.cells (take mark.cells c.cells) mark.vars c.pairs (agree-take names c.cells mark.cells c.vars mark.vars c.pairs can.cells (s.chain names) can.numbers can.places)

-- ---- what a place shows stays

pub Keeps-more : (old new : Contents) (more : List Cell) → IsStore old → new.cells ≡ old.cells ++ more → new.pairs ≡ old.pairs → Keeps old new
Keeps-more old new more s cells pairs = record {
  terms = λ names at lt. ap (λ cs. shows names cs at) cells ∙ shows-append names old.cells more at lt;
  bindings = λ names. ap (λ cs. chained names cs new.pairs) cells ∙ ap (chained names (old.cells ++ more)) pairs ∙ subst_of-append names old more s;
}

pub Keeps-adds : (old new : Contents) → IsStore old → AddsCells old new → Keeps old new
Keeps-adds old new s a = Keeps-more old new a.more s a.cells a.pairs

pub keeps_ok : {T E : Type 0} (r : Result T E) (old new mid : Contents) (x : Cell) → IsStore old → mid.cells ≡ old.cells → mid.pairs ≡ old.pairs → OnOk r (new ≡ with_cell mid x) → OnOk r (Keeps old new)
keeps_ok (Ok t) old new mid x s cells pairs e = Keeps-more old new (x ∷ []) s (ap (λ (y : Contents). y.cells) e ∙ ap (λ cs. cs ++ x ∷ []) cells) (ap (λ (y : Contents). y.pairs) e ∙ pairs)
keeps_ok (Err t) old new mid x s cells pairs e = tt

pub Keeps-cut : (c new : Contents) (mark : StoreMark) → IsStore c → CanGoBack c mark → new ≡ cut_to_mark c mark → Keeps new c
Keeps-cut c new mark s can e = subst (λ n. Keeps n c) (sym e) (record {
  terms = λ names at lt. sym (shows-take names mark.cells c.cells at can.cells (let l : length (take mark.cells c.cells) ≤ mark.cells = omega (arith, length-take mark.cells c.cells) in omega arith));
  bindings = λ names. sym (subst_of-cut names c mark s can);
})

-- ---- the table by number

pub IsTable-pair : (bound : List (Option Ref)) (pairs : Bindings) (v : ℕ) (place : Ref) → IsTable bound pairs → v < length bound → IsTable (set bound v (Some place)) ((v, place) ∷ pairs)
IsTable-pair bound pairs v place t lt = record { kept = λ x. at x (nat_eq v x) refl }
  where
    at : (x : ℕ) (b : Bool) → nat_eq v x ≡ b → get_or (set bound v (Some place)) x None ≡ cond b (Some place) (bound_in pairs x)
    at x true e = ap (λ k. get_or (set bound v (Some place)) k None) (sym (eqb-true v x e)) ∙ get_or-set_same bound v (Some place) None lt
    at x false e = get_or-set_other bound v x (Some place) None (other x e) ∙ t.kept x
      where
        other : (x : ℕ) → nat_eq v x ≡ false → ¬ (x ≡ v)
        other x e same = let q : true ≡ false = sym (eq-eqb v x (sym same)) ∙ e in absurd (cc)

pub IsTable-unpair : (bound : List (Option Ref)) (pairs : Bindings) (v : ℕ) (place : Ref) → IsTable bound ((v, place) ∷ pairs) → v < length bound → bound_in pairs v ≡ None → IsTable (set bound v None) pairs
IsTable-unpair bound pairs v place t lt none = record { kept = λ x. at x (nat_eq v x) refl }
  where
    at : (x : ℕ) (b : Bool) → nat_eq v x ≡ b → get_or (set bound v None) x None ≡ bound_in pairs x
    at x true e = ap (λ k. get_or (set bound v None) k None) (sym (eqb-true v x e)) ∙ get_or-set_same bound v None None lt ∙ sym (ap (bound_in pairs) (sym (eqb-true v x e)) ∙ none)
    at x false e = get_or-set_other bound v x None None (other x e) ∙ t.kept x ∙ ap (λ b. cond b (Some place) (bound_in pairs x)) e
      where
        other : (x : ℕ) → nat_eq v x ≡ false → ¬ (x ≡ v)
        other x e same = let q : true ≡ false = sym (eq-eqb v x (sym same)) ∙ e in absurd (cc)

get_or-more : (bound : List (Option Ref)) (k x : ℕ) → get_or (bound ++ replicate k None) x None ≡ get_or bound x None
get_or-more [] zero x = refl
get_or-more [] (suc k) zero = refl
get_or-more [] (suc k) (suc x) = get_or-more [] k x ∙ refl
get_or-more (o ∷ bound) k zero = refl
get_or-more (o ∷ bound) k (suc x) = get_or-more bound k x

pub IsTable-vars : (bound bound' : List (Option Ref)) (pairs : Bindings) (k : ℕ) → IsTable bound pairs → bound' ≡ bound ++ replicate k None → IsTable bound' pairs
IsTable-vars bound bound' pairs k t e = record { kept = λ x. ap (λ os. get_or os x None) e ∙ get_or-more bound k x ∙ t.kept x }

pub IsTable-cut : (bound : List (Option Ref)) (pairs : Bindings) (n : ℕ) → IsTable bound pairs → ((v : ℕ) → n ≤ v → bound_in pairs v ≡ None) → IsTable (take n bound) pairs
IsTable-cut bound pairs n t none = record { kept = λ x. at x (nat_lt x n) refl }
  where
    at : (x : ℕ) (b : Bool) → nat_lt x n ≡ b → get_or (take n bound) x None ≡ bound_in pairs x
    at x true e = get_or-take n bound x None (ltb-true x n e) ∙ t.kept x
    at x false e = let le : n ≤ x = ltb-false x n e in get_or-eq_default (take n bound) None {n = x} (omega (arith, length-take n bound)) ∙ sym (none x le)

-- ---- bindings and cells as the code keeps them

pub IsChains-of : (new : Chains) (c : Contents) → new.cells.items ≡ c.cells → reverse new.trail.pairs ≡ c.pairs → length new.trail.bound ≡ c.vars → IsStore c → IsTable new.trail.bound c.pairs → IsClosed c.cells c.pairs new.closed → c.vars < 2 ^ 64 → IsChains new
IsChains-of new c cells pairs vars s t closed fits =
    let same : c ≡ contents_of new = ap (λ cs. record { cells = cs; pairs = c.pairs; vars = c.vars }) (sym cells) ∙ ap (λ ps. record { cells = new.cells.items; pairs = ps; vars = c.vars }) (sym pairs) ∙ ap (λ n. record { cells = new.cells.items; pairs = reverse new.trail.pairs; vars = n }) (sym vars) in
    record {
      store = subst IsStore same s;
      table = subst (IsTable new.trail.bound) (sym pairs) t;
      closed = subst (λ ps. IsClosed new.cells.items ps new.closed) (sym pairs) (subst (λ cs. IsClosed cs c.pairs new.closed) (sym cells) closed);
      fits = subst (λ (n : ℕ). n < 2 ^ 64) (sym vars) fits;
    }

-- the newest binding is last in memory
pub reverse-push : (pairs more : List (ℕ × Ref)) (p : ℕ × Ref) → more ≡ pairs ++ p ∷ [] → reverse more ≡ p ∷ reverse pairs
reverse-push pairs more p e = ap reverse e ∙ reverse-append pairs (p ∷ [])

-- the newest binding is taken back
module _ (old new : Chains) (p : ℕ × Ref) (h : IsChains old) (newest : old.trail.pairs ≡ new.trail.pairs ++ p ∷ []) where
  before : Contents
  before = record { cells = old.cells.items; pairs = reverse new.trail.pairs; vars = length old.trail.bound }

  had : IsStore (with_pair before p.0 p.1)
  unfolding before
  had = subst (λ ps. IsStore (record { cells = old.cells.items; pairs = ps; vars = length old.trail.bound })) (reverse-push new.trail.pairs old.trail.pairs p newest) h.store

  pub newest_claimed : p.0 < length old.trail.bound
  unfolding before
  newest_claimed = (had.chain []).0.claimed

  pub IsChains-undo : new.cells.items ≡ old.cells.items → new.trail.bound ≡ set old.trail.bound p.0 None → new.closed ≡ old.closed → IsChains new
  unfolding before
  IsChains-undo cells bound mark =
      IsChains-of new before cells refl (ap length bound ∙ length-set old.trail.bound p.0 None) (IsStore-unpair before p.0 p.1 had)
      (subst (λ os. IsTable os (reverse new.trail.pairs)) (sym bound)
      (IsTable-unpair old.trail.bound (reverse new.trail.pairs) p.0 p.1 (subst (IsTable old.trail.bound) (reverse-push new.trail.pairs old.trail.pairs p newest) h.table) newest_claimed (had.chain []).0.unbound))
      (subst (IsClosed old.cells.items (reverse new.trail.pairs)) (sym mark) rest)
      h.fits
    where
      rest : IsClosed old.cells.items (reverse new.trail.pairs) old.closed
      rest =
          let all : IsClosed old.cells.items (p ∷ reverse new.trail.pairs) old.closed = subst (λ ps. IsClosed old.cells.items ps old.closed) (reverse-push new.trail.pairs old.trail.pairs p newest) h.closed in
          record { variables = all.variables; bound = all.bound.1 }

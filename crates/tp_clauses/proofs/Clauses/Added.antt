-- One clause more behind the others.
use Rattle.std.proofs.Common.{◌≡◌, ℕ, zero, suc, ◌+◌, ◌<◌, nat_eq, Bool, true, false, ◌&&◌, List, [], ◌∷◌, ◌++◌, length, map, slice_get, Option, Some, None, option_map, IfSome, refl, sym, ap, subst, ◌∙◌, arith, length-append, if◌then◌else◌, Result, Ok, Err, IfOk, OnOk, Vec, Global}
use Rattle.std.specs.List.{All}
use Rattle.std.proofs.lemmas.Bool.{eqb-true, eqb-false}
use Rattle.std.proofs.lemmas.List.{append-nil, map-append, length-map}
use Rattle.std.proofs.lemmas.List.Elements.{All-nil, All-head, All-tail, All-push, All-weaker}
use Rattle.tp_terms.specs.declared.cells.Cell.{Cell}
use Rattle.tp_terms.specs.declared.cells.Cell.TheVariants as cell
use Rattle.tp_terms.specs.declared.cells.Ref.{Ref}
use Rattle.tp_terms.specs.declared.cells.AtomId.{AtomId}
use Rattle.tp_terms.specs.Term.{Name, occurs}
use Rattle.tp_terms.specs.Shown.{shows, AreBuilt, AreNamed}
use Rattle.tp_terms.proofs.Places.Shown.{shows-append}
use Rattle.tp_terms.proofs.Naming.Tables.{slice_get-append}
use Rattle.tp_clauses.specs.Contents.{ViewFits, IsHead, AreBelow, clause_of, clause_by, base_of, is_of, is_of_by, places_from}
use Rattle.tp_parse.specs.Ops.{table_of}
use Rattle.tp_parse.specs.Table.{start_table}
use Rattle.tp_clauses.specs.Indexed.{ids_in, same_key}
use Rattle.tp_clauses.specs.Ranks.{AreRanks, is_clause_of, is_view_of}
use Rattle.tp_clauses.specs.Kinds.{key_of}
use Rattle.tp_clauses.specs.Moved.{moved, moved_view, place_on}
use Rattle.tp_clauses.specs.Parts.{IsParts, IsEmpty, AddsClause, Longer, contents_of}
use Rattle.tp_clauses.specs.Bodies.{TellsBody}
use Rattle.tp_clauses.specs.declared.index.Index.{Index}
use Rattle.tp_store.specs.Contents.{Contents, AddsCells, IsStore, chained, seen}
use Rattle.tp_meaning.specs.Body.{body}
use Rattle.tp_meaning.specs.Subst.{apply}
use Rattle.tp_meaning.proofs.Unification.Applied.{apply-empty}
use Rattle.tp_terms.specs.Names.{IsTable}
use Rattle.tp_terms.specs.declared.symbols.TheConstants.{CALL}
use Rattle.tp_clauses.proofs.Taking.StartNames.{call-within}
use Rattle.tp_clauses.specs.declared.base.ClauseId.{ClauseId}
use Rattle.tp_clauses.specs.declared.base.ClauseView.{ClauseView}
use Rattle.tp_clauses.specs.declared.kind.Key.{Key}
use Rattle.tp_clauses.specs.declared.parts.Parts.{Parts}
use Rattle.tp_clauses.proofs.Clauses.Moved.{shows-moved}
use Rattle.tp_clauses.proofs.Clauses.Places.{one_key}
use Rattle.tp_clauses.proofs.Clauses.Ranks.{at_end, no_ranks, ranks_same, ranks_added}

-- ---- cells

pub slice_get-behind : (cs : List Cell) (f : Cell → Cell) (ds : List Cell) (i : ℕ) → slice_get (cs ++ map f ds) (i + length cs) ≡ option_map f (slice_get ds i)
slice_get-behind [] f ds i = ap (λ n. slice_get (map f ds) n) (let e : i + 0 ≡ i = omega arith in e) ∙ mapped ds i
  where
    mapped : (ds : List Cell) (i : ℕ) → slice_get (map f ds) i ≡ option_map f (slice_get ds i)
    mapped [] i = refl
    mapped (d ∷ ds) zero = refl
    mapped (d ∷ ds) (suc i) = mapped ds i
slice_get-behind (c ∷ cs) f ds i = ap (λ n. slice_get (c ∷ (cs ++ map f ds)) n) (let e : i + suc (length cs) ≡ suc (i + length cs) = omega arith in e) ∙ slice_get-behind cs f ds i

pub IsHead-moved : (by : ℕ) (o : Option Cell) → IsHead o → IsHead (option_map (moved by) o)
IsHead-moved by None h = h
IsHead-moved by (Some (cell.Var v)) h = h
IsHead-moved by (Some (cell.Int z)) h = h
IsHead-moved by (Some (cell.Atom a)) h = h
IsHead-moved by (Some (cell.Comp f first k)) h = h

-- a clause of the first cells fits the longer ones
fits_longer : (cs ds : List Cell) (v : ClauseView) → ViewFits cs v → ViewFits (cs ++ ds) v
fits_longer cs ds v h = record {
  head = let l = h.head in omega (arith, length-append cs ds);
  named = subst (λ o. IsHead o) (sym (slice_get-append cs ds v.head.at h.head)) h.named;
  below = λ x e. h.below x (ap (occurs x) (sym (shows-append [] cs ds v.head.at h.head)) ∙ e);
  body = go v.body h.body;
}
  where
    go : (o : Option Ref) → IfSome o (λ place. (place.at < length cs) × AreBelow cs v.vars place) → IfSome o (λ place. (place.at < length (cs ++ ds)) × AreBelow (cs ++ ds) v.vars place)
    go None k = tt
    go (Some place) k = (let l = k.0 in omega (arith, length-append cs ds), λ x e. k.1 x (ap (occurs x) (sym (shows-append [] cs ds place.at k.0)) ∙ e))

-- and one of the others fits them, moved on
pub fits_moved : (cs ds : List Cell) (v : ClauseView) → ViewFits ds v → ViewFits (cs ++ map (moved (length cs)) ds) (moved_view (length cs) v)
fits_moved cs ds v h = record {
  head = within v.head.at h.head;
  named = subst (λ o. IsHead o) (sym (slice_get-behind cs (moved (length cs)) ds v.head.at)) (IsHead-moved (length cs) (slice_get ds v.head.at) h.named);
  below = λ x e. h.below x (ap (occurs x) (sym (shows-moved [] cs ds v.head.at)) ∙ e);
  body = go v.body h.body;
}
  where
    within : (at : ℕ) → at < length ds → at + length cs < length (cs ++ map (moved (length cs)) ds)
    within at l = omega (arith, length-append cs (map (moved (length cs)) ds), length-map ds (moved (length cs)))

    go : (o : Option Ref) → IfSome o (λ place. (place.at < length ds) × AreBelow ds v.vars place) → IfSome (option_map (place_on (length cs)) o) (λ place. (place.at < length (cs ++ map (moved (length cs)) ds)) × AreBelow (cs ++ map (moved (length cs)) ds) v.vars place)
    go None k = tt
    go (Some place) k = (within place.at k.0, λ x e. k.1 x (ap (occurs x) (sym (shows-moved [] cs ds place.at)) ∙ e))

-- ---- clauses

-- a clause stays the same when cells are added
clause_longer : (names : List Name) (cs ds : List Cell) (v : ClauseView) → ViewFits cs v → clause_of names (cs ++ ds) v ≡ clause_of names cs v
clause_longer names cs ds v h =
    ap (λ t. clause_by t (option_map (λ place. shows names (cs ++ ds) place.at) v.body) v.vars) (shows-append names cs ds v.head.at h.head)
    ∙ ap (λ b. clause_by (shows names cs v.head.at) b v.vars) (go v.body h.body)
  where
    go : (o : Option Ref) → IfSome o (λ place. (place.at < length cs) × AreBelow cs v.vars place) → option_map (λ place. shows names (cs ++ ds) place.at) o ≡ option_map (λ place. shows names cs place.at) o
    go None k = refl
    go (Some place) k = ap Some (shows-append names cs ds place.at k.0)

pub clause_moved : (names : List Name) (cs ds : List Cell) (v : ClauseView) → clause_of names (cs ++ map (moved (length cs)) ds) (moved_view (length cs) v) ≡ clause_of names ds v
clause_moved names cs ds v =
    ap (λ t. clause_by t (option_map (λ place. shows names (cs ++ map (moved (length cs)) ds) place.at) (option_map (place_on (length cs)) v.body)) v.vars) (shows-moved names cs ds v.head.at)
    ∙ ap (λ b. clause_by (shows names ds v.head.at) b v.vars) (go v.body)
  where
    go : (o : Option Ref) → option_map (λ place. shows names (cs ++ map (moved (length cs)) ds) place.at) (option_map (place_on (length cs)) o) ≡ option_map (λ place. shows names ds place.at) o
    go None = refl
    go (Some place) = ap Some (shows-moved names cs ds place.at)

clauses_longer : (names : List Name) (cs ds : List Cell) (vs : List ClauseView) → All (ViewFits cs) vs → map (clause_of names (cs ++ ds)) vs ≡ map (clause_of names cs) vs
clauses_longer names cs ds [] h = refl
clauses_longer names cs ds (v ∷ vs) h =
    ap (λ c. c ∷ map (clause_of names (cs ++ ds)) vs) (clause_longer names cs ds v (All-head (ViewFits cs) v vs h))
    ∙ ap (λ l. clause_of names cs v ∷ l) (clauses_longer names cs ds vs (All-tail (ViewFits cs) v vs h))

-- ---- places

is_of-longer : (name : AtomId) (arity : ℕ) (cs ds : List Cell) (v : ClauseView) → ViewFits cs v → is_of name arity (cs ++ ds) v ≡ is_of name arity cs v
is_of-longer name arity cs ds v h = ap (is_of_by name arity) (slice_get-append cs ds v.head.at h.head)

abbrev pub id_at : ℕ → ClauseId
id_at n = record { at = n }

places_longer : (name : AtomId) (arity : ℕ) (cs ds : List Cell) (at : ℕ) (vs : List ClauseView) → All (ViewFits cs) vs → places_from name arity (cs ++ ds) at vs ≡ places_from name arity cs at vs
places_longer name arity cs ds at [] h = refl
places_longer name arity cs ds at (v ∷ vs) h =
    let rest = places_longer name arity cs ds (suc at) vs (All-tail (ViewFits cs) v vs h) in
    ap (λ b. if b then id_at at ∷ places_from name arity (cs ++ ds) (suc at) vs else places_from name arity (cs ++ ds) (suc at) vs) (is_of-longer name arity cs ds v (All-head (ViewFits cs) v vs h))
    ∙ ap (λ l. if is_of name arity cs v then id_at at ∷ l else l) rest

-- the name and the number of arguments of a clause stay the same
view_longer : (name : AtomId) (arity : ℕ) (cs ds : List Cell) (vs : List ClauseView) → All (ViewFits cs) vs → (at : ℕ) → is_view_of name arity (cs ++ ds) (slice_get vs at) ≡ is_view_of name arity cs (slice_get vs at)
view_longer name arity cs ds [] h at = refl
view_longer name arity cs ds (v ∷ vs) h zero = is_of-longer name arity cs ds v (All-head (ViewFits cs) v vs h)
view_longer name arity cs ds (v ∷ vs) h (suc at) = view_longer name arity cs ds vs (All-tail (ViewFits cs) v vs h) at

-- the places with one clause more
pub places_push : (name : AtomId) (arity : ℕ) (cs : List Cell) (at : ℕ) (vs : List ClauseView) (v : ClauseView) → places_from name arity cs at (vs ++ v ∷ []) ≡ (if is_of name arity cs v then places_from name arity cs at vs ++ id_at (at + length vs) ∷ [] else places_from name arity cs at vs)
places_push name arity cs at [] v = ap (λ n. if is_of name arity cs v then id_at n ∷ [] else []) (let e : at ≡ at + 0 = omega arith in e)
places_push name arity cs at (w ∷ vs) v = go (is_of name arity cs w) (is_of name arity cs v) (places_push name arity cs (suc at) vs v)
  where
    e : suc at + length vs ≡ at + suc (length vs)
    e = omega arith

    go : (a b : Bool) → places_from name arity cs (suc at) (vs ++ v ∷ []) ≡ (if b then places_from name arity cs (suc at) vs ++ id_at (suc at + length vs) ∷ [] else places_from name arity cs (suc at) vs)
        → (if a then id_at at ∷ places_from name arity cs (suc at) (vs ++ v ∷ []) else places_from name arity cs (suc at) (vs ++ v ∷ []))
        ≡ (if b then (if a then id_at at ∷ places_from name arity cs (suc at) vs else places_from name arity cs (suc at) vs) ++ id_at (at + suc (length vs)) ∷ [] else (if a then id_at at ∷ places_from name arity cs (suc at) vs else places_from name arity cs (suc at) vs))
    go true true h = ap (λ l. id_at at ∷ l) h ∙ ap (λ n. id_at at ∷ (places_from name arity cs (suc at) vs ++ id_at n ∷ [])) e
    go true false h = ap (λ l. id_at at ∷ l) h
    go false true h = h ∙ ap (λ n. places_from name arity cs (suc at) vs ++ id_at n ∷ []) e
    go false false h = h

nat_eq-sym : (a b : ℕ) → nat_eq a b ≡ nat_eq b a
nat_eq-sym a b = go (nat_eq a b) refl (nat_eq b a) refl
  where
    go : (x : Bool) → nat_eq a b ≡ x → (y : Bool) → nat_eq b a ≡ y → nat_eq a b ≡ nat_eq b a
    go true e true f = e ∙ sym f
    go false e false f = e ∙ sym f
    go true e false f = absurd (eqb-false b a f (sym (eqb-true a b e)))
    go false e true f = absurd (eqb-false a b e (sym (eqb-true b a f)))

named : (a : AtomId) (k : ℕ) (key : Key) (name : AtomId) (arity : ℕ) → record { name = a; arity = k } ≡ key → (nat_eq name.at a.at && nat_eq arity k) ≡ same_key key (record { name = name; arity = arity })
named a k key name arity same =
    ap (λ b. b && nat_eq arity k) (nat_eq-sym name.at a.at) ∙ ap (λ b. nat_eq a.at name.at && b) (nat_eq-sym arity k) ∙ ap (λ (j : Key). same_key j (record { name = name; arity = arity })) same

-- the key of a head is the one that its cell is of
pub key_is : (o : Option Cell) (key : Key) (name : AtomId) (arity : ℕ) → key_of o ≡ Some key → is_of_by name arity o ≡ same_key key (record { name = name; arity = arity })
key_is None key name arity e = absurd (cc)
key_is (Some (cell.Var v)) key name arity e = absurd (cc)
key_is (Some (cell.Int z)) key name arity e = absurd (cc)
key_is (Some (cell.Atom a)) key name arity e = named a 0 key name arity (cc)
key_is (Some (cell.Comp f first k)) key name arity e = named f k key name arity (cc)

key_of-moved : (by : ℕ) (o : Option Cell) → key_of (option_map (moved by) o) ≡ key_of o
key_of-moved by None = refl
key_of-moved by (Some (cell.Var v)) = refl
key_of-moved by (Some (cell.Int z)) = refl
key_of-moved by (Some (cell.Atom a)) = refl
key_of-moved by (Some (cell.Comp f first k)) = refl

-- a cell that was moved on has the same key
pub key_behind : (cs ds : List Cell) (at : ℕ) → key_of (slice_get (cs ++ map (moved (length cs)) ds) (at + length cs)) ≡ key_of (slice_get ds at)
key_behind cs ds at = ap key_of (slice_get-behind cs (moved (length cs)) ds at) ∙ key_of-moved (length cs) (slice_get ds at)

-- ---- no clause

-- the parts of no clause
pub nothing : (p : Parts) → p.store.cells ≡ [] → p.store.pairs ≡ [] → p.clauses.items ≡ [] → p.ranks.items ≡ [] → ((k : Key) → ids_in same_key p.index k ≡ []) → table_of p.ops ≡ start_table → IsEmpty p
nothing p cells pairs clauses ranks index ops = record {
  parts = record {
    base = record {
      built = subst (λ (l : List Cell). AreBuilt l) (sym cells) (λ at c e. absurd (cc));
      clauses = subst (λ (l : List ClauseView). All (ViewFits p.store.cells) l) (sym clauses) (All-nil (ViewFits p.store.cells));
    };
    index = λ name arity. index (record { name = name; arity = arity }) ∙ sym (ap (places_from name arity p.store.cells 0) clauses);
    ranks = subst (λ (l : List ℕ). AreRanks (contents_of p) l) (sym ranks) (no_ranks (contents_of p) clauses);
    unbound = pairs;
  };
  cells = cells;
  clauses = clauses;
  ops = ops;
}

-- ---- further cells

pub parts_longer : (old new : Parts) (more : List Cell) → IsParts old → new.store.cells ≡ old.store.cells ++ more → new.clauses.items ≡ old.clauses.items → new.index ≡ old.index → new.ranks ≡ old.ranks → new.ops ≡ old.ops → new.store.pairs ≡ old.store.pairs → AreBuilt new.store.cells → Longer old new more
parts_longer old new more ok cells clauses same_index same_ranks ops pairs built =
    let cs = old.store.cells in
    let vs = old.clauses.items in
    let fit : All (ViewFits cs) vs = (ok.base).clauses in
    let longer : All (ViewFits (cs ++ more)) vs = All-weaker (ViewFits cs) (ViewFits (cs ++ more)) (λ x. fits_longer cs more x) vs fit in
    let same_places : (name : AtomId) (arity : ℕ) → places_from name arity new.store.cells 0 new.clauses.items ≡ places_from name arity (cs ++ more) 0 vs =
    λ name arity. ap (λ l. places_from name arity new.store.cells 0 l) clauses ∙ ap (λ l. places_from name arity l 0 vs) cells in
    record {
      parts = record {
        base = record { built = built; clauses = subst (λ (l : List ClauseView). All (ViewFits new.store.cells) l) (sym clauses) (subst (λ (l : List Cell). All (ViewFits l) vs) (sym cells) longer) };
        index = λ name arity.
            ap (λ (i : Index Key). ids_in same_key i (record { name = name; arity = arity })) same_index ∙ ok.index name arity
            ∙ sym (places_longer name arity cs more 0 vs fit)
            ∙ sym (same_places name arity);
        ranks = subst (λ (l : Vec ℕ Global). AreRanks (contents_of new) l.items) (sym same_ranks)
            (ranks_same (contents_of old) (contents_of new) old.ranks.items (ap length clauses) (λ name arity. same_places name arity ∙ places_longer name arity cs more 0 vs fit)
            (λ name arity id. ap (λ l. is_view_of name arity l (slice_get new.clauses.items id.at)) cells ∙ ap (λ l. is_view_of name arity (cs ++ more) (slice_get l id.at)) clauses ∙ view_longer name arity cs more vs fit id.at)
            ok.ranks);
        unbound = pairs ∙ ok.unbound;
      };
      cells = cells;
      clauses = clauses;
      ops = ops;
    }

-- the clauses stay the same
pub longer_base : (old new : Parts) (more : List Cell) → IsParts old → Longer old new more → (names : List Name) → base_of names (contents_of new) ≡ base_of names (contents_of old)
longer_base old new more ok l names =
    ap (λ cs. map (clause_of names cs) new.clauses.items) l.cells
    ∙ ap (map (clause_of names (old.store.cells ++ more))) l.clauses
    ∙ clauses_longer names old.store.cells more old.clauses.items (ok.base).clauses

-- ---- one clause more

-- some places with one more, or the same
more_places : (b : Bool) (ids : List ClauseId) (id : ClauseId) (new : List ClauseId) → new ≡ (if b then ids ++ id ∷ [] else ids) → (more : List ClauseId) × (new ≡ ids ++ more)
more_places true ids id new e = (id ∷ [], e)
more_places false ids id new e = ([], e ∙ sym (append-nil ids))

-- the last clause's rank
last_rank : (cs : List Cell) (vs : List ClauseView) (v : ClauseView) (key : Key) → key_of (slice_get cs v.head.at) ≡ Some key → (name : AtomId) (arity rank : ℕ) (ids : Key → List ClauseId) → ids (record { name = name; arity = arity }) ≡ places_from name arity cs 0 vs → rank ≡ length (ids key)
    → (new : List ClauseId) → new ≡ (if is_of name arity cs v then places_from name arity cs 0 vs ++ id_at (length vs) ∷ [] else places_from name arity cs 0 vs)
    → is_view_of name arity cs (slice_get (vs ++ v ∷ []) (length vs)) ≡ true
    → (rank ≡ length (places_from name arity cs 0 vs)) × (new ≡ places_from name arity cs 0 vs ++ id_at (length vs) ∷ [])
last_rank cs vs v key is name arity rank ids old counted new now of =
    let here : is_of name arity cs v ≡ true = sym (ap (is_view_of name arity cs) (at_end vs v)) ∙ of in
    let one : key ≡ (let k : Key = record { name = name; arity = arity } in k) = one_key key (record { name = name; arity = arity }) (sym (key_is (slice_get cs v.head.at) key name arity is) ∙ here) in
    (counted ∙ ap (λ k. length (ids k)) one ∙ ap length old, now ∙ ap (λ b. if b then places_from name arity cs 0 vs ++ id_at (length vs) ∷ [] else places_from name arity cs 0 vs) here)

pub clause_added : (old new : Parts) (v : ClauseView) (key : Key) → IsParts old → ViewFits old.store.cells v → key_of (slice_get old.store.cells v.head.at) ≡ Some key
    → new.store ≡ old.store
    → new.clauses.items ≡ old.clauses.items ++ v ∷ []
    → ((k : Key) → ids_in same_key new.index k ≡ (if same_key key k then ids_in same_key old.index k ++ id_at (length old.clauses.items) ∷ [] else ids_in same_key old.index k))
    → (rank : ℕ) → rank ≡ length (ids_in same_key old.index key) → new.ranks.items ≡ old.ranks.items ++ rank ∷ []
    → new.ops ≡ old.ops → AddsClause old new v
clause_added old new v key ok fits is store pushed indexed rank counted ranked ops =
    let cs = old.store.cells in
    let vs = old.clauses.items in
    let cells : new.store.cells ≡ cs = ap (λ (s : Contents). s.cells) store in
    let fit : All (ViewFits cs) (vs ++ v ∷ []) = All-push (ViewFits cs) vs v (ok.base).clauses fits in
    let now_places : (name : AtomId) (arity : ℕ) → places_from name arity new.store.cells 0 new.clauses.items ≡ (if is_of name arity cs v then places_from name arity cs 0 vs ++ id_at (length vs) ∷ [] else places_from name arity cs 0 vs) =
    λ name arity. ap (λ l. places_from name arity new.store.cells 0 l) pushed ∙ ap (λ l. places_from name arity l 0 (vs ++ v ∷ [])) cells ∙ places_push name arity cs 0 vs v
    ∙ ap (λ n. if is_of name arity cs v then places_from name arity cs 0 vs ++ id_at n ∷ [] else places_from name arity cs 0 vs) (let z : 0 + length vs ≡ length vs = omega arith in z) in
    let now_view : (name : AtomId) (arity : ℕ) (id : ClauseId) → is_clause_of name arity (contents_of new) id ≡ is_view_of name arity cs (slice_get (vs ++ v ∷ []) id.at) =
    λ name arity id. ap (λ l. is_view_of name arity l (slice_get new.clauses.items id.at)) cells ∙ ap (λ l. is_view_of name arity cs (slice_get l id.at)) pushed in
    record {
      parts = record {
        base = record {
          built = subst (λ (l : List Cell). AreBuilt l) (sym cells) (ok.base).built;
          clauses = subst (λ (l : List ClauseView). All (ViewFits new.store.cells) l) (sym pushed) (subst (λ (l : List Cell). All (ViewFits l) (vs ++ v ∷ [])) (sym cells) fit);
        };
        index = λ name arity.
            indexed (record { name = name; arity = arity })
            ∙ ap (λ l. if same_key key (record { name = name; arity = arity }) then l ++ id_at (length vs) ∷ [] else l) (ok.index name arity)
            ∙ ap (λ b. if b then places_from name arity cs 0 vs ++ id_at (length vs) ∷ [] else places_from name arity cs 0 vs) (sym (key_is (slice_get cs v.head.at) key name arity is))
            ∙ sym (now_places name arity);
        ranks = subst (λ (l : List ℕ). AreRanks (contents_of new) l) (sym ranked)
            (ranks_added (contents_of old) (contents_of new) old.ranks.items rank v ok.ranks pushed
            (λ name arity of. last_rank cs vs v key is name arity rank (ids_in same_key old.index) (ok.index name arity) counted (places_from name arity new.store.cells 0 new.clauses.items) (now_places name arity) (sym (now_view name arity (id_at (length vs))) ∙ of))
            (λ name arity. more_places (is_of name arity cs v) (places_from name arity cs 0 vs) (id_at (length vs)) (places_from name arity new.store.cells 0 new.clauses.items) (now_places name arity))
            (λ name arity id l. now_view name arity id ∙ ap (is_view_of name arity cs) (slice_get-append vs (v ∷ []) id.at l)));
        unbound = ap (λ (s : Contents). s.pairs) store ∙ ok.unbound;
      };
      cells = cells;
      ops = ops;
      clauses = λ names. ap (λ l. map (clause_of names l) new.clauses.items) cells ∙ ap (map (clause_of names cs)) pushed ∙ map-append (clause_of names cs) vs (v ∷ []);
    }

-- ---- bodies

-- where nothing is bound, a place shows the same under the bindings
seen_free : (names : List Name) (c : Contents) (at : ℕ) → c.pairs ≡ [] → seen names c at ≡ shows names c.cells at
unfolding chained
seen_free names c at e = ap (λ ps. apply (chained names c.cells ps) (shows names c.cells at)) e ∙ apply-empty (shows names c.cells at)

seen_option : (names : List Name) (c : Contents) (o : Option Ref) → c.pairs ≡ [] → option_map (λ (r : Ref). seen names c r.at) o ≡ option_map (λ (r : Ref). shows names c.cells r.at) o
seen_option names c None e = refl
seen_option names c (Some r) e = ap Some (seen_free names c r.at e)

pub body_told : (old new : Parts) (place : Ref) (found : Option Ref) → IsParts old → AddsCells old.store new.store → IsStore new.store → new.clauses.items ≡ old.clauses.items → new.index ≡ old.index → new.ranks ≡ old.ranks → new.ops ≡ old.ops
    → ((names : List Name) → IsTable names → AreNamed (length names) old.store.cells → option_map (λ (r : Ref). seen names new.store r.at) found ≡ body (seen names old.store place.at))
    → IfSome found (λ at. at.at < length new.store.cells)
    → ((n : ℕ) → CALL.at < n → AreNamed n old.store.cells → AreNamed n new.store.cells) → TellsBody old new place found
body_told old new place found ok adds store clauses same_index same_ranks ops shown within named = record {
  more = adds.more;
  longer = parts_longer old new adds.more ok adds.cells clauses same_index same_ranks ops adds.pairs store.built;
  within = within;
  shown = λ names t h. record {
    named = named (length names) (call-within names t) h;
    same = ap body (sym (seen_free names old.store place.at ok.unbound)) ∙ sym (shown names t h) ∙ seen_option names new.store found (adds.pairs ∙ ok.unbound);
  };
}

-- what the calls answer that add cells
pub longer_ok : {A E : Type 0} (r : Result A E) (old new : Parts) (more : List Cell) → IsParts old → OnOk r (new.store.cells ≡ old.store.cells ++ more) → new.clauses.items ≡ old.clauses.items → new.index ≡ old.index → new.ranks ≡ old.ranks → new.ops ≡ old.ops → new.store.pairs ≡ old.store.pairs → OnOk r (AreBuilt new.store.cells) → OnOk r (Longer old new more)
longer_ok (Ok x) old new more ok cells clauses same_index same_ranks ops pairs built = parts_longer old new more ok cells clauses same_index same_ranks ops pairs built
longer_ok (Err e) old new more ok cells clauses same_index same_ranks ops pairs built = tt

pub body_ok : {E : Type 0} (r : Result (Option Ref) E) (old new : Parts) (place : Ref) → IsParts old → AddsCells old.store new.store → IsStore new.store → new.clauses.items ≡ old.clauses.items → new.index ≡ old.index → new.ranks ≡ old.ranks → new.ops ≡ old.ops
    → IfOk r (λ found. (names : List Name) → IsTable names → AreNamed (length names) old.store.cells → option_map (λ (at : Ref). seen names new.store at.at) found ≡ body (seen names old.store place.at))
    → IfOk r (λ found. IfSome found (λ at. at.at < length new.store.cells))
    → OnOk r ((n : ℕ) → CALL.at < n → AreNamed n old.store.cells → AreNamed n new.store.cells) → IfOk r (TellsBody old new place)
body_ok (Ok found) old new place ok adds store clauses same_index same_ranks ops shown within named = body_told old new place found ok adds store clauses same_index same_ranks ops shown within named
body_ok (Err e) old new place ok adds store clauses same_index same_ranks ops shown within named = tt

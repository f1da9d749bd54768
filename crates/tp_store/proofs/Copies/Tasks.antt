-- What the tasks of a copy make.
use Rattle.std.proofs.Common.{◌≡◌, ℕ, zero, suc, ◌+◌, ◌<◌, ◌≤◌, List, [], ◌∷◌, ◌++◌, length, map, take, drop, reverse, Option, Some, refl, sym, ap, subst, ◌∙◌, arith, append_assoc, append-nil, add-zero, length-append, length-drop}
use Rattle.std.specs.Option.{option_to_list}
use Rattle.std.proofs.lemmas.List.{length-take}
use Rattle.std.proofs.Math.Seq.{take-append_seam}
use Rattle.tp_terms.specs.declared.cells.Cell.{Cell}
use Rattle.tp_terms.specs.declared.cells.Cell.TheVariants as cell
use Rattle.tp_terms.specs.declared.cells.Ref.{Ref}
use Rattle.tp_terms.specs.declared.cells.AtomId.{AtomId}
use Rattle.tp_terms.specs.Term.{Name, Term, Terms, NoMore, More, Comp, term_size, terms_size, terms_in, terms_of}
use Rattle.tp_terms.specs.Shown.{name_at, shows, shown_from, args_at, StandsBefore, AreNamed, IsNamed}
use Rattle.tp_terms.proofs.Places.Shown.{shows-append, shows-push, shown_from-append, AreNamed-append}
use Rattle.tp_meaning.specs.Valid.{Below, AllBelow}
use Rattle.tp_meaning.proofs.Unification.Complete.{has_size}
use Rattle.tp_store.specs.declared.copy.Task.{Task}
use Rattle.tp_store.specs.declared.copy.Task.TheVariants.{Copy, Build}
use Rattle.tp_store.specs.Contents.{Contents, AddsCells, IsNumbered, with_cell}
use Rattle.tp_store.specs.Copy.{Copied, IsCopiedAs, IsLast, args_as, copies, made_by, AreTasks, AreReady, looked_at}
use Rattle.tp_store.proofs.Copies.Rows.{AreReady-later, newest_first, nothing_left}

module _ (t : Copied) where
  -- ---- rows of arguments

  -- the copies of so many adjacent places
  abbrev pub row : List Name → ℕ → ℕ → List Term
  row names first n = terms_in (args_as t names first n)

  row-last : (names : List Name) (first n : ℕ) → row names first (suc n) ≡ row names first n ++ t names (first + n) ∷ []
  row-last names first zero = ap (λ k. t names k ∷ []) (sym (add-zero first))
  row-last names first (suc n) =
      let e : suc first + n ≡ first + suc n = omega arith in
      ap (λ l. t names first ∷ l) (row-last names (suc first) n ∙ ap (λ k. row names (suc first) n ++ t names k ∷ []) e)

  length-row : (names : List Name) (first n : ℕ) → length (row names first n) ≡ n
  length-row names first zero = refl
  length-row names first (suc n) = ap suc (length-row names (suc first) n)

  terms_of-terms_in : (ts : Terms) → terms_of (terms_in ts) ≡ ts
  terms_of-terms_in NoMore = refl
  terms_of-terms_in (More u ts) = ap (More u) (terms_of-terms_in ts)

  size-last : (first n : ℕ) → terms_size (args_as t [] first (suc n)) ≡ terms_size (args_as t [] first n) + term_size (t [] (first + n))
  size-last first zero = let e : first + 0 ≡ first = omega arith in rw e (omega arith)
  size-last first (suc n) =
      let e : suc first + n ≡ first + suc n = omega arith in
      let h : terms_size (args_as t [] (suc first) (suc n)) ≡ terms_size (args_as t [] (suc first) n) + term_size (t [] (first + suc n)) = size-last (suc first) n ∙ ap (λ k. terms_size (args_as t [] (suc first) n) + term_size (t [] k)) e in
      omega (arith, h)

  -- the variables of one argument are below what all are
  below-arg : (vars first n k : ℕ) → k < n → AllBelow vars (args_as t [] first n) → Below vars (t [] (first + k))
  below-arg vars first zero k lt h = absurd (omega arith)
  below-arg vars first (suc n) zero lt h = subst (λ i. Below vars (t [] i)) (let e : first ≡ first + 0 = omega arith in e) h.0
  below-arg vars first (suc n) (suc k) lt h = subst (λ i. Below vars (t [] i)) (let e : suc first + k ≡ first + suc k = omega arith in e) (below-arg vars (suc first) n k (omega arith) h.1)

  -- ---- tasks

  made_by-copies : (names : List Name) (first n : ℕ) (tasks : List Task) (ts : List Term) → made_by t names (copies first n ++ tasks) ts ≡ made_by t names tasks (row names first n ++ ts)
  made_by-copies names first zero tasks ts = refl
  made_by-copies names first (suc n) tasks ts =
      made_by-copies names first n tasks (t names (first + n) ∷ ts)
      ∙ ap (made_by t names tasks) (sym (ap (λ l. l ++ ts) (row-last names first n) ∙ append_assoc (row names first n) (t names (first + n) ∷ []) ts))

  take-row : {X : Type 0} (n : ℕ) (xs ys : List X) → length xs ≡ n → take n (xs ++ ys) ≡ xs
  take-row n xs ys e = ap (λ k. take k (xs ++ ys)) (sym e) ∙ take-append_seam xs ys

  drop-row : {X : Type 0} (n : ℕ) (xs ys : List X) → length xs ≡ n → drop n (xs ++ ys) ≡ ys
  drop-row zero [] ys e = refl
  drop-row zero (x ∷ xs) ys e = absurd (omega arith)
  drop-row (suc n) [] ys e = absurd (omega arith)
  drop-row (suc n) (x ∷ xs) ys e = drop-row n xs ys (omega arith)

  -- the copies of a compound's arguments and its building make what its own copy makes
  made_by-compound : (names : List Name) (name : AtomId) (first n : ℕ) (tasks : List Task) (ts : List Term) →
      made_by t names (copies first n ++ Build name n ∷ tasks) ts ≡ made_by t names tasks (Comp (name_at names name.at) (args_as t names first n) ∷ ts)
  made_by-compound names name first n tasks ts =
      let r : List Term = row names first n in
      made_by-copies names first n (Build name n ∷ tasks) ts
      ∙ ap (λ us. made_by t names tasks (Comp (name_at names name.at) (terms_of us) ∷ drop n (r ++ ts))) (take-row n r ts (length-row names first n))
      ∙ ap (λ us. made_by t names tasks (Comp (name_at names name.at) us ∷ drop n (r ++ ts))) (terms_of-terms_in (args_as t names first n))
      ∙ ap (λ l. made_by t names tasks (Comp (name_at names name.at) (args_as t names first n) ∷ l)) (drop-row n r ts (length-row names first n))

  AreTasks-copies : (from : List Cell) (vars first n made : ℕ) (tasks : List Task) → first + n ≤ length from → ((k : ℕ) → k < n → Below vars (t [] (first + k))) → AreTasks from t vars tasks (n + made) → AreTasks from t vars (copies first n ++ tasks) made
  AreTasks-copies from vars first zero made tasks le claimed h = subst (AreTasks from t vars tasks) (let e : 0 + made ≡ made = omega arith in e) h
  AreTasks-copies from vars first (suc n) made tasks le claimed h = (
    omega arith,
    claimed n (omega arith),
    AreTasks-copies from vars first n (suc made) tasks (omega arith) (λ k lt. claimed k (omega arith)) (subst (AreTasks from t vars tasks) (let e : suc n + made ≡ n + suc made = omega arith in e) h),
  )

  -- how much is left to do
  abbrev pub tasks_size : List Task → ℕ
  tasks_size [] = 0
  tasks_size (Copy at ∷ tasks) = term_size (t [] at.at) + term_size (t [] at.at) + tasks_size tasks
  tasks_size (Build name count ∷ tasks) = 1 + tasks_size tasks

  tasks_size-copies : (first n : ℕ) (tasks : List Task) → tasks_size (copies first n ++ tasks) ≡ terms_size (args_as t [] first n) + terms_size (args_as t [] first n) + tasks_size tasks
  tasks_size-copies first zero tasks = omega arith
  tasks_size-copies first (suc n) tasks = let h = size-last first n in omega (arith, h, tasks_size-copies first n tasks)

  -- how many cells the tasks add, and leave among those that are made
  abbrev pub cells_left : List Task → ℕ
  cells_left [] = 0
  cells_left (Copy at ∷ tasks) = term_size (t [] at.at) + cells_left tasks
  cells_left (Build name count ∷ tasks) = 1 + cells_left tasks

  cells_left-copies : (first n : ℕ) (tasks : List Task) → cells_left (copies first n ++ tasks) ≡ terms_size (args_as t [] first n) + cells_left tasks
  cells_left-copies first zero tasks = omega arith
  cells_left-copies first (suc n) tasks = let h = size-last first n in omega (arith, h, cells_left-copies first n tasks)

-- ---- the cells of a row, once they stand

shown_row : (names : List Name) (cells xs : List Cell) (vars : ℕ) → AreReady (length cells) vars xs → args_at names (cells ++ xs) (length cells) (length xs) ≡ terms_of (map (shown_from names cells) xs)
shown_row names cells [] vars h = refl
shown_row names cells (x ∷ xs) vars h =
    let split : cells ++ x ∷ xs ≡ (cells ++ x ∷ []) ++ xs = sym (append_assoc cells (x ∷ []) xs) in
    let long : length (cells ++ x ∷ []) ≡ suc (length cells) = omega (arith, length-append cells (x ∷ [])) in
    let first : shows names (cells ++ x ∷ xs) (length cells) ≡ shown_from names cells x =
    ap (λ cs. shows names cs (length cells)) split ∙ shows-append names (cells ++ x ∷ []) xs (length cells) (omega arith) ∙ shows-push names cells x in
    let others : args_at names (cells ++ x ∷ xs) (suc (length cells)) (length xs) ≡ terms_of (map (shown_from names (cells ++ x ∷ [])) xs) =
    ap (λ cs. args_at names cs (suc (length cells)) (length xs)) split ∙ ap (λ k. args_at names ((cells ++ x ∷ []) ++ xs) k (length xs)) (sym long)
    ∙ shown_row names (cells ++ x ∷ []) xs vars (AreReady-later (length cells) (length (cells ++ x ∷ [])) vars xs (omega arith) h.2) in
    ap (λ t. More t (args_at names (cells ++ x ∷ xs) (suc (length cells)) (length xs))) first
    ∙ ap (More (shown_from names cells x)) (others ∙ ap terms_of (map-shown names cells (x ∷ []) xs vars h.2))
  where
    map-shown : (names : List Name) (cs ds ys : List Cell) (vars : ℕ) → AreReady (length cs) vars ys → map (shown_from names (cs ++ ds)) ys ≡ map (shown_from names cs) ys
    map-shown names cs ds [] vars h' = refl
    map-shown names cs ds (y ∷ ys) vars h' = ap (λ t. t ∷ map (shown_from names (cs ++ ds)) ys) (shown_from-append names cs ds y h'.0) ∙ ap (λ l. shown_from names cs y ∷ l) (map-shown names cs ds ys vars h'.2)

-- ---- what holds before each task

-- the names of compounds that are to be made are among so many
abbrev pub AreTasksNamed : ℕ → List Task → Type 0
AreTasksNamed n [] = Unit {0}
AreTasksNamed n (Copy at ∷ tasks) = AreTasksNamed n tasks
AreTasksNamed n (Build name count ∷ tasks) = (name.at < n) × AreTasksNamed n tasks

AreTasksNamed-copies : (n first k : ℕ) (tasks : List Task) → AreTasksNamed n tasks → AreTasksNamed n (copies first k ++ tasks)
AreTasksNamed-copies n first zero tasks h = h
AreTasksNamed-copies n first (suc k) tasks h = AreTasksNamed-copies n first k tasks h

pub record IsCopying (from : List Cell) (t : Copied) (root : ℕ) (old now : Contents) (tasks : List Task) (made : List Cell) : Type 0 where
  pub adds : AddsCells old now
  pub ready : AreReady (length now.cells) now.vars made
  pub can : AreTasks from t now.vars tasks (length made)
  pub few : length now.cells + (length made + cells_left t tasks) ≡ length old.cells + term_size (t [] root)
  pub makes : (names : List Name) → made_by t names tasks (map (shown_from names now.cells) made) ≡ t names root ∷ []
  pub named : (n : ℕ) → AreNamed n from → AreNamed n old.cells → AreNamed n now.cells × AreNamed n made × AreTasksNamed n tasks

-- nothing is made yet
copy_start : (from : List Cell) (t : Copied) (root : ℕ) (c : Contents) → root < length from → Below c.vars (t [] root) → IsCopying from t root c c (Copy (record { at = root }) ∷ []) []
copy_start from t root c lt below = record {
  adds = record { more = []; cells = sym (append-nil c.cells); pairs = refl; vars = refl };
  ready = tt;
  can = (lt, below, refl);
  few = omega arith;
  makes = λ names. refl;
  named = λ n f k. (k, tt, tt);
}

module _ (from : List Cell) (t : Copied) (root : ℕ) (old now : Contents) (at : Ref) (tasks : List Task) (made : List Cell) (h : IsCopying from t root old now (Copy at ∷ tasks) made) where
  -- one more cell is made
  one_more : (x : Cell) → term_size (t [] at.at) ≡ 1 → StandsBefore (length now.cells) x → IsNumbered now.vars x → ((names : List Name) → shown_from names now.cells x ≡ t names at.at) → ((n : ℕ) → AreNamed n from → IsNamed n x) → IsCopying from t root old now tasks (x ∷ made)
  one_more x one before numbered shown named = record {
    adds = h.adds;
    ready = (before, numbered, h.ready);
    can = h.can.2;
    few = let e = h.few in omega (arith, e, one);
    makes = λ names. ap (λ u. made_by t names tasks (u ∷ map (shown_from names now.cells) made)) (shown names) ∙ h.makes names;
    named = λ n f k. let r = h.named n f k in (r.0, (named n f, r.1), r.2);
  }

  pub copy_look : (x : Cell) → IsCopiedAs from t at.at x → IsCopying from t root old now (looked_at x tasks made).0 (looked_at x tasks made).1
  copy_look (cell.Var v) is = one_more (cell.Var v) (ap term_size (is.same [])) tt (subst (Below now.vars) (is.same []) h.can.1) (λ names. sym (is.same names)) (λ n f. tt)
  copy_look (cell.Int value) is = one_more (cell.Int value) (ap term_size (is.same [])) tt tt (λ names. sym (is.same names)) (λ n f. tt)
  copy_look (cell.Atom name) is = one_more (cell.Atom name) (ap term_size (is.same [])) tt tt (λ names. sym (is.same names)) is.named
  copy_look (cell.Comp name first count) is =
      record {
        adds = h.adds;
        ready = h.ready;
        can = AreTasks-copies t from now.vars first.at count (length made) (Build name count ∷ tasks) is.within.1
            (λ k lt. below-arg t now.vars first.at count k lt (subst (Below now.vars) (is.same []) h.can.1))
            (is.within.0, (length made, refl, h.can.2));
        few = let k : term_size (t [] at.at) ≡ 1 + terms_size (args_as t [] first.at count) = ap term_size (is.same []) in
            let f = h.few in omega (arith, f, k, cells_left-copies t first.at count (Build name count ∷ tasks));
        makes = λ names.
            made_by-compound t names name first.at count tasks (map (shown_from names now.cells) made)
            ∙ ap (λ u. made_by t names tasks (u ∷ map (shown_from names now.cells) made)) (sym (is.same names)) ∙ h.makes names;
        named = λ n f k.
            let r = h.named n f k in
            (r.0, r.1, AreTasksNamed-copies n first.at count (Build name count ∷ tasks) (is.named n f, r.2));
      }

  pub look_smaller : (x : Cell) → IsCopiedAs from t at.at x → tasks_size t (looked_at x tasks made).0 < tasks_size t (Copy at ∷ tasks)
  look_smaller (cell.Var v) is = omega (arith, has_size (t [] at.at))
  look_smaller (cell.Int value) is = omega (arith, has_size (t [] at.at))
  look_smaller (cell.Atom name) is = omega (arith, has_size (t [] at.at))
  look_smaller (cell.Comp name first count) is =
      let k : term_size (t [] at.at) ≡ 1 + terms_size (args_as t [] first.at count) = ap term_size (is.same []) in
      omega (arith, k, tasks_size-copies t first.at count (Build name count ∷ tasks))

AreNamed-rest : (n k : ℕ) (xs : List Cell) → AreNamed n xs → AreNamed n (take k xs) × AreNamed n (drop k xs)
AreNamed-rest n zero xs h = (tt, h)
AreNamed-rest n (suc k) [] h = (tt, tt)
AreNamed-rest n (suc k) (x ∷ xs) h = let r = AreNamed-rest n k xs h.1 in ((h.0, r.0), r.1)

AreReady-rest : (n m vars k : ℕ) (xs : List Cell) → n ≤ m → AreReady n vars xs → AreReady n vars (take k xs) × AreReady m vars (drop k xs)
AreReady-rest n m vars zero xs le h = (tt, AreReady-later n m vars xs le h)
AreReady-rest n m vars (suc k) [] le h = (tt, tt)
AreReady-rest n m vars (suc k) (x ∷ xs) le h = let r = AreReady-rest n m vars k xs le h.2 in ((h.0, h.1, r.0), r.1)

map-later : (names : List Name) (cs ds ys : List Cell) (vars : ℕ) → AreReady (length cs) vars ys → map (shown_from names (cs ++ ds)) ys ≡ map (shown_from names cs) ys
map-later names cs ds [] vars h = refl
map-later names cs ds (y ∷ ys) vars h = ap (λ t. t ∷ map (shown_from names (cs ++ ds)) ys) (shown_from-append names cs ds y h.0) ∙ ap (λ l. shown_from names cs y ∷ l) (map-later names cs ds ys vars h.2)

map-take : {X Y : Type 0} (f : X → Y) (k : ℕ) (xs : List X) → take k (map f xs) ≡ map f (take k xs)
map-take f zero xs = refl
map-take f (suc k) [] = refl
map-take f (suc k) (x ∷ xs) = ap (λ l. f x ∷ l) (map-take f k xs)

map-drop : {X Y : Type 0} (f : X → Y) (k : ℕ) (xs : List X) → drop k (map f xs) ≡ map f (drop k xs)
map-drop f zero xs = refl
map-drop f (suc k) [] = refl
map-drop f (suc k) (x ∷ xs) = map-drop f k xs

module _ (from : List Cell) (t : Copied) (root : ℕ) (old now new : Contents) (name : AtomId) (count : ℕ) (tasks : List Task) (made made' : List Cell) (h : IsCopying from t root old now (Build name count ∷ tasks) made) where
  pub build_enough : count ≤ length made
  build_enough = let e : length made ≡ count + h.can.1.0 = h.can.1.1 in omega arith

  first : Ref
  first = record { at = length now.cells }

  module _ (adds : AddsCells now new) (cells : new.cells ≡ now.cells ++ take count made) (top : made' ≡ cell.Comp name (record { at = length now.cells }) count ∷ drop count made) where
    taken : length (take count made) ≡ count
    taken = omega (arith, length-take count made, build_enough)

    longer : length new.cells ≡ length now.cells + count
    longer = omega (arith, ap length cells, length-append now.cells (take count made), taken)

    parts : AreReady (length now.cells) now.vars (take count made) × AreReady (length new.cells) now.vars (drop count made)
    parts = AreReady-rest (length now.cells) (length new.cells) now.vars count made (omega (arith, longer)) h.ready

    built : (names : List Name) → shown_from names new.cells (cell.Comp name (record { at = length now.cells }) count) ≡ Comp (name_at names name.at) (terms_of (take count (map (shown_from names now.cells) made)))
    built names =
        ap (λ cs. Comp (name_at names name.at) (args_at names cs (length now.cells) count)) cells
        ∙ ap (λ n. Comp (name_at names name.at) (args_at names (now.cells ++ take count made) (length now.cells) n)) (sym taken)
        ∙ ap (Comp (name_at names name.at)) (shown_row names now.cells (take count made) now.vars parts.0 ∙ ap terms_of (sym (map-take (shown_from names now.cells) count made)))

    rest_same : (names : List Name) → map (shown_from names new.cells) (drop count made) ≡ drop count (map (shown_from names now.cells) made)
    rest_same names =
        ap (λ cs. map (shown_from names cs) (drop count made)) cells
        ∙ map-later names now.cells (take count made) (drop count made) now.vars (AreReady-rest (length now.cells) (length now.cells) now.vars count made (omega arith) h.ready).1
        ∙ sym (map-drop (shown_from names now.cells) count made)

    pub copy_build : IsCopying from t root old new tasks made'
    copy_build = subst (IsCopying from t root old new tasks) (sym top) (record {
      adds = record { more = h.adds.more ++ adds.more; cells = adds.cells ∙ ap (λ cs. cs ++ adds.more) h.adds.cells ∙ append_assoc old.cells h.adds.more adds.more; pairs = adds.pairs ∙ h.adds.pairs; vars = adds.vars ∙ h.adds.vars };
      ready = subst (λ v. AreReady (length new.cells) v (cell.Comp name (record { at = length now.cells }) count ∷ drop count made)) (sym adds.vars) ((h.can.0, omega (arith, longer)), tt, parts.1);
      can = subst (λ v. AreTasks from t v tasks (suc (length (drop count made)))) (sym adds.vars)
          (subst (λ n. AreTasks from t now.vars tasks (suc n)) (let e : length made ≡ count + h.can.1.0 = h.can.1.1 in let d : h.can.1.0 ≡ length (drop count made) = omega (arith, length-drop count made) in d) h.can.1.2);
      few = let f = h.few in omega (arith, f, longer, length-drop count made, build_enough);
      makes = λ names. ap (λ u. made_by t names tasks (u ∷ map (shown_from names new.cells) (drop count made))) (built names)
          ∙ ap (λ l. made_by t names tasks (Comp (name_at names name.at) (terms_of (take count (map (shown_from names now.cells) made))) ∷ l)) (rest_same names) ∙ h.makes names;
      named = λ n f k.
          let r = h.named n f k in
          let p = AreNamed-rest n count made r.1 in
          (subst (AreNamed n) (sym cells) (AreNamed-append n now.cells (take count made) r.0 p.0), (r.2.0, p.1), r.2.1);
    })

-- ---- the end

-- where no task is left, one cell is made, and it shows the copy
pub record IsCopied (from : List Cell) (t : Copied) (root : ℕ) (old now : Contents) (made : List Cell) : Type 0 where
  pub cell : Cell
  pub only : made ≡ cell ∷ []
  pub before : StandsBefore (length now.cells) cell
  pub numbered : IsNumbered now.vars cell
  pub few : length now.cells + 1 ≡ length old.cells + term_size (t [] root)
  pub shown : (names : List Name) → shown_from names now.cells cell ≡ t names root
  pub named : (n : ℕ) → AreNamed n from → AreNamed n old.cells → AreNamed n now.cells × IsNamed n cell

pub copy_end : (from : List Cell) (t : Copied) (root : ℕ) (old now : Contents) (made : List Cell) → IsCopying from t root old now [] made → IsCopied from t root old now made
copy_end from t root old now [] h = absurd (let e = h.can in omega arith)
copy_end from t root old now (x ∷ y ∷ made) h = absurd (let e = h.can in omega arith)
copy_end from t root old now (x ∷ []) h = record {
  cell = x;
  only = refl;
  before = h.ready.0;
  numbered = h.ready.1;
  few = let f = h.few in omega (arith, f);
  shown = λ names. let e = h.makes names in cc;
  named = λ n f k. let r = h.named n f k in (r.0, r.1.0);
}

-- the last cell that is made is put behind the others
module _ (from : List Cell) (t : Copied) (root : ℕ) (old now : Contents) (made : List Cell) (h : IsCopied from t root old now made) (x : Cell) (new : Contents) (same : x ≡ h.cell) (value : new ≡ with_cell now x) where
  pub copied_shown : (at : ℕ) → at ≡ length now.cells → (names : List Name) → shows names new.cells at ≡ t names root
  copied_shown at e names =
      ap (λ (c : Contents). shows names c.cells at) value ∙ ap (shows names (now.cells ++ x ∷ [])) e ∙ shows-push names now.cells x
      ∙ ap (shown_from names now.cells) same ∙ h.shown names

  pub copied_last : (at : ℕ) → at ≡ length now.cells → IsLast old.cells new.cells (t [] root) at
  copied_last at e =
      let longer : length new.cells ≡ length now.cells + 1 = ap (λ (c : Contents). length c.cells) value ∙ length-append now.cells (x ∷ []) in
      let f = h.few in
      record { last = omega (arith, e, longer); few = omega (arith, f, longer) }

  pub copied_named : (n : ℕ) → AreNamed n from → AreNamed n old.cells → AreNamed n new.cells
  copied_named n f k =
      let r = h.named n f k in
      subst (λ (c : Contents). AreNamed n c.cells) (sym value) (AreNamed-append n now.cells (x ∷ []) r.0 (subst (IsNamed n) (sym same) r.1, tt))

-- ---- one task after another, as the code keeps them, the newest last

pub copy_begins : (from : List Cell) (t : Copied) (root : Ref) (c : Contents) (all none : List Task) (made : List Cell) → root.at < length from → Below c.vars (t [] root.at) → all ≡ none ++ Copy root ∷ [] → none ≡ [] → made ≡ [] → IsCopying from t root.at c c (reverse all) (reverse made)
copy_begins from t root c all none made lt below e f g =
    subst (λ ts. IsCopying from t root.at c c ts (reverse made)) (sym (newest_first all none (Copy root) e ∙ ap (λ l. Copy root ∷ reverse l) f))
    (subst (λ ms. IsCopying from t root.at c c (Copy root ∷ []) (reverse ms)) (sym g) (copy_start from t root.at c lt below))

module _ (from : List Cell) (t : Copied) (root : ℕ) (old now : Contents) (all mid : List Task) (made : List Cell) (h : IsCopying from t root old now (reverse all) (reverse made)) where
  pub top_task : (task : Task) → all ≡ mid ++ task ∷ [] → IsCopying from t root old now (task ∷ reverse mid) (reverse made)
  top_task task e = subst (λ ts. IsCopying from t root old now ts (reverse made)) (newest_first all mid task e) h

  -- a place was looked at
  module _ (at : Ref) (e : all ≡ mid ++ Copy at ∷ []) (x : Cell) (is : IsCopiedAs from t at.at x) (new : List Task) (made' : List Cell) (looked : (reverse new, reverse made') ≡ looked_at x (reverse mid) (reverse made)) where
    pub look_turn : IsCopying from t root old now (reverse new) (reverse made')
    look_turn = subst (λ p. IsCopying from t root old now p.0 p.1) (sym looked) (copy_look from t root old now at (reverse mid) (reverse made) (top_task (Copy at) e) x is)

    pub look_less : tasks_size t (reverse new) < tasks_size t (reverse all)
    look_less =
        subst (λ ts. tasks_size t (reverse new) < tasks_size t ts) (sym (newest_first all mid (Copy at) e))
        (subst (λ ts. tasks_size t ts < tasks_size t (Copy at ∷ reverse mid)) (sym (ap (λ p. p.0) looked)) (look_smaller from t root old now at (reverse mid) (reverse made) (top_task (Copy at) e) x is))

  -- no task is left
  pub all_done : length all ≡ 0 → IsCopied from t root old now (reverse made)
  all_done none = copy_end from t root old now (reverse made) (subst (λ ts. IsCopying from t root old now ts (reverse made)) (nothing_left all none) h)

-- the place of a vector's last element
pub popped : {X : Type 0} (all mid : List X) (o : Option X) (x : X) → all ≡ mid ++ option_to_list o → o ≡ Some x → all ≡ mid ++ x ∷ []
popped all mid o x e is = e ∙ ap (λ p. mid ++ option_to_list p) is

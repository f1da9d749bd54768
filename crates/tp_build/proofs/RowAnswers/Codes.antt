-- What `atom_codes` answers.
use Rattle.std.proofs.Common.{◌≡◌, ℕ, zero, suc, ◌+◌, ◌<◌, ◌≤◌, List, [], ◌∷◌, ◌++◌, map, length, drop, Ok, Err, IfOk, ℤ, pos, negsuc, refl, sym, ap, subst, ◌∙◌, arith, append_assoc, if◌then◌else◌, codes, Bool, true, false, chars, string_bytes, drop-cons, append-nil}
use Rattle.std.specs.Prelude.{Result, slice_index_or}
use Rattle.std.specs.declared.alloc.Global.{Global}
use Rattle.std.specs.declared.string.String.{String}
use Rattle.std.proofs.lemmas.Str.{chars-nil}
use Rattle.tp_terms.specs.declared.NoMemory.{NoMemory}
use Rattle.tp_terms.specs.declared.cells.AtomId.{AtomId}
use Rattle.tp_terms.specs.declared.cells.Ref.{Ref}
use Rattle.tp_terms.specs.declared.cells.Cell.{Cell}
use Rattle.tp_terms.specs.declared.cells.Cell.TheVariants as cell
use Rattle.tp_terms.specs.declared.symbols.TheConstants.{EMPTY_LIST}
use Rattle.tp_terms.specs.Term.{Name, Term, Var, Int, Atom, Comp, NoMore, More, names_eq}
use Rattle.tp_terms.specs.Term as terms
use Rattle.tp_terms.specs.Names.{StandsAt}
use Rattle.tp_terms.specs.Shown.{name_at}
use Rattle.tp_terms.proofs.Naming.Tables.{name_at-slice_get, Grows-with_name, Grows-shows}
use Rattle.tp_meaning.specs.Subst.{apply}
use Rattle.tp_meaning.specs.Checks.{Checked, ◌>>=◌, ◌>>◌, bound, integer, natural, type_error}
use Rattle.tp_meaning.specs.Heap.{Heap, IsHeap, IsTop, AddsCells, seen, cell_seen, with_cell, with_name_too}
use Rattle.tp_meaning.specs.Answers.{unifies, atom_codes, atom_of_codes, character, character_of, characters, codes_list}
use Rattle.tp_meaning.proofs.HeapsGrow.Cells.{adds-cell, adds-none, adds-trans, seen-kept}
use Rattle.tp_build.specs.declared.outcome.Outcome.{Outcome}
use Rattle.tp_build.specs.declared.errors.Limit.TheVariants as limit
use Rattle.tp_build.specs.declared.errors.Fault as errors
use Rattle.tp_build.specs.declared.errors.Fault.TheVariants as fault
use Rattle.tp_build.specs.declared.lists.End.TheVariants as end
use Rattle.tp_build.specs.declared.lists.Walked.{Walked}
use Rattle.tp_build.specs.Answers.{Does}
use Rattle.tp_build.specs.Errors.{IsFault, fault_kind}
use Rattle.tp_build.specs.Lists.{front, ending, closed_by, place_seen, IsWalked, MakesSeen}
use Rattle.tp_build.specs.Codes.{all_characters, text_chars}
use Rattle.tp_build.proofs.PlacesShow.Checked.{past, past-value, fails, fails-value, later-value, seen-variable}
use Rattle.tp_build.proofs.PlacesShow.Lists.{empty-stands, empty-seen}
use Rattle.tp_build.proofs.RowAnswers.Parts.{seen-placed}
use Rattle.tp_build.proofs.RowAnswers.Heaps.{IfOk-map, does-later}

-- ---- the character of a number

-- a number that isn't negative
pub natural-is : (z : ℤ) (n : ℕ) → natural z ≡ Ok n → z ≡ pos n
natural-is (pos m) n e = let same : m ≡ n = cc in ap pos same
natural-is (negsuc m) n e = absurd (cc)

-- a negative number is no character's
pub character-none : (h : Heap) (z : ℤ) (f : errors.Fault) → IsFault h (natural z) f → IsFault h (character z) (fault.Representation limit.CharacterCode)
character-none h (pos m) f i = let e : Ok m ≡ Err (fault_kind h f) = i.kind in absurd (cc)
character-none h (negsuc m) f i = record { kind = refl; stands = tt }

-- the checks of an element in order
pub character-of : (t : Term) (z : ℤ) → bound t ≡ Ok tt → integer t ≡ Ok z → character_of t ≡ character z
character-of t z e1 e2 = past (bound t) _ e1 ∙ past-value (integer t) character z e2

-- ---- a text

-- nothing is read yet
pub spelled-none : (r : Checked Name) (text : String Global) → string_bytes text ≡ [] → r ≡ (r >>= (λ cs. Ok (text_chars text ++ cs)))
spelled-none (Err e) text b = refl
spelled-none (Ok xs) text b = ap (λ ys. Ok (ys ++ xs)) (sym (ap chars b ∙ chars-nil))

-- ---- an atom

-- the atom of a text is unified
pub atom-does : (h k m l : Heap) (a : ℕ) (name : AtomId) (text : Name) (at : ℕ) (r : Result Outcome NoMemory) → IsHeap h → k ≡ with_name_too h text → StandsAt k.names name.at text → m ≡ with_cell k (cell.Atom name) → at ≡ length k.cells → a < length h.cells → IfOk r (Does m l (Ok (unifies m.subst m.next (seen m a) (seen m at))))
    → IfOk r (Does h l (Ok (unifies h.subst h.next (seen h a) (Atom text))))
atom-does h k m l a name text at r is ek stands em at_end lt d =
    IfOk-map r (Does m l (Ok (unifies m.subst m.next (seen m a) (seen m at)))) (Does h l (Ok (unifies h.subst h.next (seen h a) (Atom text))))
    (λ o x. does-later h m l (unifies m.subst m.next (seen m a) (seen m at)) (Ok (unifies h.subst h.next (seen h a) (Atom text))) o same-subst (ap Ok (sym same)) x) d
  where
    adds : AddsCells k m
    adds = adds-cell k m (cell.Atom name) em

    same-subst : m.subst ≡ h.subst
    same-subst = adds.subst ∙ ap (λ (q : Heap). q.subst) ek

    kept : seen k a ≡ seen h a
    kept = ap (λ (q : Heap). seen q a) ek ∙ ap (apply h.subst) (Grows-shows h.names (with_name_too h text).names (Grows-with_name h.names text) h.cells a is.named)

    same : unifies m.subst m.next (seen m a) (seen m at) ≡ unifies h.subst h.next (seen h a) (Atom text)
    same =
        ap (λ s. unifies s m.next (seen m a) (seen m at)) same-subst
        ∙ ap (λ n. unifies h.subst n (seen m a) (seen m at)) (adds.next ∙ ap (λ (q : Heap). q.next) ek)
        ∙ ap (λ y. unifies h.subst h.next y (seen m at)) (seen-kept k m adds a (subst (λ (q : Heap). a < length q.cells) (sym ek) lt) ∙ kept)
        ∙ ap (unifies h.subst h.next (seen h a)) (seen-placed k m (cell.Atom name) at em at_end ∙ ap Atom (name_at-slice_get k.names name.at text stands))

-- ---- lists of codes

-- the list of no codes
pub codes-none : (h : Heap) (xs : Name) → IsHeap h → MakesSeen h h (cell.Atom EMPTY_LIST) (codes_list (drop (length xs) xs))
codes-none h xs is = record { adds = adds-none h; stands = empty-stands h is; term = empty-seen h is ∙ ap codes_list (sym (drop-rest xs)) }
  where
    drop-rest : (ys : Name) → drop (length ys) ys ≡ []
    drop-rest [] = refl
    drop-rest (y ∷ ys) = drop-rest ys

-- the list of one code more, in front
pub codes-more : (h k l : Heap) (xs : Name) (i j d : ℕ) (z : ℤ) (tail c : Cell) → j ≡ suc i → i < length xs → z ≡ pos (slice_index_or xs i d) → MakesSeen h k tail (codes_list (drop j xs)) → MakesSeen k l c (terms.cell (Int z) (cell_seen k tail)) → MakesSeen h l c (codes_list (drop i xs))
codes-more h k l xs i j d z tail c ej lt ez a b = record {
  adds = adds-trans h k l a.adds b.adds;
  stands = b.stands;
  term =
      b.term
      ∙ ap (terms.cell (Int z)) (a.term ∙ ap (λ n. codes_list (drop n xs)) ej)
      ∙ ap (λ y. terms.cell (Int y) (codes_list (drop (suc i) xs))) ez
      ∙ ap codes_list (sym (drop-cons xs i d lt));
}

-- the list of an atom's codes is unified
pub codes-does : (h k m l : Heap) (list : ℕ) (name : AtomId) (text xs : Name) (c : Cell) (at : ℕ) (r : Result Outcome NoMemory) → StandsAt h.names name.at text → xs ≡ text → MakesSeen h k c (codes_list xs) → m ≡ with_cell k c → at ≡ length k.cells → list < length h.cells
    → IfOk r (Does m l (Ok (unifies m.subst m.next (seen m list) (seen m at)))) → IfOk r (Does h l (Ok (unifies h.subst h.next (seen h list) (codes_list (name_at h.names name.at)))))
codes-does h k m l list name text xs c at r stands ex a e at_end lt d =
    IfOk-map r (Does m l (Ok (unifies m.subst m.next (seen m list) (seen m at)))) (Does h l (Ok (unifies h.subst h.next (seen h list) (codes_list (name_at h.names name.at)))))
    (λ o x. does-later h m l (unifies m.subst m.next (seen m list) (seen m at)) (Ok (unifies h.subst h.next (seen h list) (codes_list (name_at h.names name.at)))) o all.subst (ap Ok (sym same)) x) d
  where
    all : AddsCells h m
    all = adds-trans h k m a.adds (adds-cell k m c e)

    same : unifies m.subst m.next (seen m list) (seen m at) ≡ unifies h.subst h.next (seen h list) (codes_list (name_at h.names name.at))
    same =
        ap (λ s. unifies s m.next (seen m list) (seen m at)) all.subst
        ∙ ap (λ n. unifies h.subst n (seen m list) (seen m at)) all.next
        ∙ ap (λ y. unifies h.subst h.next y (seen m at)) (seen-kept h m all list lt)
        ∙ ap (unifies h.subst h.next (seen h list)) (seen-placed k m c at e at_end ∙ a.term ∙ ap codes_list (ex ∙ sym (name_at-slice_get h.names name.at text stands)))

-- ---- an unbound variable

abbrev no_characters : Checked Name
no_characters = Ok []

at_end-codes : (whole : Term) (b : Bool) → (if b then no_characters else Err (type_error "list" whole)) ≡ (no_characters >>= (λ cs. closed_by whole (if b then end.Closed else end.NoList) >> Ok cs))
at_end-codes whole true = refl
at_end-codes whole false = refl

link-codes : (whole h t : Term) (b : Bool) (r : Checked Name) → r ≡ (all_characters (front t) >>= (λ cs. closed_by whole (ending t) >> Ok cs))
    → (if b then (character_of h >>= (λ c. r >>= (λ cs. Ok (c ∷ cs)))) else Err (type_error "list" whole)) ≡ (all_characters (if b then h ∷ front t else []) >>= (λ cs. closed_by whole (if b then ending t else end.NoList) >> Ok cs))
link-codes whole h t true r e = ap (λ q. character_of h >>= (λ c. q >>= (λ cs. Ok (c ∷ cs)))) e ∙ go (character_of h) (all_characters (front t)) (closed_by whole (ending t))
  where
    go : (a : Checked ℕ) (b : Checked Name) (c : Checked (Unit {0})) → (a >>= (λ x. (b >>= (λ cs. c >> Ok cs)) >>= (λ cs. Ok (x ∷ cs)))) ≡ ((a >>= (λ x. b >>= (λ cs. Ok (x ∷ cs)))) >>= (λ cs. c >> Ok cs))
    go (Err x) b c = refl
    go (Ok x) (Err y) c = refl
    go (Ok x) (Ok y) (Err z) = refl
    go (Ok x) (Ok y) (Ok z) = refl
link-codes whole h t false r e = refl

-- the characters of a list are those of its elements, where it ends in `[]`
characters-split : (whole t : Term) → characters whole t ≡ (all_characters (front t) >>= (λ cs. closed_by whole (ending t) >> Ok cs))
characters-split whole (Comp f (More h (More t NoMore))) = link-codes whole h t (names_eq f (codes ".")) (characters whole t) (characters-split whole t)
characters-split whole (Comp f NoMore) = refl
characters-split whole (Comp f (More h NoMore)) = refl
characters-split whole (Comp f (More h (More t (More x ts)))) = refl
characters-split whole (Var v) = refl
characters-split whole (Int z) = refl
characters-split whole (Atom a) = at_end-codes whole (names_eq a (codes "[]"))

module _ (h : Heap) (list : ℕ) (w : Walked) (is : IsWalked h list w) where
  -- the characters of a list that was walked
  pub walked-codes : characters (seen h list) (seen h list) ≡ (all_characters (map (place_seen h) w.elements.items) >>= (λ cs. closed_by (seen h list) w.end >> Ok cs))
  walked-codes =
      characters-split (seen h list) (seen h list)
      ∙ ap (λ q. all_characters q >>= (λ cs. closed_by (seen h list) (ending (seen h list)) >> Ok cs)) (sym is.elements)
      ∙ ap (λ q. all_characters (map (place_seen h) w.elements.items) >>= (λ cs. closed_by (seen h list) q >> Ok cs)) is.ends

  row-fails : (l : Heap) (a : Term) (f : errors.Fault) (r : Result Outcome NoMemory) → IsFault h (all_characters (map (place_seen h) w.elements.items) >>= (λ cs. closed_by (seen h list) w.end >> Ok cs)) f → IfOk r (Does h l (Err (fault_kind h f)))
      → IfOk r (Does h l (atom_of_codes h.subst h.next a (seen h list)))
  row-fails l a f r i d = subst (λ c. IfOk r (Does h l c)) (sym (ap (λ q. q >>= (λ cs. Ok (unifies h.subst h.next a (Atom cs)))) (walked-codes ∙ i.kind))) d

  -- an element is no character's number; or the list doesn't end in `[]`; or the text is unified
  pub text-fails : (l : Heap) (a : Term) (places : List Ref) (f : errors.Fault) (r : Result Outcome NoMemory) → places ≡ w.elements.items → IsFault h (all_characters (map (place_seen h) places)) f → IfOk r (Does h l (Err (fault_kind h f)))
      → IfOk r (Does h l (atom_of_codes h.subst h.next a (seen h list)))
  text-fails l a places f r ep i d = row-fails l a f r (fails-value h (all_characters (map (place_seen h) w.elements.items)) (λ cs. closed_by (seen h list) w.end >> Ok cs) f (subst (λ q. IsFault h (all_characters (map (place_seen h) q)) f) ep i)) d

  pub end-fails : (l : Heap) (a : Term) (places : List Ref) (cs : Name) (f : errors.Fault) (r : Result Outcome NoMemory) → places ≡ w.elements.items → all_characters (map (place_seen h) places) ≡ Ok cs → IsFault h (closed_by (seen h list) w.end) f → IfOk r (Does h l (Err (fault_kind h f)))
      → IfOk r (Does h l (atom_of_codes h.subst h.next a (seen h list)))
  end-fails l a places cs f r ep e i d =
      row-fails l a f r (later-value h (all_characters (map (place_seen h) w.elements.items)) (λ xs. closed_by (seen h list) w.end >> Ok xs) cs f (subst (λ q. all_characters (map (place_seen h) q) ≡ Ok cs) ep e) (fails h (closed_by (seen h list) w.end) (Ok cs) f i)) d

  pub text-does : (l : Heap) (a : Term) (places : List Ref) (cs bs : Name) (r : Result Outcome NoMemory) → places ≡ w.elements.items → all_characters (map (place_seen h) places) ≡ Ok cs → closed_by (seen h list) w.end ≡ Ok tt → bs ≡ cs → IfOk r (Does h l (Ok (unifies h.subst h.next a (Atom bs))))
      → IfOk r (Does h l (atom_of_codes h.subst h.next a (seen h list)))
  text-does l a places cs bs r ep e e2 same d = subst (λ c. IfOk r (Does h l c)) (sym row) d
    where
      row : atom_of_codes h.subst h.next a (seen h list) ≡ Ok (unifies h.subst h.next a (Atom bs))
      row =
          ap (λ q. q >>= (λ xs. Ok (unifies h.subst h.next a (Atom xs)))) (walked-codes ∙ past-value (all_characters (map (place_seen h) w.elements.items)) (λ xs. closed_by (seen h list) w.end >> Ok xs) cs (subst (λ q. all_characters (map (place_seen h) q) ≡ Ok cs) ep e) ∙ past (closed_by (seen h list) w.end) (Ok cs) e2)
          ∙ ap (λ xs. Ok (unifies h.subst h.next a (Atom xs))) (sym same)

-- the row where the cell is a variable's
pub codes-variable : (h l : Heap) (t v : ℕ) (c : Cell) (x : Term) (r : Result Outcome NoMemory) → c ≡ cell.Var v → IsTop h t c → IfOk r (Does h l (atom_of_codes h.subst h.next (seen h t) x)) → IfOk r (Does h l (atom_codes h.subst h.next (seen h t) x))
codes-variable h l t v c x r e top d =
    let is : seen h t ≡ Var v = seen-variable h t v c e top in
    subst (λ y. IfOk r (Does h l (atom_codes h.subst h.next y x))) (sym is) (subst (λ y. IfOk r (Does h l (atom_of_codes h.subst h.next y x))) is d)

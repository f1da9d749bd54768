-- Tables of names: what stays when a name is added, and that places are equal where names are.
use Rattle.std.proofs.Common.{◌≡◌, ℕ, zero, suc, ◌<◌, ◌≤◌, nat_eq, Bool, true, false, ◌||◌, ◌⊎◌, inl, inr, List, [], ◌∷◌, ◌++◌, Some, length, take, slice_get, slice_index_or, position, string_bytes, refl, sym, ap, subst, ◌∙◌, true≢false, arith, length-append, append_assoc, if◌then◌else◌}
use Rattle.std.proofs.lemmas.List.{append-nil, map-append, take-append-le, length-take}
use Rattle.std.proofs.lemmas.List.Quantifiers.{position-Some}
use Rattle.std.proofs.lemmas.Bool.Decides.{same_from_decides, Decides-eqb}
use Rattle.std.proofs.lemmas.Option.{slice_get_within, slice_get-get_or, slice_get-map, get_or_from_slice_get, same_Some}
use Rattle.std.proofs.lemmas.Slice.Eq.{bytes_eq-Decides}
use Rattle.std.proofs.lemmas.Str.{IsUtf8-string_bytes}
use Rattle.std.specs.List.{list_any}
use Rattle.std.specs.Str.{IsUtf8, chars, bytes_eq, all_scalars}
use Rattle.std.specs.declared.alloc.Global.{Global}
use Rattle.std.specs.declared.string.String.{String}
use Rattle.indexmap.specs.IndexSet.{insert_key}
use Rattle.std.specs.String.{string_eq}
use Rattle.tp_terms.specs.declared.cells.Cell.{Cell}
use Rattle.tp_terms.specs.Term.{Name, names_eq}
use Rattle.tp_terms.specs.Shown.{name_at, shows, AreNamed}
use Rattle.tp_terms.specs.StartNames.{start_names}
use Rattle.tp_terms.specs.Names.{names_of, with_name, AreDistinct, AreTexts, IsTable, Grows}
use Rattle.tp_terms.proofs.Places.Shown.{shows-names}
use Rattle.tp_terms.proofs.Texts.Equal.{names_eq-same, names_eq-true, names_eq-chars}

-- what stands in a list still stands when more is added behind it
pub slice_get-append : {X : Type 0} (xs ys : List X) (i : ℕ) → i < length xs → slice_get (xs ++ ys) i ≡ slice_get xs i
slice_get-append [] ys i h = absurd (omega arith)
slice_get-append (x ∷ xs) ys zero h = refl
slice_get-append (x ∷ xs) ys (suc i) h = slice_get-append xs ys i (omega arith)

-- a place of a list with one more element
pub slice_get-push : {X : Type 0} (xs : List X) (x : X) (i : ℕ) (y : X) → slice_get (xs ++ x ∷ []) i ≡ Some y → (slice_get xs i ≡ Some y) ⊎ ((i ≡ length xs) × (y ≡ x))
slice_get-push [] x zero y e = inr (refl, sym (same_Some x y e))
slice_get-push [] x (suc i) y e = cc
slice_get-push (z ∷ xs) x zero y e = inl e
slice_get-push (z ∷ xs) x (suc i) y e =
    elim (slice_get-push xs x i y e) [ inl h ↦ inl h | inr h ↦ inr (omega (arith, h.0), h.1) ]

pub list_any-at : {X : Type 0} (p : X → Bool) (xs : List X) (i : ℕ) (x : X) → slice_get xs i ≡ Some x → p x ≡ true → list_any p xs ≡ true
list_any-at p [] i x e h = cc
list_any-at p (y ∷ ys) zero x e h = ap (λ z. p z || list_any p ys) (same_Some y x e) ∙ ap (λ b. b || list_any p ys) h
list_any-at p (y ∷ ys) (suc i) x e h = ap (λ b. p y || b) (list_any-at p ys i x e h) ∙ by (p y)
  where
    by : (b : Bool) → (b || true) ≡ true
    by true = refl
    by false = refl

-- where a name is
pub name_at-slice_get : (names : List Name) (at : ℕ) (name : Name) → slice_get names at ≡ Some name → name_at names at ≡ name
name_at-slice_get names at name e = get_or_from_slice_get names at name [] e

pub slice_get-name_at : (names : List Name) (at : ℕ) → at < length names → slice_get names at ≡ Some (name_at names at)
slice_get-name_at names at h = slice_get-get_or names at [] h

-- a name that is there adds nothing
pub with_name-present : (names : List Name) (at : ℕ) (name : Name) → slice_get names at ≡ Some name → with_name names name ≡ names
with_name-present names at name e = ap (λ b. names ++ (if b then [] else name ∷ [])) (list_any-at (names_eq name) names at name e (names_eq-same name)) ∙ append-nil names

-- and its place is the one that it had
pub known_place : (old new : List Name) (name : Name) → AreDistinct old → new ≡ with_name old name → (now at : ℕ) → slice_get new now ≡ Some name → slice_get old at ≡ Some name → now ≡ at
known_place old new name d e now at f g =
    d now at name (ap (λ l. slice_get l now) (sym (e ∙ with_name-present old at name g)) ∙ f) g

-- the table only grows
pub Grows-with_name : (names : List Name) (name : Name) → Grows names (with_name names name)
Grows-with_name names name = record { more = (if list_any (names_eq name) names then [] else name ∷ []); added = refl }

pub Grows-same : (names : List Name) → Grows names names
Grows-same names = record { more = []; added = sym (append-nil names) }

pub Grows-trans : (a b c : List Name) → Grows a b → Grows b c → Grows a c
Grows-trans a b c g h = record { more = g.more ++ h.more; added = h.added ∙ ap (λ l. l ++ h.more) g.added ∙ append_assoc a g.more h.more }

pub Grows-length : (old new : List Name) → Grows old new → length old ≤ length new
Grows-length old new g = omega (arith, ap length g.added, length-append old g.more)

-- no name changes its place
pub Grows-keeps : (old new : List Name) → Grows old new → (at : ℕ) → at < length old → slice_get new at ≡ slice_get old at
Grows-keeps old new g at h = ap (λ l. slice_get l at) g.added ∙ slice_get-append old g.more at h

pub Grows-name_at : (old new : List Name) → Grows old new → (at : ℕ) → at < length old → name_at new at ≡ name_at old at
Grows-name_at old new g at h = name_at-slice_get new at (name_at old at) (Grows-keeps old new g at h ∙ slice_get-name_at old at h)

-- and no place shows another term
pub Grows-shows : (old new : List Name) → Grows old new → (cells : List Cell) (at : ℕ) → AreNamed (length old) cells → shows new cells at ≡ shows old cells at
Grows-shows old new g cells at h = ap (λ l. shows l cells at) g.added ∙ shows-names old g.more cells at h

-- two places of a table are equal exactly where their names are
pub same_place : (names : List Name) → AreDistinct names → (i j : ℕ) → i < length names → j < length names → name_at names i ≡ name_at names j → i ≡ j
same_place names d i j h k e = d i j (name_at names j) (slice_get-name_at names i h ∙ ap Some e) (slice_get-name_at names j k)

pub names_eq-places : (names : List Name) → AreDistinct names → (i j : ℕ) → i < length names → j < length names → names_eq (name_at names i) (name_at names j) ≡ nat_eq i j
names_eq-places names d i j h k =
    same_from_decides (names_eq (name_at names i) (name_at names j)) (nat_eq i j)
    ((λ e. same_place names d i j h k (names_eq-true (name_at names i) (name_at names j) e)), (λ e. ap (λ n. names_eq (name_at names n) (name_at names j)) e ∙ names_eq-same (name_at names j)))
    (Decides-eqb i j)

-- a name stands where an equal one stands, and nowhere else
pub names_eq-place : (names : List Name) → AreDistinct names → (i j : ℕ) (name : Name) → i < length names → slice_get names j ≡ Some name → names_eq (name_at names i) name ≡ nat_eq i j
names_eq-place names d i j name h e =
    let there : name_at names j ≡ name = name_at-slice_get names j name e in
    ap (names_eq (name_at names i)) (sym there) ∙ names_eq-places names d i j h (slice_get_within names j name e)

-- a table with one name more is a table
absent : (names : List Name) (name : Name) → list_any (names_eq name) names ≡ false → (i : ℕ) → ¬ (slice_get names i ≡ Some name)
absent names name none i e = true≢false (sym (list_any-at (names_eq name) names i name e (names_eq-same name)) ∙ none)

distinct-push : (names : List Name) (name : Name) → AreDistinct names → list_any (names_eq name) names ≡ false → AreDistinct (names ++ name ∷ [])
distinct-push names name d none i j x e f =
    elim (slice_get-push names name i x e) [
      | inl h ↦ elim (slice_get-push names name j x f) [
        | inl k ↦ d i j x h k
        | inr k ↦ absurd (absent names name none i (h ∙ ap Some k.1))
      ]
      | inr h ↦ elim (slice_get-push names name j x f) [
        | inl k ↦ absurd (absent names name none j (k ∙ ap Some h.1))
        | inr k ↦ h.0 ∙ sym k.0
      ]
    ]

pub AreDistinct-with_name : (names : List Name) (name : Name) → AreDistinct names → AreDistinct (with_name names name)
AreDistinct-with_name names name d = by (list_any (names_eq name) names) refl
  where
    by : (b : Bool) → list_any (names_eq name) names ≡ b → AreDistinct (names ++ (if b then [] else name ∷ []))
    by true e = subst AreDistinct (sym (append-nil names)) d
    by false e = distinct-push names name d e

texts-push : (names : List Name) (name : Name) → AreTexts names → all_scalars name ≡ true → AreTexts (names ++ name ∷ [])
texts-push names name t s at x e = elim (slice_get-push names name at x e) [ inl h ↦ t at x h | inr h ↦ ap all_scalars h.1 ∙ s ]

pub AreTexts-with_name : (names : List Name) (name : Name) → AreTexts names → all_scalars name ≡ true → AreTexts (with_name names name)
AreTexts-with_name names name t s = by (list_any (names_eq name) names)
  where
    by : (b : Bool) → AreTexts (names ++ (if b then [] else name ∷ []))
    by true = subst AreTexts (sym (append-nil names)) t
    by false = texts-push names name t s

start-within : (names : List Name) → take (length start_names) names ≡ start_names → length start_names ≤ length names
start-within names e = omega (arith, ap length e, length-take (length start_names) names)

pub IsTable-with_name : (names : List Name) (name : Name) → IsTable names → all_scalars name ≡ true → IsTable (with_name names name)
IsTable-with_name names name t s = record {
  begins = take-append-le (length start_names) names (if list_any (names_eq name) names then [] else name ∷ []) (start-within names t.begins) ∙ t.begins;
  distinct = AreDistinct-with_name names name t.distinct;
  texts = AreTexts-with_name names name t.texts s;
}

-- the names of texts
abbrev Texts : Type 0
Texts = List (String Global)

found-text : (texts : Texts) (bytes : List ℕ) (at : ℕ) → position (λ text. bytes_eq bytes (string_bytes text)) texts ≡ Some at → (text : String Global) × (slice_get texts at ≡ Some text) × (bytes ≡ string_bytes text)
found-text [] bytes at e = cc
found-text (d ∷ texts) bytes at e =
    let found = position-Some (λ text. bytes_eq bytes (string_bytes text)) (d ∷ texts) at d e in
    (slice_index_or (d ∷ texts) at d, slice_get-get_or (d ∷ texts) at d found.0, (bytes_eq-Decides bytes (string_bytes (slice_index_or (d ∷ texts) at d))).0 found.1)

-- the place of a text is the place of its name
pub slice_get-names_of : (texts : Texts) (bytes : List ℕ) (at : ℕ) (text : String Global) → slice_get texts at ≡ Some text → bytes ≡ string_bytes text → slice_get (names_of texts) at ≡ Some (chars bytes)
slice_get-names_of texts bytes at text e same =
    slice_get-map (λ (t : String Global). chars (string_bytes t)) texts at ∙ ap (λ o. Rattle.std.specs.Option.option_map (λ (t : String Global). chars (string_bytes t)) o) e ∙ ap (λ b. Some (chars b)) (sym same)

pub found-place : (texts : Texts) (bytes : List ℕ) (at : ℕ) → position (λ text. bytes_eq bytes (string_bytes text)) texts ≡ Some at → slice_get (names_of texts) at ≡ Some (chars bytes)
found-place texts bytes at e =
    let found = found-text texts bytes at e in
    slice_get-names_of texts bytes at found.0 found.1 found.2

pub found-names : (texts : Texts) (bytes : List ℕ) (at : ℕ) → position (λ text. bytes_eq bytes (string_bytes text)) texts ≡ Some at → names_of texts ≡ with_name (names_of texts) (chars bytes)
found-names texts bytes at e = sym (with_name-present (names_of texts) at (chars bytes) (found-place texts bytes at e))

-- and where an equal text stands
pub stored-place : (texts : Texts) (owned text : String Global) (bytes : List ℕ) (at : ℕ) → slice_get texts at ≡ Some text → string_eq owned text ≡ true → string_bytes owned ≡ bytes → slice_get (names_of texts) at ≡ Some (chars bytes)
stored-place texts owned text bytes at e same is =
    slice_get-names_of texts bytes at text e (sym is ∙ (bytes_eq-Decides (string_bytes owned) (string_bytes text)).0 same)

-- an inserted text adds its name
list_any-names_of : (texts : Texts) (bytes : List ℕ) → IsUtf8 bytes → list_any (λ text. bytes_eq bytes (string_bytes text)) texts ≡ list_any (names_eq (chars bytes)) (names_of texts)
list_any-names_of [] bytes u = refl
list_any-names_of (t ∷ texts) bytes u =
    let first : bytes_eq bytes (string_bytes t) ≡ names_eq (chars bytes) (chars (string_bytes t)) = sym (names_eq-chars bytes (string_bytes t) u (IsUtf8-string_bytes t)) in
    ap (λ b. b || list_any (λ text. bytes_eq bytes (string_bytes text)) texts) first ∙ ap (λ b. names_eq (chars bytes) (chars (string_bytes t)) || b) (list_any-names_of texts bytes u)

pub inserted-names : (texts : Texts) (owned : String Global) → names_of (insert_key string_eq texts owned) ≡ with_name (names_of texts) (chars (string_bytes owned))
inserted-names texts owned = by (list_any (string_eq owned) texts) refl
  where
    by : (b : Bool) → list_any (string_eq owned) texts ≡ b → names_of (if b then texts else texts ++ owned ∷ []) ≡ with_name (names_of texts) (chars (string_bytes owned))
    by b e = by_case b (sym (list_any-names_of texts (string_bytes owned) (IsUtf8-string_bytes owned)) ∙ e)
      where
        by_case : (b : Bool) → list_any (names_eq (chars (string_bytes owned))) (names_of texts) ≡ b → names_of (if b then texts else texts ++ owned ∷ []) ≡ with_name (names_of texts) (chars (string_bytes owned))
        by_case true f = sym (append-nil (names_of texts)) ∙ sym (ap (λ t. names_of texts ++ (if t then [] else chars (string_bytes owned) ∷ [])) f)
        by_case false f = map-append (λ (t : String Global). chars (string_bytes t)) texts (owned ∷ []) ∙ sym (ap (λ t. names_of texts ++ (if t then [] else chars (string_bytes owned) ∷ [])) f)

-- where no text equals the bytes, their name isn't there
pub not_found : (texts : Texts) (bytes : List ℕ) → IsUtf8 bytes → list_any (λ text. bytes_eq bytes (string_bytes text)) texts ≡ false → (at : ℕ) → ¬ (slice_get (names_of texts) at ≡ Some (chars bytes))
not_found texts bytes u none = absent (names_of texts) (chars bytes) (sym (list_any-names_of texts bytes u) ∙ none)

-- The names of the start: they are a table, and they stand first in every table.
use Rattle.std.proofs.Common.{◌≡◌, ℕ, zero, suc, ◌<◌, nat_eq, Bool, true, not, ◌&&◌, List, [], ◌∷◌, Some, length, take, drop, map, slice_get, refl, sym, ap, subst, ◌∙◌, true≢false, arith, length-take}
use Rattle.std.proofs.lemmas.List.{take-append-drop, take_all}
use Rattle.std.proofs.lemmas.Bool.{and_parts}
use Rattle.std.proofs.lemmas.Option.{slice_get_within, same_Some}
use Rattle.std.specs.List.{list_any, list_all}
use Rattle.std.specs.Str.{chars, all_scalars}
use Rattle.std.specs.declared.alloc.Global.{Global}
use Rattle.std.specs.declared.string.String.{String}
use Rattle.tp_terms.specs.declared.symbols.TheConstants.{START_NAMES}
use Rattle.tp_terms.specs.Term.{Name, names_eq}
use Rattle.tp_terms.specs.Shown.{name_at}
use Rattle.tp_terms.specs.StartNames.{start_names}
use Rattle.tp_terms.specs.Names.{names_of, with_name, with_names, AreDistinct, AreTexts, IsTable}
use Rattle.tp_terms.proofs.Texts.Equal.{names_eq-same}
use Rattle.tp_terms.proofs.Naming.Tables.{list_any-at, name_at-slice_get, slice_get-append, names_eq-place, with_name-present}

pub length-start_names : length start_names ≡ 103
unfolding start_names
length-start_names = refl

-- the texts of the code spell them, and none is left out
pub start-texts : with_names [] (map (λ text. chars text.now) START_NAMES) ≡ start_names
unfolding start_names chars
start-texts = refl

-- tests of a list of names
all_apart : List Name → Bool
all_apart [] = true
all_apart (name ∷ names) = not (list_any (names_eq name) names) && all_apart names

once : (name : Name) (names : List Name) (at : ℕ) → not (list_any (names_eq name) names) ≡ true → ¬ (slice_get names at ≡ Some name)
once name names at test e = true≢false (sym test ∙ ap not (list_any-at (names_eq name) names at name e (names_eq-same name)))

distinct-from_test : (names : List Name) → all_apart names ≡ true → AreDistinct names
unfolding all_apart
distinct-from_test [] h i j x e f = cc
distinct-from_test (name ∷ names) h zero zero x e f = refl
distinct-from_test (name ∷ names) h zero (suc j) x e f = absurd (once name names j (and_parts _ _ h).0 (f ∙ sym e))
distinct-from_test (name ∷ names) h (suc i) zero x e f = absurd (once name names i (and_parts _ _ h).0 (e ∙ sym f))
distinct-from_test (name ∷ names) h (suc i) (suc j) x e f = ap suc (distinct-from_test names (and_parts _ _ h).1 i j x e f)

texts-from_test : (names : List Name) → list_all all_scalars names ≡ true → AreTexts names
texts-from_test [] h at x e = cc
texts-from_test (name ∷ names) h zero x e = ap all_scalars (sym (same_Some name x e)) ∙ (and_parts _ _ h).0
texts-from_test (name ∷ names) h (suc at) x e = texts-from_test names (and_parts _ _ h).1 at x e

start-apart : all_apart start_names ≡ true
unfolding start_names all_apart
start-apart = refl

start-scalars : list_all all_scalars start_names ≡ true
unfolding start_names
start-scalars = refl

pub IsTable-start_names : IsTable start_names
IsTable-start_names = record {
  begins = take_all (length start_names) start_names (omega arith);
  distinct = distinct-from_test start_names start-apart;
  texts = texts-from_test start_names start-scalars;
}

-- what the table of the start has
pub names-start : (old new : List (String Global)) → names_of new ≡ with_names (names_of old) (map (λ text. chars text.now) START_NAMES) → old ≡ [] → names_of new ≡ start_names
names-start old new e empty = e ∙ ap (λ texts. with_names (names_of texts) (map (λ text. chars text.now) START_NAMES)) empty ∙ start-texts

pub table-start : (old new : List (String Global)) → names_of new ≡ with_names (names_of old) (map (λ text. chars text.now) START_NAMES) → old ≡ [] → IsTable (names_of new)
table-start old new e empty = subst IsTable (sym (names-start old new e empty)) IsTable-start_names

-- every table has the names of the start, at their places
pub start-place : (names : List Name) → IsTable names → (at : ℕ) (name : Name) → slice_get start_names at ≡ Some name → slice_get names at ≡ Some name
start-place names t at name e =
    let begin : length start_names ≡ length (take (length start_names) names) = ap length (sym t.begins) in
    let within : at < length (take (length start_names) names) = omega (arith, slice_get_within start_names at name e) in
    ap (λ l. slice_get l at) (sym (take-append-drop (length start_names) names))
    ∙ slice_get-append (take (length start_names) names) (drop (length start_names) names) at within
    ∙ ap (λ l. slice_get l at) t.begins
    ∙ e

-- such a name is added to no table
pub start-present : (names : List Name) → IsTable names → (at : ℕ) (name : Name) → slice_get start_names at ≡ Some name → names ≡ with_name names name
start-present names t at name e = sym (with_name-present names at name (start-place names t at name e))

pub start-name_at : (names : List Name) → IsTable names → (at : ℕ) (name : Name) → slice_get start_names at ≡ Some name → name_at names at ≡ name
start-name_at names t at name e = name_at-slice_get names at name (start-place names t at name e)

pub start-within : (names : List Name) → IsTable names → (at : ℕ) → at < 103 → at < length names
start-within names t at h =
    omega (arith, length-start_names, ap length t.begins, length-take (length start_names) names)

-- an atom of a table has a name of the start exactly where it is at that name's place
pub names_eq-start : (names : List Name) → IsTable names → (i at : ℕ) (name : Name) → i < length names → slice_get start_names at ≡ Some name → names_eq (name_at names i) name ≡ nat_eq i at
names_eq-start names t i at name h e = names_eq-place names t.distinct i at name h (start-place names t at name e)

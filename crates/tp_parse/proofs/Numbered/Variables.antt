-- Variables by their texts.
use Rattle.std.proofs.Common.{◌≡◌, ℕ, ◌+◌, ◌<◌, Bool, true, false, List, [], ◌∷◌, ◌++◌, cond, drop, get_or, length, map, Option, Some, None, codes, string_bytes, refl, sym, ap, ◌∙◌, if◌then◌else◌}
use Rattle.std.proofs.lemmas.Str.{IsUtf8-string_bytes, IsUtf8-from_is_utf8}
use Rattle.std.specs.Map.{lookup}
use Rattle.std.specs.Str.{IsUtf8, is_utf8, chars, bytes_eq}
use Rattle.std.specs.String.{string_eq}
use Rattle.std.specs.declared.alloc.Global.{Global}
use Rattle.std.specs.declared.string.String.{String}
use Rattle.indexmap.specs.IndexMap.{insert_entry}
use Rattle.std.proofs.lemmas.List.{at_drop_more}
use Rattle.tp_terms.specs.Term.{Name, names_eq}
use Rattle.tp_terms.specs.declared.text.Named.{Named}
use Rattle.tp_parse.specs.Tells.{named_of}
use Rattle.tp_terms.proofs.Texts.Equal.{names_eq-chars}
use Rattle.tp_parse.specs.Numbers.{number_in}
use Rattle.tp_parse.specs.Variables.{numbers_of}

abbrev Texts : Type 0
Texts = List (String Global × ℕ)

-- the name `_`
pub anonymous : (bytes : List ℕ) → IsUtf8 bytes → bytes_eq bytes (codes "_") ≡ names_eq (chars bytes) (codes "_")
unfolding chars is_utf8 lib.Utf8.encode
anonymous bytes u = sym (names_eq-chars bytes (codes "_") u (IsUtf8-from_is_utf8 (codes "_") refl))

-- the number of a name is that of its bytes
pub number_in-lookup : (es : Texts) (bytes : List ℕ) → IsUtf8 bytes → number_in (numbers_of es) (chars bytes) ≡ lookup (λ k. bytes_eq bytes (string_bytes k)) es
number_in-lookup [] bytes u = refl
number_in-lookup (e ∷ es) bytes u =
    ap (λ t. if t then Some e.1 else number_in (numbers_of es) (chars bytes)) (names_eq-chars bytes (string_bytes e.0) u (IsUtf8-string_bytes e.0))
    ∙ by (bytes_eq bytes (string_bytes e.0)) (number_in-lookup es bytes u)
  where
    by : (t : Bool) → number_in (numbers_of es) (chars bytes) ≡ lookup (λ k. bytes_eq bytes (string_bytes k)) es → (if t then Some e.1 else number_in (numbers_of es) (chars bytes)) ≡ cond t (Some e.1) (lookup (λ k. bytes_eq bytes (string_bytes k)) es)
    by true h = refl
    by false h = h

-- a name that has none is added behind the others
added-at : (es : Texts) (key : String Global) (n : ℕ) → number_in (numbers_of es) (chars (string_bytes key)) ≡ None → numbers_of (insert_entry string_eq es key n) ≡ numbers_of es ++ (chars (string_bytes key), n) ∷ []
added-at [] key n h = refl
added-at (e ∷ es) key n h =
    by (string_eq key e.0) (ap (λ t. if t then Some e.1 else number_in (numbers_of es) (chars (string_bytes key))) (sym (names_eq-chars (string_bytes key) (string_bytes e.0) (IsUtf8-string_bytes key) (IsUtf8-string_bytes e.0))) ∙ h) (added-at es key n)
  where
    by : (t : Bool) → (if t then Some e.1 else number_in (numbers_of es) (chars (string_bytes key))) ≡ None → (number_in (numbers_of es) (chars (string_bytes key)) ≡ None → numbers_of (insert_entry string_eq es key n) ≡ numbers_of es ++ (chars (string_bytes key), n) ∷ []) →
        numbers_of (cond t ((e.0, n) ∷ es) (e ∷ insert_entry string_eq es key n)) ≡ numbers_of (e ∷ es) ++ (chars (string_bytes key), n) ∷ []
    by true f more = cc
    by false f more = ap (λ l. (chars (string_bytes e.0), e.1) ∷ l) (more f)

pub added : (old new : Texts) (key : String Global) (bytes : List ℕ) (n : ℕ) → new ≡ insert_entry string_eq old key n → string_bytes key ≡ bytes → number_in (numbers_of old) (chars bytes) ≡ None → numbers_of new ≡ numbers_of old ++ (chars bytes, n) ∷ []
added old new key bytes n e same h =
    ap numbers_of e ∙ added-at old key n (ap (λ b. number_in (numbers_of old) (chars b)) same ∙ h) ∙ ap (λ b. numbers_of old ++ (chars b, n) ∷ []) same

-- a number among the first names is that among all
pub number-first : (few more : List (Name × ℕ)) (name : Name) (k : ℕ) → Some k ≡ number_in few name → Some k ≡ number_in (few ++ more) name
number-first [] more name k e = cc
number-first (n ∷ few) more name k e = by (names_eq name n.0) (number-first few more name k) e
  where
    by : (t : Bool) → (Some k ≡ number_in few name → Some k ≡ number_in (few ++ more) name) → Some k ≡ (if t then Some n.1 else number_in few name) → Some k ≡ (if t then Some n.1 else number_in (few ++ more) name)
    by true m e = e
    by false m e = m e

-- a name that none of the first has is looked for behind them
pub number-behind : (few more : List (Name × ℕ)) (name : Name) → None ≡ number_in few name → number_in more name ≡ number_in (few ++ more) name
number-behind [] more name e = refl
number-behind (n ∷ few) more name e = by (names_eq name n.0) (number-behind few more name) e
  where
    by : (t : Bool) → (None ≡ number_in few name → number_in more name ≡ number_in (few ++ more) name) → None ≡ (if t then Some n.1 else number_in few name) → number_in more name ≡ (if t then Some n.1 else number_in (few ++ more) name)
    by true m e = cc
    by false m e = m e

-- a name that has no number has none behind the first
pub none-behind : (few more : List (Name × ℕ)) (name : Name) → number_in (few ++ more) name ≡ None → number_in more name ≡ None
none-behind [] more name e = e
none-behind (n ∷ few) more name e = by (names_eq name n.0) (none-behind few more name) e
  where
    by : (t : Bool) → (number_in (few ++ more) name ≡ None → number_in more name ≡ None) → (if t then Some n.1 else number_in (few ++ more) name) ≡ None → number_in more name ≡ None
    by true m e = cc
    by false m e = m e

-- the number of a name among names that are left, by the test of the next one
pub number-next : (xs : List Named) (i : ℕ) (x : Named) (bytes text : List ℕ) (t : Bool) → i < length xs → x ≡ get_or xs i x → IsUtf8 bytes → IsUtf8 text → chars text ≡ x.name → t ≡ bytes_eq bytes text →
    number_in (map named_of (drop i xs)) (chars bytes) ≡ (if t then Some x.number else number_in (map named_of (drop (i + 1) xs)) (chars bytes))
number-next xs i x bytes text t small is u v name test =
    let left : Option ℕ = number_in (map named_of (drop (i + 1) xs)) (chars bytes) in
    let same : names_eq (chars bytes) x.name ≡ t = ap (names_eq (chars bytes)) (sym name) ∙ names_eq-chars bytes text u v ∙ sym test in
    at_drop_more (λ l. number_in (map named_of l) (chars bytes)) xs i x small
    ∙ ap (λ (y : Named). if names_eq (chars bytes) y.name then Some y.number else left) (sym is)
    ∙ ap (λ b. if b then Some x.number else left) same

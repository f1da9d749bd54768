-- The table of operators: types by their names, entries by texts, and the table of the start.
use Rattle.std.proofs.Common.{◌≡◌, ◌≢◌, ℕ, ◌<◌, ◌≤◌, length, subst, arith, Bool, true, false, ◌⊎◌, inl, inr, List, [], ◌∷◌, map, Option, Some, None, codes, string_bytes, refl, sym, ap, cond, true≢false, ◌∙◌, if◌then◌else◌}
use Rattle.std.proofs.Math.Path.{fun_ext}
use Rattle.std.proofs.lemmas.Str.{IsUtf8-string_bytes, IsUtf8-from_is_utf8}
use Rattle.std.proofs.lemmas.Slice.Eq.{bytes_eq-Decides}
use Rattle.std.specs.Map.{lookup}
use Rattle.std.specs.Str.{IsUtf8, is_utf8, chars, bytes_eq}
use Rattle.std.specs.String.{string_eq}
use Rattle.std.specs.declared.alloc.Global.{Global}
use Rattle.std.specs.declared.string.String.{String}
use Rattle.indexmap.specs.IndexMap.{insert_entry}
use Rattle.tp_terms.specs.Term.{Name, names_eq}
use Rattle.tp_terms.proofs.Texts.Equal.{names_eq-chars, names_eq-apart, names_eq-true, same_bytes}
use Rattle.tp_parse.specs.declared.table.TheConstants.{START_OPERATORS}
use Rattle.tp_parse.specs.Table.{Op, Table, changed, type_of, is_kept_name, empty_table, start_table}
use Rattle.tp_parse.specs.Start.{with_operators}
use Rattle.tp_parse.specs.Ops.{Entries, found_in, entries_of, table_of, AreWithin}

-- a text that isn't this one has another name
apart : (bytes text : List ℕ) → IsUtf8 bytes → is_utf8 text ≡ true → chars text ≡ text → bytes ≢ text → names_eq (chars bytes) text ≡ false
apart bytes text u v same ne =
    names_eq-apart (chars bytes) text (λ e. ne (same_bytes bytes text u (IsUtf8-from_is_utf8 text v) (e ∙ sym same)))

pub type_of-none : (bytes : List ℕ) → IsUtf8 bytes → bytes ≢ codes "xfx" → bytes ≢ codes "xfy" → bytes ≢ codes "yfx" → bytes ≢ codes "fy" → bytes ≢ codes "fx" → type_of (chars bytes) ≡ None
unfolding chars is_utf8 lib.Utf8.encode
type_of-none bytes u a b c d e =
    rw (apart bytes (codes "xfx") u refl refl a, apart bytes (codes "xfy") u refl refl b, apart bytes (codes "yfx") u refl refl c, apart bytes (codes "fy") u refl refl d, apart bytes (codes "fx") u refl refl e) refl

pub is_kept_name-none : (bytes : List ℕ) → IsUtf8 bytes → bytes ≢ codes "," → bytes ≢ codes "|" → bytes ≢ codes "[]" → bytes ≢ codes "{}" → is_kept_name (chars bytes) ≡ false
unfolding chars is_utf8 lib.Utf8.encode
is_kept_name-none bytes u a b c d =
    rw (apart bytes (codes ",") u refl refl a, apart bytes (codes "|") u refl refl b, apart bytes (codes "[]") u refl refl c, apart bytes (codes "{}") u refl refl d) refl

abbrev Texts : Type 0
Texts = List (String Global × Option Op)

abbrev flat : Option (Option Op) → Option Op
flat None = None
flat (Some o) = o

-- the entry of a name is that of its bytes
pub found_in-lookup : (es : Texts) (bytes : List ℕ) → IsUtf8 bytes → found_in (entries_of es) (chars bytes) ≡ flat (lookup (λ k. bytes_eq bytes (string_bytes k)) es)
found_in-lookup [] bytes u = refl
found_in-lookup (e ∷ es) bytes u =
    ap (λ t. if t then e.1 else found_in (entries_of es) (chars bytes)) (names_eq-chars bytes (string_bytes e.0) u (IsUtf8-string_bytes e.0))
    ∙ by (bytes_eq bytes (string_bytes e.0)) (found_in-lookup es bytes u)
  where
    by : (t : Bool) → found_in (entries_of es) (chars bytes) ≡ flat (lookup (λ k. bytes_eq bytes (string_bytes k)) es) → (if t then e.1 else found_in (entries_of es) (chars bytes)) ≡ flat (cond t (Some e.1) (lookup (λ k. bytes_eq bytes (string_bytes k)) es))
    by true h = refl
    by false h = h

pub found-some : (es : Texts) (bytes : List ℕ) (entry : Option Op) → IsUtf8 bytes → Some entry ≡ lookup (λ k. bytes_eq bytes (string_bytes k)) es → entry ≡ found_in (entries_of es) (chars bytes)
found-some es bytes entry u e = ap flat e ∙ sym (found_in-lookup es bytes u)

pub found-none : (es : Texts) (bytes : List ℕ) → IsUtf8 bytes → None ≡ lookup (λ k. bytes_eq bytes (string_bytes k)) es → None ≡ found_in (entries_of es) (chars bytes)
found-none es bytes u e = ap flat e ∙ sym (found_in-lookup es bytes u)

-- a name of more bytes than all that are there has no entry
pub found-longer : (es : Texts) (n : ℕ) (bytes : List ℕ) → IsUtf8 bytes → AreWithin n es → n < length bytes → None ≡ found_in (entries_of es) (chars bytes)
found-longer es n bytes u w l = found-none es bytes u (sym (absent es w))
  where
    absent : (es : Texts) → AreWithin n es → lookup (λ k. bytes_eq bytes (string_bytes k)) es ≡ None
    absent [] w = refl
    absent (e ∷ es) w = by (bytes_eq bytes (string_bytes e.0)) refl (absent es w.1)
      where
        by : (t : Bool) → bytes_eq bytes (string_bytes e.0) ≡ t → lookup (λ k. bytes_eq bytes (string_bytes k)) es ≡ None → cond t (Some e.1) (lookup (λ k. bytes_eq bytes (string_bytes k)) es) ≡ None
        by true h more = absurd (omega (arith, w.0, l, ap length ((bytes_eq-Decides bytes (string_bytes e.0)).0 h)))
        by false h more = more

within-more : (es : Texts) (n m : ℕ) → n ≤ m → AreWithin n es → AreWithin m es
within-more [] n m l w = tt
within-more (e ∷ es) n m l w = (let a = w.0 in omega arith, within-more es n m l w.1)

within-insert : (es : Texts) (n : ℕ) (key : String Global) (entry : Option Op) → length (string_bytes key) ≤ n → AreWithin n es → AreWithin n (insert_entry string_eq es key entry)
within-insert [] n key entry l w = (l, tt)
within-insert (e ∷ es) n key entry l w = by (string_eq key e.0) (within-insert es n key entry l w.1)
  where
    by : (b : Bool) → AreWithin n (insert_entry string_eq es key entry) → AreWithin n (cond b ((e.0, entry) ∷ es) (e ∷ insert_entry string_eq es key entry))
    by true more = (w.0, w.1)
    by false more = (w.0, more)

-- after an entry is set
pub within-inserted : (old new : Texts) (n m : ℕ) (key : String Global) (bytes : List ℕ) (entry : Option Op) → new ≡ insert_entry string_eq old key entry → string_bytes key ≡ bytes → n ≤ m → length bytes ≤ m → AreWithin n old → AreWithin m new
within-inserted old new n m key bytes entry e same l k w =
    subst (AreWithin m) (sym e) (within-insert old m key entry (omega (arith, k, ap length same)) (within-more old n m l w))

-- where the entries stay
pub within-same : (old new : Texts) (n m : ℕ) → new ≡ old → n ≤ m → AreWithin n old → AreWithin m new
within-same old new n m e l w = subst (AreWithin m) (sym e) (within-more old n m l w)

-- an entry that is inserted is the one that its name has
inserted-at : (es : Texts) (key : String Global) (entry : Option Op) (n : Name) → found_in (entries_of (insert_entry string_eq es key entry)) n ≡ changed (chars (string_bytes key)) entry (found_in (entries_of es)) n
inserted-at [] key entry n = refl
inserted-at (e ∷ es) key entry n = by (string_eq key e.0) refl (inserted-at es key entry n)
  where
    same : (t : Bool) → (if t then entry else found_in (entries_of es) n) ≡ (if t then entry else (if t then e.1 else found_in (entries_of es) n))
    same true = refl
    same false = refl

    swap : (s t : Bool) → (s ≡ true → t ≡ true → ⊥) → (if s then e.1 else (if t then entry else found_in (entries_of es) n)) ≡ (if t then entry else (if s then e.1 else found_in (entries_of es) n))
    swap true true h = absurd (h refl refl)
    swap true false h = refl
    swap false t h = refl

    by : (b : Bool) → string_eq key e.0 ≡ b → found_in (entries_of (insert_entry string_eq es key entry)) n ≡ changed (chars (string_bytes key)) entry (found_in (entries_of es)) n → found_in (entries_of (cond b ((e.0, entry) ∷ es) (e ∷ insert_entry string_eq es key entry))) n ≡ changed (chars (string_bytes key)) entry (found_in (entries_of (e ∷ es))) n
    by true h more =
        let equal : chars (string_bytes key) ≡ chars (string_bytes e.0) = ap chars ((bytes_eq-Decides (string_bytes key) (string_bytes e.0)).0 h) in
        same (names_eq n (chars (string_bytes e.0)))
        ∙ ap (λ m. if names_eq n m then entry else (if names_eq n (chars (string_bytes e.0)) then e.1 else found_in (entries_of es) n)) (sym equal)
    by false h more =
        ap (λ o. if names_eq n (chars (string_bytes e.0)) then e.1 else o) more
        ∙ swap (names_eq n (chars (string_bytes e.0))) (names_eq n (chars (string_bytes key)))
        (λ a b. true≢false (sym ((bytes_eq-Decides (string_bytes key) (string_bytes e.0)).1
        (same_bytes _ _ (IsUtf8-string_bytes key) (IsUtf8-string_bytes e.0) (sym (names_eq-true n _ b) ∙ names_eq-true n _ a))) ∙ h))

pub inserted : (old new : Texts) (key : String Global) (bytes : List ℕ) (entry : Option Op) → new ≡ insert_entry string_eq old key entry → string_bytes key ≡ bytes → found_in (entries_of new) ≡ changed (chars bytes) entry (found_in (entries_of old))
inserted old new key bytes entry e same =
    ap (λ es. found_in (entries_of es)) e ∙ fun_ext (inserted-at old key entry)
    ∙ ap (λ b. changed (chars b) entry (found_in (entries_of old))) same

-- the operators of the code are those of the start, in their order
pub start-operators : with_operators empty_table (map (λ o. (o.0, o.1, chars (o.2).now)) START_OPERATORS) ≡ start_table
unfolding start_table chars
start-operators = refl

pub start-table : (old : Entries) (new : Table) → table_of old ≡ empty_table → new ≡ with_operators (table_of old) (map (λ o. (o.0, o.1, chars (o.2).now)) START_OPERATORS) → new ≡ start_table
start-table old new none h = h ∙ ap (λ t. with_operators t (map (λ o. (o.0, o.1, chars (o.2).now)) START_OPERATORS)) none ∙ start-operators

pub is_kept_name-one : (bytes : List ℕ) → (bytes ≡ codes ",") ⊎ ((bytes ≡ codes "|") ⊎ ((bytes ≡ codes "[]") ⊎ (bytes ≡ codes "{}"))) → true ≡ is_kept_name (chars bytes)
unfolding chars
is_kept_name-one bytes (inl e) = ap (λ b. is_kept_name (chars b)) (sym e)
is_kept_name-one bytes (inr (inl e)) = ap (λ b. is_kept_name (chars b)) (sym e)
is_kept_name-one bytes (inr (inr (inl e))) = ap (λ b. is_kept_name (chars b)) (sym e)
is_kept_name-one bytes (inr (inr (inr e))) = ap (λ b. is_kept_name (chars b)) (sym e)

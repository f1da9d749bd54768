-- Names, by their bytes.
use Rattle.std.proofs.Common.{◌≡◌, ◌≢◌, ℕ, Bool, true, false, not, ◌&&◌, ◌||◌, ◌⊎◌, inl, inr, List, [], ◌∷◌, ◌++◌, ◌%◌, ◌<◌, codes, refl, sym, ap, ◌∙◌, arith, append_assoc, nat_lt, if◌then◌else◌, zero, suc, nat_eq, ◌≤◌}
use Rattle.std.proofs.lemmas.Bool.{eqb-true, ltb-true, lt-ltb, le-ltb, cases_eq}
use Rattle.std.specs.Char.{digit_char}
use Rattle.std.specs.Fmt.{digits}
use Rattle.tp_terms.proofs.Texts.Equal.{names_eq-true, names_eq-apart, same_bytes}
use Rattle.tp_write.specs.Names.{code_escape, escape_start, is_control, is_solo, is_graphic_name, begins_comment, all_escaped, escaped, quoted}
use Rattle.std.proofs.lemmas.Str.{IsUtf8-from_is_utf8}
use Rattle.std.specs.Str.{IsUtf8, is_utf8, chars}
use Rattle.tp_terms.specs.Term.{Name, names_eq}
use Rattle.tp_terms.specs.Added.{Progress, AddsPrefix}
use Rattle.tp_terms.proofs.Texts.Added.{begins, goes, stops_within}
use Rattle.tp_lex.specs.Characters.{dot, quote, is_graphic}
use Rattle.std.specs.List.{list_all}

-- a text that isn't this one has another name
apart : (bytes text : List ℕ) → IsUtf8 bytes → is_utf8 text ≡ true → chars text ≡ text → bytes ≢ text → names_eq (chars bytes) text ≡ false
apart bytes text u v same ne =
    names_eq-apart (chars bytes) text (λ e. ne (same_bytes bytes text u (IsUtf8-from_is_utf8 text v) (e ∙ sym same)))

-- a text that is none of the four names is no name that stands alone
pub solo-none : (bytes : List ℕ) → IsUtf8 bytes → bytes ≢ codes "[]" → bytes ≢ codes "{}" → bytes ≢ codes "!" → bytes ≢ codes ";" → is_solo (chars bytes) ≡ false
unfolding chars is_utf8 lib.Utf8.encode
solo-none bytes u a b c d =
    rw (apart bytes (codes "[]") u refl refl a, apart bytes (codes "{}") u refl refl b, apart bytes (codes "!") u refl refl c, apart bytes (codes ";") u refl refl d) refl

-- each of the four texts is a name that stands alone
pub solo-one : (bytes : List ℕ) → (bytes ≡ codes "[]") ⊎ ((bytes ≡ codes "{}") ⊎ ((bytes ≡ codes "!") ⊎ (bytes ≡ codes ";"))) → true ≡ is_solo (chars bytes)
unfolding chars
solo-one bytes (inl e) = ap (λ b. is_solo (chars b)) (sym e)
solo-one bytes (inr (inl e)) = ap (λ b. is_solo (chars b)) (sym e)
solo-one bytes (inr (inr (inl e))) = ap (λ b. is_solo (chars b)) (sym e)
solo-one bytes (inr (inr (inr e))) = ap (λ b. is_solo (chars b)) (sym e)

-- the empty text and `.` are no graphic names
pub graphic-none : (bytes : List ℕ) → (bytes ≡ []) ⊎ (bytes ≡ codes ".") → false ≡ is_graphic_name (chars bytes)
unfolding chars
graphic-none bytes (inl e) = ap (λ b. is_graphic_name (chars b)) (sym e)
graphic-none bytes (inr e) = ap (λ b. is_graphic_name (chars b)) (sym e)

not_empty : (bytes : List ℕ) → IsUtf8 bytes → bytes ≢ [] → chars bytes ≢ []
unfolding chars is_utf8 lib.Utf8.encode
not_empty bytes u ne e = ne (same_bytes bytes [] u (IsUtf8-from_is_utf8 [] refl) e)

pub graphic-other : (bytes : List ℕ) → IsUtf8 bytes → bytes ≢ [] → bytes ≢ codes "." → (list_all is_graphic (chars bytes) && not (begins_comment (chars bytes))) ≡ is_graphic_name (chars bytes)
unfolding chars is_utf8 lib.Utf8.encode
graphic-other bytes u ne nd = by (chars bytes) (not_empty bytes u ne) (apart bytes (codes ".") u refl refl nd)
  where
    by : (n : Name) → n ≢ [] → names_eq n (dot ∷ []) ≡ false → (list_all is_graphic n && not (begins_comment n)) ≡ is_graphic_name n
    by [] k e = absurd (k refl)
    by (c ∷ cs) k e = ap (λ b. list_all is_graphic (c ∷ cs) && (not b && not (begins_comment (c ∷ cs)))) (sym e)

-- ---- escapes

all_below : (ℕ → Bool) → ℕ → Bool
all_below p zero = true
all_below p (suc n) = p n && all_below p n

both : (a b : Bool) → (a && b) ≡ true → (a ≡ true) × (b ≡ true)
both true b e = (refl, e)
both false b e = absurd (cc)

below-at : (p : ℕ → Bool) (n : ℕ) → all_below p n ≡ true → (c : ℕ) → c < n → p c ≡ true
unfolding all_below
below-at p zero e c h = absurd (omega arith)
below-at p (suc n) e c h = elim (cases_eq c n) [ inl same ↦ rw same (both _ _ e).0 | inr other ↦ below-at p n (both _ _ e).1 c (omega arith) ]

abbrev pieces : ℕ → List ℕ
pieces c = escape_start c ++ (digit_char (c % 16) ∷ codes "\\")

control-below : all_below (λ c. names_eq (code_escape c) (pieces c)) 32 ≡ true
unfolding all_below digits
control-below = refl

control-delete : code_escape 127 ≡ pieces 127
unfolding digits
control-delete = refl

-- the escape of a control character in its pieces
pub code_escape-pieces : (c : ℕ) → is_control c ≡ true → code_escape c ≡ escape_start c ++ (digit_char (c % 16) ∷ codes "\\")
code_escape-pieces c h = by (nat_lt c 32) refl
  where
    by : (t : Bool) → nat_lt c 32 ≡ t → code_escape c ≡ pieces c
    by true e = names_eq-true (code_escape c) (pieces c) (below-at (λ c. names_eq (code_escape c) (pieces c)) 32 control-below c (ltb-true c 32 e))
    by false e =
        let same : c ≡ 127 = eqb-true c 127 (sym (ap (λ t. t || nat_eq c 127) e) ∙ h) in
        rw same control-delete

-- the beginning of the escape of a code below 16
pub start-low : (c : ℕ) → c < 16 → chars (codes "\\x") ≡ escape_start c
unfolding chars
start-low c h = ap (λ t. if t then codes "\\x" else (if nat_lt c 32 then codes "\\x1" else codes "\\x7")) (sym (lt-ltb c 16 h))

-- the beginning of the escape of a code from 16 to 31
pub start-middle : (c : ℕ) → 16 ≤ c → c < 32 → chars (codes "\\x1") ≡ escape_start c
unfolding chars
start-middle c l h =
    ap (λ t. if t then codes "\\x1" else codes "\\x7") (sym (lt-ltb c 32 h))
    ∙ ap (λ t. if t then codes "\\x" else (if nat_lt c 32 then codes "\\x1" else codes "\\x7")) (sym (le-ltb c 16 l))

-- the beginning of the escape of a code from 32 on
pub start-high : (c : ℕ) → 16 ≤ c → 32 ≤ c → chars (codes "\\x7") ≡ escape_start c
unfolding chars
start-high c l h =
    ap (λ t. if t then codes "\\x1" else codes "\\x7") (sym (le-ltb c 32 h))
    ∙ ap (λ t. if t then codes "\\x" else (if nat_lt c 32 then codes "\\x1" else codes "\\x7")) (sym (le-ltb c 16 l))

-- any other text of graphic characters is a graphic name unless it begins a comment
pub graphic-then : (bytes : List ℕ) (graphic comment : Bool) → IsUtf8 bytes → bytes ≢ [] → bytes ≢ codes "." → graphic ≡ list_all is_graphic (chars bytes) → graphic ≡ true → comment ≡ begins_comment (chars bytes) → not comment ≡ is_graphic_name (chars bytes)
graphic-then bytes graphic comment u ne nd e t f =
    ap (λ b. b && not comment) (sym t ∙ e) ∙ ap (λ b. list_all is_graphic (chars bytes) && not b) f ∙ graphic-other bytes u ne nd

-- the escape of a control character, as it is added
pub code_started : (c : ℕ) (before now start : List ℕ) → is_control c ≡ true → now ≡ before ++ start → start ≡ escape_start c → Progress before now (code_escape c) (digit_char (c % 16) ∷ codes "\\")
code_started c before now start h e s =
    goes before before now (code_escape c) (code_escape c) (escape_start c) (digit_char (c % 16) ∷ codes "\\") (begins before before (code_escape c) refl) (code_escape-pieces c h) (e ∙ ap (λ l. before ++ l) s)

-- behind the last digit the closing backslash is left
pub code_goes : (c d : ℕ) (before now new : List ℕ) → d ≡ digit_char (c % 16) → new ≡ now ++ d ∷ [] → Progress before now (code_escape c) (digit_char (c % 16) ∷ codes "\\") → Progress before new (code_escape c) (codes "\\")
code_goes c d before now new s e p =
    goes before now new (code_escape c) (digit_char (c % 16) ∷ codes "\\") (digit_char (c % 16) ∷ []) (codes "\\") p refl (e ∙ ap (λ n. now ++ n ∷ []) s)

-- what is left of a name between quotes
pub quoted-rest : (cs after : List ℕ) (c : ℕ) → cs ≡ c ∷ after → all_escaped cs ++ quote ∷ [] ≡ escaped c ++ (all_escaped after ++ quote ∷ [])
quoted-rest cs after c e = ap (λ l. all_escaped l ++ quote ∷ []) e ∙ append_assoc (escaped c) (all_escaped after) (quote ∷ [])

pub quoted-begins : (before now : List ℕ) (n : Name) → now ≡ before ++ quote ∷ [] → Progress before now (quoted n) (all_escaped n ++ quote ∷ [])
quoted-begins before now n e = goes before before now (quoted n) (quoted n) (quote ∷ []) (all_escaped n ++ quote ∷ []) (begins before before (quoted n) refl) refl e

pub quoted-goes : (before now new : List ℕ) (n cs after : Name) (c : ℕ) → cs ≡ c ∷ after → new ≡ now ++ escaped c → Progress before now (quoted n) (all_escaped cs ++ quote ∷ []) → Progress before new (quoted n) (all_escaped after ++ quote ∷ [])
quoted-goes before now new n cs after c e a p = goes before now new (quoted n) (all_escaped cs ++ quote ∷ []) (escaped c) (all_escaped after ++ quote ∷ []) p (quoted-rest cs after c e) a

-- where only a prefix of a character's escape was added, a prefix of the quoted name was
pub quoted-stops : (before now new : List ℕ) (n cs after : Name) (c : ℕ) → cs ≡ c ∷ after → AddsPrefix now new (escaped c) → Progress before now (quoted n) (all_escaped cs ++ quote ∷ []) → AddsPrefix before new (quoted n)
quoted-stops before now new n cs after c e a p = stops_within before now new (quoted n) (all_escaped cs ++ quote ∷ []) (escaped c) (all_escaped after ++ quote ∷ []) p (quoted-rest cs after c e) a

-- at the end of the name the closing quote is left
pub quoted-last : (cs : Name) → cs ≡ [] → quote ∷ [] ≡ all_escaped cs ++ quote ∷ []
quoted-last cs e = ap (λ l. all_escaped l ++ quote ∷ []) (sym e)

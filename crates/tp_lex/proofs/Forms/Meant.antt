-- What a form says of the inside of quotes and of an integer's value.
use Rattle.std.proofs.Common.{◌≡◌, ℕ, Bool, true, false, ◌==◌, ◌&&◌, ◌||◌, nat_le, cond, List, [], ◌∷◌, Some, None, Ok, Err, IsTrue, IfSome, IfOk, refl, sym, ap, ◌∙◌}
use Rattle.std.specs.Prelude.{Option, Result}
use Rattle.std.proofs.Common.{◌-◌, ◌≤◌, ◌⊎◌, inl, inr, take, drop, chars, ◌++◌, arith}
use Rattle.std.specs.Option.{option_map}
use Rattle.std.specs.Str.{IsUtf8}
use Rattle.std.proofs.lemmas.Str.{chars-nil}
use Rattle.tp_lex.specs.declared.token.Token.{Token}
use Rattle.tp_lex.specs.Seen.{capped}
use Rattle.tp_lex.specs.Next.{from_byte, token_name, token_value}
use Rattle.tp_lex.proofs.TokensStand.Each.{Formed, slice-spelled}
use Rattle.tp_lex.proofs.StandsBehind.NextToken.{small}
use Rattle.tp_lex.proofs.Forms.Numerals.{pair_of}
use Rattle.std.specs.Char.{is_digit}
use Rattle.std.proofs.lemmas.Bool.{eqb-true}
use Rattle.tp_lex.specs.declared.token.Fault.{Fault}
use Rattle.tp_lex.specs.declared.token.Fault.TheVariants.{BadToken, NumberRange}
use Rattle.tp_lex.specs.declared.token.TokenKind.{TokenKind}
use Rattle.tp_lex.specs.declared.token.TokenKind.TheVariants as kinds
use Rattle.tp_lex.specs.declared.chars.Class.TheVariants.{Continuing, Graphic}
use Rattle.tp_lex.specs.Characters.{quote, double_quote, dot, is_graphic, is_name_start, is_variable_start, after_run}
use Rattle.tp_lex.specs.Quotes.{inside, after_closing, stood_for}
use Rattle.tp_lex.specs.Integers.{integer}
use Rattle.tp_lex.specs.Form.{largest, single, ends_clause, graphic_form, integer_form, quotes_form, single_form, form, closes, has_name, name_of, value_of, number_value, spelled, quoted_name}
use Rattle.tp_lex.proofs.Places.Suffixes.{of_choice}

-- what a kind says of the characters from the token on
abbrev pub Means : TokenKind → List ℕ → Type 0
Means kinds.Quoted cs = IsTrue (closes cs)
Means kinds.Codes cs = IsTrue (closes cs)
Means kinds.Integer cs = IfSome (integer cs) (λ number. IsTrue (nat_le number.0 largest))
Means kind cs = Unit {0}

abbrev pub OkMeans : List ℕ → Result (TokenKind × List ℕ) Fault → Type 0
OkMeans all r = IfOk r (λ found. Means found.0 all)

single-means : (c : ℕ) (cs : List ℕ) → OkMeans (c ∷ cs) (single_form (single c) cs)
single-means c cs =
    of_choice P ((c == 33) || (c == 59)) (Some kinds.Name) _ tt
    (of_choice P (c == 40) (Some kinds.Open) _ tt
    (of_choice P (c == 41) (Some kinds.Close) _ tt
    (of_choice P (c == 91) (Some kinds.OpenList) _ tt
    (of_choice P (c == 93) (Some kinds.CloseList) _ tt
    (of_choice P (c == 123) (Some kinds.OpenCurly) _ tt
    (of_choice P (c == 125) (Some kinds.CloseCurly) _ tt
    (of_choice P (c == 44) (Some kinds.Comma) _ tt
    (of_choice P (c == 124) (Some kinds.Bar) None tt tt))))))))
  where
    P : Option TokenKind → Type 0
    P o = OkMeans (c ∷ cs) (single_form o cs)

integer-means : (all : List ℕ) (o : Option (ℕ × List ℕ)) → integer all ≡ o → OkMeans all (integer_form o)
integer-means all None e = tt
integer-means all (Some n) e = by (nat_le n.0 largest) refl
  where
    by : (b : Bool) → nat_le n.0 largest ≡ b → OkMeans all (cond b (Ok (kinds.Integer, n.1)) (Err NumberRange))
    by true h = rw e h
    by false h = tt

quotes-close : (mark : ℕ) (cs : List ℕ) (c : ℕ) → c ≡ mark → IfOk (after_closing (inside mark cs)) (λ rest. IsTrue (closes (c ∷ cs)))
quotes-close mark cs c e = by (inside c cs) refl (ap (λ m. inside m cs) e)
  where
    by : (r : Result (List ℕ × List ℕ) Fault) → inside c cs ≡ r → inside c cs ≡ inside mark cs → IfOk (after_closing (inside mark cs)) (λ rest. IsTrue (closes (c ∷ cs)))
    by (Ok p) q m = rw (← m, q) refl
    by (Err fault) q m = rw (← m, q) tt

quoted-means : (c : ℕ) (cs : List ℕ) (kind : TokenKind) → Means kind (c ∷ cs) ≡ IsTrue (closes (c ∷ cs)) → (r : Result (List ℕ) Fault) → IfOk r (λ rest. IsTrue (closes (c ∷ cs))) → OkMeans (c ∷ cs) (quotes_form kind r)
quoted-means c cs kind k (Ok rest) e = rw k e
quoted-means c cs kind k (Err fault) e = tt

pub form-means : (c : ℕ) (cs : List ℕ) → OkMeans (c ∷ cs) (form (c ∷ cs))
unfolding form
form-means c cs =
    of_choice (OkMeans (c ∷ cs)) (is_name_start c) (Ok (kinds.Name, after_run Continuing cs)) _ tt
    (of_choice (OkMeans (c ∷ cs)) (is_variable_start c) (Ok (kinds.Variable, after_run Continuing cs)) _ tt
    (of_choice (OkMeans (c ∷ cs)) (is_digit c 10) (integer_form (integer (c ∷ cs))) _ (integer-means (c ∷ cs) (integer (c ∷ cs)) refl)
    (quotes kinds.Quoted quote _ (c == quote) refl refl
    (quotes kinds.Codes double_quote _ (c == double_quote) refl refl
    (of_choice (OkMeans (c ∷ cs)) (is_graphic c) (Ok (graphic_form c cs)) _ graphic (single-means c cs))))))
  where
    quotes : (kind : TokenKind) (mark : ℕ) (other : Result (TokenKind × List ℕ) Fault) (b : Bool) → (c == mark) ≡ b → Means kind (c ∷ cs) ≡ IsTrue (closes (c ∷ cs)) → OkMeans (c ∷ cs) other → OkMeans (c ∷ cs) (cond b (quotes_form kind (after_closing (inside mark cs))) other)
    quotes kind mark other true e k o = quoted-means c cs kind k (after_closing (inside mark cs)) (quotes-close mark cs c (eqb-true c mark e))
    quotes kind mark other false e k o = o

    graphic : Means (graphic_form c cs).0 (c ∷ cs)
    graphic =
        let P : TokenKind × List ℕ → Type 0 = λ p. Means p.0 (c ∷ cs) in
        of_choice P ((c == dot) && ends_clause cs) (kinds.End, cs) (kinds.Name, after_run Graphic cs) tt tt

pub form-none : form [] ≡ Err BadToken
unfolding form
form-none = refl

pub means-of : (cs : List ℕ) (kind : TokenKind) (after : List ℕ) → form cs ≡ Ok (kind, after) → Means kind cs
means-of [] kind after e = let absent = form-none in cc
means-of (c ∷ cs) kind after e = rw e at (form-means c cs)

-- a name that is not quoted is the token's own characters
pub name_of-spelled : (kind : TokenKind) (cs : List ℕ) → IsTrue (has_name kind) → ¬ (kind ≡ kinds.Quoted) → ¬ (kind ≡ kinds.Codes) → name_of kind cs ≡ spelled cs
unfolding name_of
name_of-spelled kinds.Name cs h q d = refl
name_of-spelled kinds.Variable cs h q d = refl
name_of-spelled kinds.Quoted cs h q d = absurd (q refl)
name_of-spelled kinds.Codes cs h q d = absurd (d refl)
name_of-spelled kind cs h q d = cc

-- the value of a token that stands in the text
pub value-some : (text sliced rest : List ℕ) (token : Token) (value : ℕ) → Formed text token → token.kind ≡ kinds.Integer → sliced ≡ drop token.from text → Some (value, rest) ≡ option_map capped (integer (chars sliced)) → (value ≡ token_value text token) × (value ≤ 9223372036854775808)
unfolding value_of
value-some text sliced rest token value f k d e =
    let cs : List ℕ = from_byte text token.from in
    let whole = means-of cs token.kind f.after f.formed in
    let means : IfSome (integer cs) (λ n. IsTrue (nat_le n.0 largest)) = rw k at whole in
    let same : Some (value, rest) ≡ option_map capped (integer cs) = e ∙ ap (λ b. option_map capped (integer (chars b))) d in
    let both = by (integer cs) means same in
    (both.0 ∙ ap (λ kind. value_of kind cs) (sym k), both.1)
  where
    by : (o : Option (ℕ × List ℕ)) → IfSome o (λ n. IsTrue (nat_le n.0 largest)) → Some (value, rest) ≡ option_map capped o → (value ≡ number_value o) × (value ≤ 9223372036854775808)
    by (Some n) m e =
        let s = small n.0 m in
        let p : pair_of value rest ≡ capped n = cc in
        let v = ap (λ q. q.0) p in (v ∙ s.0, omega arith)
    by None m e = cc

pub value-none : (text sliced : List ℕ) (token : Token) → token.kind ≡ kinds.Integer → sliced ≡ drop token.from text → None ≡ option_map capped (integer (chars sliced)) → 0 ≡ token_value text token
unfolding value_of
value-none text sliced token k d e =
    let cs : List ℕ = from_byte text token.from in
    by (integer cs) (e ∙ ap (λ b. option_map capped (integer (chars b))) d) ∙ ap (λ kind. value_of kind cs) (sym k)
  where
    by : (o : Option (ℕ × List ℕ)) → None ≡ option_map capped o → number_value None ≡ number_value o
    by (Some n) e = cc
    by None e = refl

abbrev pub IsBetweenQuotes : TokenKind → Type 0
IsBetweenQuotes kind = (kind ≡ kinds.Quoted) ⊎ (kind ≡ kinds.Codes)

-- the quotes of a token that stands in the text close
pub quotes-of : (text sliced : List ℕ) (token : Token) → Formed text token → IsBetweenQuotes token.kind → sliced ≡ drop token.from text → IsTrue (closes (chars sliced))
quotes-of text sliced token f q d =
    let cs : List ℕ = from_byte text token.from in
    let whole = means-of cs token.kind f.after f.formed in
    let closed : IsTrue (closes cs) = elim q [ inl k ↦ rw k at whole | inr k ↦ rw k at whole ] in
    ap (λ b. closes (chars b)) d ∙ closed

-- and what they stand for is the token's name
pub quoted-name : (text sliced : List ℕ) (token : Token) → IsBetweenQuotes token.kind → sliced ≡ drop token.from text → quoted_name (chars sliced) ≡ token_name text token
unfolding name_of
quoted-name text sliced token q d =
    let cs : List ℕ = from_byte text token.from in
    let same : name_of token.kind cs ≡ quoted_name cs = elim q [ inl k ↦ ap (λ kind. name_of kind cs) k | inr k ↦ ap (λ kind. name_of kind cs) k ] in
    ap (λ b. quoted_name (chars b)) d ∙ sym same

-- the bytes of a name without quotes
pub plain-name : (text bytes : List ℕ) (token : Token) → IsUtf8 text → Formed text token → IsTrue (has_name token.kind) → ¬ (token.kind ≡ kinds.Quoted) → ¬ (token.kind ≡ kinds.Codes) → bytes ≡ take (token.to - token.from) (drop token.from text) → chars bytes ≡ token_name text token
plain-name text bytes token u f h q d e =
    ap chars e ∙ slice-spelled text token u f ∙ sym (name_of-spelled token.kind (from_byte text token.from) h q d)

-- from the opening quote on
pub quoted_name-of : (all inside_chars out before : List ℕ) (mark : ℕ) → all ≡ mark ∷ inside_chars → before ≡ [] → out ≡ chars before ++ stood_for (inside mark inside_chars) → out ≡ quoted_name all
quoted_name-of all rest out before mark e b o =
    let none : chars before ≡ [] = ap chars b ∙ chars-nil in
    o ∙ ap (λ l. l ++ stood_for (inside mark rest)) none ∙ ap quoted_name (sym e)

pub quoted_name-none : (all before : List ℕ) → all ≡ [] → before ≡ [] → chars before ≡ quoted_name all
quoted_name-none all before e b = ap chars b ∙ chars-nil ∙ ap quoted_name (sym e)

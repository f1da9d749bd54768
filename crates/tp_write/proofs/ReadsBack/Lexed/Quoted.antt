-- The characters of quoted names are lexed as those names.
use Rattle.std.proofs.Common.{◌≡◌, ℕ, ◌<◌, Bool, true, false, not, ◌&&◌, ◌||◌, ◌==◌, nat_lt, List, [], ◌∷◌, ◌++◌, Ok, refl, sym, ap, subst, ◌∙◌, arith, codes, append_assoc, inl, inr}
use Rattle.std.specs.List.{list_any}
use Rattle.std.specs.Str.{all_scalars}
use Rattle.std.specs.Fmt.{digits}
use lib.Utf8.{scalar}
use Rattle.std.proofs.lemmas.Bool.{eqb-true, ltb-true, cond_both, and_parts, and_from, agree_below_at, or_cases}
use Rattle.tp_terms.specs.Term.{Name}
use Rattle.tp_lex.specs.Characters.{quote, backslash, newline}
use Rattle.tp_lex.specs.Escapes.{escape}
use Rattle.tp_lex.specs.Escapes as lex
use Rattle.tp_lex.specs.Digits.{after_digits, value_with}
use Rattle.tp_lex.specs.Quotes.{item, inside, with_first, stood_for, after_closing}
use Rattle.tp_lex.specs.declared.quotes.Item.TheVariants.{Stands, Closed}
use Rattle.tp_lex.specs.declared.token.TokenKind.TheVariants as kind
use Rattle.tp_lex.specs.Form.{name_of, value_of, quotes_form}
use Rattle.tp_lex.proofs.Forms.Quoted.{inside-at}
use Rattle.tp_write.specs.Names.{is_control, escaped, code_escape, all_escaped, quoted}
use Rattle.tp_write.proofs.ReadsBack.Pieces.{Stand, Piece}
use Rattle.tp_write.proofs.ReadsBack.Lexed.Characters.{any_is, begins_calm, calm_of, no_gap}
use Rattle.tp_write.proofs.ReadsBack.Lexed.Words.{Forms, form_quote}

-- ---- one character

-- characters between quotes that stand for one
pub record Spells (c : ℕ) (own : List ℕ) : Type 0 where
  pub item_of : (more : List ℕ) → item quote (own ++ more) ≡ Ok (Stands c, more)
  pub characters : scalar c ≡ true → all_scalars own ≡ true

spells_backslash : Spells 92 (codes "\\\\")
unfolding item escape
spells_backslash = record { item_of = λ more. refl; characters = λ s. refl }

spells_quote : Spells 39 (codes "\\'")
unfolding item escape
spells_quote = record { item_of = λ more. refl; characters = λ s. refl }

spells_alert : Spells 7 (codes "\\a")
unfolding item escape
spells_alert = record { item_of = λ more. refl; characters = λ s. refl }

spells_backspace : Spells 8 (codes "\\b")
unfolding item escape
spells_backspace = record { item_of = λ more. refl; characters = λ s. refl }

spells_tab : Spells 9 (codes "\\t")
unfolding item escape
spells_tab = record { item_of = λ more. refl; characters = λ s. refl }

spells_newline : Spells 10 (codes "\\n")
unfolding item escape
spells_newline = record { item_of = λ more. refl; characters = λ s. refl }

spells_vertical : Spells 11 (codes "\\v")
unfolding item escape
spells_vertical = record { item_of = λ more. refl; characters = λ s. refl }

spells_feed : Spells 12 (codes "\\f")
unfolding item escape
spells_feed = record { item_of = λ more. refl; characters = λ s. refl }

spells_return : Spells 13 (codes "\\r")
unfolding item escape
spells_return = record { item_of = λ more. refl; characters = λ s. refl }

spells_itself : (c : ℕ) → (c == quote) ≡ false → (c == backslash) ≡ false → (c == newline) ≡ false → Spells c (c ∷ [])
unfolding item
spells_itself c q b n = record { item_of = λ more. rw (q, b, n) refl; characters = λ s. ap (λ x. x && true) s }

-- ---- codes

-- the control characters of ASCII
abbrev controls : List ℕ
controls =
    0 ∷ 1 ∷ 2 ∷ 3 ∷ 4 ∷ 5 ∷ 6 ∷ 7 ∷ 8 ∷ 9 ∷ 10 ∷ 11 ∷ 12 ∷ 13 ∷ 14 ∷ 15 ∷ 16 ∷ 17 ∷ 18 ∷ 19 ∷ 20 ∷ 21 ∷ 22 ∷ 23 ∷ 24 ∷ 25 ∷ 26 ∷ 27 ∷ 28 ∷ 29 ∷ 30 ∷ 31 ∷ 127 ∷ []

control_low : (c : ℕ) → is_control c ≡ true → c < 128
control_low c e = elim (or_cases (nat_lt c 32) (c == 127) e) [
  | inl low ↦ let l = ltb-true c 32 low in omega arith
  | inr last ↦ let l = eqb-true c 127 last in omega arith
]

control_test : ℕ → Bool
control_test c = not (is_control c) || list_any (λ m. m == c) controls

control_listed : (c : ℕ) → is_control c ≡ true → list_any (λ m. m == c) controls ≡ true
unfolding control_test
control_listed c e =
    let all : (not (is_control c) || list_any (λ m. m == c) controls) ≡ true = agree_below_at control_test (λ c. true) 128 c refl (control_low c e) in
    ap (λ b. not b || list_any (λ m. m == c) controls) (sym e) ∙ all

abbrev SpellsCode : ℕ → Type 0
SpellsCode c = Spells c (code_escape c)

code_by : (c : ℕ) → ((more : List ℕ) → item quote (code_escape c ++ more) ≡ Ok (Stands c, more)) → all_scalars (code_escape c) ≡ true → SpellsCode c
code_by c i s = record { item_of = i; characters = λ x. s }

spells_code : (c : ℕ) → is_control c ≡ true → SpellsCode c
unfolding item escape lex.code_escape after_digits value_with digits
spells_code c e = any_is SpellsCode controls (
  code_by 0 (λ more. refl) refl,
  (
    code_by 1 (λ more. refl) refl,
    (
      code_by 2 (λ more. refl) refl,
      (
        code_by 3 (λ more. refl) refl,
        (
          code_by 4 (λ more. refl) refl,
          (
            code_by 5 (λ more. refl) refl,
            (
              code_by 6 (λ more. refl) refl,
              (
                code_by 7 (λ more. refl) refl,
                (
                  code_by 8 (λ more. refl) refl,
                  (
                    code_by 9 (λ more. refl) refl,
                    (
                      code_by 10 (λ more. refl) refl,
                      (
                        code_by 11 (λ more. refl) refl,
                        (
                          code_by 12 (λ more. refl) refl,
                          (
                            code_by 13 (λ more. refl) refl,
                            (
                              code_by 14 (λ more. refl) refl,
                              (
                                code_by 15 (λ more. refl) refl,
                                (
                                  code_by 16 (λ more. refl) refl,
                                  (
                                    code_by 17 (λ more. refl) refl,
                                    (
                                      code_by 18 (λ more. refl) refl,
                                      (
                                        code_by 19 (λ more. refl) refl,
                                        (
                                          code_by 20 (λ more. refl) refl,
                                          (
                                            code_by 21 (λ more. refl) refl,
                                            (
                                              code_by 22 (λ more. refl) refl,
                                              (
                                                code_by 23 (λ more. refl) refl,
                                                (
                                                  code_by 24 (λ more. refl) refl,
                                                  (
                                                    code_by 25 (λ more. refl) refl,
                                                    (
                                                      code_by 26 (λ more. refl) refl,
                                                      (
                                                        code_by 27 (λ more. refl) refl,
                                                        (
                                                          code_by 28 (λ more. refl) refl,
                                                          (
                                                            code_by 29 (λ more. refl) refl,
                                                            (
                                                              code_by 30 (λ more. refl) refl,
                                                              (
                                                                code_by 31 (λ more. refl) refl,
                                                                (code_by 127 (λ more. refl) refl, tt),
                                                              ),
                                                            ),
                                                          ),
                                                        ),
                                                      ),
                                                    ),
                                                  ),
                                                ),
                                              ),
                                            ),
                                          ),
                                        ),
                                      ),
                                    ),
                                  ),
                                ),
                              ),
                            ),
                          ),
                        ),
                      ),
                    ),
                  ),
                ),
              ),
            ),
          ),
        ),
      ),
    ),
  ),
) c (control_listed c e)

-- ---- all characters

same_spells : (c d : ℕ) (own : List ℕ) → (d == c) ≡ true → Spells c own → Spells d own
same_spells c d own e s = subst (λ x. Spells x own) (sym (eqb-true d c e)) s

pub escaped_spells : (c : ℕ) → Spells c (escaped c)
escaped_spells c =
    cond_both (c == backslash) _ _ (Spells c) (λ e. same_spells 92 c _ e spells_backslash) (λ no_backslash.
    cond_both (c == quote) _ _ (Spells c) (λ e. same_spells 39 c _ e spells_quote) (λ no_quote.
    cond_both (c == 7) _ _ (Spells c) (λ e. same_spells 7 c _ e spells_alert) (λ no_alert.
    cond_both (c == 8) _ _ (Spells c) (λ e. same_spells 8 c _ e spells_backspace) (λ no_backspace.
    cond_both (c == 9) _ _ (Spells c) (λ e. same_spells 9 c _ e spells_tab) (λ no_tab.
    cond_both (c == 10) _ _ (Spells c) (λ e. same_spells 10 c _ e spells_newline) (λ no_newline.
    cond_both (c == 11) _ _ (Spells c) (λ e. same_spells 11 c _ e spells_vertical) (λ no_vertical.
    cond_both (c == 12) _ _ (Spells c) (λ e. same_spells 12 c _ e spells_feed) (λ no_feed.
    cond_both (c == 13) _ _ (Spells c) (λ e. same_spells 13 c _ e spells_return) (λ no_return.
    cond_both (is_control c) _ _ (Spells c) (spells_code c) (λ no_control. spells_itself c no_quote no_backslash no_newline))))))))))

-- two lists of characters one behind the other
pub scalars_append : (xs ys : List ℕ) → all_scalars xs ≡ true → all_scalars ys ≡ true → all_scalars (xs ++ ys) ≡ true
scalars_append [] ys x y = y
scalars_append (c ∷ xs) ys x y = let both = and_parts (scalar c) (all_scalars xs) x in and_from (scalar c) (all_scalars (xs ++ ys)) both.0 (scalars_append xs ys both.1 y)

pub escaped_scalars : (n : Name) → all_scalars n ≡ true → all_scalars (all_escaped n) ≡ true
escaped_scalars [] e = refl
escaped_scalars (c ∷ cs) e =
    let both = and_parts (scalar c) (all_scalars cs) e in
    scalars_append (escaped c) (all_escaped cs) ((escaped_spells c).characters both.0) (escaped_scalars cs both.1)

-- the text of a name in quotes is made of characters
pub quoted_scalars : (n : Name) → all_scalars n ≡ true → all_scalars (quoted n) ≡ true
quoted_scalars n e = scalars_append (all_escaped n) (quote ∷ []) (escaped_scalars n e) refl

item_closes : (rest : List ℕ) → begins_calm rest ≡ true → item quote (quote ∷ rest) ≡ Ok (Closed, rest)
unfolding item
item_closes [] e = cc
item_closes (r ∷ rest) e = rw (calm_of r e).marks refl

pub inside_escaped : (n : Name) (rest : List ℕ) → begins_calm rest ≡ true → inside quote (all_escaped n ++ (quote ∷ rest)) ≡ Ok (n, rest)
inside_escaped [] rest e = inside-at quote (quote ∷ rest) (Ok (Closed, rest)) (sym (item_closes rest e))
inside_escaped (c ∷ cs) rest e =
    let more : List ℕ = all_escaped cs ++ (quote ∷ rest) in
    ap (inside quote) (append_assoc (escaped c) (all_escaped cs) (quote ∷ rest))
    ∙ inside-at quote (escaped c ++ more) (Ok (Stands c, more)) (sym ((escaped_spells c).item_of more))
    ∙ ap (with_first c) (inside_escaped cs rest e)

-- a name in quotes
abbrev pub in_quotes : Stand → Name → Piece
in_quotes s f = record { stand = s; kind = kind.Quoted; name = f; value = 0; own = quoted f }

-- the characters of a name in quotes are lexed as the name
pub quoted_forms : (s : Stand) (f : Name) (rest : List ℕ) → begins_calm rest ≡ true → Forms (in_quotes s f) rest
unfolding name_of value_of
quoted_forms s f rest e =
    let whole : (all_escaped f ++ (quote ∷ [])) ++ rest ≡ all_escaped f ++ (quote ∷ rest) = append_assoc (all_escaped f) (quote ∷ []) rest in
    let found = ap (inside quote) whole ∙ inside_escaped f rest e in
    record {
      first = quote;
      others = all_escaped f ++ (quote ∷ []);
      parts = refl;
      formed = form_quote ((all_escaped f ++ (quote ∷ [])) ++ rest) ∙ ap (λ r. quotes_form kind.Quoted (after_closing r)) found;
      named = ap stood_for found;
      valued = refl;
      gapless = no_gap quote ((all_escaped f ++ (quote ∷ [])) ++ rest) refl;
    }

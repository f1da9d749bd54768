-- Characters that a written term is made of.
use Rattle.std.proofs.Common.{◌≡◌, ℕ, ◌<◌, ◌≤◌, Bool, true, false, not, ◌&&◌, ◌||◌, ◌==◌, nat_lt, List, [], ◌∷◌, ◌++◌, None, Ok, refl, sym, ap, subst, ◌∙◌, arith, inl, inr, codes}
use Rattle.std.specs.List.{list_any, list_all}
use Rattle.std.specs.Char.{is_digit, is_ascii_alphabetic, is_ascii_alphanumeric, is_ascii_uppercase}
use Rattle.std.proofs.lemmas.Bool.{eqb-true, ltb-true, and_parts, cases_lt, agree_below_at}
use Rattle.tp_lex.specs.Characters.{percent, slash, star, quote, double_quote, is_layout, is_graphic, graphic_characters, is_name_start, is_variable_start, is_in_class, after_run}
use Rattle.tp_lex.specs.declared.chars.Class.{Class}
use Rattle.tp_lex.specs.declared.chars.Class.TheVariants.{Continuing, Graphic}
use Rattle.tp_lex.specs.Integers.{base_of}
use Rattle.tp_lex.specs.Layout.{after_gap}
use Rattle.tp_lex.proofs.Characters.Ascii.{is_name_start-ascii, continuing-ascii}

-- ---- facts of the characters of a list

abbrev pub AllOf : (ℕ → Type 0) → List ℕ → Type 0
AllOf P [] = Unit {0}
AllOf P (c ∷ cs) = P c × AllOf P cs

-- what holds of each character of a list holds of a character that is in it
pub any_is : (P : ℕ → Type 0) (ms : List ℕ) → AllOf P ms → (c : ℕ) → list_any (λ m. m == c) ms ≡ true → P c
any_is P [] a c e = cc
any_is P (m ∷ ms) a c e = by (m == c) refl e (any_is P ms a.1 c)
  where
    by : (b : Bool) → (m == c) ≡ b → (b || list_any (λ m. m == c) ms) ≡ true → (list_any (λ m. m == c) ms ≡ true → P c) → P c
    by true q e more = subst P (eqb-true m c q) a.0
    by false q e more = more e

-- ---- what may follow a name, a variable or an integer

-- a newline, a space, parentheses, brackets, braces, a comma and a bar
abbrev pub calm_characters : List ℕ
calm_characters = codes "\n ()[]{},|"

abbrev pub is_calm : ℕ → Bool
is_calm c = list_any (λ m. m == c) calm_characters

-- the text begins with a character that may follow a name, a variable or an integer
abbrev pub begins_calm : List ℕ → Bool
begins_calm [] = false
begins_calm (c ∷ cs) = is_calm c

pub record IsCalm (c : ℕ) : Type 0 where
  pub continuing : is_in_class Continuing c ≡ false
  pub graphic : is_graphic c ≡ false
  pub digit : is_digit c 10 ≡ false
  pub marks : (c == quote) ≡ false
  pub base : base_of c ≡ None
  pub star : (c == star) ≡ false

calm_by : (c : ℕ) → nat_lt c 128 ≡ true → (is_ascii_alphanumeric c || (c == 95)) ≡ false → is_graphic c ≡ false → is_digit c 10 ≡ false → (c == quote) ≡ false → base_of c ≡ None → (c == star) ≡ false → IsCalm c
calm_by c low other g d q b s = record {
  continuing = continuing-ascii c (ltb-true c 128 low) ∙ other;
  graphic = g;
  digit = d;
  marks = q;
  base = b;
  star = s;
}

-- none of these characters goes on a name, a variable or an integer
pub calm_of : (c : ℕ) → is_calm c ≡ true → IsCalm c
calm_of = any_is IsCalm calm_characters (
  calm_by 10 refl refl refl refl refl refl refl,
  (
    calm_by 32 refl refl refl refl refl refl refl,
    (
      calm_by 40 refl refl refl refl refl refl refl,
      (
        calm_by 41 refl refl refl refl refl refl refl,
        (
          calm_by 91 refl refl refl refl refl refl refl,
          (
            calm_by 93 refl refl refl refl refl refl refl,
            (
              calm_by 123 refl refl refl refl refl refl refl,
              (
                calm_by 125 refl refl refl refl refl refl refl,
                (
                  calm_by 44 refl refl refl refl refl refl refl,
                  (calm_by 124 refl refl refl refl refl refl refl, tt),
                ),
              ),
            ),
          ),
        ),
      ),
    ),
  ),
)

pub calm_class : (class : Class) (c : ℕ) → is_calm c ≡ true → is_in_class class c ≡ false
calm_class Continuing c e = (calm_of c e).continuing
calm_class Graphic c e = (calm_of c e).graphic

-- a run of characters ends where what may follow begins
pub run_ends : (class : Class) (cs rest : List ℕ) → list_all (is_in_class class) cs ≡ true → begins_calm rest ≡ true → after_run class (cs ++ rest) ≡ rest
unfolding after_run
run_ends class [] [] a e = cc
run_ends class [] (r ∷ rest) a e = rw (calm_class class r e) refl
run_ends class (c ∷ cs) rest a e =
    let both = and_parts (is_in_class class c) (list_all (is_in_class class) cs) a in
    rw both.0 (run_ends class cs rest both.1 e)

-- ---- what begins a name

-- a character that begins neither layout nor a comment
abbrev pub begins_gap : ℕ → Bool
begins_gap c = is_layout c || ((c == percent) || (c == slash))

-- such a character begins no layout and no comment
pub no_gap : (c : ℕ) (cs : List ℕ) → begins_gap c ≡ false → after_gap (c ∷ cs) ≡ Ok None
unfolding after_gap
no_gap c cs e = by (is_layout c) (c == percent) (c == slash) refl refl refl e
  where
    by : (x y z : Bool) → is_layout c ≡ x → (c == percent) ≡ y → (c == slash) ≡ z → (x || (y || z)) ≡ false → after_gap (c ∷ cs) ≡ Ok None
    by false false false p q r e = rw (p, q, r) refl
    by true y z p q r e = cc
    by false true z p q r e = cc
    by false false true p q r e = cc

-- above ASCII is neither layout nor the beginning of a comment
high_no_gap : (c : ℕ) → 128 ≤ c → begins_gap c ≡ false
high_no_gap c l = grind arith

name_start_test : ℕ → Bool
name_start_test c = is_ascii_alphabetic c && begins_gap c

-- a character that begins a name begins no layout and no comment
pub name_start_no_gap : (c : ℕ) → is_name_start c ≡ true → begins_gap c ≡ false
unfolding name_start_test
name_start_no_gap c e =
    elim (cases_lt c 128) [
      | inl low ↦
          let letter : is_ascii_alphabetic c ≡ true = (and_parts (is_ascii_alphabetic c) (not (is_ascii_uppercase c)) (sym (is_name_start-ascii c low) ∙ e)).0 in
          let none : (is_ascii_alphabetic c && begins_gap c) ≡ false = agree_below_at name_start_test (λ c. false) 128 c refl low in
          ap (λ b. b && begins_gap c) (sym letter) ∙ none
      | inr high ↦ high_no_gap c high
    ]

-- ---- graphic characters

pub record IsGraphic (c : ℕ) : Type 0 where
  pub name : is_name_start c ≡ false
  pub variable : is_variable_start c ≡ false
  pub digit : is_digit c 10 ≡ false
  pub marks : (c == quote) ≡ false
  pub double_marks : (c == double_quote) ≡ false
  pub layout : is_layout c ≡ false
  pub comment : (c == percent) ≡ false
  pub single_byte : c < 128

-- a character of ASCII that is no letter begins no name
pub no_name_start : (c : ℕ) → nat_lt c 128 ≡ true → is_ascii_alphabetic c ≡ false → is_name_start c ≡ false
no_name_start c low other = is_name_start-ascii c (ltb-true c 128 low) ∙ ap (λ b. b && not (is_ascii_uppercase c)) other

graphic_by : (c : ℕ) → nat_lt c 128 ≡ true → is_ascii_alphabetic c ≡ false → is_variable_start c ≡ false → is_digit c 10 ≡ false → (c == quote) ≡ false → (c == double_quote) ≡ false → is_layout c ≡ false → (c == percent) ≡ false → IsGraphic c
graphic_by c low other v d q w l p = record {
  name = no_name_start c low other;
  variable = v;
  digit = d;
  marks = q;
  double_marks = w;
  layout = l;
  comment = p;
  single_byte = ltb-true c 128 low;
}

-- a graphic character begins no other kind of token
pub graphic_of : (c : ℕ) → is_graphic c ≡ true → IsGraphic c
graphic_of = any_is IsGraphic graphic_characters (
  graphic_by 43 refl refl refl refl refl refl refl refl,
  (
    graphic_by 45 refl refl refl refl refl refl refl refl,
    (
      graphic_by 42 refl refl refl refl refl refl refl refl,
      (
        graphic_by 47 refl refl refl refl refl refl refl refl,
        (
          graphic_by 92 refl refl refl refl refl refl refl refl,
          (
            graphic_by 94 refl refl refl refl refl refl refl refl,
            (
              graphic_by 60 refl refl refl refl refl refl refl refl,
              (
                graphic_by 62 refl refl refl refl refl refl refl refl,
                (
                  graphic_by 61 refl refl refl refl refl refl refl refl,
                  (
                    graphic_by 126 refl refl refl refl refl refl refl refl,
                    (
                      graphic_by 58 refl refl refl refl refl refl refl refl,
                      (
                        graphic_by 46 refl refl refl refl refl refl refl refl,
                        (
                          graphic_by 63 refl refl refl refl refl refl refl refl,
                          (
                            graphic_by 64 refl refl refl refl refl refl refl refl,
                            (
                              graphic_by 35 refl refl refl refl refl refl refl refl,
                              (
                                graphic_by 38 refl refl refl refl refl refl refl refl,
                                (graphic_by 36 refl refl refl refl refl refl refl refl, tt),
                              ),
                            ),
                          ),
                        ),
                      ),
                    ),
                  ),
                ),
              ),
            ),
          ),
        ),
      ),
    ),
  ),
)

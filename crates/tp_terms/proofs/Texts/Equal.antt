-- Equality of names, as characters and as the bytes of texts.
use Rattle.std.proofs.Common.{◌≡◌, ℕ, Bool, true, false, List, refl, sym, ap, ◌∙◌}
use Rattle.std.proofs.lemmas.Bool.Decides.{same_from_decides, not_from_Decides}
use Rattle.std.proofs.lemmas.Slice.Eq.{bytes_eq-Decides}
use Rattle.std.proofs.lemmas.Str.{encodes-chars}
use Rattle.std.specs.Bool.{Decides}
use Rattle.std.specs.Str.{IsUtf8, chars, bytes_eq, encode_utf8_all}
use Rattle.tp_terms.specs.Term.{Name, names_eq}

-- `names_eq` decides equality
pub names_eq-Decides : (a b : Name) → Decides (names_eq a b) (a ≡ b)
names_eq-Decides a b = bytes_eq-Decides a b

pub names_eq-same : (a : Name) → names_eq a a ≡ true
names_eq-same a = (bytes_eq-Decides a a).1 refl

pub names_eq-true : (a b : Name) → names_eq a b ≡ true → a ≡ b
names_eq-true a b e = (bytes_eq-Decides a b).0 e

pub names_eq-false : (a b : Name) → names_eq a b ≡ false → ¬ (a ≡ b)
names_eq-false a b e = not_from_Decides (names_eq a b) (bytes_eq-Decides a b) e

pub names_eq-apart : (a b : Name) → ¬ (a ≡ b) → names_eq a b ≡ false
names_eq-apart a b apart = by (names_eq a b) refl
  where
    by : (t : Bool) → names_eq a b ≡ t → names_eq a b ≡ false
    by false e = e
    by true e = absurd (apart (names_eq-true a b e))

-- two texts have the same bytes exactly where they have the same characters
pub same_bytes : (a b : List ℕ) → IsUtf8 a → IsUtf8 b → chars a ≡ chars b → a ≡ b
same_bytes a b u v e = sym (encodes-chars a u) ∙ ap encode_utf8_all e ∙ encodes-chars b v

pub same_chars : (a b : List ℕ) → a ≡ b → chars a ≡ chars b
same_chars a b e = ap chars e

pub names_eq-chars : (a b : List ℕ) → IsUtf8 a → IsUtf8 b → names_eq (chars a) (chars b) ≡ bytes_eq a b
names_eq-chars a b u v =
    same_from_decides (names_eq (chars a) (chars b)) (bytes_eq a b)
    ((λ e. same_bytes a b u v (names_eq-true (chars a) (chars b) e)), (λ e. (bytes_eq-Decides (chars a) (chars b)).1 (same_chars a b e)))
    (bytes_eq-Decides a b)

-- a text is the bytes of its name
pub bytes-chars : (text : List ℕ) (name : Name) → IsUtf8 text → chars text ≡ name → text ≡ encode_utf8_all name
bytes-chars text name u e = sym (encodes-chars text u) ∙ ap encode_utf8_all e

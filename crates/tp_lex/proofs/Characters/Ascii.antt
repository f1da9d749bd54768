-- The classes of characters on ASCII, and how they are computed.
use Rattle.std.proofs.lemmas.Bool.Decides.{nat_tests}
use Rattle.std.proofs.Common.{◌≡◌, ℕ, ◌<◌, true, not, ◌&&◌, ◌||◌, ◌==◌, ap, sym, ◌∙◌, arith}
use Rattle.std.specs.Char.{is_ascii_alphabetic, is_ascii_alphanumeric, is_ascii_lowercase, is_ascii_uppercase}
use Rattle.unicode_ident.proofs.IdentLemmas.{is_xid_start-ascii, is_xid_continue-ascii}
use Rattle.unicode_ident.specs.Ident.{is_xid_continue}
use Rattle.unicode_ident.proofs.Computing.{unicode_ident}
use Rattle.tp_lex.specs.Characters.{is_name_start, is_in_class}
use Rattle.tp_lex.specs.declared.chars.Class.TheVariants.{Continuing}

-- `unfolding classes` lets `refl` compute the class of a character
unfoldable pub classes : Unit {0}
unfolding unicode_ident
classes = tt

-- in ASCII a letter-digit name begins with a small letter
pub is_name_start-ascii : (c : ℕ) → c < 128 → is_name_start c ≡ (is_ascii_alphabetic c && not (is_ascii_uppercase c))
is_name_start-ascii c low = ap (λ b. b && not (is_ascii_uppercase c)) (is_xid_start-ascii c low)

-- the letters that are no capitals are the small ones
pub small-letters : (c : ℕ) → (is_ascii_alphabetic c && not (is_ascii_uppercase c)) ≡ is_ascii_lowercase c
small-letters c = grind (arith, nat_tests)

pub is_name_start-small : (c : ℕ) → c < 128 → is_ascii_lowercase c ≡ is_name_start c
is_name_start-small c low = sym (is_name_start-ascii c low ∙ small-letters c)

-- in ASCII a name goes on with letters, digits and `_`
pub continuing-ascii : (c : ℕ) → c < 128 → is_in_class Continuing c ≡ (is_ascii_alphanumeric c || (c == 95))
continuing-ascii = is_xid_continue-ascii

pub is_xid_continue-plain : (c : ℕ) → c < 128 → (is_ascii_alphanumeric c || (c == 95)) ≡ is_xid_continue c
is_xid_continue-plain c low = sym (is_xid_continue-ascii c low)

pub is_xid_continue-small : (c : ℕ) → is_ascii_lowercase c ≡ true → is_xid_continue c ≡ true
is_xid_continue-small c small =
    let low : c < 128 = grind (arith, nat_tests) in
    let plain : (is_ascii_alphanumeric c || (c == 95)) ≡ true = grind (arith, nat_tests) in
    is_xid_continue-ascii c low ∙ plain

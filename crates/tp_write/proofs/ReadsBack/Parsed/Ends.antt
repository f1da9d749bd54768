-- What may stand before and behind a term that is read.
use Rattle.std.proofs.Common.{◌≡◌, ℕ, ◌<◌, ◌≤◌, Bool, true, false, not, ◌&&◌, cond, List, ◌∷◌, Option, Some, None, refl, sym, ap, ◌∙◌, ◌⊎◌, inr, codes}
use Rattle.tp_terms.specs.Term.{Name, Term, Atom}
use Rattle.tp_lex.specs.Tokens.{Lexed}
use Rattle.tp_lex.specs.declared.token.TokenKind.{TokenKind}
use Rattle.tp_lex.specs.declared.token.TokenKind.TheVariants as kind
use Rattle.tp_parse.specs.Table.{Op, Table}
use Rattle.tp_parse.specs.Ahead.{is_open, is_integer, opens_directly, is_integer_directly, with_op_of, infix_name_by, named_infix, infix_ahead, is_infix_alone, is_atom_by, is_atom_before}
use Rattle.tp_parse.specs.Grammar.{is_name}
use Rattle.tp_write.specs.Names.{is_bare}
use Rattle.tp_write.proofs.ReadsBack.Pieces.{Stand, Spaced, Directly, Piece, Places, Part, laid, mark, word, number, minus_sign, infix_by}

-- what the table of the start keeps
pub record IsTable (ops : Table) : Type 0 where
  pub prefixes : (f : Name) (o : Op) → ops.prefixes f ≡ Some o → (0 < o.0) × (o.0 ≤ 1200)
  pub infixes : (f : Name) (o : Op) → ops.infixes f ≡ Some o → (0 < o.0) × (o.0 ≤ 1200)
  pub comma : (o : Op) → ops.infixes (codes ",") ≡ Some o → 999 < o.0
  pub minus : is_infix_alone ops (codes "-") ≡ false

-- what follows a term doesn't join it; `limit` is what its last operand may take up
pub record Ends (ops : Table) (t : Term) (limit : ℕ) (rest : List Lexed) : Type 0 where
  pub call : opens_directly rest ≡ false
  pub sign : is_integer_directly rest ≡ false
  pub alone : (f : Name) → t ≡ Atom f → (ops.prefixes f ≡ None) ⊎ (is_atom_before ops rest ≡ true)
  pub next : (f : Name) (o : Op) → infix_ahead ops rest ≡ Some (f, o) → limit < o.0

-- what follows an argument or an element
pub record Delimits (ops : Table) (rest : List Lexed) : Type 0 where
  pub call : opens_directly rest ≡ false
  pub sign : is_integer_directly rest ≡ false
  pub atom : is_atom_before ops rest ≡ true
  pub next : (f : Name) (o : Op) → infix_ahead ops rest ≡ Some (f, o) → 999 < o.0

-- what closes a term of any priority
pub record Closes (ops : Table) (rest : List Lexed) : Type 0 where
  pub call : opens_directly rest ≡ false
  pub sign : is_integer_directly rest ≡ false
  pub atom : is_atom_before ops rest ≡ true
  pub next : infix_ahead ops rest ≡ None

-- what may stand behind a prefix operator
pub record Starts (ops : Table) (ts : List Lexed) : Type 0 where
  pub call : opens_directly ts ≡ false
  pub sign : is_integer_directly ts ≡ false
  pub atom : is_atom_before ops ts ≡ false

-- nothing is not something
pub none_some : {A : Type 0} (o : Option A) (x : A) → o ≡ None → o ≡ Some x → ⊥
none_some None x e f = cc
none_some (Some y) x e f = cc

-- two things that are there are the same where both together are
pub some-of : {A : Type 0} {x y : A} → Some x ≡ Some y → x ≡ y
some-of e = cc

-- what closes a term may stand behind an argument
pub delimits_of : (ops : Table) (rest : List Lexed) → Closes ops rest → Delimits ops rest
delimits_of ops rest c = record { call = c.call; sign = c.sign; atom = c.atom; next = λ f o e. absurd (none_some (infix_ahead ops rest) (f, o) c.next e) }

-- what closes a term may stand behind any term
pub ends_of : (ops : Table) (t : Term) (limit : ℕ) (rest : List Lexed) → Closes ops rest → Ends ops t limit rest
ends_of ops t limit rest c = record { call = c.call; sign = c.sign; alone = λ f e. inr c.atom; next = λ f o e. absurd (none_some (infix_ahead ops rest) (f, o) c.next e) }

-- a closing parenthesis closes a term
pub close_closes : (ops : Table) (at : Places) (more : List Piece) → Closes ops (laid at (mark Directly kind.Close 41 ∷ more))
unfolding is_atom_before infix_ahead
close_closes ops at more = record { call = refl; sign = refl; atom = refl; next = refl }

-- a closing bracket closes a term
pub close_list_closes : (ops : Table) (at : Places) (more : List Piece) → Closes ops (laid at (mark Directly kind.CloseList 93 ∷ more))
unfolding is_atom_before infix_ahead
close_list_closes ops at more = record { call = refl; sign = refl; atom = refl; next = refl }

-- a closing brace closes a term
pub close_curly_closes : (ops : Table) (at : Places) (more : List Piece) → Closes ops (laid at (mark Directly kind.CloseCurly 125 ∷ more))
unfolding is_atom_before infix_ahead
close_curly_closes ops at more = record { call = refl; sign = refl; atom = refl; next = refl }

-- a bar closes a term
pub bar_closes : (ops : Table) (at : Places) (more : List Piece) → Closes ops (laid at (mark Directly kind.Bar 124 ∷ more))
unfolding is_atom_before infix_ahead
bar_closes ops at more = record { call = refl; sign = refl; atom = refl; next = refl }

-- an end closes a term
pub end_closes : (ops : Table) (at : Places) (more : List Piece) → Closes ops (laid at (mark Spaced kind.End 46 ∷ more))
unfolding is_atom_before infix_ahead
end_closes ops at more = record { call = refl; sign = refl; atom = refl; next = refl }

op_of : (name f : Name) (o : Op) (x : Option Op) → with_op_of name x ≡ Some (f, o) → x ≡ Some o
op_of name f o None e = cc
op_of name f o (Some y) e = let z : y ≡ o = ap (λ (p : Name × Op). p.1) (some-of e) in ap Some z

-- a comma may stand behind an argument
pub comma_delimits : (ops : Table) → IsTable ops → (at : Places) (more : List Piece) → Delimits ops (laid at (mark Directly kind.Comma 44 ∷ more))
unfolding is_atom_before infix_ahead
comma_delimits ops tab at more = record { call = refl; sign = refl; atom = refl; next = λ f o e. tab.comma o (op_of (codes ",") f o (ops.infixes (codes ",")) e) }

-- ---- names

-- a conjunction whose second part fails
pub and_false : (a b : Bool) → b ≡ false → (a && b) ≡ false
and_false true b e = e
and_false false b e = refl

-- the token of a name is a name
pub word_is_name : (s : Stand) (f : Name) → is_name (word s f).kind ≡ true
word_is_name s f = go (is_bare f)
  where
    go : (b : Bool) → is_name (cond b kind.Name kind.Quoted) ≡ true
    go true = refl
    go false = refl

kind_starts : (ops : Table) (k : TokenKind) (name : Name) (opens direct : Bool) → is_name k ≡ true → (is_infix_alone ops name && not opens) ≡ false →
    ((is_open k && direct) ≡ false) × ((is_integer k && direct) ≡ false) × (is_atom_by ops k name opens ≡ false)
kind_starts ops kind.Name name opens direct e h = (refl, refl, h)
kind_starts ops kind.Quoted name opens direct e h = (refl, refl, h)
kind_starts ops k name opens direct e h = cc

-- a name that is no infix operator by itself may stand behind a prefix operator
pub name_starts : (ops : Table) (t : Lexed) (ts : List Lexed) → is_name t.kind ≡ true → (is_infix_alone ops t.name && not (opens_directly ts)) ≡ false → Starts ops (t ∷ ts)
unfolding is_atom_before
name_starts ops t ts e h = let k = kind_starts ops t.kind t.name (opens_directly ts) t.direct e h in record { call = k.0; sign = k.1; atom = k.2 }

kind_infix : (ops : Table) (k : TokenKind) (name : Name) → is_name k ≡ true → named_infix ops (infix_name_by k name) ≡ with_op_of name (ops.infixes name)
kind_infix ops kind.Name name e = refl
kind_infix ops kind.Quoted name e = refl
kind_infix ops k name e = cc

pub name_infix : (ops : Table) (t : Lexed) (ts : List Lexed) → is_name t.kind ≡ true → infix_ahead ops (t ∷ ts) ≡ with_op_of t.name (ops.infixes t.name)
unfolding infix_ahead
name_infix ops t ts e = kind_infix ops t.kind t.name e

-- an opening parenthesis behind a space may stand behind a prefix operator
pub open_starts : (ops : Table) (at : Places) (more : List Piece) → Starts ops (laid at (mark Spaced kind.Open 40 ∷ more))
unfolding is_atom_before
open_starts ops at more = record { call = refl; sign = refl; atom = refl }

-- an opening bracket may stand behind a prefix operator
pub open_list_starts : (ops : Table) (at : Places) (more : List Piece) → Starts ops (laid at (mark Spaced kind.OpenList 91 ∷ more))
unfolding is_atom_before
open_list_starts ops at more = record { call = refl; sign = refl; atom = refl }

-- an opening brace may stand behind a prefix operator
pub open_curly_starts : (ops : Table) (at : Places) (more : List Piece) → Starts ops (laid at (mark Spaced kind.OpenCurly 123 ∷ more))
unfolding is_atom_before
open_curly_starts ops at more = record { call = refl; sign = refl; atom = refl }

-- a number behind a space may stand behind a prefix operator
pub number_starts : (ops : Table) (at : Places) (n : ℕ) (more : List Piece) → Starts ops (laid at (number Spaced n ∷ more))
unfolding is_atom_before
number_starts ops at n more = record { call = refl; sign = refl; atom = refl }

-- a negative number may stand behind a prefix operator
pub negative_starts : (ops : Table) → IsTable ops → (at : Places) (n : ℕ) (more : List Piece) → Starts ops (laid at (minus_sign Spaced ∷ number Directly n ∷ more))
unfolding is_atom_before
negative_starts ops tab at n more = record { call = refl; sign = refl; atom = ap (λ b. b && true) tab.minus }

-- a prefix operator, an atom that is no operator, and the name of a compound
pub prefix_alone : (ops : Table) (f : Name) (o : Op) (b : Bool) → ops.prefixes f ≡ Some o → (is_infix_alone ops f && b) ≡ false
prefix_alone ops f o b e = go (ops.prefixes f) (ops.infixes f) e
  where
    go : (x y : Option Op) → x ≡ Some o → (is_infix_alone (record { prefixes = λ n. x; infixes = λ n. y }) f && b) ≡ false
    go None None e = refl
    go None (Some z) e = cc
    go (Some z) None e = refl
    go (Some z) (Some w) e = refl

-- a name that is no infix operator is none by itself
pub no_infix_alone : (ops : Table) (f : Name) (b : Bool) → ops.infixes f ≡ None → (is_infix_alone ops f && b) ≡ false
no_infix_alone ops f b e = go (ops.prefixes f) (ops.infixes f) e
  where
    go : (x y : Option Op) → y ≡ None → (is_infix_alone (record { prefixes = λ n. x; infixes = λ n. y }) f && b) ≡ false
    go x None e = refl
    go x (Some z) e = cc

-- a name before a parenthesis is no infix operator by itself
pub opens_not_alone : (ops : Table) (f : Name) → (is_infix_alone ops f && false) ≡ false
opens_not_alone ops f = and_false (is_infix_alone ops f) false refl

-- ---- infix operators

-- the token of an infix operator, behind which its right operand stands
pub record IsInfixToken (ops : Table) (at : Places) (f : Name) (o : Op) (right : Part) (more : List Piece) (ts : List Lexed) : Type 0 where
  pub token : Lexed
  pub stand : Stand
  pub parts : ts ≡ token ∷ laid at (right stand more)
  pub ahead : infix_ahead ops ts ≡ Some (f, o)
  pub call : opens_directly ts ≡ false
  pub sign : is_integer_directly ts ≡ false

name_opens : (k : TokenKind) (direct : Bool) → is_name k ≡ true → ((is_open k && direct) ≡ false) × ((is_integer k && direct) ≡ false)
name_opens kind.Name direct e = (refl, refl)
name_opens kind.Quoted direct e = (refl, refl)
name_opens k direct e = cc

comma_ahead : (ops : Table) (o : Op) (at : Places) (more : List Piece) → ops.infixes (codes ",") ≡ Some o → infix_ahead ops (laid at (mark Directly kind.Comma 44 ∷ more)) ≡ Some (codes ",", o)
unfolding infix_ahead
comma_ahead ops o at more is = ap (with_op_of (codes ",")) is

-- the pieces between two operands are the token of their infix operator
pub infix_token : (ops : Table) (at : Places) (f : Name) (o : Op) (right : Part) (more : List Piece) → ops.infixes f ≡ Some o →
    (b : Bool) → (b ≡ true → f ≡ codes ",") → IsInfixToken ops at f o right more (laid at (infix_by b f right more))
infix_token ops at f o right more is true same =
    let e = same refl in
    record {
      token = _;
      stand = Directly;
      parts = refl;
      ahead = comma_ahead ops o at (right Directly more) (ap ops.infixes (sym e) ∙ is) ∙ ap (λ (n : Name). Some (n, o)) (sym e);
      call = refl;
      sign = refl;
    }
infix_token ops at f o right more is false same =
    let n = word_is_name Spaced f in
    let k = name_opens (word Spaced f).kind false n in
    record {
      token = _;
      stand = Spaced;
      parts = refl;
      ahead = name_infix ops _ (laid at (right Spaced more)) n ∙ ap (with_op_of f) is;
      call = k.0;
      sign = k.1;
    }

-- The pieces that a term is written with: tokens with their own characters, and whether a space stands before them.
use Rattle.std.specs.Prelude.{ℕ, suc, Bool, true, false, nat_lt, List, [], ◌∷◌, ◌++◌, ℤ, pos, negsuc, codes, decimal, if◌then◌else◌}
use Rattle.tp_terms.specs.Term.{Name, Term, Terms, Var, Int, Atom, Comp, NoMore, More, names_eq}
use Rattle.tp_lex.specs.declared.token.TokenKind.{TokenKind}
use Rattle.tp_lex.specs.declared.token.TokenKind.TheVariants as kind
use Rattle.tp_lex.specs.Next.{byte_of}
use Rattle.tp_lex.specs.Tokens.{Lexed}
use Rattle.tp_parse.specs.Tree.{Tree, Variable, Integer, Compound, Trees, none, first_of}
use Rattle.tp_parse.specs.Tree as tree
use Rattle.tp_parse.specs.Table.{Op, Table, right_bound}
use Rattle.tp_write.specs.Names.{is_bare, name_text}
use Rattle.tp_write.specs.Text.{Form, Listed, Braces, Infix, Prefix, form_of, priority, operand_closed, left_closed}

-- first in the text, directly behind the piece before, or behind a space
pub data Stand : Type 0 where
  First Directly Spaced : Stand

-- a token with its own characters
pub record Piece : Type 0 where
  pub stand : Stand
  pub kind : TokenKind
  pub name : List ℕ
  pub value : ℕ
  pub own : List ℕ

-- the space before a piece that stands so
abbrev pub gap : Stand → List ℕ
gap First = []
gap Directly = []
gap Spaced = 32 ∷ []

-- whether a piece that stands so stands directly behind another
abbrev pub is_direct : Stand → Bool
is_direct First = false
is_direct Directly = true
is_direct Spaced = false

-- the characters of the pieces, and a newline
abbrev pub spelled : List Piece → List ℕ
spelled [] = 10 ∷ []
spelled (p ∷ ps) = gap p.stand ++ (p.own ++ spelled ps)

-- where the first of some pieces begins, and where what follows a piece begins
pub record Places : Type 0 where
  pub from : List Piece → ℕ
  pub to : List Piece → ℕ

-- a piece before others, as a token
abbrev pub token : Places → Piece → List Piece → Lexed
token at p ps = record { kind = p.kind; from = at.from (p ∷ ps); to = at.to ps; name = p.name; value = p.value; direct = is_direct p.stand }

-- the pieces as tokens
abbrev pub laid : Places → List Piece → List Lexed
laid at [] = []
laid at (p ∷ ps) = token at p ps ∷ laid at ps

-- the same without the space before the first
abbrev pub first_spelled : List Piece → List ℕ
first_spelled [] = 10 ∷ []
first_spelled (p ∷ ps) = p.own ++ spelled ps

-- the places in a text that ends with the pieces
abbrev pub places_in : List ℕ → Places
places_in text = record { from = λ ps. byte_of text (first_spelled ps); to = λ ps. byte_of text (spelled ps) }

-- ---- pieces

-- a single character
abbrev pub mark : Stand → TokenKind → ℕ → Piece
mark s k c = record { stand = s; kind = k; name = []; value = 0; own = c ∷ [] }

-- a name other than `[]` and `{}`
abbrev pub word : Stand → Name → Piece
word s f = record { stand = s; kind = if is_bare f then kind.Name else kind.Quoted; name = f; value = 0; own = name_text f }

-- the name of a variable in the text
abbrev pub variable_name : ℕ → List ℕ
variable_name v = codes "_" ++ decimal v

-- a variable
abbrev pub variable : Stand → ℕ → Piece
variable s v = record { stand = s; kind = kind.Variable; name = variable_name v; value = 0; own = variable_name v }

-- the digits of a number
abbrev pub number : Stand → ℕ → Piece
number s n = record { stand = s; kind = kind.Integer; name = []; value = n; own = decimal n }

-- the minus sign of a negative number
abbrev pub minus_sign : Stand → Piece
minus_sign s = record { stand = s; kind = kind.Name; name = codes "-"; value = 0; own = codes "-" }

-- ---- terms, each before more pieces

-- the pieces of a term, the first of which stands so, and more pieces behind
abbrev pub Part : Type 0
Part = Stand → List Piece → List Piece

-- a term alone, and as what follows an element of a list
pub record Parts : Type 0 where
  pub alone : Part
  pub behind : List Piece → List Piece

-- an integer
abbrev pub integer_part : ℤ → Part
integer_part (pos n) s more = number s n ∷ more
integer_part (negsuc n) s more = minus_sign s ∷ number Directly (suc n) ∷ more

-- the empty list
abbrev pub brackets_part : Part
brackets_part s more = mark s kind.OpenList 91 ∷ mark Directly kind.CloseList 93 ∷ more

-- the name `{}`
abbrev pub braces_part : Part
braces_part s more = mark s kind.OpenCurly 123 ∷ mark Directly kind.CloseCurly 125 ∷ more

-- an atom, where it is told whether it is `[]` or `{}`
abbrev pub atom_by : Bool → Bool → Name → Part
atom_by true b a s more = brackets_part s more
atom_by false true a s more = braces_part s more
atom_by false false a s more = word s a ∷ more

-- an atom
abbrev pub atom_part : Name → Part
atom_part a = atom_by (names_eq a (codes "[]")) (names_eq a (codes "{}")) a

-- a term in parentheses where they are needed
abbrev pub enclosed : Bool → Part → Part
enclosed true p s more = mark s kind.Open 40 ∷ p Directly (mark Directly kind.Close 41 ∷ more)
enclosed false p s more = p s more

-- a term where the largest priority is given
abbrev pub within_part : Table → ℕ → Term → Part → Part
within_part ops max t p = enclosed (nat_lt max (priority ops t)) p

-- an infix operator and its right operand
abbrev pub infix_by : Bool → Name → Part → List Piece → List Piece
infix_by true f right more = mark Directly kind.Comma 44 ∷ right Directly more
infix_by false f right more = word Spaced f ∷ right Spaced more

-- a left operand
abbrev pub left_part : Table → Op → Term → Part → Part
left_part ops o t p = enclosed (left_closed ops o t) p

-- a right operand
abbrev pub right_part : Table → Op → Term → Part → Part
right_part ops o t p = enclosed (operand_closed ops (right_bound o) t) p

-- an infix operator between its operands
abbrev pub infix_part : Table → Op → Name → Term → Part → Term → Part → Part
infix_part ops o f a left b right s more = left_part ops o a left s (infix_by (names_eq f (codes ",")) f (right_part ops o b right) more)

-- a prefix operator before its operand
abbrev pub prefix_part : Table → Op → Name → Term → Part → Part
prefix_part ops o f a p s more = word s f ∷ right_part ops o a p Spaced more

-- arguments with commas between
abbrev pub args_part : Table → Terms → List Parts → List Piece → List Piece
args_part ops (More t NoMore) (p ∷ ps) more = within_part ops 999 t p.alone Directly more
args_part ops (More t ts) (p ∷ ps) more = within_part ops 999 t p.alone Directly (mark Directly kind.Comma 44 ∷ args_part ops ts ps more)
args_part ops ts ps more = more

-- a name with its arguments in parentheses
abbrev pub call_part : Table → Name → Terms → List Parts → Part
call_part ops f ts ps s more = word s f ∷ mark Directly kind.Open 40 ∷ args_part ops ts ps (mark Directly kind.Close 41 ∷ more)

-- a bar and what follows an element where it is no list
abbrev pub tail_part : Table → Term → Part → List Piece → List Piece
tail_part ops t p more = mark Directly kind.Bar 124 ∷ within_part ops 999 t p Directly more

-- a term that is no list
abbrev pub not_list : Table → Term → Part → Parts
not_list ops t p = record { alone = p; behind = tail_part ops t p }

-- an element and what follows it
abbrev pub list_parts : Table → Term → Part → (List Piece → List Piece) → Parts
list_parts ops h p rest = record {
  alone = λ s more. mark s kind.OpenList 91 ∷ within_part ops 999 h p Directly (rest (mark Directly kind.CloseList 93 ∷ more));
  behind = λ more. mark Directly kind.Comma 44 ∷ within_part ops 999 h p Directly (rest more);
}

-- a term in braces
abbrev pub in_braces : Table → Term → Part → Part
in_braces ops a p s more = mark s kind.OpenCurly 123 ∷ within_part ops 1200 a p Directly (mark Directly kind.CloseCurly 125 ∷ more)

-- a compound of one argument
abbrev pub unary_parts : Table → Name → Term → Parts → Form → Parts
unary_parts ops f a p Braces = not_list ops (Comp f (More a NoMore)) (in_braces ops a p.alone)
unary_parts ops f a p (Prefix o) = not_list ops (Comp f (More a NoMore)) (prefix_part ops o f a p.alone)
unary_parts ops f a p form = not_list ops (Comp f (More a NoMore)) (call_part ops f (More a NoMore) (p ∷ []))

-- a compound of two arguments
abbrev pub binary_parts : Table → Name → Term → Parts → Term → Parts → Form → Parts
binary_parts ops f a p b q Listed = list_parts ops a p.alone q.behind
binary_parts ops f a p b q (Infix o) = not_list ops (Comp f (More a (More b NoMore))) (infix_part ops o f a p.alone b q.alone)
binary_parts ops f a p b q form = not_list ops (Comp f (More a (More b NoMore))) (call_part ops f (More a (More b NoMore)) (p ∷ q ∷ []))

abbrev pub compound_parts : Table → Name → Terms → List Parts → Parts
compound_parts ops f (More a NoMore) (p ∷ ps) = unary_parts ops f a p (form_of ops (Comp f (More a NoMore)))
compound_parts ops f (More a (More b NoMore)) (p ∷ q ∷ ps) = binary_parts ops f a p b q (form_of ops (Comp f (More a (More b NoMore))))
compound_parts ops f ts ps = not_list ops (Comp f ts) (call_part ops f ts ps)

-- the empty list adds nothing behind an element
abbrev pub behind_atom : Table → Bool → Name → List Piece → List Piece
behind_atom ops true a more = more
behind_atom ops false a more = tail_part ops (Atom a) (atom_part a) more

-- an atom, alone and behind an element
abbrev pub atom_parts : Table → Name → Parts
atom_parts ops a = record { alone = atom_part a; behind = behind_atom ops (names_eq a (codes "[]")) a }

unfoldable mutual
  -- the pieces of a term
  pub parts : Table → Term → Parts
  parts ops (Var v) = not_list ops (Var v) (λ s more. variable s v ∷ more)
  parts ops (Int z) = not_list ops (Int z) (integer_part z)
  parts ops (Atom a) = atom_parts ops a
  parts ops (Comp f ts) = compound_parts ops f ts (all_parts ops ts)

  -- the pieces of each argument
  pub all_parts : Table → Terms → List Parts
  all_parts ops NoMore = []
  all_parts ops (More t ts) = parts ops t ∷ all_parts ops ts

-- the dot of an end, behind a space
abbrev pub end : Piece
end = mark Spaced kind.End 46

-- a term written at 1200 with an end behind it
abbrev pub clause_pieces : Table → Term → List Piece
clause_pieces ops t = within_part ops 1200 t (parts ops t).alone First (end ∷ [])

-- ---- the tree that is read

abbrev mutual
  -- the tree that a term's pieces are read as
  pub tree_of : Term → Tree
  tree_of (Var v) = Variable (variable_name v)
  tree_of (Int z) = Integer z
  tree_of (Atom a) = tree.Atom a
  tree_of (Comp f ts) = Compound f (trees_of ts)

  -- those of each argument
  pub trees_of : Terms → Trees
  trees_of NoMore = none
  trees_of (More t ts) = first_of (tree_of t) (trees_of ts)

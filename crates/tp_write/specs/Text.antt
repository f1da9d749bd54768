-- The written form of a term under a table of operators.
use Rattle.std.specs.Prelude.{ℕ, Bool, true, false, not, ◌&&◌, ◌||◌, nat_eq, nat_lt, List, [], ◌∷◌}
use Rattle.std.specs.Prelude.{◌++◌, Option, Some, None, codes, decimal, is_some, if◌then◌else◌}
use Rattle.std.specs.Fmt.{signed_decimal}
use Rattle.tp_terms.specs.Term.{Name, Term, Terms, Var, Int, Atom, Comp, NoMore, More, names_eq}
use Rattle.tp_parse.specs.Table.{Op, Table, left_bound, right_bound}
use Rattle.tp_parse.specs.declared.table.OpType.TheVariants.{Xfx, Yfx, Fx}
pub use Rattle.tp_write.specs.declared.pieces.Form.{Form}
pub use Rattle.tp_write.specs.declared.pieces.Form.TheVariants.{Listed, Braces, Infix, Prefix}
pub use Rattle.tp_write.specs.declared.pieces.Form.TheVariants.{Plain}
use Rattle.tp_write.specs.Names.{name_text}

-- ---- compounds

-- a compound of one argument
abbrev pub unary : Name → Term → Term
unary f a = Comp f (More a NoMore)

-- a compound of two arguments
abbrev pub binary : Name → Term → Term → Term
binary f a b = Comp f (More a (More b NoMore))

-- ---- forms

-- what a compound of one argument is written as, whose name may be a prefix operator
abbrev pub unary_form : Name → Option Op → Form
unary_form f None = if names_eq f (codes "{}") then Braces else Plain
unary_form f (Some o) = if names_eq f (codes "{}") then Braces else Prefix o

-- what a compound of two arguments is written as, whose name may be an infix operator
abbrev pub binary_form : Name → Option Op → Form
binary_form f None = if names_eq f (codes ".") then Listed else Plain
binary_form f (Some o) = if names_eq f (codes ".") then Listed else Infix o

-- what a term is written as
abbrev pub form_of : Table → Term → Form
form_of ops (Comp f (More t NoMore)) = unary_form f (ops.prefixes f)
form_of ops (Comp f (More t (More u NoMore))) = binary_form f (ops.infixes f)
form_of ops t = Plain

-- the priority of a term of this form
abbrev pub priority_by : Form → ℕ
priority_by (Infix o) = o.0
priority_by (Prefix o) = o.0
priority_by form = 0

-- the priority of a term as it is written without parentheses
abbrev pub priority : Table → Term → ℕ
priority ops t = priority_by (form_of ops t)

-- ---- parentheses

-- a text in parentheses where they are needed
abbrev pub in_parentheses : Bool → List ℕ → List ℕ
in_parentheses true text = codes "(" ++ (text ++ codes ")")
in_parentheses false text = text

-- a term, whose text without parentheses is given, where the largest priority is given
abbrev pub within : Table → ℕ → Term → List ℕ → List ℕ
within ops max t text = in_parentheses (nat_lt max (priority ops t)) text

-- an atom that is an operator
abbrev pub is_operator_atom : Table → Term → Bool
is_operator_atom ops (Atom a) = is_some (ops.prefixes a) || is_some (ops.infixes a)
is_operator_atom ops t = false

-- an infix term of type yfx or xfx, or a prefix term of type fx
abbrev pub may_stand_left : Form → Bool
may_stand_left (Infix (p, Yfx)) = true
may_stand_left (Infix (p, Xfx)) = true
may_stand_left (Prefix (p, Fx)) = true
may_stand_left form = false

-- an operand stands in parentheses where it is an atom that is an operator, and where its priority
-- is above the bound
abbrev pub operand_closed : Table → ℕ → Term → Bool
operand_closed ops bound t = is_operator_atom ops t || nat_lt bound (priority ops t)

-- and a left operand too where its priority equals the operator's, unless it may stand there
abbrev pub left_closed : Table → Op → Term → Bool
left_closed ops o t =
    operand_closed ops (left_bound o) t
    || (nat_eq (priority ops t) o.0 && not (may_stand_left (form_of ops t)))

-- a left operand, whose text without parentheses is given
abbrev pub left_text : Table → Op → Term → List ℕ → List ℕ
left_text ops o t text = in_parentheses (left_closed ops o t) text

-- a right operand
abbrev pub right_text : Table → Op → Term → List ℕ → List ℕ
right_text ops o t text = in_parentheses (operand_closed ops (right_bound o) t) text

-- ---- texts

-- the text of a term without parentheses around it, and as what follows an element of a list
pub record Written : Type 0 where
  pub alone : List ℕ
  pub behind : List ℕ

-- the name of an infix operator between its operands: `,` alone, and any other between spaces
abbrev pub infix_name : Name → List ℕ
infix_name f = if names_eq f (codes ",") then codes "," else codes " " ++ (name_text f ++ codes " ")

-- an infix operator and its operands
abbrev pub infix_text : Table → Op → Name → Term → List ℕ → Term → List ℕ → List ℕ
infix_text ops o f a left b right =
    left_text ops o a left ++ (infix_name f ++ right_text ops o b right)

-- a prefix operator, a space and its operand
abbrev pub prefix_text : Table → Op → Name → Term → List ℕ → List ℕ
prefix_text ops o f a text = name_text f ++ (codes " " ++ right_text ops o a text)

-- the texts of arguments with commas between
abbrev pub args_text : Table → Terms → List Written → List ℕ
args_text ops (More t NoMore) (w ∷ ws) = within ops 999 t w.alone
args_text ops (More t ts) (w ∷ ws) = within ops 999 t w.alone ++ (codes "," ++ args_text ops ts ws)
args_text ops ts ws = []

-- a name and its arguments in parentheses
abbrev pub call_text : Table → Name → Terms → List Written → List ℕ
call_text ops f ts ws = name_text f ++ (codes "(" ++ (args_text ops ts ws ++ codes ")"))

-- what follows an element where it is no list
abbrev pub tail_text : Table → Term → List ℕ → List ℕ
tail_text ops t text = codes "|" ++ within ops 999 t text

-- a term that is no list
abbrev pub not_list : Table → Term → List ℕ → Written
not_list ops t text = record { alone = text; behind = tail_text ops t text }

-- an element and what follows it
abbrev pub list_text : Table → Term → List ℕ → List ℕ → Written
list_text ops h text rest =
    let inside = within ops 999 h text ++ rest in
    record { alone = codes "[" ++ (inside ++ codes "]"); behind = codes "," ++ inside }

-- a compound of one argument
abbrev pub unary_text : Table → Name → Term → Written → Form → Written
unary_text ops f a w Braces =
    not_list ops (unary f a) (codes "{" ++ (within ops 1200 a w.alone ++ codes "}"))
unary_text ops f a w (Prefix o) = not_list ops (unary f a) (prefix_text ops o f a w.alone)
unary_text ops f a w form = not_list ops (unary f a) (call_text ops f (More a NoMore) (w ∷ []))

-- a compound of two arguments
abbrev pub binary_text : Table → Name → Term → Written → Term → Written → Form → Written
binary_text ops f a v b w Listed = list_text ops a v.alone w.behind
binary_text ops f a v b w (Infix o) =
    not_list ops (binary f a b) (infix_text ops o f a v.alone b w.alone)
binary_text ops f a v b w form =
    not_list ops (binary f a b) (call_text ops f (More a (More b NoMore)) (v ∷ w ∷ []))

-- a compound, whose arguments' texts are given
abbrev pub compound_text : Table → Name → Terms → List Written → Written
compound_text ops f (More a NoMore) (v ∷ ws) = unary_text ops f a v (form_of ops (unary f a))
compound_text ops f (More a (More b NoMore)) (v ∷ w ∷ ws) =
    binary_text ops f a v b w (form_of ops (binary f a b))
compound_text ops f ts ws = not_list ops (Comp f ts) (call_text ops f ts ws)

-- an atom; the empty list adds nothing behind an element
abbrev pub atom_text : Table → Name → Written
atom_text ops a = record {
  alone = name_text a;
  behind = if names_eq a (codes "[]") then [] else tail_text ops (Atom a) (name_text a);
}

-- the texts of a term, and those of each argument
unfoldable mutual
  pub written : Table → Term → Written
  written ops (Var v) = not_list ops (Var v) (codes "_" ++ decimal v)
  written ops (Int z) = not_list ops (Int z) (signed_decimal z)
  written ops (Atom a) = atom_text ops a
  written ops (Comp f ts) = compound_text ops f ts (all_written ops ts)

  pub all_written : Table → Terms → List Written
  all_written ops NoMore = []
  all_written ops (More t ts) = written ops t ∷ all_written ops ts

-- a term where the largest priority is given
unfoldable pub text : Table → ℕ → Term → List ℕ
text ops max t = within ops max t (written ops t).alone

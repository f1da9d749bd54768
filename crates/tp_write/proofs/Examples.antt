-- Names and terms as they are written under the table of the start.
use Rattle.std.proofs.Common.{◌≡◌, ℕ, List, [], ◌∷◌, codes, refl, negsuc}
use Rattle.std.specs.Fmt.{digits}
use Rattle.tp_terms.specs.Term.{Term, Var, Int, atom, comp, nat, cell, list_term}
use Rattle.tp_parse.specs.Table.{Table, start_table, with_op}
use Rattle.tp_parse.specs.declared.table.OpType.TheVariants.{Yfx, Fy}
use Rattle.tp_lex.proofs.Characters.Ascii.{classes}
use Rattle.tp_write.specs.Names.{name_text}
use Rattle.tp_write.specs.Text.{text, written, all_written}

-- a term under the table of the start, where the largest priority is 1200
abbrev shown : Term → List ℕ
shown t = text start_table 1200 t

abbrev a : Term
a = atom "a"

abbrev b : Term
b = atom "b"

abbrev c : Term
c = atom "c"

rule : shown (comp ":-" (a ∷ comp "," (b ∷ c ∷ []) ∷ [])) ≡ codes "a :- b,c"
unfolding text written all_written start_table name_text classes digits
rule = refl

minus_right : shown (comp "-" (nat 1 ∷ comp "-" (nat 2 ∷ nat 3 ∷ []) ∷ [])) ≡ codes "1 - (2 - 3)"
unfolding text written all_written start_table name_text classes digits
minus_right = refl

minus_left : shown (comp "-" (comp "-" (nat 1 ∷ nat 2 ∷ []) ∷ nat 3 ∷ [])) ≡ codes "1 - 2 - 3"
unfolding text written all_written start_table name_text classes digits
minus_left = refl

minus_minus : shown (comp "-" (comp "-" (nat 1 ∷ []) ∷ [])) ≡ codes "- - 1"
unfolding text written all_written start_table name_text classes digits
minus_minus = refl

minus_negative : shown (comp "-" (Int (negsuc 0) ∷ [])) ≡ codes "- -1"
unfolding text written all_written start_table name_text classes digits
minus_negative = refl

operator_argument : shown (comp "f" (atom ":-" ∷ [])) ≡ codes "f(:-)"
unfolding text written all_written start_table name_text classes digits
operator_argument = refl

minus_one : shown (comp "-" (nat 1 ∷ [])) ≡ codes "- 1"
unfolding text written all_written start_table name_text classes digits
minus_one = refl

operator_operand : shown (comp "=" (atom "-" ∷ atom "x" ∷ [])) ≡ codes "(-) = x"
unfolding text written all_written start_table name_text classes digits
operator_operand = refl

not_both : shown (comp "\\+" (comp "," (a ∷ b ∷ []) ∷ [])) ≡ codes "\\+ (a,b)"
unfolding text written all_written start_table name_text classes digits
not_both = refl

codes_list : shown (list_term (nat 97 ∷ nat 98 ∷ [])) ≡ codes "[97,98]"
unfolding text written all_written start_table name_text classes digits
codes_list = refl

quote_inside : shown (atom "it's") ≡ codes "'it\\'s'"
unfolding text written all_written start_table name_text classes digits
quote_inside = refl

plus_argument : shown (comp "f" (atom "+" ∷ [])) ≡ codes "f(+)"
unfolding text written all_written start_table name_text classes digits
plus_argument = refl

plus_alone : shown (atom "+") ≡ codes "+"
unfolding text written all_written start_table name_text classes digits
plus_alone = refl

minus_of_negative : shown (comp "-" (nat 1 ∷ Int (negsuc 0) ∷ [])) ≡ codes "1 - -1"
unfolding text written all_written start_table name_text classes digits
minus_of_negative = refl

right_nests : shown (comp ";" (comp ";" (a ∷ b ∷ []) ∷ c ∷ [])) ≡ codes "(a ; b) ; c"
unfolding text written all_written start_table name_text classes digits
right_nests = refl

bound_argument : shown (comp "f" (comp ":-" (a ∷ b ∷ []) ∷ comp "," (a ∷ b ∷ []) ∷ [])) ≡ codes "f((a :- b),(a,b))"
unfolding text written all_written start_table name_text classes digits
bound_argument = refl

list_with_tail : shown (cell (nat 1) (cell (nat 2) (Var 1))) ≡ codes "[1,2|_1]"
unfolding text written all_written start_table name_text classes digits
list_with_tail = refl

list_with_atom : shown (cell a b) ≡ codes "[a|b]"
unfolding text written all_written start_table name_text classes digits
list_with_atom = refl

braces : shown (comp "{}" (comp "," (a ∷ b ∷ []) ∷ [])) ≡ codes "{a,b}"
unfolding text written all_written start_table name_text classes digits
braces = refl

dot_alone : shown (atom ".") ≡ codes "'.'"
unfolding text written all_written start_table name_text classes digits
dot_alone = refl

empty_list : shown (atom "[]") ≡ codes "[]"
unfolding text written all_written start_table name_text classes digits
empty_list = refl

empty_name : shown (atom "") ≡ codes "''"
unfolding text written all_written start_table name_text classes digits
empty_name = refl

capital : shown (atom "Hello") ≡ codes "'Hello'"
unfolding text written all_written start_table name_text classes digits
capital = refl

comment_begins : shown (atom "/*") ≡ codes "'/*'"
unfolding text written all_written start_table name_text classes digits
comment_begins = refl

other_arity : shown (comp "." (a ∷ [])) ≡ codes "'.'(a)"
unfolding text written all_written start_table name_text classes digits
other_arity = refl

three : shown (comp "f" (a ∷ b ∷ c ∷ [])) ≡ codes "f(a,b,c)"
unfolding text written all_written start_table name_text classes digits
three = refl

-- control characters are escaped
control_characters : name_text (1 ∷ 7 ∷ 10 ∷ 13 ∷ 31 ∷ 92 ∷ 127 ∷ []) ≡ codes "'\\x1\\\\a\\n\\r\\x1f\\\\\\\\x7f\\'"
unfolding name_text classes digits
control_characters = refl

-- a table with a prefix operator `not` and an infix operator `isa`
abbrev more : Table
more = with_op 700 Yfx (codes "isa") (with_op 700 Fy (codes "not") start_table)

abbrev isa : Term → Term → Term
isa t u = comp "isa" (t ∷ u ∷ [])

prefix_on_the_left : text more 1200 (isa (comp "not" (a ∷ [])) b) ≡ codes "(not a) isa b"
unfolding text written all_written start_table name_text classes digits
prefix_on_the_left = refl

infix_below_prefix : text more 1200 (comp "not" (isa a b ∷ [])) ≡ codes "not a isa b"
unfolding text written all_written start_table name_text classes digits
infix_below_prefix = refl

infix_on_the_left : text more 1200 (isa (isa a b) c) ≡ codes "a isa b isa c"
unfolding text written all_written start_table name_text classes digits
infix_on_the_left = refl

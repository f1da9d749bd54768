-- Forms and parentheses, by cells.
use Rattle.std.proofs.Common.{◌≡◌, ℕ, zero, suc, Bool, true, false, not, ◌&&◌, ◌||◌, nat_lt, nat_eq, List, Option, Some, None, codes, slice_get, refl, sym, ap, ◌∙◌, if◌then◌else◌}
use Rattle.std.specs.Str.{IsUtf8, is_utf8, chars, bytes_eq}
use Rattle.std.proofs.lemmas.Str.{IsUtf8-from_is_utf8}
use Rattle.tp_terms.specs.declared.cells.Cell.{Cell}
use Rattle.tp_terms.specs.declared.cells.Cell.TheVariants as cell
use Rattle.tp_terms.specs.Term.{Name, names_eq}
use Rattle.tp_terms.specs.Shown.{name_at}
use Rattle.tp_terms.specs.Binds.{Bindings}
use Rattle.tp_terms.proofs.Naming.Tables.{name_at-slice_get}
use Rattle.tp_terms.proofs.Texts.Equal.{names_eq-chars}
use Rattle.tp_parse.specs.Table.{Op, Table, left_bound}
use Rattle.tp_write.specs.declared.pieces.Form.{Form}
use Rattle.tp_write.specs.declared.pieces.Form.TheVariants.{Listed, Braces, Infix, Prefix, Plain}
use Rattle.tp_write.specs.declared.pieces.Position.{Position}
use Rattle.tp_write.specs.declared.pieces.Position.TheVariants.{Within, Operand, Left}
use Rattle.tp_write.specs.Text.{unary_form, binary_form, form_of, priority_by, may_stand_left, is_operator_atom}
use Rattle.tp_write.specs.Work.{cell_term, cell_form, cell_closed, is_operator_cell, closed}

-- ---- names by their bytes

named : (names : List Name) (at : ℕ) (bytes text : List ℕ) (found : Bool) → slice_get names at ≡ Some (chars bytes) → IsUtf8 bytes → is_utf8 text ≡ true → chars text ≡ text → found ≡ bytes_eq bytes text → found ≡ names_eq (name_at names at) text
named names at bytes text found e u v same f =
    f
    ∙ sym (names_eq-chars bytes text u (IsUtf8-from_is_utf8 text v))
    ∙ ap (names_eq (chars bytes)) same
    ∙ ap (λ n. names_eq n text) (sym (name_at-slice_get names at (chars bytes) e))

-- a test by bytes whether a name is that of list cells
pub named_dot : (names : List Name) (at : ℕ) (bytes : List ℕ) (found : Bool) → slice_get names at ≡ Some (chars bytes) → IsUtf8 bytes → found ≡ bytes_eq bytes (codes ".") → found ≡ names_eq (name_at names at) (codes ".")
unfolding chars is_utf8 lib.Utf8.encode
named_dot names at bytes found e u f = named names at bytes (codes ".") found e u refl refl f

-- a test by bytes whether a name is the empty list
pub named_empty_list : (names : List Name) (at : ℕ) (bytes : List ℕ) (found : Bool) → slice_get names at ≡ Some (chars bytes) → IsUtf8 bytes → found ≡ bytes_eq bytes (codes "[]") → found ≡ names_eq (name_at names at) (codes "[]")
unfolding chars is_utf8 lib.Utf8.encode
named_empty_list names at bytes found e u f = named names at bytes (codes "[]") found e u refl refl f

-- a test by bytes whether a name is that of terms in braces
pub named_braces : (names : List Name) (at : ℕ) (bytes : List ℕ) (found : Bool) → slice_get names at ≡ Some (chars bytes) → IsUtf8 bytes → found ≡ bytes_eq bytes (codes "{}") → found ≡ names_eq (name_at names at) (codes "{}")
unfolding chars is_utf8 lib.Utf8.encode
named_braces names at bytes found e u f = named names at bytes (codes "{}") found e u refl refl f

-- a test by bytes whether a name is that of conjunctions
pub named_comma : (names : List Name) (at : ℕ) (bytes : List ℕ) (found : Bool) → slice_get names at ≡ Some (chars bytes) → IsUtf8 bytes → found ≡ bytes_eq bytes (codes ",") → found ≡ names_eq (name_at names at) (codes ",")
unfolding chars is_utf8 lib.Utf8.encode
named_comma names at bytes found e u f = named names at bytes (codes ",") found e u refl refl f

-- ---- forms

-- what holds of each form that a term of one argument can have
pub unary-cases : (P : Form → Type 0) (f : Name) (o : Option Op) → P Braces → ((o : Op) → P (Prefix o)) → P Plain → P (unary_form f o)
unary-cases P f None braces prefix plain = by (names_eq f (codes "{}"))
  where
    by : (b : Bool) → P (if b then Braces else Plain)
    by true = braces
    by false = plain
unary-cases P f (Some o) braces prefix plain = by (names_eq f (codes "{}"))
  where
    by : (b : Bool) → P (if b then Braces else Prefix o)
    by true = braces
    by false = prefix o

-- the same for two arguments, beside whether the name is that of list cells
pub binary-cases : (P : Bool → Form → Type 0) (f : Name) (o : Option Op) → P true Listed → ((o : Op) → P false (Infix o)) → P false Plain → P (names_eq f (codes ".")) (binary_form f o)
binary-cases P f None listed infixed plain = by (names_eq f (codes "."))
  where
    by : (b : Bool) → P b (if b then Listed else Plain)
    by true = listed
    by false = plain
binary-cases P f (Some o) listed infixed plain = by (names_eq f (codes "."))
  where
    by : (b : Bool) → P b (if b then Listed else Infix o)
    by true = listed
    by false = infixed o

module _ (table : Table) (names : List Name) (bindings : Bindings) (cells : List Cell) where
  pub form-cell : (c : Cell) → form_of table (cell_term names bindings cells c) ≡ cell_form table names c
  form-cell (cell.Var number) = refl
  form-cell (cell.Int value) = refl
  form-cell (cell.Atom name) = refl
  form-cell (cell.Comp name first count) = by count
    where
      by : (n : ℕ) → form_of table (cell_term names bindings cells (cell.Comp name first n)) ≡ cell_form table names (cell.Comp name first n)
      by zero = refl
      by (suc zero) = refl
      by (suc (suc zero)) = refl
      by (suc (suc (suc n))) = refl

  operator-cell : (c : Cell) → is_operator_atom table (cell_term names bindings cells c) ≡ is_operator_cell table names c
  operator-cell (cell.Var number) = refl
  operator-cell (cell.Int value) = refl
  operator-cell (cell.Atom name) = refl
  operator-cell (cell.Comp name first count) = refl

  -- a term stands in parentheses exactly where its cell does
  pub closed-cell : (c : Cell) (position : Position) → closed table position (cell_term names bindings cells c) ≡ cell_closed table names c (cell_form table names c) position
  closed-cell c (Within max) = ap (λ f. nat_lt max (priority_by f)) (form-cell c)
  closed-cell c (Operand bound) =
      ap (λ b. b || nat_lt bound (priority_by (form_of table (cell_term names bindings cells c)))) (operator-cell c)
      ∙ ap (λ f. is_operator_cell table names c || nat_lt bound (priority_by f)) (form-cell c)
  closed-cell c (Left o) =
      ap (λ b. (b || nat_lt (left_bound o) (priority_by (form_of table (cell_term names bindings cells c)))) || (nat_eq (priority_by (form_of table (cell_term names bindings cells c))) o.0 && not (may_stand_left (form_of table (cell_term names bindings cells c))))) (operator-cell c)
      ∙ ap (λ f. (is_operator_cell table names c || nat_lt (left_bound o) (priority_by f)) || (nat_eq (priority_by f) o.0 && not (may_stand_left f))) (form-cell c)

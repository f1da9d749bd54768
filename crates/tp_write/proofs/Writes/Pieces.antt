-- The texts of pieces, and how much is left to do: what stands in place of a piece has its text, and less to do.
use Rattle.std.proofs.Common.{◌≡◌, ℕ, zero, suc, ◌+◌, Bool, true, false, List, [], ◌∷◌, ◌++◌, codes, refl, sym, ap, ◌∙◌, arith, append_assoc, append-nil, add-one, if◌then◌else◌}
use Rattle.tp_terms.specs.declared.cells.Cell.{Cell}
use Rattle.tp_terms.specs.declared.cells.Cell.TheVariants as cell
use Rattle.tp_terms.specs.declared.cells.Ref.{Ref}
use Rattle.tp_terms.specs.declared.cells.AtomId.{AtomId}
use Rattle.tp_terms.specs.Term.{Name, Term, Atom, Comp, NoMore, More, names_eq}
use Rattle.tp_terms.specs.Shown.{name_at}
use Rattle.tp_terms.specs.Binds.{Bindings}
use Rattle.tp_parse.specs.Table.{Op, Table, right_bound}
use Rattle.tp_write.specs.declared.pieces.Form.{Form}
use Rattle.tp_write.specs.declared.pieces.Form.TheVariants.{Infix}
use Rattle.tp_write.specs.declared.pieces.Position.{Position}
use Rattle.tp_write.specs.declared.pieces.Position.TheVariants.{Within, Operand, Left}
use Rattle.tp_write.specs.declared.pieces.Piece.{Piece}
use Rattle.tp_write.specs.declared.pieces.Piece.TheVariants as piece
use Rattle.tp_write.specs.Names.{name_text}
use Rattle.tp_write.specs.Text.{unary_text, binary_text, infix_name, in_parentheses, args_text, tail_text, written, all_written}
use Rattle.tp_write.specs.Under.{under}
use Rattle.tp_write.specs.Work.{unders, cell_term, cell_form, cell_closed, closed, piece_text, stack_text, piece_weight, stack_weight, infix_pieces, compound_pieces, alone_pieces, mark_if, term_pieces, args_pieces, tail_pieces, behind_pieces}
use Rattle.tp_write.proofs.Writes.Forms.{unary-cases, binary-cases, closed-cell}

module _ (table : Table) (names : List Name) (bindings : Bindings) (cells : List Cell) where
  abbrev texts : List Piece → List ℕ
  texts = stack_text table names bindings cells

  abbrev weights : List Piece → ℕ
  weights = stack_weight names bindings cells

  abbrev at_place : ℕ → Term
  at_place = under names bindings cells

  -- ---- stacks

  -- the text of two stacks, the upper of which comes first
  pub texts-append : (ps qs : List Piece) → texts (ps ++ qs) ≡ texts qs ++ texts ps
  unfolding stack_text
  texts-append [] qs = sym (append-nil (texts qs))
  texts-append (p ∷ ps) qs =
      ap (λ l. l ++ piece_text table names bindings cells p) (texts-append ps qs)
      ∙ append_assoc (texts qs) (texts ps) (piece_text table names bindings cells p)

  -- the weight of two stacks
  pub weights-append : (ps qs : List Piece) → weights (ps ++ qs) ≡ weights ps + weights qs
  unfolding stack_weight
  weights-append [] qs = omega arith
  weights-append (p ∷ ps) qs = let h = weights-append ps qs in omega arith

  -- the text of a stack of one piece
  pub texts-one : (p : Piece) → texts (p ∷ []) ≡ piece_text table names bindings cells p
  unfolding stack_text
  texts-one p = refl

  -- the weight of a stack of one piece
  pub weights-one : (p : Piece) → weights (p ∷ []) ≡ piece_weight names bindings cells p
  unfolding stack_weight
  weights-one p = omega arith

  texts-three : (p q r : Piece) → texts (p ∷ q ∷ r ∷ []) ≡ piece_text table names bindings cells r ++ (piece_text table names bindings cells q ++ piece_text table names bindings cells p)
  unfolding stack_text
  texts-three p q r = append_assoc (piece_text table names bindings cells r) (piece_text table names bindings cells q) (piece_text table names bindings cells p)

  texts-four : (p q r s : Piece) → texts (p ∷ q ∷ r ∷ s ∷ []) ≡ piece_text table names bindings cells s ++ (piece_text table names bindings cells r ++ (piece_text table names bindings cells q ++ piece_text table names bindings cells p))
  unfolding stack_text
  texts-four p q r s = simp append_assoc

  -- ---- the text of a cell

  infix-text : (name : AtomId) → texts (infix_pieces names name) ≡ infix_name (name_at names name.at)
  unfolding stack_text
  infix-text name = by (names_eq (name_at names name.at) (codes ","))
    where
      by : (b : Bool) → texts (if b then piece.Mark 44 ∷ [] else piece.Mark 32 ∷ piece.Name name ∷ piece.Mark 32 ∷ [])
          ≡ (if b then codes "," else codes " " ++ (name_text (name_at names name.at) ++ codes " "))
      by true = refl
      by false = refl

  infix-pieces-text : (o : Op) (name : AtomId) (first : Ref) (count : ℕ) →
      texts (compound_pieces names (Infix o) name first count)
      ≡ piece_text table names bindings cells (piece.Term first (Left o)) ++ (infix_name (name_at names name.at) ++ piece_text table names bindings cells (piece.Term (record { at = first.at + 1 }) (Operand (right_bound o))))
  unfolding stack_text
  infix-pieces-text o name first count =
      let right : List ℕ = piece_text table names bindings cells (piece.Term (record { at = first.at + 1 }) (Operand (right_bound o))) in
      let left : List ℕ = piece_text table names bindings cells (piece.Term first (Left o)) in
      ap (λ l. l ++ right) (texts-append (infix_pieces names name) (piece.Term first (Left o) ∷ []) ∙ ap (λ l. left ++ l) (infix-text name))
      ∙ append_assoc left (infix_name (name_at names name.at)) right

  unary-alone : (name : AtomId) (first : Ref) → texts (alone_pieces names (cell_form table names (cell.Comp name first 1)) (cell.Comp name first 1)) ≡ (written table (cell_term names bindings cells (cell.Comp name first 1))).alone
  unfolding written all_written
  unary-alone name first =
      let a : Term = at_place first.at in
      let P : Form → Type 0 = λ form. texts (compound_pieces names form name first 1) ≡ (unary_text table (name_at names name.at) a (written table a) form).alone in
      unary-cases P (name_at names name.at) (table.prefixes (name_at names name.at))
      (texts-three (piece.Mark 125) (piece.Term first (Within 1200)) (piece.Mark 123))
      (λ o. texts-three (piece.Term first (Operand (right_bound o))) (piece.Mark 32) (piece.Name name))
      (texts-four (piece.Mark 41) (piece.Args first 1) (piece.Mark 40) (piece.Name name))

  next : (first : ℕ) → at_place (first + 1) ≡ at_place (suc first)
  next first = ap at_place (add-one first)

  binary-alone : (name : AtomId) (first : Ref) → texts (alone_pieces names (cell_form table names (cell.Comp name first 2)) (cell.Comp name first 2)) ≡ (written table (cell_term names bindings cells (cell.Comp name first 2))).alone
  unfolding written all_written
  binary-alone name first =
      let a : Term = at_place first.at in
      let b : Term = at_place (suc first.at) in
      let f : Name = name_at names name.at in
      let P : Bool → Form → Type 0 = λ _ form. texts (compound_pieces names form name first 2) ≡ (binary_text table f a (written table a) b (written table b) form).alone in
      binary-cases P f (table.infixes f)
      (texts-four (piece.Mark 93) (piece.Behind (record { at = first.at + 1 })) (piece.Term first (Within 999)) (piece.Mark 91)
      ∙ ap (λ t. codes "[" ++ (piece_text table names bindings cells (piece.Term first (Within 999)) ++ ((written table t).behind ++ codes "]"))) (next first.at)
      ∙ ap (λ l. codes "[" ++ l) (sym (append_assoc (piece_text table names bindings cells (piece.Term first (Within 999))) (written table b).behind (codes "]"))))
      (λ o. infix-pieces-text o name first 2
      ∙ ap (λ t. piece_text table names bindings cells (piece.Term first (Left o)) ++ (infix_name f ++ in_parentheses (closed table (Operand (right_bound o)) t) (written table t).alone)) (next first.at))
      (texts-four (piece.Mark 41) (piece.Args first 2) (piece.Mark 40) (piece.Name name))

  pub alone-text : (c : Cell) → texts (alone_pieces names (cell_form table names c) c) ≡ (written table (cell_term names bindings cells c)).alone
  unfolding stack_text written all_written
  alone-text (cell.Var number) = refl
  alone-text (cell.Int value) = refl
  alone-text (cell.Atom name) = refl
  alone-text (cell.Comp name first count) = by count
    where
      by : (n : ℕ) → texts (alone_pieces names (cell_form table names (cell.Comp name first n)) (cell.Comp name first n)) ≡ (written table (cell_term names bindings cells (cell.Comp name first n))).alone
      by zero = texts-four (piece.Mark 41) (piece.Args first 0) (piece.Mark 40) (piece.Name name)
      by (suc zero) = unary-alone name first
      by (suc (suc zero)) = binary-alone name first
      by (suc (suc (suc n))) = texts-four (piece.Mark 41) (piece.Args first (suc (suc (suc n)))) (piece.Mark 40) (piece.Name name)

  in_marks : (b : Bool) (ps : List Piece) → texts (mark_if b 41 ++ (ps ++ mark_if b 40)) ≡ in_parentheses b (texts ps)
  unfolding stack_text
  in_marks true ps = ap (λ l. l ++ codes ")") (texts-append ps (piece.Mark 40 ∷ []))
  in_marks false ps = ap texts (append-nil ps)

  -- the pieces of a term have its text
  pub term-text : (c : Cell) (position : Position) → texts (term_pieces table names position c) ≡ in_parentheses (closed table position (cell_term names bindings cells c)) (written table (cell_term names bindings cells c)).alone
  term-text c position =
      in_marks (cell_closed table names c (cell_form table names c) position) (alone_pieces names (cell_form table names c) c)
      ∙ ap (in_parentheses (cell_closed table names c (cell_form table names c) position)) (alone-text c)
      ∙ ap (λ b. in_parentheses b (written table (cell_term names bindings cells c)).alone) (sym (closed-cell table names bindings cells c position))

  -- so have those of arguments
  pub args-text : (first : Ref) (n : ℕ) → texts (args_pieces first n) ≡ piece_text table names bindings cells (piece.Args first n)
  unfolding stack_text written all_written
  args-text first zero = refl
  args-text first (suc zero) = texts-one (piece.Term first (Within 999))
  args-text first (suc (suc n)) =
      texts-three (piece.Args (record { at = first.at + 1 }) (suc n)) (piece.Mark 44) (piece.Term first (Within 999))
      ∙ ap (λ k. piece_text table names bindings cells (piece.Term first (Within 999)) ++ (codes "," ++ args_text table (unders names bindings cells k (suc n)) (all_written table (unders names bindings cells k (suc n))))) (add-one first.at)

  -- and those of what follows an element
  abbrev tail_of : Term → List ℕ
  tail_of t = tail_text table t (written table t).alone

  tail-pieces-text : (at : Ref) → texts (tail_pieces at) ≡ tail_of (at_place at.at)
  unfolding stack_text
  tail-pieces-text at = refl

  unary-behind : (name : AtomId) (first : Ref) → (written table (cell_term names bindings cells (cell.Comp name first 1))).behind ≡ tail_of (cell_term names bindings cells (cell.Comp name first 1))
  unfolding written all_written
  unary-behind name first =
      let a : Term = at_place first.at in
      let f : Name = name_at names name.at in
      let P : Form → Type 0 = λ form. (unary_text table f a (written table a) form).behind ≡ tail_text table (Comp f (More a NoMore)) (unary_text table f a (written table a) form).alone in
      unary-cases P f (table.prefixes f) refl (λ o. refl) refl

  binary-behind : (name : AtomId) (at first : Ref) → at_place at.at ≡ cell_term names bindings cells (cell.Comp name first 2) → texts (behind_pieces names at (cell.Comp name first 2)) ≡ (written table (cell_term names bindings cells (cell.Comp name first 2))).behind
  unfolding written all_written
  binary-behind name at first same =
      let a : Term = at_place first.at in
      let b : Term = at_place (suc first.at) in
      let f : Name = name_at names name.at in
      let tail : texts (tail_pieces at) ≡ tail_of (Comp f (More a (More b NoMore))) = tail-pieces-text at ∙ ap tail_of same in
      let P : Bool → Form → Type 0 = λ e form.
      texts (tail_pieces at) ≡ tail_text table (Comp f (More a (More b NoMore))) (binary_text table f a (written table a) b (written table b) form).alone →
      texts (if e then piece.Behind (record { at = first.at + 1 }) ∷ piece.Term first (Within 999) ∷ piece.Mark 44 ∷ [] else tail_pieces at)
      ≡ (binary_text table f a (written table a) b (written table b) form).behind in
      binary-cases P f (table.infixes f)
      (λ _. texts-three (piece.Behind (record { at = first.at + 1 })) (piece.Term first (Within 999)) (piece.Mark 44)
      ∙ ap (λ t. codes "," ++ (piece_text table names bindings cells (piece.Term first (Within 999)) ++ (written table t).behind)) (next first.at))
      (λ o t. t)
      (λ t. t)
      tail

  -- the pieces of what follows an element have its text
  pub behind-text : (at : Ref) (c : Cell) → at_place at.at ≡ cell_term names bindings cells c → texts (behind_pieces names at c) ≡ (written table (cell_term names bindings cells c)).behind
  unfolding stack_text written all_written
  behind-text at (cell.Var number) same = tail-pieces-text at ∙ ap tail_of same
  behind-text at (cell.Int value) same = tail-pieces-text at ∙ ap tail_of same
  behind-text at (cell.Atom name) same = by (names_eq (name_at names name.at) (codes "[]"))
    where
      by : (b : Bool) → texts (if b then [] else tail_pieces at) ≡ (if b then [] else tail_of (Atom (name_at names name.at)))
      by true = refl
      by false = tail-pieces-text at ∙ ap tail_of same
  behind-text at (cell.Comp name first count) same = by count same
    where
      by : (n : ℕ) → at_place at.at ≡ cell_term names bindings cells (cell.Comp name first n) → texts (behind_pieces names at (cell.Comp name first n)) ≡ (written table (cell_term names bindings cells (cell.Comp name first n))).behind
      by zero e = tail-pieces-text at ∙ ap tail_of e
      by (suc zero) e = tail-pieces-text at ∙ ap tail_of e ∙ sym (unary-behind name first)
      by (suc (suc zero)) e = binary-behind name at first e
      by (suc (suc (suc n))) e = tail-pieces-text at ∙ ap tail_of e

-- A step of the work: what was added, and what the pieces that are left stand for.
use Rattle.std.proofs.Common.{◌≡◌, ℕ, ◌<◌, ◌^◌, List, [], ◌∷◌, ◌++◌, length, Option, None, Some, slice_get, chars, refl, sym, ap, subst, ◌∙◌, arith, append_assoc, append-nil}
use Rattle.std.specs.Prelude.{IsSome}
use Rattle.tp_terms.specs.declared.cells.Cell.{Cell}
use Rattle.tp_terms.specs.declared.cells.Cell.TheVariants as cell
use Rattle.tp_terms.specs.declared.cells.Ref.{Ref}
use Rattle.tp_terms.specs.declared.cells.AtomId.{AtomId}
use Rattle.tp_terms.specs.Term.{Name}
use Rattle.tp_terms.specs.Shown.{StandsBefore, AreNamed}
use Rattle.tp_terms.specs.Added.{Progress, AddsPrefix}
use Rattle.tp_terms.specs.Binds.{Bindings}
use Rattle.tp_terms.proofs.Texts.Added.{begins, goes, ends, stops_within}
use Rattle.tp_terms.proofs.Naming.Tables.{name_at-slice_get}
use Rattle.tp_parse.specs.Table.{Table}
use Rattle.tp_write.specs.declared.pieces.End.{End}
use Rattle.tp_write.specs.declared.pieces.Position.{Position}
use Rattle.tp_write.specs.declared.pieces.Position.TheVariants.{Within}
use Rattle.tp_write.specs.declared.pieces.Piece.{Piece}
use Rattle.tp_write.specs.declared.pieces.Piece.TheVariants as piece
use Rattle.tp_write.specs.Names.{name_text}
use Rattle.tp_write.specs.Text.{text, written, in_parentheses}
use Rattle.tp_write.specs.Under.{under}
use Rattle.tp_write.specs.Work.{closed, piece_text, stack_text, IsPiece, ArePieces, weigh, piece_weight, stack_weight, term_pieces, args_pieces, behind_pieces, Ends, own_text, Stepped}
use Rattle.tp_write.proofs.Writes.Pieces.{texts-append, weights-append, texts-one, weights-one, term-text, args-text, behind-text}
use Rattle.tp_write.proofs.Writes.Weights.{AreArgs, ArePieces-append, ArePieces-front, term-there, args-there, behind-there, term-weight, args-weight, behind-weight}

module _ (table : Table) (names : List Name) (bindings : Bindings) (cells : List Cell) where
  abbrev There : List Piece → Type 0
  There = ArePieces (length names) cells

  abbrev texts : List Piece → List ℕ
  texts = stack_text table names bindings cells

  abbrev weights : List Piece → ℕ
  weights = stack_weight names bindings cells

  abbrev Step : Piece → List Piece → List Piece → Type 0
  Step = Stepped table names bindings cells

  -- pieces stand in place of a piece
  expanded : (p : Piece) (old new ps : List Piece) → new ≡ old ++ ps → own_text names p ≡ [] → texts ps ≡ piece_text table names bindings cells p → There old → There ps → weights ps < piece_weight names bindings cells p → Step p old new
  expanded p old new ps e own t h k less = record {
    same =
        ap (λ l. l ++ texts old) (sym t)
        ∙ sym (texts-append table names bindings cells old ps)
        ∙ ap texts (sym e)
        ∙ ap (λ l. l ++ texts new) (sym own);
    pieces = subst There (sym e) (ArePieces-append (length names) cells old ps h k);
    smaller = let a = ap weights e in let b = weights-append table names bindings cells old ps in omega arith;
  }

  args-of : (at : ℕ) (end : End) → Ends bindings cells at end → end.place.at < 2 ^ 64 → (name : AtomId) (first : Ref) (n : ℕ) → end.cell ≡ cell.Comp name first n → AreArgs cells first.at n
  args-of at end ended small name first n e =
      let before : StandsBefore end.place.at (cell.Comp name first n) = subst (StandsBefore end.place.at) e ended.before in
      let some = before.0 in
      let most = before.1 in
      let there = ended.place in
      record { some = some; there = omega arith; small = omega arith }

  -- the pieces of a term stand in its place
  pub step-term : (p : Piece) (at : Ref) (position : Position) (end : End) (old new : List Piece) → p ≡ piece.Term at position → Ends bindings cells at.at end → end.place.at < 2 ^ 64 → AreNamed (length names) cells → There old → new ≡ old ++ term_pieces table names position end.cell → Step p old new
  step-term p at position end old new is ended small named h e =
      subst (λ q. Step q old new) (sym is)
      (expanded (piece.Term at position) old new (term_pieces table names position end.cell) e refl
      (term-text table names bindings cells end.cell position ∙ ap (λ t. in_parentheses (closed table position t) (written table t).alone) (sym (ended.same names)))
      h
      (term-there names cells table position end.cell (ended.named (length names) named) (args-of at.at end ended small))
      (let w = term-weight table names bindings cells position end.cell in let k = ap weigh (ended.same names) in omega arith))

  -- the pieces of what follows an element stand in its place
  pub step-behind : (p : Piece) (at : Ref) (end : End) (old new : List Piece) → p ≡ piece.Behind at → Ends bindings cells at.at end → end.place.at < 2 ^ 64 → There old → new ≡ old ++ behind_pieces names end.place end.cell → Step p old new
  step-behind p at end old new is ended small h e =
      subst (λ q. Step q old new) (sym is)
      (expanded (piece.Behind at) old new (behind_pieces names end.place end.cell) e refl
      (behind-text table names bindings cells end.place end.cell (ended.last names) ∙ ap (λ t. (written table t).behind) (sym (ended.same names)))
      h
      (behind-there names cells end.place end.cell ended.place (args-of at.at end ended small))
      (let w = behind-weight table names bindings cells end.place end.cell (ended.last names) in let k = ap weigh (ended.same names) in omega arith))

  -- the pieces of arguments stand in their place
  pub step-args : (p : Piece) (first : Ref) (n : ℕ) (old new : List Piece) → p ≡ piece.Args first n → IsPiece (length names) cells p → There old → new ≡ old ++ args_pieces first n → Step p old new
  step-args p first n old new is there h e =
      let k : IsPiece (length names) cells (piece.Args first n) = subst (IsPiece (length names) cells) is there in
      subst (λ q. Step q old new) (sym is)
      (expanded (piece.Args first n) old new (args_pieces first n) e refl
      (args-text table names bindings cells first n)
      h
      (args-there names cells first n (record { some = k.0; there = k.1; small = k.2 }))
      (args-weight table names bindings cells first n))

  -- a name is written by its bytes
  pub own-name : (p : Piece) (name : AtomId) (bytes : List ℕ) → p ≡ piece.Name name → slice_get names name.at ≡ Some (chars bytes) → name_text (chars bytes) ≡ own_text names p
  own-name p name bytes is at = ap name_text (sym (name_at-slice_get names name.at (chars bytes) at)) ∙ ap (own_text names) (sym is)

  -- the text of a piece begins with what a step adds for it
  own-first : (p : Piece) → (left : List ℕ) × (piece_text table names bindings cells p ≡ own_text names p ++ left)
  own-first (piece.Mark c) = ([], sym (append-nil (piece_text table names bindings cells (piece.Mark c))))
  own-first (piece.Name name) = ([], sym (append-nil (piece_text table names bindings cells (piece.Name name))))
  own-first (piece.Number n) = ([], sym (append-nil (piece_text table names bindings cells (piece.Number n))))
  own-first (piece.Integer z) = ([], sym (append-nil (piece_text table names bindings cells (piece.Integer z))))
  own-first (piece.Term at position) = (piece_text table names bindings cells (piece.Term at position), refl)
  own-first (piece.Args first n) = (piece_text table names bindings cells (piece.Args first n), refl)
  own-first (piece.Behind at) = (piece_text table names bindings cells (piece.Behind at), refl)

  -- ---- the whole work

  -- one piece is taken from the stack
  pub taken-pieces : (stack rest : List Piece) (p : Piece) → stack ≡ rest ++ p ∷ [] → There stack → There rest × IsPiece (length names) cells p
  taken-pieces stack rest p e h = let k = ArePieces-front (length names) cells rest (p ∷ []) (subst There e h) in (k.0, k.1.0)

  taken-text : (stack rest : List Piece) (p : Piece) → stack ≡ rest ++ p ∷ [] → texts stack ≡ piece_text table names bindings cells p ++ texts rest
  taken-text stack rest p e = ap texts e ∙ texts-append table names bindings cells rest (p ∷ []) ∙ ap (λ l. l ++ texts rest) (texts-one table names bindings cells p)

  -- a step leaves less to do
  pub work-smaller : (stack rest new : List Piece) (p : Piece) → stack ≡ rest ++ p ∷ [] → Step p rest new → weights new < weights stack
  work-smaller stack rest new p e s =
      let a = ap weights e in
      let b = weights-append table names bindings cells rest (p ∷ []) in
      let d = weights-one table names bindings cells p in
      let less = s.smaller in
      omega arith

  -- a step added what is its piece's own
  pub work-goes : (start before now whole : List ℕ) (stack rest new : List Piece) (p : Piece) → stack ≡ rest ++ p ∷ [] → now ≡ before ++ own_text names p → Step p rest new → Progress start before whole (texts stack) → Progress start now whole (texts new)
  work-goes start before now whole stack rest new p e a s progress =
      goes start before now whole (texts stack) (own_text names p) (texts new) progress (taken-text stack rest p e ∙ s.same) a

  -- a step added only a prefix of it
  pub work-stops : (start before now whole : List ℕ) (stack rest : List Piece) (p : Piece) → stack ≡ rest ++ p ∷ [] → AddsPrefix before now (own_text names p) → Progress start before whole (texts stack) → AddsPrefix start now whole
  work-stops start before now whole stack rest p e within progress =
      let own = own-first p in
      stops_within start before now whole (texts stack) (own_text names p) (own.0 ++ texts rest) progress
      (taken-text stack rest p e ∙ ap (λ l. l ++ texts rest) own.1 ∙ append_assoc (own_text names p) own.0 (texts rest))
      within

  -- at the beginning nothing was added, and the stack stands for the whole text
  pub work-begins : (out : List ℕ) (root : Ref) (max : ℕ) (stack : List Piece) → stack ≡ piece.Term root (Within max) ∷ [] → Progress out out (text table max (under names bindings cells root.at)) (texts stack)
  unfolding text
  work-begins out root max stack e =
      let same : texts stack ≡ text table max (under names bindings cells root.at) = ap texts e ∙ texts-one table names bindings cells (piece.Term root (Within max)) in
      subst (Progress out out (text table max (under names bindings cells root.at))) (sym same) (begins out out (text table max (under names bindings cells root.at)) refl)

  -- where the stack is empty, the whole text was added
  pub work-ends : (start now whole : List ℕ) (stack : List Piece) → stack ≡ [] → Progress start now whole (texts stack) → now ≡ start ++ whole
  unfolding stack_text
  work-ends start now whole stack e progress = ends start now whole (texts stack) progress (ap texts e)

is_some_not : (o : Option Piece) → IsSome o → ((x : Piece) → o ≡ Some x → ⊥) → ⊥
is_some_not None some h = absurd (cc)
is_some_not (Some x) some h = h x refl

-- a stack from which nothing could be taken is empty
pub nothing_left : (stack : List Piece) (n : ℕ) (o : Option Piece) → (0 < n → IsSome o) → ((x : Piece) → o ≡ Some x → ⊥) → n ≡ length stack → stack ≡ []
nothing_left [] n o some none e = refl
nothing_left (p ∷ stack) n o some none e = absurd (is_some_not o (some (omega arith)) none)

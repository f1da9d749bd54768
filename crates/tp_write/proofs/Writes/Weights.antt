-- What stands in place of a piece has less to do, and speaks of places that are there.
use Rattle.std.proofs.Common.{◌≡◌, ℕ, zero, suc, ◌+◌, ◌*◌, ◌<◌, ◌≤◌, ◌^◌, Bool, true, false, List, [], ◌∷◌, ◌++◌, length, codes, refl, ap, arith, add-one, if◌then◌else◌}
use Rattle.tp_terms.specs.declared.cells.Cell.{Cell}
use Rattle.tp_terms.specs.declared.cells.Cell.TheVariants as cell
use Rattle.tp_terms.specs.declared.cells.Ref.{Ref}
use Rattle.tp_terms.specs.declared.cells.AtomId.{AtomId}
use Rattle.tp_terms.specs.Term.{Name, Atom, names_eq}
use Rattle.tp_terms.specs.Shown.{name_at, IsNamed}
use Rattle.tp_terms.specs.Binds.{Bindings}
use Rattle.tp_parse.specs.Table.{Table}
use Rattle.tp_write.specs.declared.pieces.Form.{Form}
use Rattle.tp_write.specs.declared.pieces.Form.TheVariants.{Plain}
use Rattle.tp_write.specs.declared.pieces.Position.{Position}
use Rattle.tp_write.specs.declared.pieces.Position.TheVariants.{Within, Left}
use Rattle.tp_write.specs.declared.pieces.Piece.{Piece}
use Rattle.tp_write.specs.declared.pieces.Piece.TheVariants as piece
use Rattle.tp_write.specs.Under.{under}
use Rattle.tp_write.specs.Work.{unders, cell_term, cell_form, cell_closed, ArePieces, weigh, weigh_all, stack_weight, infix_pieces, compound_pieces, alone_pieces, mark_if, term_pieces, args_pieces, tail_pieces, behind_pieces}
use Rattle.tp_write.proofs.Writes.Forms.{unary-cases, binary-cases}
use Rattle.tp_write.proofs.Writes.Pieces.{weights-append}

-- ---- pieces that are there

-- the pieces of two stacks are there where those of each are
pub ArePieces-append : (n : ℕ) (cells : List Cell) (ps qs : List Piece) → ArePieces n cells ps → ArePieces n cells qs → ArePieces n cells (ps ++ qs)
ArePieces-append n cells [] qs h k = k
ArePieces-append n cells (p ∷ ps) qs h k = (h.0, ArePieces-append n cells ps qs h.1 k)

-- and those of each where the pieces of both are
pub ArePieces-front : (n : ℕ) (cells : List Cell) (ps qs : List Piece) → ArePieces n cells (ps ++ qs) → ArePieces n cells ps × ArePieces n cells qs
ArePieces-front n cells [] qs h = (tt, h)
ArePieces-front n cells (p ∷ ps) qs h = let k = ArePieces-front n cells ps qs h.1 in ((h.0, k.0), k.1)

-- the arguments of a compound are there
pub record AreArgs (cells : List Cell) (first n : ℕ) : Type 0 where
  pub some : 0 < n
  pub there : first + n ≤ length cells
  pub small : first + n < 2 ^ 64

mark_if-there : (n : ℕ) (cells : List Cell) (b : Bool) (c : ℕ) → ArePieces n cells (mark_if b c)
mark_if-there n cells true c = (tt, tt)
mark_if-there n cells false c = tt

module _ (names : List Name) (cells : List Cell) where
  abbrev There : List Piece → Type 0
  There = ArePieces (length names) cells

  infix-there : (name : AtomId) → name.at < length names → There (infix_pieces names name)
  infix-there name h = by (names_eq (name_at names name.at) (codes ","))
    where
      by : (b : Bool) → There (if b then piece.Mark 44 ∷ [] else piece.Mark 32 ∷ piece.Name name ∷ piece.Mark 32 ∷ [])
      by true = (tt, tt)
      by false = (tt, (h, (tt, tt)))

  tail-there : (at : Ref) → at.at < length cells → There (tail_pieces at)
  tail-there at h = (h, (tt, tt))

  plain-there : (name : AtomId) (first : Ref) (n : ℕ) → name.at < length names → AreArgs cells first.at n → There (compound_pieces names Plain name first n)
  plain-there name first n h a = (tt, ((a.some, a.there, a.small), (tt, (h, tt))))

  alone-there : (table : Table) (c : Cell) → IsNamed (length names) c → ((name : AtomId) (first : Ref) (n : ℕ) → c ≡ cell.Comp name first n → AreArgs cells first.at n) → There (alone_pieces names (cell_form table names c) c)
  alone-there table (cell.Var number) h args = (tt, (tt, tt))
  alone-there table (cell.Int value) h args = (tt, tt)
  alone-there table (cell.Atom name) h args = (h, tt)
  alone-there table (cell.Comp name first count) h args = by count (args name first count refl)
    where
      by : (n : ℕ) → AreArgs cells first.at n → There (alone_pieces names (cell_form table names (cell.Comp name first n)) (cell.Comp name first n))
      by zero a = plain-there name first 0 h a
      by (suc zero) a =
          let here : first.at < length cells = let t = a.there in omega arith in
          unary-cases (λ form. There (compound_pieces names form name first 1)) (name_at names name.at) (table.prefixes (name_at names name.at))
          (tt, (here, (tt, tt))) (λ o. (here, (tt, (h, tt)))) (plain-there name first 1 h a)
      by (suc (suc zero)) a =
          let here : first.at < length cells = let t = a.there in omega arith in
          let second : first.at + 1 < length cells = let t = a.there in omega arith in
          binary-cases (λ _ form. There (compound_pieces names form name first 2)) (name_at names name.at) (table.infixes (name_at names name.at))
          (tt, (second, (here, (tt, tt))))
          (λ o. (second, ArePieces-append (length names) cells (infix_pieces names name) (piece.Term first (Left o) ∷ []) (infix-there name h) (here, tt)))
          (plain-there name first 2 h a)
      by (suc (suc (suc n))) a = plain-there name first (suc (suc (suc n))) h a

  -- the pieces of a term are there
  pub term-there : (table : Table) (position : Position) (c : Cell) → IsNamed (length names) c → ((name : AtomId) (first : Ref) (n : ℕ) → c ≡ cell.Comp name first n → AreArgs cells first.at n) → There (term_pieces table names position c)
  term-there table position c h args =
      let needed : Bool = cell_closed table names c (cell_form table names c) position in
      ArePieces-append (length names) cells (mark_if needed 41) (alone_pieces names (cell_form table names c) c ++ mark_if needed 40) (mark_if-there (length names) cells needed 41)
      (ArePieces-append (length names) cells (alone_pieces names (cell_form table names c) c) (mark_if needed 40) (alone-there table c h args) (mark_if-there (length names) cells needed 40))

  -- the pieces of arguments are there
  pub args-there : (first : Ref) (n : ℕ) → AreArgs cells first.at n → There (args_pieces first n)
  args-there first zero a = tt
  args-there first (suc zero) a = let t = a.there in (omega arith, tt)
  args-there first (suc (suc n)) a = let t = a.there in let s = a.small in ((omega arith, omega arith, omega arith), (tt, (omega arith, tt)))

  -- the pieces of what follows an element are there
  pub behind-there : (at : Ref) (c : Cell) → at.at < length cells → ((name : AtomId) (first : Ref) (n : ℕ) → c ≡ cell.Comp name first n → AreArgs cells first.at n) → There (behind_pieces names at c)
  behind-there at (cell.Var number) h args = tail-there at h
  behind-there at (cell.Int value) h args = tail-there at h
  behind-there at (cell.Atom name) h args = by (names_eq (name_at names name.at) (codes "[]"))
    where
      by : (b : Bool) → There (if b then [] else tail_pieces at)
      by true = tt
      by false = tail-there at h
  behind-there at (cell.Comp name first count) h args = by count (args name first count refl)
    where
      pair : AreArgs cells first.at 2 → (b : Bool) → There (if b then piece.Behind (record { at = first.at + 1 }) ∷ piece.Term first (Within 999) ∷ piece.Mark 44 ∷ [] else tail_pieces at)
      pair a true = let t = a.there in (omega arith, (omega arith, (tt, tt)))
      pair a false = tail-there at h

      by : (n : ℕ) → AreArgs cells first.at n → There (behind_pieces names at (cell.Comp name first n))
      by zero a = tail-there at h
      by (suc zero) a = tail-there at h
      by (suc (suc zero)) a = pair a (names_eq (name_at names name.at) (codes "."))
      by (suc (suc (suc n))) a = tail-there at h

-- ---- less to do

module _ (table : Table) (names : List Name) (bindings : Bindings) (cells : List Cell) where
  abbrev weights : List Piece → ℕ
  weights = stack_weight names bindings cells

  abbrev weight_at : ℕ → ℕ
  weight_at at = weigh (under names bindings cells at)

  weight-next : (first : ℕ) → weight_at (first + 1) ≡ weight_at (suc first)
  weight-next first = ap weight_at (add-one first)

  mark_if-weight : (b : Bool) (c : ℕ) → weights (mark_if b c) ≤ 1
  unfolding stack_weight
  mark_if-weight true c = omega arith
  mark_if-weight false c = omega arith

  infix-weight : (name : AtomId) → weights (infix_pieces names name) ≤ 3
  unfolding stack_weight
  infix-weight name = by (names_eq (name_at names name.at) (codes ","))
    where
      by : (b : Bool) → weights (if b then piece.Mark 44 ∷ [] else piece.Mark 32 ∷ piece.Name name ∷ piece.Mark 32 ∷ []) ≤ 3
      by true = omega arith
      by false = omega arith

  -- how much the arguments of a compound weigh
  abbrev args_weight : ℕ → ℕ → ℕ
  args_weight first n = weigh_all (unders names bindings cells first n)

  plain-weight : (name : AtomId) (first : Ref) (n : ℕ) → weights (compound_pieces names Plain name first n) ≤ 8 * (1 + args_weight first.at n) + 1
  unfolding stack_weight
  plain-weight name first n = omega arith

  alone-weight : (c : Cell) → weights (alone_pieces names (cell_form table names c) c) ≤ 8 * weigh (cell_term names bindings cells c) + 1
  unfolding stack_weight
  alone-weight (cell.Var number) = omega arith
  alone-weight (cell.Int value) = omega arith
  alone-weight (cell.Atom name) = omega arith
  alone-weight (cell.Comp name first count) = by count
    where
      by : (n : ℕ) → weights (alone_pieces names (cell_form table names (cell.Comp name first n)) (cell.Comp name first n)) ≤ 8 * (1 + args_weight first.at n) + 1
      by zero = plain-weight name first 0
      by (suc zero) =
          let P : Form → Type 0 = λ form. weights (compound_pieces names form name first 1) ≤ 8 * (1 + args_weight first.at 1) + 1 in
          unary-cases P (name_at names name.at) (table.prefixes (name_at names name.at))
          (omega arith) (λ o. omega arith) (plain-weight name first 1)
      by (suc (suc zero)) =
          let P : Bool → Form → Type 0 = λ _ form. weights (compound_pieces names form name first 2) ≤ 8 * (1 + args_weight first.at 2) + 1 in
          let e = weight-next first.at in
          binary-cases P (name_at names name.at) (table.infixes (name_at names name.at))
          (omega arith)
          (λ o. let h = weights-append table names bindings cells (infix_pieces names name) (piece.Term first (Left o) ∷ []) in let k = infix-weight name in omega arith)
          (plain-weight name first 2)
      by (suc (suc (suc n))) = plain-weight name first (suc (suc (suc n)))

  -- the pieces of a term have less to do than the term
  pub term-weight : (position : Position) (c : Cell) → weights (term_pieces table names position c) < 8 * weigh (cell_term names bindings cells c) + 4
  term-weight position c =
      let needed : Bool = cell_closed table names c (cell_form table names c) position in
      let alone : List Piece = alone_pieces names (cell_form table names c) c in
      let h = weights-append table names bindings cells (mark_if needed 41) (alone ++ mark_if needed 40) in
      let k = weights-append table names bindings cells alone (mark_if needed 40) in
      let left = mark_if-weight needed 41 in
      let right = mark_if-weight needed 40 in
      let middle = alone-weight c in
      omega arith

  -- the pieces of arguments have less to do than the arguments
  pub args-weight : (first : Ref) (n : ℕ) → weights (args_pieces first n) < 8 * args_weight first.at n + 1
  unfolding stack_weight
  args-weight first zero = omega arith
  args-weight first (suc zero) = omega arith
  args-weight first (suc (suc n)) =
      let e : args_weight (first.at + 1) (suc n) ≡ args_weight (suc first.at) (suc n) = ap (λ k. args_weight k (suc n)) (add-one first.at) in
      omega arith

  tail-weight : (at : Ref) → weights (tail_pieces at) < 8 * weight_at at.at + 6
  unfolding stack_weight
  tail-weight at = omega arith

  -- the pieces of what follows an element have less to do than that
  pub behind-weight : (at : Ref) (c : Cell) → under names bindings cells at.at ≡ cell_term names bindings cells c → weights (behind_pieces names at c) < 8 * weigh (cell_term names bindings cells c) + 6
  unfolding stack_weight
  behind-weight at (cell.Var number) same = let h = tail-weight at in let e = ap weigh same in omega arith
  behind-weight at (cell.Int value) same = let h = tail-weight at in let e = ap weigh same in omega arith
  behind-weight at (cell.Atom name) same = by (names_eq (name_at names name.at) (codes "[]"))
    where
      by : (b : Bool) → weights (if b then [] else tail_pieces at) < 8 * weigh (Atom (name_at names name.at)) + 6
      by true = omega arith
      by false = let h = tail-weight at in let e = ap weigh same in omega arith
  behind-weight at (cell.Comp name first count) same = by count same
    where
      tail : (n : ℕ) → under names bindings cells at.at ≡ cell_term names bindings cells (cell.Comp name first n) → weights (tail_pieces at) < 8 * (1 + args_weight first.at n) + 6
      tail n e = let h = tail-weight at in let k = ap weigh e in omega arith

      pair : under names bindings cells at.at ≡ cell_term names bindings cells (cell.Comp name first 2) → (b : Bool) →
          weights (if b then piece.Behind (record { at = first.at + 1 }) ∷ piece.Term first (Within 999) ∷ piece.Mark 44 ∷ [] else tail_pieces at) < 8 * (1 + args_weight first.at 2) + 6
      pair e true = let k = weight-next first.at in omega arith
      pair e false = tail 2 e

      by : (n : ℕ) → under names bindings cells at.at ≡ cell_term names bindings cells (cell.Comp name first n) → weights (behind_pieces names at (cell.Comp name first n)) < 8 * (1 + args_weight first.at n) + 6
      by zero e = tail 0 e
      by (suc zero) e = tail 1 e
      by (suc (suc zero)) e = pair e (names_eq (name_at names name.at) (codes "."))
      by (suc (suc (suc n))) e = tail (suc (suc (suc n))) e

-- Parts of a term's written form are read as its tree, whatever follows that doesn't join them.
use Rattle.std.proofs.Common.{◌≡◌, ◌≢◌, ℕ, zero, suc, ◌<◌, ◌≤◌, max, Bool, true, false, not, ◌&&◌, ◌||◌, nat_eq, nat_lt, List, ◌∷◌, Option, Some, None, is_some, refl, arith, ◌⊎◌, inr}
use Rattle.tp_terms.specs.Term.{Name, Term, Terms, Atom, NoMore, More}
use Rattle.tp_lex.specs.Tokens.{Lexed}
use Rattle.tp_lex.specs.declared.token.TokenKind.TheVariants as kind
use Rattle.tp_parse.specs.declared.table.OpType.{OpType}
use Rattle.tp_parse.specs.declared.table.OpType.TheVariants.{Xfx, Xfy, Yfx, Fy, Fx}
use Rattle.tp_parse.specs.Tree.{Tree, list_cell}
use Rattle.tp_parse.specs.Table.{Op, Table, left_bound, right_bound}
use Rattle.tp_parse.specs.Ahead.{opens_directly, is_integer_directly, infix_ahead, is_atom_before}
use Rattle.tp_parse.specs.Grammar.{Reads, whole, parentheses, Elements, Goes, no_operator, above_bound}
use Rattle.tp_write.specs.Text.{Form, Infix, Prefix, form_of, priority_by, priority, is_operator_atom, may_stand_left, operand_closed, left_closed}
use Rattle.tp_write.specs.Back.{Depths, enclosed_depth, depth_within}
use Rattle.tp_write.proofs.ReadsBack.Pieces.{Stand, Spaced, Directly, Piece, Places, Part, Parts, laid, mark, enclosed, within_part, tree_of}
use Rattle.tp_write.proofs.ReadsBack.Parsed.Ends.{Ends, Delimits, Closes, Starts, none_some, ends_of, close_closes}

-- what the last operand of a form may take up behind it
abbrev pub open_right_by : Form → ℕ
open_right_by (Infix o) = right_bound o
open_right_by (Prefix o) = right_bound o
open_right_by form = 0

-- what the last operand of a term may take up behind it
abbrev pub open_right : Table → Term → ℕ
open_right ops t = open_right_by (form_of ops t)

-- A part of priority q and depth d is read as the term's tree; behind it nothing of a priority up to the limit is taken up.
pub record Back (ops : Table) (at : Places) (t : Term) (q limit d : ℕ) (p : Part) : Type 0 where
  pub deep : 1 ≤ d
  pub low : (limit ≤ q) × (q ≤ 1200)
  pub reads : (m b : ℕ) (s : Stand) (more : List Piece) (us : List Lexed) (u : Tree) (r : ℕ) → d ≤ suc m → q ≤ b → Ends ops t limit (laid at more) →
      Goes ops m b (tree_of t) q (laid at more) u r us → Reads ops (suc m) b (laid at (p s more)) u r us
  pub starts : is_operator_atom ops t ≡ false → (more : List Piece) → Starts ops (laid at (p Spaced more))

-- a term's pieces without parentheses are read as its tree
abbrev pub BackOf : Table → Places → Term → ℕ → Part → Type 0
BackOf ops at t d p = Back ops at t (priority ops t) (open_right ops t) d p

-- what follows an element is read as the rest of the list
pub record Behind (ops : Table) (at : Places) (t : Term) (d : ℕ) (behind : List Piece → List Piece) : Type 0 where
  pub delimits : (more : List Piece) → Delimits ops (laid at (behind (mark Directly kind.CloseList 93 ∷ more)))
  pub elements : (m q : ℕ) (h : Tree) (ts : List Lexed) (more : List Piece) → d ≤ m → Reads ops m 999 ts h q (laid at (behind (mark Directly kind.CloseList 93 ∷ more))) → Elements ops m ts (list_cell h (tree_of t)) (laid at more)

-- both of a term
pub record Both (ops : Table) (at : Places) (t : Term) (ds : Depths) (ps : Parts) : Type 0 where
  pub alone : BackOf ops at t ds.alone ps.alone
  pub behind : Behind ops at t ds.behind ps.behind

-- so are those of each argument
abbrev pub EachBoth : Table → Places → Terms → List Depths → List Parts → Type 0
EachBoth ops at NoMore ds ps = Unit {0}
EachBoth ops at (More t ts) (d ∷ ds) (p ∷ ps) = Both ops at t d p × EachBoth ops at ts ds ps
EachBoth ops at (More t ts) ds ps = ⊥

-- ---- in parentheses

-- nothing goes on behind a term whose bound is below the next operator
pub stops : (ops : Table) (m k : ℕ) (x : Tree) (q : ℕ) (rest : List Lexed) → ((f : Name) (o : Op) → infix_ahead ops rest ≡ Some (f, o) → k < o.0) → Goes ops m k x q rest x q rest
stops ops m k x q rest h = go (infix_ahead ops rest) refl
  where
    go : (o : Option (Name × Op)) → infix_ahead ops rest ≡ o → Goes ops m k x q rest x q rest
    go None e = no_operator e
    go (Some fo) e = above_bound {f = fo.0} {o = fo.1} e (h fo.0 fo.1 e)

-- a term in parentheses is read as its tree
pub bracketed : (ops : Table) (at : Places) (t : Term) (d : ℕ) (p : Part) → BackOf ops at t d p → (m b : ℕ) (s : Stand) (more : List Piece) (us : List Lexed) (u : Tree) (r : ℕ) → d ≤ m →
    Goes ops m b (tree_of t) 0 (laid at more) u r us → Reads ops (suc m) b (laid at (enclosed true p s more)) u r us
bracketed ops at t d p k zero b s more us u r l g = let a = k.deep in absurd (omega arith)
bracketed ops at t d p k (suc m) b s more us u r l g =
    let closing = mark Directly kind.Close 41 ∷ more in
    let c = close_closes ops at more in
    let inner = k.reads m 1200 Directly closing (laid at closing) (tree_of t) (priority ops t) l k.low.1 (ends_of ops t (open_right ops t) (laid at closing) c) (no_operator c.next) in
    whole (parentheses refl inner refl) g

-- an operand, an argument or an element, up to what it doesn't take
pub inner : (ops : Table) (at : Places) (t : Term) (d : ℕ) (p : Part) → BackOf ops at t d p → (k : ℕ) (w : Bool) → (w ≡ false → priority ops t ≤ k) → (m : ℕ) (s : Stand) (more : List Piece) → enclosed_depth w d ≤ m →
    opens_directly (laid at more) ≡ false → is_integer_directly (laid at more) ≡ false → ((f : Name) → t ≡ Atom f → w ≡ false → (ops.prefixes f ≡ None) ⊎ (is_atom_before ops (laid at more) ≡ true)) →
    ((f : Name) (o : Op) → infix_ahead ops (laid at more) ≡ Some (f, o) → k < o.0) → (q : ℕ) × Reads ops m k (laid at (enclosed w p s more)) (tree_of t) q (laid at more)
inner ops at t d p back k true low zero s more l call sign alone next = absurd (omega arith)
inner ops at t d p back k true low (suc m) s more l call sign alone next = (0, bracketed ops at t d p back m k s more (laid at more) (tree_of t) 0 (omega arith) (stops ops m k (tree_of t) 0 (laid at more) next))
inner ops at t d p back k false low zero s more l call sign alone next = let a = back.deep in absurd (omega arith)
inner ops at t d p back k false low (suc m) s more l call sign alone next = (
  priority ops t,
  back.reads m k s more (laid at more) (tree_of t) (priority ops t) l (low refl)
      (record { call = call; sign = sign; alone = λ f e. alone f e refl; next = λ f o e. let a = next f o e in let c = back.low.0 in let z = low refl in omega arith })
      (stops ops m k (tree_of t) (priority ops t) (laid at more) next),
)

pub not_above : (max q : ℕ) → nat_lt max q ≡ false → q ≤ max
not_above max q e = grind arith

-- an argument or an element
pub delimited : (ops : Table) (at : Places) (t : Term) (d : ℕ) (p : Part) → BackOf ops at t d p → (m : ℕ) (s : Stand) (more : List Piece) → depth_within ops 999 t d ≤ m → Delimits ops (laid at more) →
    (q : ℕ) × Reads ops m 999 (laid at (within_part ops 999 t p s more)) (tree_of t) q (laid at more)
delimited ops at t d p back m s more l e =
    inner ops at t d p back 999 (nat_lt 999 (priority ops t)) (not_above 999 (priority ops t)) m s more l e.call e.sign (λ f same w. inr e.atom) e.next

-- a term between brackets that close it
pub closed : (ops : Table) (at : Places) (t : Term) (d : ℕ) (p : Part) → BackOf ops at t d p → (m : ℕ) (s : Stand) (more : List Piece) → depth_within ops 1200 t d ≤ m → Closes ops (laid at more) →
    (q : ℕ) × Reads ops m 1200 (laid at (within_part ops 1200 t p s more)) (tree_of t) q (laid at more)
closed ops at t d p back m s more l e =
    inner ops at t d p back 1200 (nat_lt 1200 (priority ops t)) (not_above 1200 (priority ops t)) m s more l e.call e.sign (λ f same w. inr e.atom) (λ f o i. absurd (none_some (infix_ahead ops (laid at more)) (f, o) e.next i))

-- ---- operands

pub or_false : (a b : Bool) → (a || b) ≡ false → (a ≡ false) × (b ≡ false)
or_false true b e = cc
or_false false b e = (refl, e)

-- an operand without parentheses is no operator's name, and fits
pub unclosed : (ops : Table) (bound : ℕ) (t : Term) → operand_closed ops bound t ≡ false → (is_operator_atom ops t ≡ false) × (priority ops t ≤ bound)
unclosed ops bound t e = let p = or_false (is_operator_atom ops t) (nat_lt bound (priority ops t)) e in (p.0, not_above bound (priority ops t) p.1)

-- an atom that is no operator has no entry in the table
pub no_entry : (ops : Table) (f : Name) → is_operator_atom ops (Atom f) ≡ false → (ops.prefixes f ≡ None) × (ops.infixes f ≡ None)
no_entry ops f e = let p = or_false (is_some (ops.prefixes f)) (is_some (ops.infixes f)) e in (none-of (ops.prefixes f) p.0, none-of (ops.infixes f) p.1)
  where
    none-of : {A : Type 0} (o : Option A) → is_some o ≡ false → o ≡ None
    none-of None e = refl
    none-of (Some x) e = cc

left_by_low : (k : OpType) (p : ℕ) → left_bound (p, k) ≤ p
left_by_low Xfx p = omega arith
left_by_low Xfy p = omega arith
left_by_low Yfx p = omega arith
left_by_low Fy p = omega arith
left_by_low Fx p = omega arith

right_by_low : (k : OpType) (p : ℕ) → right_bound (p, k) ≤ p
right_by_low Xfx p = omega arith
right_by_low Xfy p = omega arith
right_by_low Yfx p = omega arith
right_by_low Fy p = omega arith
right_by_low Fx p = omega arith

-- a left operand's bound is at most the operator's priority
pub left_bound_low : (o : Op) → left_bound o ≤ o.0
left_bound_low o = left_by_low o.1 o.0

-- a right operand's bound is at most the operator's priority
pub right_bound_low : (o : Op) → right_bound o ≤ o.0
right_bound_low o = right_by_low o.1 o.0

-- a term that may stand left of an operator of its own priority leaves the operator alone
left_leaves : (form : Form) → may_stand_left form ≡ true → 0 < priority_by form → open_right_by form < priority_by form
left_leaves (Infix (p, Yfx)) e h = omega arith
left_leaves (Infix (p, Xfx)) e h = omega arith
left_leaves (Prefix (p, Fx)) e h = omega arith
left_leaves form e h = cc

-- a left operand without parentheses fits, and leaves the operator alone
pub left_unclosed : (ops : Table) (o : Op) (t : Term) → 0 < o.0 → open_right ops t ≤ priority ops t → left_closed ops o t ≡ false →
    (is_operator_atom ops t ≡ false) × (priority ops t ≤ left_bound o) × (open_right ops t < o.0)
left_unclosed ops o t above low e =
    let p = or_false (operand_closed ops (left_bound o) t) (nat_eq (priority ops t) o.0 && not (may_stand_left (form_of ops t))) e in
    let u = unclosed ops (left_bound o) t p.0 in
    (u.0, u.1, go (nat_eq (priority ops t) o.0) refl (may_stand_left (form_of ops t)) refl p.1 u.1)
  where
    go : (a : Bool) → nat_eq (priority ops t) o.0 ≡ a → (b : Bool) → may_stand_left (form_of ops t) ≡ b → (a && not b) ≡ false → priority ops t ≤ left_bound o → open_right ops t < o.0
    go true e true may h fits =
        let same : priority ops t ≡ o.0 = grind arith in
        let some : 0 < priority ops t = omega arith in
        let k = left_leaves (form_of ops t) may some in
        omega arith
    go true e false may h fits = cc
    go false e b may h fits =
        let other : priority ops t ≢ o.0 = grind arith in
        let bound = left_bound_low o in
        omega arith

-- Each form of a term's written form is read as its tree.
use Rattle.std.proofs.Common.{◌≡◌, ℕ, zero, suc, ◌+◌, ◌<◌, ◌≤◌, max, ℤ, pos, negsuc, Bool, true, false, List, [], ◌∷◌, Option, Some, None, refl, sym, ap, subst, ◌∙◌, arith, ◌⊎◌, inl, inr, codes, le_trans}
use Rattle.std.proofs.Math.Nat.{le-max_left, le-max_right}
use Rattle.tp_terms.specs.Term.{Name, Term, Terms, Var, Int, Atom, Comp, NoMore, More, names_eq, count_of}
use Rattle.tp_terms.proofs.Texts.Equal.{names_eq-true}
use Rattle.tp_lex.specs.Tokens.{Lexed}
use Rattle.tp_lex.specs.declared.token.TokenKind.TheVariants as kind
use Rattle.tp_parse.specs.Tree.{Tree}
use Rattle.tp_parse.specs.Table.{Op, Table, left_bound, right_bound}
use Rattle.tp_parse.specs.Ahead.{opens_directly, is_integer_directly, is_minus, infix_ahead, is_atom_before}
use Rattle.tp_parse.specs.Grammar.{IsOtherName, Reads, whole, Begins, integer, variable, empty_brackets, empty_braces, list, braces, compound, negative, operator_as_atom, operator, atom, last_element, more_elements, element_and_tail, Arguments, last_argument, more_arguments, Goes, infix_part}
use Rattle.tp_write.specs.Text.{priority, is_operator_atom, operand_closed, left_closed}
use Rattle.tp_write.specs.Back.{IsInteger64, Depths, enclosed_depth, depth_within, args_depth, left_depth, right_depth}
use Rattle.tp_write.proofs.ReadsBack.Pieces as pieces
use Rattle.tp_write.proofs.ReadsBack.Pieces.{Stand, First, Spaced, Directly, Piece, Places, Part, Parts, token, laid, mark, word, number, minus_sign, integer_part, enclosed, within_part, atom_by, infix_by, left_part, right_part, prefix_part, args_part, call_part, tail_part, list_parts, in_braces, tree_of, trees_of}
use Rattle.tp_write.proofs.ReadsBack.Parsed.Ends.{IsTable, Ends, Starts, none_some, some-of, delimits_of, close_closes, close_list_closes, close_curly_closes, bar_closes, comma_delimits, and_false, word_is_name, name_starts, open_starts, open_list_starts, open_curly_starts, number_starts, negative_starts, prefix_alone, no_infix_alone, opens_not_alone, infix_token}
use Rattle.tp_write.proofs.ReadsBack.Parsed.Parts.{open_right, Back, BackOf, Behind, EachBoth, bracketed, inner, delimited, closed, unclosed, no_entry, left_bound_low, right_bound_low, left_unclosed}

-- ---- arguments

pub args_back : (ops : Table) → IsTable ops → (at : Places) (ts : Terms) (ds : List Depths) (ps : List Parts) → EachBoth ops at ts ds ps → (m n : ℕ) (more : List Piece) → args_depth ops ts ds ≤ m → 1 ≤ count_of ts → count_of ts ≤ n →
    Arguments ops m n (laid at (args_part ops ts ps (mark Directly kind.Close 41 ∷ more))) (trees_of ts) (laid at more)
args_back ops tab at NoMore ds ps h m n more l c b = absurd (omega arith)
args_back ops tab at (More t ts) [] ps h m n more l c b = absurd h
args_back ops tab at (More t ts) (d ∷ ds) [] h m n more l c b = absurd h
args_back ops tab at (More t NoMore) (d ∷ ds) (p ∷ ps) h m zero more l c b = absurd (omega arith)
args_back ops tab at (More t NoMore) (d ∷ ds) (p ∷ ps) h m (suc n) more l c b =
    let fits : depth_within ops 999 t d.alone ≤ m = le_trans (le-max_left (depth_within ops 999 t d.alone) 0) l in
    let closing = mark Directly kind.Close 41 ∷ more in
    last_argument (delimited ops at t d.alone p.alone (h.0).alone m Directly closing fits (delimits_of ops (laid at closing) (close_closes ops at more))).1 refl
args_back ops tab at (More t (More u us)) (d ∷ ds) (p ∷ ps) h m zero more l c b = absurd (omega arith)
args_back ops tab at (More t (More u us)) (d ∷ ds) (p ∷ ps) h m (suc zero) more l c b = absurd (omega arith)
args_back ops tab at (More t (More u us)) (d ∷ ds) (p ∷ ps) h m (suc (suc n)) more l c b =
    let fits : depth_within ops 999 t d.alone ≤ m = le_trans (le-max_left (depth_within ops 999 t d.alone) (args_depth ops (More u us) ds)) l in
    let others : args_depth ops (More u us) ds ≤ m = le_trans (le-max_right (depth_within ops 999 t d.alone) (args_depth ops (More u us) ds)) l in
    let rest = args_part ops (More u us) ps (mark Directly kind.Close 41 ∷ more) in
    more_arguments (delimited ops at t d.alone p.alone (h.0).alone m Directly (mark Directly kind.Comma 44 ∷ rest) fits (comma_delimits ops tab at rest)).1 refl
    (args_back ops tab at (More u us) ds ps h.1 m (suc n) more others (omega arith) (omega arith))

-- a compound with its arguments in parentheses
pub call_back : (ops : Table) → IsTable ops → (at : Places) (f : Name) (ts : Terms) (ds : List Depths) (ps : List Parts) → EachBoth ops at ts ds ps → 1 ≤ count_of ts → count_of ts ≤ 255 →
    Back ops at (Comp f ts) 0 0 (args_depth ops ts ds + 1) (call_part ops f ts ps)
call_back ops tab at f ts ds ps h c b = record {
  deep = omega arith;
  low = (omega arith, omega arith);
  reads = λ k bound s more us u r l fits e g. whole (compound (word_is_name s f) refl refl (args_back ops tab at ts ds ps h k 255 more (omega arith) c b)) g;
  starts = λ e more. name_starts ops _ _ (word_is_name Spaced f) (opens_not_alone ops f);
}

-- ---- operators

-- a name that what follows makes no compound and no sign of an integer
pub other_name : (at : Places) (s : Stand) (f : Name) (more : List Piece) → opens_directly (laid at more) ≡ false → is_integer_directly (laid at more) ≡ false → IsOtherName (token at (word s f) more) (laid at more)
other_name at s f more call sign = record { name = word_is_name s f; no_compound = call; no_sign = and_false (is_minus (token at (word s f) more)) (is_integer_directly (laid at more)) sign }

-- a prefix operator and its operand
pub prefix_back : (ops : Table) → IsTable ops → (at : Places) (f : Name) (a : Term) (d : ℕ) (p : Part) → BackOf ops at a d p → (o : Op) → ops.prefixes f ≡ Some o →
    Back ops at (Comp f (More a NoMore)) o.0 (right_bound o) (right_depth ops o a d) (prefix_part ops o f a p)
prefix_back ops tab at f a d p back o is =
    let w = operand_closed ops (right_bound o) a in
    record {
      deep = omega arith;
      low = (right_bound_low o, (tab.prefixes f o is).1);
      reads = λ m b s more us u r l fits e g.
          let operand = starts_operand more in
          let read = inner ops at a d p back (right_bound o) w (λ z. (unclosed ops (right_bound o) a z).1) m Spaced more (omega arith) e.call e.sign
          (λ k same z. inl (no_entry ops k (subst (λ t. is_operator_atom ops t ≡ false) same (unclosed ops (right_bound o) a z).0)).0) e.next in
          whole (operator (other_name at s f (right_part ops o a p Spaced more) operand.call operand.sign) is operand.atom fits read.1) g;
      starts = λ e more. name_starts ops _ _ (word_is_name Spaced f) (prefix_alone ops f o _ is);
    }
  where
    by : (w : Bool) → (w ≡ false → is_operator_atom ops a ≡ false) → (more : List Piece) → Starts ops (laid at (enclosed w p Spaced more))
    by true h more = open_starts ops at _
    by false h more = back.starts (h refl) more

    starts_operand : (more : List Piece) → Starts ops (laid at (right_part ops o a p Spaced more))
    starts_operand more = by (operand_closed ops (right_bound o) a) (λ z. (unclosed ops (right_bound o) a z).0) more

-- an infix operator between its operands
pub infix_back : (ops : Table) → IsTable ops → (at : Places) (f : Name) (a b : Term) (d e : ℕ) (p q : Part) → BackOf ops at a d p → BackOf ops at b e q → (o : Op) → ops.infixes f ≡ Some o →
    Back ops at (Comp f (More a (More b NoMore))) o.0 (right_bound o) (max (left_depth ops o a d) (right_depth ops o b e)) (pieces.infix_part ops o f a p b q)
infix_back ops tab at f a b d e p q back other o is =
    let left_deep = le-max_left (left_depth ops o a d) (right_depth ops o b e) in
    let right_deep = le-max_right (left_depth ops o a d) (right_depth ops o b e) in
    record {
      deep = (let z : 1 ≤ right_depth ops o b e = omega arith in le_trans z right_deep);
      low = (right_bound_low o, (tab.infixes f o is).1);
      reads = λ m bound s more us u r l fits ends g.
          let deep_left : left_depth ops o a d ≤ suc m = le_trans left_deep l in
          let deep_right : right_depth ops o b e ≤ suc m = le_trans right_deep l in
          let token = infix_token ops at f o (right_part ops o b q) more is (names_eq f (codes ",")) (names_eq-true f (codes ",")) in
          let read = inner ops at b e q other (right_bound o) (operand_closed ops (right_bound o) b) (λ z. (unclosed ops (right_bound o) b z).1) m token.stand more (omega arith) ends.call ends.sign
          (λ k same z. inl (no_entry ops k (subst (λ t. is_operator_atom ops t ≡ false) same (unclosed ops (right_bound o) b z).0)).0) ends.next in
          let behind = laid at (infix_by (names_eq f (codes ",")) f (right_part ops o b q) more) in
          let go_on : (k : ℕ) → k ≤ left_bound o → Goes ops m bound (tree_of a) k behind u r us =
          (λ k low. subst (λ ts. Goes ops m bound (tree_of a) k ts u r us) (sym token.parts)
          (infix_part (subst (λ ts. infix_ahead ops ts ≡ Some (f, o)) token.parts token.ahead) fits low read.1 g)) in
          left (left_closed ops o a) refl m bound s (infix_by (names_eq f (codes ",")) f (right_part ops o b q) more) us u r deep_left fits token.call token.sign token.ahead go_on;
      starts = λ z more. starts_left (left_closed ops o a) refl _;
    }
  where
    left : (w : Bool) → left_closed ops o a ≡ w → (m bound : ℕ) (s : Stand) (more : List Piece) (us : List Lexed) (u : Tree) (r : ℕ) → enclosed_depth w d ≤ suc m → o.0 ≤ bound → opens_directly (laid at more) ≡ false → is_integer_directly (laid at more) ≡ false →
        infix_ahead ops (laid at more) ≡ Some (f, o) → ((k : ℕ) → k ≤ left_bound o → Goes ops m bound (tree_of a) k (laid at more) u r us) → Reads ops (suc m) bound (laid at (enclosed w p s more)) u r us
    left true is_closed m bound s more us u r l fits call sign ahead go_on = bracketed ops at a d p back m bound s more us u r (omega arith) (go_on 0 (omega arith))
    left false is_closed m bound s more us u r l fits call sign ahead go_on =
        let k = left_unclosed ops o a (tab.infixes f o is).0 back.low.0 is_closed in
        let low = left_bound_low o in
        let under = k.1 in
        back.reads m bound s more us u r l (omega arith)
        (record {
          call = call;
          sign = sign;
          alone = λ n same. inl (no_entry ops n (subst (λ t. is_operator_atom ops t ≡ false) same k.0)).0;
          next = λ n o' e'. subst (λ (z : Op). open_right ops a < z.0) (ap (λ (z : Name × Op). z.1) (some-of (sym ahead ∙ e'))) k.2;
        })
        (go_on (priority ops a) k.1)

    starts_left : (w : Bool) → left_closed ops o a ≡ w → (more : List Piece) → Starts ops (laid at (enclosed w p Spaced more))
    starts_left true is_closed more = open_starts ops at _
    starts_left false is_closed more = back.starts (left_unclosed ops o a (tab.infixes f o is).0 back.low.0 is_closed).0 more

-- ---- braces and lists

-- a term in braces is read as its tree
pub braces_back : (ops : Table) → IsTable ops → (at : Places) (a : Term) (d : ℕ) (p : Part) → BackOf ops at a d p → Back ops at (Comp (codes "{}") (More a NoMore)) 0 0 (depth_within ops 1200 a d + 1) (in_braces ops a p)
braces_back ops tab at a d p back = record {
  deep = omega arith;
  low = (omega arith, omega arith);
  reads = λ m b s more us u r l fits e g.
      whole (braces refl (closed ops at a d p back m Directly (mark Directly kind.CloseCurly 125 ∷ more) (omega arith) (close_curly_closes ops at more)).1 refl) g;
  starts = λ e more. open_curly_starts ops at _;
}

-- a list is read as its tree
pub list_back : (ops : Table) → IsTable ops → (at : Places) (h t : Term) (d e : ℕ) (p : Part) (rest : List Piece → List Piece) → BackOf ops at h d p → Behind ops at t e rest →
    Back ops at (Comp (codes ".") (More h (More t NoMore))) 0 0 (max (depth_within ops 999 h d) e + 1) (list_parts ops h p rest).alone
list_back ops tab at h t d e p rest back behind =
    let first_deep = le-max_left (depth_within ops 999 h d) e in
    let rest_deep = le-max_right (depth_within ops 999 h d) e in
    record {
      deep = omega arith;
      low = (omega arith, omega arith);
      reads = λ m b s more us u r l fits x g.
          let l' : max (depth_within ops 999 h d) e ≤ m = omega arith in
          let first = delimited ops at h d p back m Directly (rest (mark Directly kind.CloseList 93 ∷ more)) (le_trans first_deep l') (behind.delimits more) in
          whole (list refl (behind.elements m first.0 (tree_of h) _ more (le_trans rest_deep l') first.1)) g;
      starts = λ x more. open_list_starts ops at _;
    }

-- what follows an element, where it is a list, is read as the rest of the list
pub list_behind : (ops : Table) → IsTable ops → (at : Places) (h t : Term) (d e : ℕ) (p : Part) (rest : List Piece → List Piece) → BackOf ops at h d p → Behind ops at t e rest →
    Behind ops at (Comp (codes ".") (More h (More t NoMore))) (max (depth_within ops 999 h d) e) (list_parts ops h p rest).behind
list_behind ops tab at h t d e p rest back behind = record {
  delimits = λ more. comma_delimits ops tab at _;
  elements = λ m q x ts more l read.
      let first = delimited ops at h d p back m Directly (rest (mark Directly kind.CloseList 93 ∷ more)) (le_trans (le-max_left (depth_within ops 999 h d) e) l) (behind.delimits more) in
      more_elements read refl (behind.elements m first.0 (tree_of h) _ more (le_trans (le-max_right (depth_within ops 999 h d) e) l) first.1);
}

-- a term that is no list, behind an element
pub tail_behind : (ops : Table) (at : Places) (t : Term) (d : ℕ) (p : Part) → BackOf ops at t d p → Behind ops at t (depth_within ops 999 t d) (tail_part ops t p)
tail_behind ops at t d p back = record {
  delimits = λ more. delimits_of ops _ (bar_closes ops at _);
  elements = λ m q x ts more l read.
      let closing = mark Directly kind.CloseList 93 ∷ more in
      element_and_tail read refl (delimited ops at t d p back m Directly closing l (delimits_of ops (laid at closing) (close_list_closes ops at more))).1 refl;
}

-- the empty list, behind an element
pub empty_behind : (ops : Table) (at : Places) → Behind ops at (Atom (codes "[]")) 0 (λ more. more)
empty_behind ops at = record {
  delimits = λ more. delimits_of ops _ (close_list_closes ops at more);
  elements = λ m q x ts more l read. last_element read refl;
}

-- ---- atomic terms

-- a variable is read as its tree
pub variable_back : (ops : Table) (at : Places) (v : ℕ) → Back ops at (Var v) 0 0 1 (λ s more. pieces.variable s v ∷ more)
unfolding is_atom_before
variable_back ops at v = record {
  deep = omega arith;
  low = (omega arith, omega arith);
  reads = λ m b s more us u r l fits e g. whole (variable refl) g;
  starts = λ e more. record { call = refl; sign = refl; atom = refl };
}

-- an integer is read as its tree
pub integer_back : (ops : Table) → IsTable ops → (at : Places) (z : ℤ) → IsInteger64 z → Back ops at (Int z) 0 0 1 (integer_part z)
integer_back ops tab at (pos n) h = record {
  deep = omega arith;
  low = (omega arith, omega arith);
  reads = λ m b s more us u r l fits e g. whole (integer refl h) g;
  starts = λ e more. number_starts ops at n more;
}
integer_back ops tab at (negsuc n) h = record {
  deep = omega arith;
  low = (omega arith, omega arith);
  reads = λ m b s more us u r l fits e g. whole (negative refl refl refl) g;
  starts = λ e more. negative_starts ops tab at (suc n) more;
}

brackets_back : (ops : Table) (at : Places) → Back ops at (Atom (codes "[]")) 0 0 1 pieces.brackets_part
brackets_back ops at = record {
  deep = omega arith;
  low = (omega arith, omega arith);
  reads = λ m b s more us u r l fits e g. whole (empty_brackets refl refl) g;
  starts = λ e more. open_list_starts ops at _;
}

empty_braces_back : (ops : Table) (at : Places) → Back ops at (Atom (codes "{}")) 0 0 1 pieces.braces_part
empty_braces_back ops at = record {
  deep = omega arith;
  low = (omega arith, omega arith);
  reads = λ m b s more us u r l fits e g. whole (empty_braces refl refl) g;
  starts = λ e more. open_curly_starts ops at _;
}

name_begins : (ops : Table) (at : Places) (a : Name) (m b : ℕ) (s : Stand) (more : List Piece) → Ends ops (Atom a) 0 (laid at more) → Begins ops m b (laid at (word s a ∷ more)) (tree_of (Atom a)) 0 (laid at more)
name_begins ops at a m b s more e = go (ops.prefixes a) refl (e.alone a refl)
  where
    go : (o : Option Op) → ops.prefixes a ≡ o → ((ops.prefixes a ≡ None) ⊎ (is_atom_before ops (laid at more) ≡ true)) → Begins ops m b (laid at (word s a ∷ more)) (tree_of (Atom a)) 0 (laid at more)
    go None is k = atom (other_name at s a more e.call e.sign) is
    go (Some o) is (inl n) = absurd (none_some (ops.prefixes a) o n is)
    go (Some o) is (inr before) = operator_as_atom (other_name at s a more e.call e.sign) is before

name_back : (ops : Table) (at : Places) (a : Name) → Back ops at (Atom a) 0 0 1 (λ s more. word s a ∷ more)
name_back ops at a = record {
  deep = omega arith;
  low = (omega arith, omega arith);
  reads = λ m b s more us u r l fits e g. whole (name_begins ops at a m b s more e) g;
  starts = λ e more. name_starts ops _ _ (word_is_name Spaced a) (no_infix_alone ops a _ (no_entry ops a e).1);
}

-- an atom is read as its tree
pub atom_back : (ops : Table) (at : Places) (a : Name) (x y : Bool) → (x ≡ true → a ≡ codes "[]") → (y ≡ true → a ≡ codes "{}") → Back ops at (Atom a) 0 0 1 (atom_by x y a)
atom_back ops at a true y h k = subst (λ (n : Name). Back ops at (Atom n) 0 0 1 pieces.brackets_part) (sym (h refl)) (brackets_back ops at)
atom_back ops at a false true h k = subst (λ (n : Name). Back ops at (Atom n) 0 0 1 pieces.braces_part) (sym (k refl)) (empty_braces_back ops at)
atom_back ops at a false false h k = name_back ops at a

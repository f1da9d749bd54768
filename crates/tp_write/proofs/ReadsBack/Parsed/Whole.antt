-- From tokens to the tree: the pieces of a term are read as its tree, wherever they stand.
use Rattle.std.proofs.Common.{◌≡◌, ℕ, ◌≤◌, Bool, true, false, cond, List, [], ◌∷◌, Option, Some, None, refl, sym, subst, arith, codes}
use Rattle.tp_terms.specs.Term.{Name, Term, Terms, Var, Int, Atom, Comp, NoMore, More, names_eq}
use Rattle.tp_terms.proofs.Texts.Equal.{names_eq-true}
use Rattle.tp_parse.specs.Table.{Op, Table, start_table}
use Rattle.tp_parse.specs.Grammar.{Reads}
use Rattle.tp_write.specs.Text.{Form, Listed, Braces, Infix, Prefix, Plain, unary_form, binary_form, form_of, priority_by}
use Rattle.tp_write.specs.Back.{IsReadable, AreReadable, Depths, depth_within, atom_depths, unary_depths, binary_depths, depths, all_depths, depth}
use Rattle.tp_write.proofs.ReadsBack.Pieces.{Piece, Places, Part, Parts, First, laid, atom_part, atom_parts, behind_atom, tail_part, unary_parts, binary_parts, parts, all_parts, clause_pieces, end, tree_of}
use Rattle.tp_write.proofs.ReadsBack.Parsed.Ends.{IsTable, end_closes}
use Rattle.tp_write.proofs.ReadsBack.Parsed.Parts.{open_right_by, Back, BackOf, Behind, Both, EachBoth, closed}
use Rattle.tp_write.proofs.ReadsBack.Parsed.Forms.{call_back, prefix_back, infix_back, braces_back, list_back, list_behind, tail_behind, empty_behind, variable_back, integer_back, atom_back}
use Rattle.tp_write.proofs.ReadsBack.Parsed.Start.{start_is_table}

-- ---- the forms of compounds

-- the forms that a compound of one argument can have, each with its name
pub data UnaryCase (ops : Table) (f : Name) : Form → Type 0 where
  in_braces : f ≡ codes "{}" → UnaryCase ops f Braces
  prefixed : {o : Op} → names_eq f (codes "{}") ≡ false → ops.prefixes f ≡ Some o → UnaryCase ops f (Prefix o)
  called : names_eq f (codes "{}") ≡ false → UnaryCase ops f Plain

-- a compound of one argument has one of them
pub unary_case : (ops : Table) (f : Name) → UnaryCase ops f (unary_form f (ops.prefixes f))
unary_case ops f = go (ops.prefixes f) refl (names_eq f (codes "{}")) refl
  where
    go : (x : Option Op) → ops.prefixes f ≡ x → (b : Bool) → names_eq f (codes "{}") ≡ b → UnaryCase ops f (unary_form f x)
    go None is true e = subst (λ b. UnaryCase ops f (cond b Braces Plain)) (sym e) (in_braces (names_eq-true f (codes "{}") e))
    go None is false e = subst (λ b. UnaryCase ops f (cond b Braces Plain)) (sym e) (called e)
    go (Some o) is true e = subst (λ b. UnaryCase ops f (cond b Braces (Prefix o))) (sym e) (in_braces (names_eq-true f (codes "{}") e))
    go (Some o) is false e = subst (λ b. UnaryCase ops f (cond b Braces (Prefix o))) (sym e) (prefixed e is)

-- the forms that a compound of two arguments can have, each with its name
pub data BinaryCase (ops : Table) (f : Name) : Form → Type 0 where
  listed : f ≡ codes "." → BinaryCase ops f Listed
  infixed : {o : Op} → ops.infixes f ≡ Some o → BinaryCase ops f (Infix o)
  called_with_two : BinaryCase ops f Plain

-- a compound of two arguments has one of them
pub binary_case : (ops : Table) (f : Name) → BinaryCase ops f (binary_form f (ops.infixes f))
binary_case ops f = go (ops.infixes f) refl (names_eq f (codes ".")) refl
  where
    go : (x : Option Op) → ops.infixes f ≡ x → (b : Bool) → names_eq f (codes ".") ≡ b → BinaryCase ops f (binary_form f x)
    go None is true e = subst (λ b. BinaryCase ops f (cond b Listed Plain)) (sym e) (listed (names_eq-true f (codes ".") e))
    go None is false e = subst (λ b. BinaryCase ops f (cond b Listed Plain)) (sym e) called_with_two
    go (Some o) is true e = subst (λ b. BinaryCase ops f (cond b Listed (Infix o))) (sym e) (listed (names_eq-true f (codes ".") e))
    go (Some o) is false e = subst (λ b. BinaryCase ops f (cond b Listed (Infix o))) (sym e) (infixed is)

named_back : {ops : Table} {at : Places} {q limit d : ℕ} {p : Part} (n f : Name) (ts : Terms) → f ≡ n → Back ops at (Comp n ts) q limit d p → Back ops at (Comp f ts) q limit d p
named_back {ops = ops} {at = at} {q = q} {limit = limit} {d = d} {p = p} n f ts same back = subst (λ (m : Name). Back ops at (Comp m ts) q limit d p) (sym same) back

named_behind : {ops : Table} {at : Places} {d : ℕ} {rest : List Piece → List Piece} (n f : Name) (ts : Terms) → f ≡ n → Behind ops at (Comp n ts) d rest → Behind ops at (Comp f ts) d rest
named_behind {ops = ops} {at = at} {d = d} {rest = rest} n f ts same behind = subst (λ (m : Name). Behind ops at (Comp m ts) d rest) (sym same) behind

formed_back : {ops : Table} {at : Places} {d : ℕ} {p : Part} (t : Term) (form : Form) → form_of ops t ≡ form → Back ops at t (priority_by form) (open_right_by form) d p → BackOf ops at t d p
formed_back {ops = ops} {at = at} {d = d} {p = p} t form e back = subst (λ z. Back ops at t (priority_by z) (open_right_by z) d p) (sym e) back

-- a term that is no list
both_of : (ops : Table) (at : Places) (t : Term) (form : Form) → form_of ops t ≡ form → (d : ℕ) (p : Part) → Back ops at t (priority_by form) (open_right_by form) d p →
    Both ops at t (record { alone = d; behind = depth_within ops 999 t d }) (record { alone = p; behind = tail_part ops t p })
both_of ops at t form e d p back =
    let alone = formed_back t form e back in
    record { alone = alone; behind = tail_behind ops at t d p alone }

unary_both : (ops : Table) → IsTable ops → (at : Places) (f : Name) (a : Term) (d : Depths) (p : Parts) → Both ops at a d p → (form : Form) → form_of ops (Comp f (More a NoMore)) ≡ form → UnaryCase ops f form →
    Both ops at (Comp f (More a NoMore)) (unary_depths ops f a d form) (unary_parts ops f a p form)
unary_both ops tab at f a d p back Braces e (in_braces same) =
    both_of ops at _ Braces e _ _ (named_back (codes "{}") f (More a NoMore) same (braces_back ops tab at a d.alone p.alone back.alone))
unary_both ops tab at f a d p back (Prefix o) e (prefixed other is) = both_of ops at _ (Prefix o) e _ _ (prefix_back ops tab at f a d.alone p.alone back.alone o is)
unary_both ops tab at f a d p back Plain e (called other) =
    both_of ops at _ Plain e _ _ (call_back ops tab at f (More a NoMore) (d ∷ []) (p ∷ []) (back, tt) (omega arith) (omega arith))
unary_both ops tab at f a d p back Listed e k = elim k [ ]
unary_both ops tab at f a d p back (Infix o) e k = elim k [ ]

binary_both : (ops : Table) → IsTable ops → (at : Places) (f : Name) (a b : Term) (d e : Depths) (p q : Parts) → Both ops at a d p → Both ops at b e q → (form : Form) → form_of ops (Comp f (More a (More b NoMore))) ≡ form → BinaryCase ops f form →
    Both ops at (Comp f (More a (More b NoMore))) (binary_depths ops f a d b e form) (binary_parts ops f a p b q form)
binary_both ops tab at f a b d e p q first second Listed is (listed same) =
    let args = More a (More b NoMore) in
    record {
      alone = formed_back (Comp f args) Listed is (named_back (codes ".") f args same (list_back ops tab at a b d.alone e.behind p.alone q.behind first.alone second.behind));
      behind = named_behind (codes ".") f args same (list_behind ops tab at a b d.alone e.behind p.alone q.behind first.alone second.behind);
    }
binary_both ops tab at f a b d e p q first second (Infix o) is (infixed entry) = both_of ops at _ (Infix o) is _ _ (infix_back ops tab at f a b d.alone e.alone p.alone q.alone first.alone second.alone o entry)
binary_both ops tab at f a b d e p q first second Plain is called_with_two =
    both_of ops at _ Plain is _ _ (call_back ops tab at f (More a (More b NoMore)) (d ∷ e ∷ []) (p ∷ q ∷ []) (first, (second, tt)) (omega arith) (omega arith))
binary_both ops tab at f a b d e p q first second Braces is k = elim k [ ]
binary_both ops tab at f a b d e p q first second (Prefix o) is k = elim k [ ]

atom_both : (ops : Table) (at : Places) (a : Name) → Both ops at (Atom a) (atom_depths a) (atom_parts ops a)
atom_both ops at a = record { alone = alone; behind = go (names_eq a (codes "[]")) (names_eq-true a (codes "[]")) }
  where
    alone : BackOf ops at (Atom a) 1 (atom_part a)
    alone = atom_back ops at a (names_eq a (codes "[]")) (names_eq a (codes "{}")) (names_eq-true a (codes "[]")) (names_eq-true a (codes "{}"))

    go : (b : Bool) → (b ≡ true → a ≡ codes "[]") → Behind ops at (Atom a) (cond b 0 1) (behind_atom ops b a)
    go true h = subst (λ (n : Name). Behind ops at (Atom n) 0 (λ more. more)) (sym (h refl)) (empty_behind ops at)
    go false h = tail_behind ops at (Atom a) 1 (atom_part a) alone

mutual
  unfolding depths parts

  pub back : (ops : Table) → IsTable ops → (at : Places) (t : Term) → IsReadable t → Both ops at t (depths ops t) (parts ops t)
  back ops tab at (Var v) h = both_of ops at (Var v) Plain refl _ _ (variable_back ops at v)
  back ops tab at (Int z) h = both_of ops at (Int z) Plain refl _ _ (integer_back ops tab at z h)
  back ops tab at (Atom a) h = atom_both ops at a
  back ops tab at (Comp f NoMore) h = let z = (h.0).some_argument in absurd (omega arith)
  back ops tab at (Comp f (More a NoMore)) h = unary_both ops tab at f a _ _ (back ops tab at a (h.1).0) _ refl (unary_case ops f)
  back ops tab at (Comp f (More a (More b NoMore))) h =
      binary_both ops tab at f a b _ _ _ _ (back ops tab at a (h.1).0) (back ops tab at b ((h.1).1).0) _ refl (binary_case ops f)
  back ops tab at (Comp f (More a (More b (More c ts)))) h =
      let args = More a (More b (More c ts)) in
      let each : EachBoth ops at args (all_depths ops args) (all_parts ops args) =
      (back ops tab at a (h.1).0, (back ops tab at b ((h.1).1).0, (back ops tab at c (((h.1).1).1).0, back_all ops tab at ts (((h.1).1).1).1))) in
      both_of ops at (Comp f args) Plain refl _ _ (call_back ops tab at f args (all_depths ops args) (all_parts ops args) each (omega arith) (h.0).most_arguments)

  back_all : (ops : Table) → IsTable ops → (at : Places) (ts : Terms) → AreReadable ts → EachBoth ops at ts (all_depths ops ts) (all_parts ops ts)
  back_all ops tab at NoMore h = tt
  back_all ops tab at (More t ts) h = (back ops tab at t h.0, back_all ops tab at ts h.1)

-- the tokens of a readable term with an end behind it are read as its tree
pub reads_tree : (at : Places) (t : Term) → IsReadable t → depth start_table 1200 t ≤ 1000 →
    (q : ℕ) × Reads start_table 1000 1200 (laid at (clause_pieces start_table t)) (tree_of t) q (laid at (end ∷ []))
unfolding depth
reads_tree at t h d =
    let both = back start_table start_is_table at t h in
    closed start_table at t (depths start_table t).alone (parts start_table t).alone both.alone 1000 First (end ∷ []) d (end_closes start_table at [])

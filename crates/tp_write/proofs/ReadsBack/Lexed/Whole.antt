-- From characters to tokens: the characters of the pieces are lexed as the pieces.
use Rattle.std.proofs.Common.{◌≡◌, ◌≢◌, ℕ, suc, ◌<◌, ◌≤◌, ◌^◌, Bool, true, false, ◌||◌, cond, nat_lt, ℤ, pos, negsuc, List, [], ◌∷◌, ◌++◌, Ok, refl, sym, ap, subst, ◌∙◌, arith, codes, decimal, encode_utf8_all}
use Rattle.std.specs.Str.{all_scalars}
use Rattle.std.specs.Fmt.{signed_decimal}
use Rattle.tp_terms.specs.Term.{Name, Term, Terms, Var, Int, Atom, Comp, NoMore, More, names_eq, count_of}
use Rattle.tp_terms.proofs.Texts.Equal.{names_eq-true, names_eq-false}
use Rattle.tp_lex.specs.declared.token.TokenKind.TheVariants as kind
use Rattle.tp_lex.specs.Tokens.{tokens}
use Rattle.tp_lex.proofs.Places.Bytes.{scalars-front}
use Rattle.tp_parse.specs.Table.{Table, start_table}
use Rattle.tp_lex.specs.Characters.{is_letter_digit}
use Rattle.tp_write.specs.Names.{is_solo, is_graphic_name, quoted, name_text}
use Rattle.tp_write.specs.Text.{tail_text, Form, Listed, Braces, Infix, Prefix, Plain, form_of, priority, atom_text, Written, unary_text, binary_text, written, all_written, text}
use Rattle.tp_write.specs.Back.{IsReadable, AreReadable, NamesCompound, IsInteger64, written_clause}
use Rattle.tp_write.proofs.ReadsBack.Pieces.{Stand, First, Directly, Spaced, Piece, Parts, gap, spelled, laid, places_in, mark, word, brackets_part, braces_part, variable, variable_name, number, minus_sign, integer_part, atom_by, atom_part, unary_parts, binary_parts, behind_atom, atom_parts, parts, all_parts, end, clause_pieces}
use Rattle.tp_write.proofs.ReadsBack.Shape.{BeginsWith, begins}
use Rattle.tp_write.proofs.ReadsBack.Parsed.Whole.{UnaryCase, in_braces, prefixed, called, unary_case, BinaryCase, listed, infixed, called_with_two, binary_case}
use Rattle.tp_write.proofs.ReadsBack.Lexed.Words.{Forms, minus_forms, open_list_forms, close_list_forms, open_curly_forms, close_curly_forms, end_forms}
use Rattle.tp_write.proofs.ReadsBack.Lexed.Numbers.{decimal_scalars, variable_forms, number_forms, IsNumber, number_first}
use Rattle.tp_write.proofs.ReadsBack.Lexed.Quoted.{scalars_append}
use Rattle.tp_write.proofs.ReadsBack.Lexed.Tokens as lexing
use Rattle.tp_write.proofs.ReadsBack.Lexed.Tokens.{IsLexed, AreLexed, is_none, stand_of, tokens_whole}
use Rattle.tp_write.proofs.ReadsBack.Lexed.Spelled.{later, Runs, last_piece, one_more_piece, Follows, SpellsPart, SpellsBehind, SpellsBoth, EachSpells, IsWord, word_runs, enclosed_spells, tail_spells, not_list_spells, call_spells, prefix_spells, infix_spells, braces_spell, list_spells}

-- ---- atomic terms

variable_spells : (v : ℕ) → v < 2 ^ 64 → SpellsPart (λ s more. variable s v ∷ more) (variable_name v)
variable_spells v h = record {
  spells = λ s more. refl;
  runs = λ s more f. one_more_piece (variable_forms s v (spelled more) h f.calm) (decimal_scalars v h) refl f.later f.runs;
  begin = λ s more. begins _ _;
}

number_runs : (s : Stand) (n : ℕ) → n ≤ 2 ^ 63 → (more : List Piece) → Follows more → Runs (number s n ∷ more)
number_runs s n h more f = one_more_piece (number_forms s n (spelled more) h f.calm) (decimal_scalars n (omega arith)) refl f.later f.runs

minus_runs : (s : Stand) (n : ℕ) → n ≤ 2 ^ 63 → (more : List Piece) → Runs (number Directly n ∷ more) → Runs (minus_sign s ∷ number Directly n ∷ more)
minus_runs s n h more r =
    let i : IsNumber n = number_first n (omega arith) in
    let e : decimal n ++ spelled more ≡ i.first ∷ (i.others ++ spelled more) = ap (λ l. l ++ spelled more) i.parts in
    one_more_piece (subst (Forms (minus_sign s)) (sym e) (minus_forms s i.first (i.others ++ spelled more) i.graphic)) refl refl refl r

integer_spells : (z : ℤ) → IsInteger64 z → SpellsPart (integer_part z) (signed_decimal z)
integer_spells (pos n) h = record {
  spells = λ s more. refl;
  runs = λ s more f. number_runs s n (omega arith) more f;
  begin = λ s more. begins _ _;
}
integer_spells (negsuc n) h = record {
  spells = λ s more. refl;
  runs = λ s more f. minus_runs s (suc n) (omega arith) more (number_runs Directly (suc n) (omega arith) more f);
  begin = λ s more. begins _ _;
}

brackets_run : (s : Stand) (more : List Piece) → Follows more → Runs (mark s kind.OpenList 91 ∷ mark Directly kind.CloseList 93 ∷ more)
brackets_run s more f =
    one_more_piece (open_list_forms s (spelled (mark Directly kind.CloseList 93 ∷ more))) refl refl refl (one_more_piece (close_list_forms Directly (spelled more)) refl refl f.later f.runs)

curly_run : (s : Stand) (more : List Piece) → Follows more → Runs (mark s kind.OpenCurly 123 ∷ mark Directly kind.CloseCurly 125 ∷ more)
curly_run s more f =
    one_more_piece (open_curly_forms s (spelled (mark Directly kind.CloseCurly 125 ∷ more))) refl refl refl (one_more_piece (close_curly_forms Directly (spelled more)) refl refl f.later f.runs)

-- ---- atoms

solo_text : (a : Name) → is_solo a ≡ true → name_text a ≡ a
unfolding name_text
solo_text a e = ap (λ b. cond b a (quoted a)) (go (is_letter_digit a) (is_solo a) (is_graphic_name a) e)
  where
    go : (x y z : Bool) → y ≡ true → (x || (y || z)) ≡ true
    go true y z e = refl
    go false true z e = refl
    go false false z e = cc

word_spells : (a : Name) → IsWord a → SpellsPart (λ s more. word s a ∷ more) (name_text a)
word_spells a w = record {
  spells = λ s more. refl;
  runs = λ s more f. word_runs s a more w f;
  begin = λ s more. begins _ _;
}

brackets_spell : SpellsPart brackets_part (name_text (codes "[]"))
brackets_spell = record {
  spells = λ s more. ap (λ l. gap s ++ (l ++ spelled more)) (sym (solo_text (codes "[]") refl));
  runs = brackets_run;
  begin = λ s more. begins _ _;
}

curly_spell : SpellsPart braces_part (name_text (codes "{}"))
curly_spell = record {
  spells = λ s more. ap (λ l. gap s ++ (l ++ spelled more)) (sym (solo_text (codes "{}") refl));
  runs = curly_run;
  begin = λ s more. begins _ _;
}

atom_spells : (a : Name) → all_scalars a ≡ true → (x : Bool) → names_eq a (codes "[]") ≡ x → (y : Bool) → names_eq a (codes "{}") ≡ y → SpellsPart (atom_by x y a) (name_text a)
atom_spells a h true e y d = subst (λ (n : Name). SpellsPart brackets_part (name_text n)) (sym (names_eq-true a (codes "[]") e)) brackets_spell
atom_spells a h false e true d = subst (λ (n : Name). SpellsPart braces_part (name_text n)) (sym (names_eq-true a (codes "{}") d)) curly_spell
atom_spells a h false e false d = word_spells a (record { characters = h; no_brackets = names_eq-false a (codes "[]") e; no_braces = names_eq-false a (codes "{}") d })

atom_both_spells : (ops : Table) (a : Name) → all_scalars a ≡ true → SpellsBoth (atom_parts ops a) (atom_text ops a)
atom_both_spells ops a h = record { alone = alone; behind = behind (names_eq a (codes "[]")) }
  where
    alone : SpellsPart (atom_part a) (name_text a)
    alone = atom_spells a h (names_eq a (codes "[]")) refl (names_eq a (codes "{}")) refl

    behind : (b : Bool) → SpellsBehind (behind_atom ops b a) (cond b [] (tail_text ops (Atom a) (name_text a)))
    behind true = record { spells = λ more. refl; follows = λ more f. f }
    behind false = tail_spells ops (Atom a) (atom_part a) (name_text a) alone

-- ---- compounds

unary_spells : (ops : Table) (f : Name) (a : Term) (p : Parts) (w : Written) → NamesCompound f 1 → SpellsBoth p w → (form : Form) → UnaryCase ops f form → SpellsBoth (unary_parts ops f a p form) (unary_text ops f a w form)
unary_spells ops f a p w n h Braces (in_braces same) = not_list_spells ops (Comp f (More a NoMore)) _ _ (braces_spell ops a p.alone w.alone h.alone)
unary_spells ops f a p w n h (Prefix o) (prefixed other is) =
    let named : IsWord f = record { characters = n.characters; no_brackets = n.no_brackets; no_braces = names_eq-false f (codes "{}") other } in
    not_list_spells ops (Comp f (More a NoMore)) _ _ (prefix_spells ops o f a p.alone w.alone named h.alone)
unary_spells ops f a p w n h Plain (called other) =
    let named : IsWord f = record { characters = n.characters; no_brackets = n.no_brackets; no_braces = names_eq-false f (codes "{}") other } in
    not_list_spells ops (Comp f (More a NoMore)) _ _ (call_spells ops f (More a NoMore) (p ∷ []) (w ∷ []) named (h, tt))
unary_spells ops f a p w n h Listed k = elim k [ ]
unary_spells ops f a p w n h (Infix o) k = elim k [ ]

-- a name of a compound with other than one argument
other_word : (f : Name) (count : ℕ) → NamesCompound f count → count ≢ 1 → IsWord f
other_word f count n h = record { characters = n.characters; no_brackets = n.no_brackets; no_braces = λ e. h (n.braces_once e) }

binary_spells : (ops : Table) (f : Name) (a : Term) (p : Parts) (w : Written) (b : Term) (q : Parts) (v : Written) → IsWord f → SpellsBoth p w → SpellsBoth q v → (form : Form) → BinaryCase ops f form →
    SpellsBoth (binary_parts ops f a p b q form) (binary_text ops f a w b v form)
binary_spells ops f a p w b q v n h k Listed (listed same) = list_spells ops a p.alone w.alone q.behind v.behind h.alone k.behind
binary_spells ops f a p w b q v n h k (Infix o) (infixed is) =
    not_list_spells ops (Comp f (More a (More b NoMore))) _ _ (infix_spells ops o f a p.alone w.alone b q.alone v.alone n h.alone k.alone)
binary_spells ops f a p w b q v n h k Plain called_with_two =
    not_list_spells ops (Comp f (More a (More b NoMore))) _ _ (call_spells ops f (More a (More b NoMore)) (p ∷ q ∷ []) (w ∷ v ∷ []) n (h, (k, tt)))
binary_spells ops f a p w b q v n h k Braces c = elim c [ ]
binary_spells ops f a p w b q v n h k (Prefix o) c = elim c [ ]

mutual
  unfolding parts written

  spell : (ops : Table) (t : Term) → IsReadable t → SpellsBoth (parts ops t) (written ops t)
  spell ops (Var v) h = not_list_spells ops (Var v) _ _ (variable_spells v h)
  spell ops (Int z) h = not_list_spells ops (Int z) (integer_part z) (signed_decimal z) (integer_spells z h)
  spell ops (Atom a) h = atom_both_spells ops a h
  spell ops (Comp f NoMore) h = let z = (h.0).some_argument in absurd (omega arith)
  spell ops (Comp f (More a NoMore)) h = unary_spells ops f a (parts ops a) (written ops a) h.0 (spell ops a (h.1).0) (form_of ops (Comp f (More a NoMore))) (unary_case ops f)
  spell ops (Comp f (More a (More b NoMore))) h =
      binary_spells ops f a (parts ops a) (written ops a) b (parts ops b) (written ops b) (other_word f 2 h.0 (λ e. cc)) (spell ops a (h.1).0) (spell ops b ((h.1).1).0) (form_of ops (Comp f (More a (More b NoMore)))) (binary_case ops f)
  spell ops (Comp f (More a (More b (More c ts)))) h =
      let args = More a (More b (More c ts)) in
      let each : EachSpells (all_parts ops args) (all_written ops args) =
      (spell ops a (h.1).0, (spell ops b ((h.1).1).0, (spell ops c (((h.1).1).1).0, all_spell ops ts (((h.1).1).1).1))) in
      not_list_spells ops (Comp f args) _ _ (call_spells ops f args (all_parts ops args) (all_written ops args) (other_word f (count_of args) h.0 (omega arith)) each)

  all_spell : (ops : Table) (ts : Terms) → AreReadable ts → EachSpells (all_parts ops ts) (all_written ops ts)
  all_spell ops NoMore h = tt
  all_spell ops (More t ts) h = (spell ops t h.0, all_spell ops ts h.1)

-- ---- pieces that run are lexed

runs_some : {ps : List Piece} → Runs ps → is_none ps ≡ false
runs_some (last_piece f a e) = refl
runs_some (one_more_piece f a e l r) = refl

later_pieces : (ps : List Piece) → later ps ≡ true → lexing.Later ps
later_pieces [] e = tt
later_pieces (p ∷ ps) e = e

runs_lexed : {ps : List Piece} → Runs ps → AreLexed ps
runs_lexed (last_piece f a e) = (record { forms = f; ends = e; later = tt }, tt)
runs_lexed (one_more_piece {p} {ps} f a e l r) = (record { forms = f; ends = e ∙ sym (runs_some r); later = later_pieces ps l }, runs_lexed r)

gap_scalars : (s : Stand) → all_scalars (gap s) ≡ true
gap_scalars First = refl
gap_scalars Directly = refl
gap_scalars Spaced = refl

runs_scalars : {ps : List Piece} → Runs ps → all_scalars (spelled ps) ≡ true
runs_scalars (last_piece {p} f a e) = scalars_append (gap p.stand) (p.own ++ 10 ∷ []) (gap_scalars p.stand) (scalars_append p.own (10 ∷ []) a refl)
runs_scalars (one_more_piece {p} {ps} f a e l r) = scalars_append (gap p.stand) (p.own ++ spelled ps) (gap_scalars p.stand) (scalars_append p.own (spelled ps) a (runs_scalars r))

-- ---- a clause

-- the pieces spell the text, which is lexed as the pieces
pub record LexesBack (t : Term) : Type 0 where
  pub spells : spelled (clause_pieces start_table t) ≡ text start_table 1200 t ++ codes " .\n"
  pub lexed : tokens (written_clause t) 0 ≡ Ok (laid (places_in (written_clause t)) (clause_pieces start_table t))
  pub characters : all_scalars (text start_table 1200 t) ≡ true

end_follows : Follows (end ∷ [])
end_follows = record { calm = refl; later = refl; runs = last_piece (end_forms Spaced) refl refl }

stand_first : (ps : List Piece) → BeginsWith First ps → stand_of ps ≡ First
stand_first ps b = ap stand_of b.parts ∙ b.stand

-- the characters of a readable term with an end behind it are lexed as its pieces
pub lexes_back : (t : Term) → IsReadable t → LexesBack t
unfolding text
lexes_back t h =
    let ps = clause_pieces start_table t in
    let inner = enclosed_spells (nat_lt 1200 (priority start_table t)) (parts start_table t).alone (written start_table t).alone (spell start_table t h).alone in
    let spells : spelled ps ≡ text start_table 1200 t ++ codes " .\n" = inner.spells First (end ∷ []) in
    let runs : Runs ps = inner.runs First (end ∷ []) end_follows in
    let scalars = runs_scalars runs in
    let whole = tokens_whole ps (runs_lexed runs) (runs_some runs) (stand_first ps (inner.begin First (end ∷ []))) scalars in
    record {
      spells = spells;
      lexed = subst (λ b. tokens b 0 ≡ Ok (laid (places_in b) ps)) (ap encode_utf8_all spells) whole;
      characters = scalars-front (text start_table 1200 t) (codes " .\n") (ap all_scalars (sym spells) ∙ scalars);
    }

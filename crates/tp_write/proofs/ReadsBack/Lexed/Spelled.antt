-- The pieces of a term spell its text, and each piece may stand before what follows it.
use Rattle.std.proofs.Common.{◌≡◌, ◌≢◌, ℕ, Bool, true, false, cond, nat_lt, List, [], ◌∷◌, ◌++◌, refl, sym, ap, ◌∙◌, codes, append_assoc}
use Rattle.std.specs.Str.{all_scalars}
use Rattle.tp_terms.specs.Term.{Name, Term, Terms, NoMore, More, names_eq}
use Rattle.tp_lex.specs.declared.token.TokenKind.{TokenKind}
use Rattle.tp_lex.specs.declared.token.TokenKind.TheVariants as kind
use Rattle.tp_lex.specs.Tokens.{is_end}
use Rattle.tp_parse.specs.Table.{Op, Table, right_bound}
use Rattle.tp_parse.specs.Grammar.{is_name}
use Rattle.tp_write.specs.Names.{is_bare, quoted, name_text}
use Rattle.tp_write.specs.Text as text
use Rattle.tp_write.specs.Text.{Form, Listed, Braces, Infix, Prefix, Plain, form_of, unary_form, binary_form, priority, in_parentheses, within, operand_closed, left_closed, infix_name, infix_text, prefix_text, args_text, call_text, tail_text, Written, unary_text, binary_text, atom_text, written, all_written}
use Rattle.tp_write.proofs.ReadsBack.Pieces.{Stand, Directly, Spaced, gap, Piece, Part, Parts, spelled, mark, word, enclosed, within_part, infix_by, infix_part, right_part, prefix_part, args_part, call_part, tail_part, list_parts, in_braces}
use Rattle.tp_write.proofs.ReadsBack.Shape.{BeginsWith, begins}
use Rattle.tp_write.proofs.ReadsBack.Lexed.Characters.{begins_calm}
use Rattle.tp_write.proofs.ReadsBack.Lexed.Words.{Forms, bare_name_forms, open_forms, close_forms, open_list_forms, close_list_forms, open_curly_forms, close_curly_forms, comma_forms, bar_forms}
use Rattle.tp_write.proofs.ReadsBack.Lexed.Quoted.{quoted_scalars, quoted_forms}
use Rattle.tp_write.proofs.ReadsBack.Lexed.Tokens.{is_later}

-- ---- pieces that may follow each other

-- the first of some pieces is not first in the text
abbrev pub later : List Piece → Bool
later [] = true
later (p ∷ ps) = is_later p.stand

-- each piece is lexed as itself before those behind it, and only the last is an end
pub data Runs : List Piece → Type 0 where
  last_piece : {p : Piece} → Forms p (spelled []) → all_scalars p.own ≡ true → is_end p.kind ≡ true → Runs (p ∷ [])
  one_more_piece : {p : Piece} {ps : List Piece} → Forms p (spelled ps) → all_scalars p.own ≡ true → is_end p.kind ≡ false → later ps ≡ true → Runs ps → Runs (p ∷ ps)

-- what may follow a name, a variable or an integer
pub record Follows (ps : List Piece) : Type 0 where
  pub calm : begins_calm (spelled ps) ≡ true
  pub later : later ps ≡ true
  pub runs : Runs ps

-- a part spells this text, and may stand before what may follow
pub record SpellsPart (p : Part) (own : List ℕ) : Type 0 where
  pub spells : (s : Stand) (more : List Piece) → spelled (p s more) ≡ gap s ++ (own ++ spelled more)
  pub runs : (s : Stand) (more : List Piece) → Follows more → Runs (p s more)
  pub begin : (s : Stand) (more : List Piece) → BeginsWith s (p s more)

pub later_of : (s : Stand) (ps : List Piece) → BeginsWith s ps → is_later s ≡ true → later ps ≡ true
later_of s ps b e = ap later b.parts ∙ ap is_later b.stand ∙ e

-- ---- pieces before others

-- a mark before others
abbrev MarkForms : TokenKind → ℕ → Type 0
MarkForms k c = (s : Stand) (rest : List ℕ) → Forms (mark s k c) rest

before_first : (s : Stand) (k : TokenKind) (c : ℕ) → MarkForms k c → all_scalars (c ∷ []) ≡ true → is_end k ≡ false → (ps : List Piece) → later ps ≡ true → Runs ps → Runs (mark s k c ∷ ps)
before_first s k c h a e ps l r = one_more_piece (h s (spelled ps)) a e l r

-- ---- words

no_end : (k : TokenKind) → is_name k ≡ true → is_end k ≡ false
no_end kind.Name e = refl
no_end kind.Quoted e = refl
no_end k e = cc

-- the names of which a word is made
pub record IsWord (f : Name) : Type 0 where
  pub characters : all_scalars f ≡ true
  pub no_brackets : f ≢ codes "[]"
  pub no_braces : f ≢ codes "{}"

-- a word before others
pub record WordFits (s : Stand) (f : Name) (rest : List ℕ) : Type 0 where
  pub forms : Forms (word s f) rest
  pub characters : all_scalars (name_text f) ≡ true
  pub no_end : is_end (word s f).kind ≡ false

pub word_fits : (s : Stand) (f : Name) (rest : List ℕ) → IsWord f → begins_calm rest ≡ true → WordFits s f rest
unfolding name_text
word_fits s f rest w b = record {
  forms = formed (is_bare f) refl;
  characters = scalars (is_bare f);
  no_end = ends (is_bare f);
}
  where
    formed : (x : Bool) → is_bare f ≡ x → Forms (record { stand = s; kind = cond x kind.Name kind.Quoted; name = f; value = 0; own = cond x f (quoted f) }) rest
    formed true e = bare_name_forms s f rest e w.no_brackets w.no_braces b
    formed false e = quoted_forms s f rest b

    scalars : (x : Bool) → all_scalars (cond x f (quoted f)) ≡ true
    scalars true = w.characters
    scalars false = quoted_scalars f w.characters

    ends : (x : Bool) → is_end (cond x kind.Name kind.Quoted) ≡ false
    ends true = refl
    ends false = refl

-- a name before what may follow it is lexed as itself
pub word_runs : (s : Stand) (f : Name) (ps : List Piece) → IsWord f → Follows ps → Runs (word s f ∷ ps)
word_runs s f ps w h = let k = word_fits s f (spelled ps) w h.calm in one_more_piece k.forms k.characters k.no_end h.later h.runs

-- ---- parentheses

close_follows : (more : List Piece) → Follows more → Follows (mark Directly kind.Close 41 ∷ more)
close_follows more h = record { calm = refl; later = refl; runs = before_first Directly kind.Close 41 close_forms refl refl more h.later h.runs }

-- a term in parentheses spells its text in parentheses
pub enclosed_spells : (w : Bool) (p : Part) (own : List ℕ) → SpellsPart p own → SpellsPart (enclosed w p) (in_parentheses w own)
enclosed_spells false p own h = h
enclosed_spells true p own h = record {
  spells = λ s more. ap (λ l. gap s ++ 40 ∷ l) (h.spells Directly (mark Directly kind.Close 41 ∷ more) ∙ sym (append_assoc own (41 ∷ []) (spelled more)));
  runs = λ s more f.
      let closing = mark Directly kind.Close 41 ∷ more in
      before_first s kind.Open 40 open_forms refl refl (p Directly closing) (later_of Directly (p Directly closing) (h.begin Directly closing) refl) (h.runs Directly closing (close_follows more f));
  begin = λ s more. begins _ _;
}

-- ---- what stands behind an element

-- the pieces of what follows an element spell this text, and may follow the element
pub record SpellsBehind (behind : List Piece → List Piece) (own : List ℕ) : Type 0 where
  pub spells : (more : List Piece) → spelled (behind more) ≡ own ++ spelled more
  pub follows : (more : List Piece) → Follows more → Follows (behind more)

-- the pieces of a term spell its texts, alone and behind an element
pub record SpellsBoth (ps : Parts) (w : Written) : Type 0 where
  pub alone : SpellsPart ps.alone w.alone
  pub behind : SpellsBehind ps.behind w.behind

-- so do those of each argument
abbrev pub EachSpells : List Parts → List Written → Type 0
EachSpells [] [] = Unit {0}
EachSpells (p ∷ ps) (w ∷ ws) = SpellsBoth p w × EachSpells ps ws
EachSpells ps ws = ⊥

-- a bar and a term that is no list spell their text
pub tail_spells : (ops : Table) (t : Term) (p : Part) (own : List ℕ) → SpellsPart p own → SpellsBehind (tail_part ops t p) (tail_text ops t own)
tail_spells ops t p own h =
    let inner = enclosed_spells (nat_lt 999 (priority ops t)) p own h in
    record {
      spells = λ more. ap (λ l. 124 ∷ l) (inner.spells Directly more);
      follows = λ more f.
          let ps = within_part ops 999 t p Directly more in
          record { calm = refl; later = refl; runs = before_first Directly kind.Bar 124 bar_forms refl refl ps (later_of Directly ps (inner.begin Directly more) refl) (inner.runs Directly more f) };
    }

-- a term that is no list spells its texts
pub not_list_spells : (ops : Table) (t : Term) (p : Part) (own : List ℕ) → SpellsPart p own → SpellsBoth (record { alone = p; behind = tail_part ops t p }) (text.not_list ops t own)
not_list_spells ops t p own h = record { alone = h; behind = tail_spells ops t p own h }

-- ---- arguments

comma_follows : (ps : List Piece) → later ps ≡ true → Runs ps → Follows (mark Directly kind.Comma 44 ∷ ps)
comma_follows ps l r = record { calm = refl; later = refl; runs = before_first Directly kind.Comma 44 comma_forms refl refl ps l r }

-- arguments, the first of which stands directly behind what is before it
pub record SpellsArgs (ops : Table) (ts : Terms) (ps : List Parts) (ws : List Written) : Type 0 where
  pub spells : (more : List Piece) → spelled (args_part ops ts ps more) ≡ args_text ops ts ws ++ spelled more
  pub runs : (more : List Piece) → Follows more → Runs (args_part ops ts ps more)
  pub later : (more : List Piece) → Follows more → later (args_part ops ts ps more) ≡ true

pub args_spell : (ops : Table) (ts : Terms) (ps : List Parts) (ws : List Written) → EachSpells ps ws → SpellsArgs ops ts ps ws
args_spell ops NoMore ps ws h = record { spells = λ more. refl; runs = λ more f. f.runs; later = λ more f. f.later }
args_spell ops (More t NoMore) [] [] h = record { spells = λ more. refl; runs = λ more f. f.runs; later = λ more f. f.later }
args_spell ops (More t NoMore) [] (w ∷ ws) h = absurd h
args_spell ops (More t NoMore) (p ∷ ps) [] h = absurd h
args_spell ops (More t NoMore) (p ∷ ps) (w ∷ ws) h =
    let inner = enclosed_spells (nat_lt 999 (priority ops t)) p.alone w.alone (h.0).alone in
    record {
      spells = λ more. inner.spells Directly more;
      runs = λ more f. inner.runs Directly more f;
      later = λ more f. later_of Directly (within_part ops 999 t p.alone Directly more) (inner.begin Directly more) refl;
    }
args_spell ops (More t (More u us)) [] [] h = record { spells = λ more. refl; runs = λ more f. f.runs; later = λ more f. f.later }
args_spell ops (More t (More u us)) [] (w ∷ ws) h = absurd h
args_spell ops (More t (More u us)) (p ∷ ps) [] h = absurd h
args_spell ops (More t (More u us)) (p ∷ ps) (w ∷ ws) h =
    let own = within ops 999 t w.alone in
    let others = args_text ops (More u us) ws in
    let inner = enclosed_spells (nat_lt 999 (priority ops t)) p.alone w.alone (h.0).alone in
    let rest = args_spell ops (More u us) ps ws h.1 in
    record {
      spells = λ more.
          inner.spells Directly (mark Directly kind.Comma 44 ∷ args_part ops (More u us) ps more)
          ∙ ap (λ l. own ++ 44 ∷ l) (rest.spells more)
          ∙ sym (append_assoc own (44 ∷ others) (spelled more));
      runs = λ more f. inner.runs Directly (mark Directly kind.Comma 44 ∷ args_part ops (More u us) ps more) (comma_follows (args_part ops (More u us) ps more) (rest.later more f) (rest.runs more f));
      later = λ more f.
          later_of Directly (within_part ops 999 t p.alone Directly (mark Directly kind.Comma 44 ∷ args_part ops (More u us) ps more)) (inner.begin Directly (mark Directly kind.Comma 44 ∷ args_part ops (More u us) ps more)) refl;
    }

-- a name with its arguments in parentheses spells its text
pub call_spells : (ops : Table) (f : Name) (ts : Terms) (ps : List Parts) (ws : List Written) → IsWord f → EachSpells ps ws → SpellsPart (call_part ops f ts ps) (call_text ops f ts ws)
call_spells ops f ts ps ws w h =
    let args = args_spell ops ts ps ws h in
    let own = args_text ops ts ws in
    record {
      spells = λ s more.
          ap (λ l. gap s ++ (name_text f ++ 40 ∷ l)) (args.spells (mark Directly kind.Close 41 ∷ more) ∙ sym (append_assoc own (41 ∷ []) (spelled more)))
          ∙ ap (λ l. gap s ++ l) (sym (append_assoc (name_text f) (40 ∷ (own ++ 41 ∷ [])) (spelled more)));
      runs = λ s more k.
          let closing = mark Directly kind.Close 41 ∷ more in
          let c = close_follows more k in
          word_runs s f (mark Directly kind.Open 40 ∷ args_part ops ts ps closing) w
          (record { calm = refl; later = refl; runs = before_first Directly kind.Open 40 open_forms refl refl (args_part ops ts ps closing) (args.later closing c) (args.runs closing c) });
      begin = λ s more. begins _ _;
    }

-- ---- operators

spaced_follows : (p : Part) (own : List ℕ) → SpellsPart p own → (more : List Piece) → Follows more → Follows (p Spaced more)
spaced_follows p own h more f = record {
  calm = ap begins_calm (h.spells Spaced more);
  later = later_of Spaced (p Spaced more) (h.begin Spaced more) refl;
  runs = h.runs Spaced more f;
}

-- a prefix operator with its operand spells its text
pub prefix_spells : (ops : Table) (o : Op) (f : Name) (a : Term) (p : Part) (own : List ℕ) → IsWord f → SpellsPart p own → SpellsPart (prefix_part ops o f a p) (prefix_text ops o f a own)
prefix_spells ops o f a p own w h =
    let closed = operand_closed ops (right_bound o) a in
    let operand = enclosed_spells closed p own h in
    record {
      spells = λ s more.
          ap (λ l. gap s ++ (name_text f ++ l)) (operand.spells Spaced more)
          ∙ ap (λ l. gap s ++ l) (sym (append_assoc (name_text f) (32 ∷ in_parentheses closed own) (spelled more)));
      runs = λ s more k. word_runs s f (right_part ops o a p Spaced more) w (spaced_follows (enclosed closed p) (in_parentheses closed own) operand more k);
      begin = λ s more. begins _ _;
    }

-- an infix operator and its right operand
pub infix_by_spells : (b : Bool) (f : Name) (right : Part) (own : List ℕ) → (b ≡ false → IsWord f) → SpellsPart right own → SpellsBehind (infix_by b f right) (cond b (codes ",") (codes " " ++ (name_text f ++ codes " ")) ++ own)
infix_by_spells true f right own w h = record {
  spells = λ more. ap (λ l. 44 ∷ l) (h.spells Directly more);
  follows = λ more k. comma_follows (right Directly more) (later_of Directly (right Directly more) (h.begin Directly more) refl) (h.runs Directly more k);
}
infix_by_spells false f right own w h = record {
  spells = λ more.
      ap (λ l. 32 ∷ (name_text f ++ l)) (h.spells Spaced more)
      ∙ ap (λ l. 32 ∷ l) (sym (append_assoc (name_text f) (32 ∷ []) (own ++ spelled more)) ∙ sym (append_assoc (name_text f ++ 32 ∷ []) own (spelled more)));
  follows = λ more k. record { calm = refl; later = refl; runs = word_runs Spaced f (right Spaced more) (w refl) (spaced_follows right own h more k) };
}

-- an infix operator with its operands spells its text
pub infix_spells : (ops : Table) (o : Op) (f : Name) (a : Term) (p : Part) (left : List ℕ) (b : Term) (q : Part) (right : List ℕ) → IsWord f → SpellsPart p left → SpellsPart q right →
    SpellsPart (infix_part ops o f a p b q) (infix_text ops o f a left b right)
infix_spells ops o f a p left b q right w h k =
    let first = enclosed_spells (left_closed ops o a) p left h in
    let second = enclosed_spells (operand_closed ops (right_bound o) b) q right k in
    let own = in_parentheses (operand_closed ops (right_bound o) b) right in
    let both = infix_by_spells (names_eq f (codes ",")) f (right_part ops o b q) own (λ e. w) second in
    let front = in_parentheses (left_closed ops o a) left in
    record {
      spells = λ s more.
          first.spells s (infix_by (names_eq f (codes ",")) f (right_part ops o b q) more)
          ∙ ap (λ l. gap s ++ (front ++ l)) (both.spells more)
          ∙ ap (λ l. gap s ++ l) (sym (append_assoc front (infix_name f ++ own) (spelled more)));
      runs = λ s more z. first.runs s (infix_by (names_eq f (codes ",")) f (right_part ops o b q) more) (both.follows more z);
      begin = λ s more. first.begin s (infix_by (names_eq f (codes ",")) f (right_part ops o b q) more);
    }

-- ---- braces and lists

curly_follows : (more : List Piece) → Follows more → Follows (mark Directly kind.CloseCurly 125 ∷ more)
curly_follows more h = record { calm = refl; later = refl; runs = before_first Directly kind.CloseCurly 125 close_curly_forms refl refl more h.later h.runs }

list_follows : (more : List Piece) → Follows more → Follows (mark Directly kind.CloseList 93 ∷ more)
list_follows more h = record { calm = refl; later = refl; runs = before_first Directly kind.CloseList 93 close_list_forms refl refl more h.later h.runs }

-- a term in braces spells its text
pub braces_spell : (ops : Table) (a : Term) (p : Part) (own : List ℕ) → SpellsPart p own → SpellsPart (in_braces ops a p) (codes "{" ++ (within ops 1200 a own ++ codes "}"))
braces_spell ops a p own h =
    let inner = enclosed_spells (nat_lt 1200 (priority ops a)) p own h in
    let inside = within ops 1200 a own in
    record {
      spells = λ s more. ap (λ l. gap s ++ 123 ∷ l) (inner.spells Directly (mark Directly kind.CloseCurly 125 ∷ more) ∙ sym (append_assoc inside (125 ∷ []) (spelled more)));
      runs = λ s more f.
          let closing = mark Directly kind.CloseCurly 125 ∷ more in
          before_first s kind.OpenCurly 123 open_curly_forms refl refl (within_part ops 1200 a p Directly closing) (later_of Directly (within_part ops 1200 a p Directly closing) (inner.begin Directly closing) refl)
          (inner.runs Directly closing (curly_follows more f));
      begin = λ s more. begins _ _;
    }

-- an element and what follows it spell their texts
pub list_spells : (ops : Table) (h : Term) (p : Part) (own : List ℕ) (rest : List Piece → List Piece) (behind : List ℕ) → SpellsPart p own → SpellsBehind rest behind → SpellsBoth (list_parts ops h p rest) (text.list_text ops h own behind)
list_spells ops h p own rest behind k b =
    let inner = enclosed_spells (nat_lt 999 (priority ops h)) p own k in
    let inside = within ops 999 h own in
    let all : (more : List Piece) → spelled (within_part ops 999 h p Directly (rest more)) ≡ (inside ++ behind) ++ spelled more =
    (λ more. inner.spells Directly (rest more) ∙ ap (λ l. inside ++ l) (b.spells more) ∙ sym (append_assoc inside behind (spelled more))) in
    record {
      alone = record {
        spells = λ s more. ap (λ l. gap s ++ 91 ∷ l) (all (mark Directly kind.CloseList 93 ∷ more) ∙ sym (append_assoc (inside ++ behind) (93 ∷ []) (spelled more)));
        runs = λ s more f.
            let closing = mark Directly kind.CloseList 93 ∷ more in
            before_first s kind.OpenList 91 open_list_forms refl refl (within_part ops 999 h p Directly (rest closing)) (later_of Directly (within_part ops 999 h p Directly (rest closing)) (inner.begin Directly (rest closing)) refl)
            (inner.runs Directly (rest closing) (b.follows closing (list_follows more f)));
        begin = λ s more. begins _ _;
      };
      behind = record {
        spells = λ more. ap (λ l. 44 ∷ l) (all more);
        follows = λ more f. comma_follows (within_part ops 999 h p Directly (rest more)) (later_of Directly (within_part ops 999 h p Directly (rest more)) (inner.begin Directly (rest more)) refl) (inner.runs Directly (rest more) (b.follows more f));
      };
    }

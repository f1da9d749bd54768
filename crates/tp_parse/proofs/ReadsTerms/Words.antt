-- Words: they are tokens taken one by one, and what stands first in them stands first in the tokens.
use Rattle.std.proofs.Common.{◌≡◌, ◌⊎◌, inl, inr, ℕ, suc, Bool, false, not, ◌&&◌, List, [], ◌∷◌, ◌++◌, length, Option, Some, None, Result, Ok, Err, codes, is_some, is_none, refl, sym, ap, subst, ◌∙◌, if◌then◌else◌, append_assoc, ◌<◌, arith}
use Rattle.std.specs.Option.{option_map}
use Rattle.std.proofs.lemmas.List.{map-append}
use Rattle.tp_terms.specs.Term.{Name}
use Rattle.tp_lex.specs.Next.{token_name}
use Rattle.tp_lex.specs.Tokens.{Lexed, with_token}
use Rattle.tp_lex.specs.declared.token.TokenKind.{TokenKind}
use Rattle.tp_lex.specs.declared.token.TokenKind.TheVariants as kind
use Rattle.tp_lex.specs.declared.token.LexFault.{LexFault}
use Rattle.tp_parse.specs.Table.{Op, Table}
use Rattle.tp_parse.specs.declared.steps.Label.{Label}
use Rattle.tp_parse.specs.declared.steps.Label.TheVariants.{Written, Comma}
use Rattle.tp_parse.specs.Ahead.{named_infix, infix_name_by, with_op_of, is_atom_by, first_kind, after_first, opens_directly, infix_ahead, is_atom_before}
use Rattle.tp_parse.specs.Texts.{HasToken}
use Rattle.tp_parse.specs.Words.{lexed_of, ahead, IsKnown, AreKnown, first_word, after_word, kind_of, opens_by, atom_before, atom_by, infix_by, prefix_by}
use Rattle.tp_parse.specs.Steps.{label_name, label_by, labelled, infix_word}
use Rattle.tp_parse.specs.declared.words.Word.{Word}

given-op : (name : Label → Name) (l : Label) (o : Option Op) → with_op_of (name l) o ≡ option_map (λ (r : Label × Op). (name r.0, r.1)) (option_map (λ (x : Op). (l, x)) o)
given-op name l None = refl
given-op name l (Some o) = refl

-- the tokens with these before them
abbrev pub before : List Lexed → Result (List Lexed) LexFault → Result (List Lexed) LexFault
before front (Ok more) = Ok (front ++ more)
before front (Err fault) = Err fault

pub ahead-push : (text : List ℕ) (ws : List Word) (w : Word) → ahead text (ws ++ w ∷ []) ≡ ahead text ws ++ lexed_of text w ∷ []
ahead-push text ws w = map-append (lexed_of text) ws (w ∷ [])

pub known-push : (ops : Table) (text : List ℕ) (ws : List Word) (w : Word) → AreKnown ops text ws → IsKnown ops text w → AreKnown ops text (ws ++ w ∷ [])
known-push ops text [] w h k = (k, tt)
known-push ops text (v ∷ ws) w h k = (h.0, known-push ops text ws w h.1 k)

before-token : (front : List Lexed) (t : Lexed) (r : Result (List Lexed) LexFault) → before front (with_token t r) ≡ before (front ++ t ∷ []) r
before-token front t (Ok more) = ap Ok (sym (append_assoc front (t ∷ []) more))
before-token front t (Err fault) = refl

-- a token that stands behind some words stands there too where none was taken, and one does where some were
pub token-at : (text : List ℕ) (at from : ℕ) → ((from ≡ at) ⊎ HasToken text at) → HasToken text from → HasToken text at
token-at text at from (inl e) h = subst (HasToken text) e h
token-at text at from (inr k) h = k

-- no words yet
pub words-start : (text : List ℕ) (ws : List Word) (r : Result (List Lexed) LexFault) → ws ≡ [] → before (ahead text ws) r ≡ r
words-start text ws r e = ap (λ l. before (ahead text l) r) e ∙ by r
  where
    by : (r : Result (List Lexed) LexFault) → before [] r ≡ r
    by (Ok more) = refl
    by (Err fault) = refl

pub known-none : (ops : Table) (text : List ℕ) (ws : List Word) → ws ≡ [] → AreKnown ops text ws
known-none ops text ws e = subst (AreKnown ops text) (sym e) tt

-- a first word is one of some
pub some-first : (ws : List Word) (w : Word) → first_word ws ≡ Some w → 0 < length ws
some-first [] w e = cc
some-first (v ∷ ws) w e = omega arith

-- one more word
pub words-more : (text : List ℕ) (ws pushed : List Word) (w : Word) (stop : Bool) (r more whole : Result (List Lexed) LexFault) → pushed ≡ ws ++ w ∷ [] → r ≡ (if stop then Ok (lexed_of text w ∷ []) else with_token (lexed_of text w) more) → false ≡ stop → before (ahead text ws) r ≡ whole → before (ahead text pushed) more ≡ whole
words-more text ws pushed w stop r more whole p e f same =
    ap (λ l. before (ahead text l) more) p ∙ ap (λ l. before l more) (ahead-push text ws w) ∙ sym (before-token (ahead text ws) (lexed_of text w) more)
    ∙ ap (before (ahead text ws)) (ap (λ b. if b then Ok (lexed_of text w ∷ []) else with_token (lexed_of text w) more) f ∙ sym e) ∙ same

pub known-more : (ops : Table) (text : List ℕ) (ws pushed : List Word) (w : Word) → pushed ≡ ws ++ w ∷ [] → AreKnown ops text ws → IsKnown ops text w → AreKnown ops text pushed
known-more ops text ws pushed w p h k = subst (AreKnown ops text) (sym p) (known-push ops text ws w h k)

-- ---- what stands first

pub ahead-after : (text : List ℕ) (ws : List Word) → ahead text (after_word ws) ≡ after_first (ahead text ws)
ahead-after text [] = refl
ahead-after text (w ∷ ws) = refl

pub ahead-kind : (text : List ℕ) (ws : List Word) → first_kind (ahead text ws) ≡ kind_of (first_word ws)
ahead-kind text [] = refl
ahead-kind text (w ∷ ws) = refl

pub ahead-opens : (text : List ℕ) (ws : List Word) → opens_directly (ahead text ws) ≡ opens_by (first_word ws)
ahead-opens text [] = refl
ahead-opens text (w ∷ ws) = refl

pub ahead-length : (text : List ℕ) (ws : List Word) → length (ahead text ws) ≡ length ws
ahead-length text [] = refl
ahead-length text (w ∷ ws) = ap suc (ahead-length text ws)

pub known-after : (ops : Table) (text : List ℕ) (ws : List Word) → AreKnown ops text ws → AreKnown ops text (after_word ws)
known-after ops text [] h = tt
known-after ops text (w ∷ ws) h = h.1

pub first-known : (ops : Table) (text : List ℕ) (ws : List Word) (w : Word) → AreKnown ops text ws → first_word ws ≡ Some w → IsKnown ops text w
first-known ops text [] w h e = cc
first-known ops text (v ∷ ws) w h e = let same : v ≡ w = cc in subst (IsKnown ops text) same h.0

pub first-split : (ws : List Word) (w : Word) → first_word ws ≡ Some w → ws ≡ w ∷ after_word ws
first-split [] w e = cc
first-split (v ∷ ws) w e = let same : v ≡ w = cc in ap (λ x. x ∷ ws) same

-- the infix operator that stands there
infix-by : (ops : Table) (text : List ℕ) (w : Word) (k : TokenKind) → w.as_infix ≡ infix_by ops k (token_name text w.token) → named_infix ops (infix_name_by k (token_name text w.token)) ≡ option_map (λ (r : Label × Op). (label_name text r.0, r.1)) (option_map (λ (o : Op). (label_by k w.token, o)) w.as_infix)
infix-by ops text w kind.Name e = ap (with_op_of (token_name text w.token)) (sym e) ∙ given-op (label_name text) (Written w.token.kind w.token.from w.token.to) w.as_infix
infix-by ops text w kind.Quoted e = ap (with_op_of (token_name text w.token)) (sym e) ∙ given-op (label_name text) (Written w.token.kind w.token.from w.token.to) w.as_infix
infix-by ops text w kind.Comma e = ap (with_op_of (codes ",")) (sym e) ∙ given-op (label_name text) Comma w.as_infix
infix-by ops text w kind.Variable e = ap (λ o. option_map (λ (r : Label × Op). (label_name text r.0, r.1)) (option_map (λ (o : Op). (label_by kind.Variable w.token, o)) o)) (sym e)
infix-by ops text w kind.Integer e = ap (λ o. option_map (λ (r : Label × Op). (label_name text r.0, r.1)) (option_map (λ (o : Op). (label_by kind.Integer w.token, o)) o)) (sym e)
infix-by ops text w kind.Codes e = ap (λ o. option_map (λ (r : Label × Op). (label_name text r.0, r.1)) (option_map (λ (o : Op). (label_by kind.Codes w.token, o)) o)) (sym e)
infix-by ops text w kind.Open e = ap (λ o. option_map (λ (r : Label × Op). (label_name text r.0, r.1)) (option_map (λ (o : Op). (label_by kind.Open w.token, o)) o)) (sym e)
infix-by ops text w kind.Close e = ap (λ o. option_map (λ (r : Label × Op). (label_name text r.0, r.1)) (option_map (λ (o : Op). (label_by kind.Close w.token, o)) o)) (sym e)
infix-by ops text w kind.OpenList e = ap (λ o. option_map (λ (r : Label × Op). (label_name text r.0, r.1)) (option_map (λ (o : Op). (label_by kind.OpenList w.token, o)) o)) (sym e)
infix-by ops text w kind.CloseList e = ap (λ o. option_map (λ (r : Label × Op). (label_name text r.0, r.1)) (option_map (λ (o : Op). (label_by kind.CloseList w.token, o)) o)) (sym e)
infix-by ops text w kind.OpenCurly e = ap (λ o. option_map (λ (r : Label × Op). (label_name text r.0, r.1)) (option_map (λ (o : Op). (label_by kind.OpenCurly w.token, o)) o)) (sym e)
infix-by ops text w kind.CloseCurly e = ap (λ o. option_map (λ (r : Label × Op). (label_name text r.0, r.1)) (option_map (λ (o : Op). (label_by kind.CloseCurly w.token, o)) o)) (sym e)
infix-by ops text w kind.Bar e = ap (λ o. option_map (λ (r : Label × Op). (label_name text r.0, r.1)) (option_map (λ (o : Op). (label_by kind.Bar w.token, o)) o)) (sym e)
infix-by ops text w kind.End e = ap (λ o. option_map (λ (r : Label × Op). (label_name text r.0, r.1)) (option_map (λ (o : Op). (label_by kind.End w.token, o)) o)) (sym e)

labelled-map : (w : Word) (o : Option Op) → labelled w o ≡ option_map (λ (o : Op). (label_by w.token.kind w.token, o)) o
labelled-map w None = refl
labelled-map w (Some o) = refl

pub ahead-infix : (ops : Table) (text : List ℕ) (ws : List Word) → AreKnown ops text ws → infix_ahead ops (ahead text ws) ≡ option_map (λ (r : Label × Op). (label_name text r.0, r.1)) (infix_word (first_word ws))
unfolding infix_ahead
ahead-infix ops text [] h = refl
ahead-infix ops text (w ∷ ws) h =
    infix-by ops text w w.token.kind (h.0).between ∙ ap (option_map (λ (r : Label × Op). (label_name text r.0, r.1))) (sym (labelled-map w w.as_infix))

-- the name of a prefix operator is an atom
atom-by : (ops : Table) (text : List ℕ) (w : Word) (opens : Bool) (k : TokenKind) → w.as_prefix ≡ prefix_by ops k (token_name text w.token) → w.as_infix ≡ infix_by ops k (token_name text w.token) → is_atom_by ops k (token_name text w.token) opens ≡ atom_by k w opens
atom-by ops text w opens kind.Name p i = ap (λ a. (is_some a && is_none (ops.prefixes (token_name text w.token))) && not opens) (sym i) ∙ ap (λ b. (is_some w.as_infix && is_none b) && not opens) (sym p)
atom-by ops text w opens kind.Quoted p i = ap (λ a. (is_some a && is_none (ops.prefixes (token_name text w.token))) && not opens) (sym i) ∙ ap (λ b. (is_some w.as_infix && is_none b) && not opens) (sym p)
atom-by ops text w opens kind.Comma p i = refl
atom-by ops text w opens kind.Variable p i = refl
atom-by ops text w opens kind.Integer p i = refl
atom-by ops text w opens kind.Codes p i = refl
atom-by ops text w opens kind.Open p i = refl
atom-by ops text w opens kind.Close p i = refl
atom-by ops text w opens kind.OpenList p i = refl
atom-by ops text w opens kind.CloseList p i = refl
atom-by ops text w opens kind.OpenCurly p i = refl
atom-by ops text w opens kind.CloseCurly p i = refl
atom-by ops text w opens kind.Bar p i = refl
atom-by ops text w opens kind.End p i = refl

pub ahead-atom : (ops : Table) (text : List ℕ) (ws : List Word) → AreKnown ops text ws → is_atom_before ops (ahead text ws) ≡ atom_before (first_word ws) (first_word (after_word ws))
unfolding is_atom_before
ahead-atom ops text [] h = refl
ahead-atom ops text (w ∷ ws) h =
    ap (is_atom_by ops w.token.kind (token_name text w.token)) (ahead-opens text ws)
    ∙ atom-by ops text w (opens_by (first_word ws)) w.token.kind (h.0).before (h.0).between

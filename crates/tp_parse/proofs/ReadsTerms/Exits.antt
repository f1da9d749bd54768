-- The reader's functions: what each exit gives.
use Rattle.std.proofs.Common.{◌≡◌, ℕ, ◌<◌, ◌^◌, IsTrue, Bool, List, [], ◌∷◌, ◌++◌, length, Some, Ok, Err, pos, codes, refl, sym, ap, subst, ◌∙◌, arith, if◌then◌else◌}
use Rattle.std.proofs.lemmas.Bool.{lt-ltb}
use Rattle.std.specs.Str.{chars}
use Rattle.tp_terms.specs.Term.{names_eq}
use Rattle.tp_lex.specs.Form.{has_name}
use Rattle.tp_lex.specs.Next.{token_name}
use Rattle.tp_lex.specs.Tokens.{Lexed}
use Rattle.tp_lex.specs.declared.token.TokenKind.{TokenKind}
use Rattle.tp_lex.specs.declared.token.TokenKind.TheVariants as kind
use Rattle.tp_parse.specs.declared.fault.ReadCause.TheVariants as cause
use Rattle.tp_parse.specs.declared.words.Word.{Word}
use Rattle.tp_parse.specs.declared.steps.Step.{Step}
use Rattle.tp_parse.specs.Tree.{Tree, Integer}
use Rattle.tp_parse.specs.Table.{Table}
use Rattle.tp_parse.specs.Ahead.{is_minus, is_minus_by}
use Rattle.tp_parse.specs.Reading.{Read, Term}
use Rattle.tp_parse.specs.Words.{lexed_of, ahead, AreKnown, first_word, after_word}
use Rattle.tp_parse.specs.Steps.{act, trees_of, AreReady, IsReady, is_named}
use Rattle.tp_parse.specs.Gives.{IsGoing, IsRead, simple}
use Rattle.tp_parse.proofs.ReadsTerms.Words.{known-after, first-split}
use Rattle.tp_parse.proofs.ReadsTerms.Steps.{trees-more, ready-more}

-- ---- what is going on

pub going-after : (ops : Table) (text : List ℕ) (ws left : List Word) (steps : List Step) → left ≡ after_word ws → IsGoing ops text ws steps → IsGoing ops text left steps
going-after ops text ws left steps e g = record { known = subst (AreKnown ops text) (sym e) (known-after ops text ws g.known); ready = g.ready }

pub going-step : (ops : Table) (text : List ℕ) (ws : List Word) (steps new : List Step) (s : Step) → new ≡ steps ++ s ∷ [] → IsReady text (length (trees_of text steps)) s → IsGoing ops text ws steps → IsGoing ops text ws new
going-step ops text ws steps new s e k g = record { known = g.known; ready = ready-more text steps new s e g.ready k }

-- ---- steps that end a reading

pub read-step : (text : List ℕ) (steps new : List Step) (s : Step) (before : List Tree) (tree : Tree) (left : List Lexed) (p : ℕ) (r : Read Term) → new ≡ steps ++ s ∷ [] → act text s (trees_of text steps) ≡ tree ∷ before → r ≡ Ok (tree, p, left) → IsRead before (trees_of text new) left p r
read-step text steps new s before tree left p r e a f = record { tree = tree; read = f; made = trees-more text steps new s e ∙ a }

pub simple-integer : (t : Lexed) (ts left : List Lexed) (k : TokenKind) (v : ℕ) → k ≡ kind.Integer → v ≡ t.value → v < 2 ^ 63 → left ≡ ts → simple t ts k ≡ Ok (Integer (pos v), 0, left)
simple-integer t ts left k v e f h l =
    ap (simple t ts) e ∙ ap (λ (b : Bool). if b then Ok (Integer (pos t.value), 0, ts) else Err (cause.Number, t ∷ ts)) (lt-ltb t.value (2 ^ 63) (omega (arith, f)))
    ∙ ap (λ n. Ok (Integer (pos n), 0, ts)) (sym f) ∙ ap (λ l. Ok (Integer (pos v), 0, l)) (sym l)

-- the tokens from a word on
pub ahead-first : (text : List ℕ) (ws : List Word) (w : Word) → first_word ws ≡ Some w → ahead text ws ≡ lexed_of text w ∷ ahead text (after_word ws)
ahead-first text ws w e = ap (ahead text) (first-split ws w e)

-- the name `-`
pub minus-text : (text bytes : List ℕ) (w : Word) → w.token.kind ≡ kind.Name → chars bytes ≡ token_name text w.token → names_eq (chars bytes) (codes "-") ≡ is_minus (lexed_of text w)
minus-text text bytes w e f = ap (λ n. names_eq n (codes "-")) f ∙ ap (λ k. is_minus_by k (token_name text w.token)) (sym e)

pub named-has : (k : TokenKind) → IsTrue (is_named k) → IsTrue (has_name k)
named-has kind.Name h = refl
named-has kind.Quoted h = refl
named-has kind.Variable h = refl
named-has kind.Codes h = refl
named-has kind.Integer h = cc
named-has kind.Open h = cc
named-has kind.Close h = cc
named-has kind.OpenList h = cc
named-has kind.CloseList h = cc
named-has kind.OpenCurly h = cc
named-has kind.CloseCurly h = cc
named-has kind.Comma h = cc
named-has kind.Bar h = cc
named-has kind.End h = cc

pub going-same : (ops : Table) (text : List ℕ) (ws left : List Word) (steps : List Step) → left ≡ ws → IsGoing ops text ws steps → IsGoing ops text left steps
going-same ops text ws left steps e g = record { known = subst (AreKnown ops text) (sym e) g.known; ready = g.ready }

pub going-items : (ops : Table) (text : List ℕ) (ws : List Word) (steps new : List Step) → new ≡ steps → IsGoing ops text ws steps → IsGoing ops text ws new
going-items ops text ws steps new e g = record { known = g.known; ready = subst (AreReady text []) (sym e) g.ready }

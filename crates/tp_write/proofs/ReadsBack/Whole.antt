-- What is written reads back.
use Rattle.std.proofs.Common.{◌≡◌, ℕ, true, cond, List, [], ◌∷◌, ◌++◌, length, Some, Ok, Err, refl, sym, ap, subst, ◌∙◌, arith, codes, append_assoc, length-append, encode_utf8_all}
use Rattle.std.proofs.lemmas.Str.{encodes-append, encode_ascii}
use Rattle.tp_terms.specs.Term.{Term}
use Rattle.tp_lex.specs.Next.{byte_of}
use Rattle.tp_lex.specs.Tokens.{Lexed, is_end, tokens}
use Rattle.tp_parse.specs.Tree.{Tree}
use Rattle.tp_parse.specs.Table.{Table, start_table}
use Rattle.tp_parse.specs.Reading.{◌>>=◌, ends_clause, clause_reading}
use Rattle.tp_parse.specs.Grammar.{Reads}
use Rattle.tp_parse.specs.Texts.{last_byte, is_ended, found, clause_by, clause_in, clause_of}
use Rattle.tp_parse.specs.declared.fault.ReadCause.TheVariants as cause
use Rattle.tp_parse.proofs.OneReading.Complete.{complete}
use Rattle.tp_write.specs.Text.{text}
use Rattle.tp_write.specs.Back.{written_clause, WrittenReadsBack}
use Rattle.tp_write.proofs.ReadsBack.Pieces.{First, Piece, Places, gap, token, laid, spelled, first_spelled, places_in, clause_pieces, end, tree_of}
use Rattle.tp_write.proofs.ReadsBack.Shape.{BeginsWith, within_shaped}
use Rattle.tp_write.proofs.ReadsBack.Lexed.Whole.{LexesBack, lexes_back}
use Rattle.tp_write.proofs.ReadsBack.Parsed.Whole.{reads_tree}
use Rattle.tp_write.proofs.ReadsBack.Renumbered.{numbered_is}

-- ---- the tokens of a clause

-- tokens of which the last is an end
pub record Ended (at : Places) (ps : List Piece) : Type 0 where
  pub first : Lexed
  pub rest : List Lexed
  pub parts : laid at ps ≡ first ∷ rest
  pub ended : is_ended first rest ≡ true
  pub last : last_byte first rest ≡ at.to []

laid_ended : (at : Places) (front : List Piece) → Ended at (front ++ end ∷ [])
laid_ended at [] = record { first = token at end []; rest = []; parts = refl; ended = refl; last = refl }
laid_ended at (p ∷ ps) = go p (ps ++ end ∷ []) (laid_ended at ps)
  where
    go : (p : Piece) (ps : List Piece) → Ended at ps → Ended at (p ∷ ps)
    go p ps e = record {
      first = token at p ps;
      rest = e.first ∷ e.rest;
      parts = ap (λ l. token at p ps ∷ l) e.parts;
      ended = e.ended;
      last = e.last;
    }

clause_ended : (at : Places) (t : Term) → Ended at (clause_pieces start_table t)
clause_ended at t =
    let e = (within_shaped start_table 1200 t).end First (end ∷ []) in
    subst (Ended at) (sym e.parts) (laid_ended at e.front)

-- the first token begins where the pieces begin
first_from : (at : Places) (ps : List Piece) (t : Lexed) (ts : List Lexed) → laid at ps ≡ t ∷ ts → t.from ≡ at.from ps
first_from at [] t ts e = cc
first_from at (p ∷ ps) t ts e = let same : token at p ps ≡ t = cc in ap (λ (k : Lexed). k.from) (sym same)

-- the first piece has no space before it
first_without_gap : (ps : List Piece) → BeginsWith First ps → first_spelled ps ≡ spelled ps
first_without_gap ps b = subst (λ l. first_spelled l ≡ spelled l) (sym b.parts) (go b.first b.stand)
  where
    go : (p : Piece) → p.stand ≡ First → first_spelled (p ∷ b.rest) ≡ spelled (p ∷ b.rest)
    go p e = ap (λ s. gap s ++ (p.own ++ spelled b.rest)) (sym e)

-- ---- reading

reading_is : (ops : Table) (ts : List Lexed) (x : Tree) (q : ℕ) (e : Lexed) → Reads ops 1000 1200 ts x q (e ∷ []) → is_end e.kind ≡ true → clause_reading ops ts ≡ Ok x
unfolding clause_reading
reading_is ops ts x q e r is = ap (λ z. z >>= λ r. ends_clause r.0 r.2) (complete r) ∙ ap (λ b. cond b (Ok x) (Err (cause.Syntax, e ∷ []))) is

clause_is : (ops : Table) (bytes : List ℕ) (t : Lexed) (ts : List Lexed) (x : Tree) → tokens bytes 0 ≡ Ok (t ∷ ts) → is_ended t ts ≡ true → clause_reading ops (t ∷ ts) ≡ Ok x → clause_of ops bytes 0 ≡ Ok (Some (found t ts x))
unfolding clause_of
clause_is ops bytes t ts x lexed ended read =
    ap (clause_in ops (length bytes)) lexed
    ∙ ap (λ b. cond b (clause_by (length bytes) t ts (clause_reading ops (t ∷ ts))) (Err (length bytes, cause.Unfinished))) ended
    ∙ ap (clause_by (length bytes) t ts) read

-- ---- bytes

start_is : (bytes cs : List ℕ) → bytes ≡ encode_utf8_all cs → byte_of bytes cs ≡ 0
start_is bytes cs e = let z = ap length e in omega arith

end_is : (bytes cs : List ℕ) → bytes ≡ encode_utf8_all (cs ++ codes " .\n") → byte_of bytes (10 ∷ []) ≡ length (encode_utf8_all (cs ++ codes " ."))
end_is bytes cs e =
    let split : cs ++ codes " .\n" ≡ (cs ++ codes " .") ++ (10 ∷ []) = sym (append_assoc cs (codes " .") (10 ∷ [])) in
    let all = ap length (e ∙ ap encode_utf8_all split ∙ encodes-append (cs ++ codes " .") (10 ∷ [])) in
    let size = length-append (encode_utf8_all (cs ++ codes " .")) (encode_utf8_all (10 ∷ [])) in
    let one : length (encode_utf8_all (10 ∷ [])) ≡ 1 = ap (λ (l : List ℕ). length (l ++ [])) (encode_ascii 10 (omega arith)) in
    omega arith

-- what is written of a readable term is read as the term with its variables renumbered
pub written_reads_back : WrittenReadsBack
written_reads_back t h d =
    let bytes = written_clause t in
    let at = places_in bytes in
    let ps = clause_pieces start_table t in
    let lexes : LexesBack t = lexes_back t h in
    let tail : Ended at ps = clause_ended at t in
    let read = reads_tree at t h d in
    let lexed : tokens bytes 0 ≡ Ok (tail.first ∷ tail.rest) = lexes.lexed ∙ ap (λ (l : List Lexed). Ok l) tail.parts in
    let parsed : clause_reading start_table (tail.first ∷ tail.rest) ≡ Ok (tree_of t) =
    ap (clause_reading start_table) (sym tail.parts) ∙ reading_is start_table (laid at ps) (tree_of t) read.0 (token at end []) read.1 refl in
    let spelt : encode_utf8_all (spelled ps) ≡ bytes = ap encode_utf8_all lexes.spells in
    let first : first_spelled ps ≡ spelled ps = first_without_gap ps ((within_shaped start_table 1200 t).begin First (end ∷ [])) in
    record {
      found = found tail.first tail.rest (tree_of t);
      read = clause_is start_table bytes tail.first tail.rest (tree_of t) lexed tail.ended parsed;
      same = numbered_is t h;
      from = first_from at ps tail.first tail.rest tail.parts ∙ ap (byte_of bytes) first ∙ start_is bytes (spelled ps) (sym spelt);
      to = tail.last ∙ end_is bytes (text start_table 1200 t) refl;
    }

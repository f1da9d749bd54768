-- Whole clauses and goals.
use Rattle.std.proofs.Common.{◌≡◌, ℕ, suc, ◌-◌, ◌<◌, Bool, true, false, List, [], ◌∷◌, map, length, get_or, Some, None, Result, Ok, Err, refl, sym, ap, ◌∙◌, arith, if◌then◌else◌}
use Rattle.tp_terms.specs.Term.{Name, Term}
use Rattle.tp_lex.specs.Tokens.{Lexed, is_end, tokens, goal_tokens}
use Rattle.tp_lex.specs.declared.token.LexFault.{LexFault}
use Rattle.tp_parse.specs.Tree.{Tree}
use Rattle.tp_parse.specs.Table.{Table}
use Rattle.tp_parse.specs.Numbers.{Numbers}
use Rattle.tp_parse.specs.Reading.{Read, ◌>>=◌, reading, clause_reading, goal_reading}
use Rattle.tp_parse.specs.Texts.{byte_at, is_ended, refused_token, clause_of, clause_in, clause_by, goal_of, goal_in, goal_by, found}
use Rattle.tp_parse.specs.Tells.{TellsClause, TellsGoal, named_of}
use Rattle.tp_parse.specs.Steps.{AreReady, trees_of}
use Rattle.tp_parse.specs.Words.{ahead, lexed_of, TellsWords}
use Rattle.tp_parse.specs.Gives.{Fails, IsRead}
use Rattle.tp_parse.specs.Making.{IsBuilt}
use Rattle.tp_parse.specs.Whole.{reading_of, ends_of, GivesEnd, GivesWhole, IsRefused, IsTerm, TellsWhole, to_of, found_at, ended_of}
use Rattle.tp_parse.specs.declared.words.Word.{Word}
use Rattle.tp_parse.specs.declared.words.Extent.{Extent}
use Rattle.tp_parse.specs.declared.words.Extent.TheVariants.{Clause, Whole}
use Rattle.tp_parse.specs.declared.steps.Step.{Step}
use Rattle.tp_parse.specs.declared.stop.Stop.{Stop}
use Rattle.tp_parse.specs.declared.fault.ReadCause.{ReadCause}
use Rattle.tp_parse.specs.declared.fault.ReadCause.TheVariants as cause
use Rattle.tp_parse.specs.declared.fault.ReadFault.{ReadFault}
use Rattle.tp_parse.specs.declared.fault.ReadFault.TheVariants.{Refused, NoMemory as NoRoom}
use Rattle.tp_parse.specs.declared.read.ReadTerm.{ReadTerm}
use Rattle.tp_parse.proofs.ReadsTerms.Loops.{Fails-then, Fails-same}

-- a whole is a term and its end
pub whole-step : (e : Extent) (ops : Table) (ts : List Lexed) → reading_of e ops ts ≡ (reading ops 1000 1200 ts >>= λ r. ends_of e r.0 r.2)
unfolding clause_reading goal_reading
whole-step Clause ops ts = refl
whole-step Whole ops ts = refl

pub whole-fails : (text : List ℕ) (e : Extent) (ops : Table) (ts left : List Lexed) (stop : Stop) → Fails left stop (reading ops 1000 1200 ts) → Fails left stop (reading_of e ops ts)
whole-fails text e ops ts left stop h = Fails-then left stop (reading ops 1000 1200 ts) _ _ (whole-step e ops ts) h

pub whole-then : {A : Type 0} (text : List ℕ) (e : Extent) (ops : Table) (old new : List Step) (ts us left : List Lexed) (p : ℕ) (result : Result A Stop) → old ≡ [] → IsRead (trees_of text old) (trees_of text new) us p (reading ops 1000 1200 ts) → AreReady text [] new →
    ((tree : Tree) → GivesEnd tree left result (ends_of e tree us)) → GivesWhole text new left result (reading_of e ops ts)
whole-then text e ops old new ts us left p (Ok done) none h k f = record {
  tree = h.tree;
  read = whole-step e ops ts ∙ ap (λ x. x >>= λ r. ends_of e r.0 r.2) h.read ∙ f h.tree;
  made = h.made ∙ ap (λ l. h.tree ∷ trees_of text l) none;
  ready = k;
}
whole-then text e ops old new ts us left p (Err stop) none h k f =
    Fails-same left stop _ _ (whole-step e ops ts ∙ ap (λ x. x >>= λ r. ends_of e r.0 r.2) h.read) (f h.tree)

-- the last word
pub last-at : (text : List ℕ) (end : ℕ) (w : Word) (ws : List Word) (d : Word) → to_of end (ahead text (w ∷ ws)) ≡ (get_or (w ∷ ws) (length ws) d).token.to
last-at text end w [] d = refl
last-at text end w (v ∷ ws) d = last-at text end v ws d

ended-last : (text : List ℕ) (w : Word) (ws : List Word) (d : Word) → is_ended (lexed_of text w) (ahead text ws) ≡ is_end (get_or (w ∷ ws) (length ws) d).token.kind
ended-last text w [] d = refl
ended-last text w (v ∷ ws) d = ended-last text v ws d

pub ended-at : (text : List ℕ) (w : Word) (ws : List Word) (d : Word) → ended_of (ahead text (w ∷ ws)) ≡ Some (is_end (get_or (w ∷ ws) (length ws) d).token.kind)
ended-at text w ws d = ap Some (ended-last text w ws d)

-- the term that was read
pub is-term : (names : List Name) (end : ℕ) (ts : List Lexed) (t : ReadTerm) (r : Read Tree) (tree : Tree) (s : Numbers) → r ≡ Ok tree → IsBuilt names t.cells.items t.root.at s tree → map named_of t.named ≡ s.named → t.vars ≡ s.vars → t.from ≡ byte_at end ts → t.to ≡ to_of end ts → IsTerm names end ts t r
is-term names end ts t r tree s e b n v f l = record {
  tree = tree;
  read = e;
  tells = record {
    term = sym (ap (λ (x : Term × Numbers). x.0) b.term);
    root = b.within;
    atoms = b.named;
    named = n ∙ ap (λ (x : Term × Numbers). (x.1).named) (sym b.term);
    vars = v ∙ ap (λ (x : Term × Numbers). (x.1).vars) (sym b.term);
    from = f;
    to = l;
  };
}

-- ---- clauses

pub clause-refused : (names : List Name) (ops : Table) (text : List ℕ) (at byte : ℕ) (why : ReadCause) → ((fault : LexFault) × (tokens text at ≡ Err fault) × (refused_token fault ≡ (byte, why))) → clause_of ops text at ≡ Err (byte, why)
unfolding clause_of
clause-refused names ops text at byte why h = ap (clause_in ops (length text)) h.1 ∙ ap (λ r. Err r) h.2

pub clause-none : (ops : Table) (text : List ℕ) (at : ℕ) (ts : List Lexed) → tokens text at ≡ Ok ts → ended_of ts ≡ None → clause_of ops text at ≡ Ok None
unfolding clause_of
clause-none ops text at [] e h = ap (clause_in ops (length text)) e
clause-none ops text at (t ∷ ts) e h = cc

pub clause-open : (ops : Table) (text : List ℕ) (at : ℕ) (ts : List Lexed) → tokens text at ≡ Ok ts → ended_of ts ≡ Some false → clause_of ops text at ≡ Err (length text, cause.Unfinished)
unfolding clause_of
clause-open ops text at [] e h = cc
clause-open ops text at (t ∷ ts) e h =
    let open_is : is_ended t ts ≡ false = cc in
    ap (clause_in ops (length text)) e ∙ ap (λ (b : Bool). if b then clause_by (length text) t ts (clause_reading ops (t ∷ ts)) else Err (length text, cause.Unfinished)) open_is

clause-ended : (ops : Table) (text : List ℕ) (at : ℕ) (t : Lexed) (ts : List Lexed) → tokens text at ≡ Ok (t ∷ ts) → is_ended t ts ≡ true → clause_of ops text at ≡ clause_by (length text) t ts (clause_reading ops (t ∷ ts))
unfolding clause_of
clause-ended ops text at t ts e h =
    ap (clause_in ops (length text)) e ∙ ap (λ (b : Bool). if b then clause_by (length text) t ts (clause_reading ops (t ∷ ts)) else Err (length text, cause.Unfinished)) h

pub clause-tells : (names : List Name) (ops : Table) (text : List ℕ) (at : ℕ) (ts : List Lexed) (t : ReadTerm) → tokens text at ≡ Ok ts → ended_of ts ≡ Some true → IsTerm names (length text) ts t (clause_reading ops ts) → TellsClause names (Ok (Some t)) (clause_of ops text at)
clause-tells names ops text at [] t e h r = cc
clause-tells names ops text at (x ∷ ts) t e h r =
    let ended : is_ended x ts ≡ true = cc in
    (found x ts r.tree, clause-ended ops text at x ts e ended ∙ ap (clause_by (length text) x ts) r.read, r.tells)

pub clause-stops : (ops : Table) (text : List ℕ) (at byte : ℕ) (why : ReadCause) (ts : List Lexed) → tokens text at ≡ Ok ts → ended_of ts ≡ Some true → IsRefused (length text) byte why (clause_reading ops ts) → clause_of ops text at ≡ Err (byte, why)
clause-stops ops text at byte why [] e h r = cc
clause-stops ops text at byte why (x ∷ ts) e h r =
    let ended : is_ended x ts ≡ true = cc in
    clause-ended ops text at x ts e ended ∙ ap (clause_by (length text) x ts) r.stops ∙ ap (λ z. Err z) r.is

-- ---- goals

pub goal-refused : (ops : Table) (text : List ℕ) (byte : ℕ) (why : ReadCause) → ((fault : LexFault) × (goal_tokens text ≡ Err fault) × (refused_token fault ≡ (byte, why))) → goal_of ops text ≡ Err (byte, why)
unfolding goal_of
goal-refused ops text byte why h = ap (goal_in ops (length text)) h.1 ∙ ap (λ r. Err r) h.2

pub goal-tells : (names : List Name) (ops : Table) (text : List ℕ) (ts : List Lexed) (result : Result ReadTerm ReadFault) → goal_tokens text ≡ Ok ts → TellsWhole names text ts result (goal_reading ops ts) → TellsGoal names result (goal_of ops text)
unfolding goal_of
goal-tells names ops text [] (Ok t) e r = (found_at (length text) [] r.tree, ap (goal_in ops (length text)) e ∙ ap (goal_by (length text) []) r.read, r.tells)
goal-tells names ops text (x ∷ ts) (Ok t) e r = (found x ts r.tree, ap (goal_in ops (length text)) e ∙ ap (goal_by (length text) (x ∷ ts)) r.read, r.tells)
goal-tells names ops text [] (Err (Refused byte why)) e r = ap (goal_in ops (length text)) e ∙ ap (goal_by (length text) []) r.stops ∙ ap (λ z. Err z) r.is
goal-tells names ops text (x ∷ ts) (Err (Refused byte why)) e r = ap (goal_in ops (length text)) e ∙ ap (goal_by (length text) (x ∷ ts)) r.stops ∙ ap (λ z. Err z) r.is
goal-tells names ops text ts (Err NoRoom) e r = tt

-- the last word, as the code finds it
pub last-word : (text : List ℕ) (end : ℕ) (ws : List Word) (w : Word) → w ≡ get_or ws (length ws - 1) w → 0 < length ws → w.token.to ≡ to_of end (ahead text ws)
last-word text end [] w e h = absurd (omega arith)
last-word text end (v ∷ ws) w e h =
    let same : suc (length ws) - 1 ≡ length ws = omega arith in
    ap (λ (x : Word). x.token.to) (e ∙ ap (λ i. get_or (v ∷ ws) i w) same) ∙ sym (last-at text end v ws w)

pub last-ended : (text : List ℕ) (ws : List Word) (w : Word) → w ≡ get_or ws (length ws - 1) w → 0 < length ws → Some (is_end w.token.kind) ≡ ended_of (ahead text ws)
last-ended text [] w e h = absurd (omega arith)
last-ended text (v ∷ ws) w e h =
    let same : suc (length ws) - 1 ≡ length ws = omega arith in
    ap (λ (x : Word). Some (is_end x.token.kind)) (e ∙ ap (λ i. get_or (v ∷ ws) i w) same) ∙ sym (ended-at text v ws w)

-- where the words or the term are refused
pub clause-words : {X : Type 0} (view : X → List Word) (names : List Name) (ops : Table) (text : List ℕ) (at : ℕ) (fault : ReadFault) → TellsWords view text (Err fault) (tokens text at) → TellsClause names (Err fault) (clause_of ops text at)
clause-words view names ops text at (Refused byte why) h = clause-refused names ops text at byte why h
clause-words view names ops text at NoRoom h = tt

pub clause-term : (names : List Name) (ops : Table) (text : List ℕ) (at : ℕ) (ts : List Lexed) (fault : ReadFault) → tokens text at ≡ Ok ts → ended_of ts ≡ Some true → TellsWhole names text ts (Err fault) (clause_reading ops ts) → TellsClause names (Err fault) (clause_of ops text at)
clause-term names ops text at ts (Refused byte why) e h r = clause-stops ops text at byte why ts e h r
clause-term names ops text at ts NoRoom e h r = tt

pub goal-words : {X : Type 0} (view : X → List Word) (names : List Name) (ops : Table) (text : List ℕ) (fault : ReadFault) → TellsWords view text (Err fault) (goal_tokens text) → TellsGoal names (Err fault) (goal_of ops text)
goal-words view names ops text (Refused byte why) h = goal-refused ops text byte why h
goal-words view names ops text NoRoom h = tt

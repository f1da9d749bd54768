-- A text is read on: what stood and what remains is one model.
use Rattle.std.proofs.Common.{◌≡◌, ℕ, zero, suc, ◌+◌, ◌<◌, true, List, [], ◌∷◌, length, map, Option, Some, None, option_map, Result, Ok, Err, refl, sym, ap, subst, ◌∙◌, arith, append-nil}
use Rattle.std.specs.Result.{is_ok}
use Rattle.std.specs.Str.{IsUtf8, IsCharBoundary}
use Rattle.tp_terms.specs.declared.cells.Cell.{Cell}
use Rattle.tp_terms.specs.declared.cells.Ref.{Ref}
use Rattle.tp_terms.specs.Term.{Name}
use Rattle.tp_terms.specs.Names.{Grows}
use Rattle.tp_terms.specs.Shown.{shows, AreNamed}
use Rattle.tp_terms.proofs.Naming.Tables.{Grows-shows, Grows-length}
use Rattle.tp_terms.proofs.Places.Shown.{AreNamed-longer}
use Rattle.tp_lex.specs.Next.{next}
use Rattle.tp_lex.specs.Tokens.{ToEnd}
use Rattle.tp_lex.specs.declared.token.LexFault.{LexFault}
use Rattle.tp_lex.proofs.TokensStand.Listed.{tokens-next}
use Rattle.tp_parse.specs.Ops.{table_of}
use Rattle.tp_parse.specs.Table.{Table, start_table}
use Rattle.tp_parse.specs.Texts.{clause_of, clause_in, refused_token}
use Rattle.tp_clauses.specs.Model.{Model, Refusal, model_from, most_terms, by_read, by_token, refused_read}
use Rattle.tp_clauses.specs.Contents.{base_of, clause_of as clause_at, clause_by}
use Rattle.tp_clauses.specs.Loaded.{AsksMemory, Begin, Comes}
use Rattle.tp_clauses.specs.Parts.{IsParts, IsEmpty, contents_of}
use Rattle.tp_clauses.specs.Told.{after, Steps, TellsBegin, TellsStep, TellsParts, TellsEnd, Holds}
use Rattle.tp_clauses.specs.declared.base.ClauseView.{ClauseView}
use Rattle.tp_clauses.specs.declared.parts.Parts.{Parts}
use Rattle.tp_clauses.specs.declared.fault.LoadFault.{LoadFault}
use Rattle.tp_clauses.specs.declared.fault.LoadFault.TheVariants.{Refused, NoMemory}

pub most : most_terms ≡ 1000000
unfolding most_terms
most = refl

-- so many read terms of the text were taken
pub record IsLoading (names : List Name) (text : List ℕ) (at before : ℕ) (p : Parts) : Type 0 where
  pub left : ℕ
  pub all : left + before ≡ most_terms
  pub place : IsCharBoundary text at
  pub parts : IsParts p
  pub named : AreNamed (length names) p.store.cells
  pub comes : Comes text (before + 1) (table_of p.ops) at
  pub model : after (base_of names (contents_of p)) (model_from left (before + 1) text (table_of p.ops) at) ≡ model_from most_terms 1 text start_table 0

pub after-none : (r : Result Model Refusal) → after [] r ≡ r
after-none (Ok m) = refl
after-none (Err r) = refl

pub loading_start : (names : List Name) (text : List ℕ) (p : Parts) → IsEmpty p → IsCharBoundary text 0 → IsLoading names text 0 0 p
loading_start names text p e b = record {
  left = most_terms;
  all = omega arith;
  place = b;
  parts = e.parts;
  named = subst (AreNamed (length names)) (sym e.cells) tt;
  comes = subst (λ t. Comes text (0 + 1) t 0) (sym e.ops) (subst (λ n. Comes text n start_table 0) (let z : 1 ≡ 0 + 1 = omega arith in z) Begin);
  model =
      ap (λ vs. after (map (clause_at names p.store.cells) vs) (model_from most_terms (0 + 1) text (table_of p.ops) 0)) e.clauses
      ∙ after-none (model_from most_terms (0 + 1) text (table_of p.ops) 0)
      ∙ ap (λ t. model_from most_terms (0 + 1) text t 0) e.ops
      ∙ ap (λ n. model_from most_terms n text start_table 0) (let z : 0 + 1 ≡ 1 = omega arith in z);
}

model_from-more : (more n : ℕ) (text : List ℕ) (ops : Table) (at : ℕ) → model_from (suc more) n text ops at ≡ by_read (model_from more (n + 1) text) n ops (clause_of ops text at)
unfolding model_from
model_from-more more n text ops at = refl

model_from-end : (n : ℕ) (text : List ℕ) (ops : Table) (at : ℕ) → model_from zero n text ops at ≡ by_token n ops (next text at)
unfolding model_from
model_from-end n text ops at = refl

-- a longer table of names shows the same clauses
pub base-grows : (old new : List Name) → Grows old new → (cells : List Cell) → AreNamed (length old) cells → (vs : List ClauseView) → map (clause_at new cells) vs ≡ map (clause_at old cells) vs
base-grows old new g cells n [] = refl
base-grows old new g cells n (v ∷ vs) =
    ap (λ t. clause_by t (option_map (λ place. shows new cells place.at) v.body) v.vars ∷ map (clause_at new cells) vs) (Grows-shows old new g cells v.head.at n)
    ∙ ap (λ b. clause_by (shows old cells v.head.at) b v.vars ∷ map (clause_at new cells) vs) (go v.body)
    ∙ ap (λ l. clause_at old cells v ∷ l) (base-grows old new g cells n vs)
  where
    go : (o : Option Ref) → option_map (λ place. shows new cells place.at) o ≡ option_map (λ place. shows old cells place.at) o
    go None = refl
    go (Some place) = ap Some (Grows-shows old new g cells place.at n)

pub named-grows : (old new : List Name) → Grows old new → (cells : List Cell) → AreNamed (length old) cells → AreNamed (length new) cells
named-grows old new g cells n = AreNamed-longer (length old) (length new) cells (Grows-length old new g) n

-- what remains, once a read term more was looked at
module _ (old new : List Name) (text : List ℕ) (at before : ℕ) (p : Parts) (h : IsLoading old text at before p) (g : Grows old new) (l : before < most_terms) where
  whole : Result Model Refusal
  whole = model_from most_terms 1 text start_table 0

  looked : (left : ℕ) → left + before ≡ most_terms → after (base_of old (contents_of p)) (model_from left (before + 1) text (table_of p.ops) at) ≡ model_from most_terms 1 text start_table 0
      → (more : ℕ) × ((more + (before + 1) ≡ most_terms) × (after (base_of new (contents_of p)) (by_read (model_from more (before + 1 + 1) text) (before + 1) (table_of p.ops) (clause_of (table_of p.ops) text at)) ≡ model_from most_terms 1 text start_table 0))
  looked zero e m = absurd (omega arith)
  looked (suc more) e m = (
    more,
    (
      omega arith,
      ap (λ b. after b (by_read (model_from more (before + 1 + 1) text) (before + 1) (table_of p.ops) (clause_of (table_of p.ops) text at))) (base-grows old new g p.store.cells h.named p.clauses.items)
          ∙ ap (after (base_of old (contents_of p))) (sym (model_from-more more (before + 1) text (table_of p.ops) at)) ∙ m,
    ),
  )

  pub loading_more : (q : Parts) (to : ℕ) → Steps new p q text at (before + 1) to → IsLoading new text to (before + 1) q
  loading_more q to s = let k = looked h.left h.all h.model in record {
    left = k.0;
    all = k.1.0;
    place = s.place;
    parts = s.parts;
    named = s.named;
    comes = s.comes h.comes;
    model = sym (s.model (model_from k.0 (before + 1 + 1) text)) ∙ k.1.1;
  }

  pub loading_none : (q : Parts) → (clause_of (table_of p.ops) text at ≡ Ok None) × (q ≡ p) → Holds new q (model_from most_terms 1 text start_table 0)
  loading_none q n = let k = looked h.left h.all h.model in
      subst (λ (x : Parts). Holds new x (model_from most_terms 1 text start_table 0)) (sym n.1)
      (record {
        model = sym k.1.1 ∙ ap (λ r. after (base_of new (contents_of p)) (by_read (model_from k.0 (before + 1 + 1) text) (before + 1) (table_of p.ops) r)) n.0
            ∙ ap (λ c. let r : Result Model Refusal = Ok (record { clauses = c; table = table_of p.ops }) in r) (append-nil (base_of new (contents_of p)));
        named = named-grows old new g p.store.cells h.named;
      })

  pub loading_err : (q : Parts) (fault : LoadFault) (result : Result Parts LoadFault) → result ≡ Err fault → TellsStep new p q text at (before + 1) (Err fault) → TellsParts new result (model_from most_terms 1 text start_table 0)
  loading_err q fault result e s = subst (λ (x : Result Parts LoadFault). TellsParts new x (model_from most_terms 1 text start_table 0)) (sym e) (go fault s)
    where
      go : (fault : LoadFault) → TellsStep new p q text at (before + 1) (Err fault) → TellsParts new (Err fault) (model_from most_terms 1 text start_table 0)
      go (Refused clause byte c) s = let k = looked h.left h.all h.model in sym k.1.1 ∙ ap (after (base_of new (contents_of p))) (s (model_from k.0 (before + 1 + 1) text))
      go NoMemory s = tt

-- no further read term may come
module _ (names : List Name) (text : List ℕ) (at before : ℕ) (p : Parts) (h : IsLoading names text at before p) (l : before ≡ most_terms) where
  ended : after (base_of names (contents_of p)) (by_token (most_terms + 1) (table_of p.ops) (next text at)) ≡ model_from most_terms 1 text start_table 0
  ended =
      let none : zero ≡ h.left = (let e = h.all in omega arith) in
      ap (λ n. after (base_of names (contents_of p)) (by_token (n + 1) (table_of p.ops) (next text at))) (sym l)
      ∙ ap (after (base_of names (contents_of p))) (sym (model_from-end (before + 1) text (table_of p.ops) at) ∙ ap (λ n. model_from n (before + 1) text (table_of p.ops) at) none)
      ∙ h.model

  pub ended_ok : next text at ≡ Ok None → Holds names p (model_from most_terms 1 text start_table 0)
  ended_ok e = record {
    model = sym ended ∙ ap (λ r. after (base_of names (contents_of p)) (by_token (most_terms + 1) (table_of p.ops) r)) e
        ∙ ap (λ c. let r : Result Model Refusal = Ok (record { clauses = c; table = table_of p.ops }) in r) (append-nil (base_of names (contents_of p)));
    named = h.named;
  }

  pub ended_err : (A : Type 0) (number : ℕ) (fault : LoadFault) (result : Result Parts LoadFault) → number ≡ most_terms + 1 → result ≡ Err fault → TellsEnd {A = A} number (Err fault) (next text at) → TellsParts names result (model_from most_terms 1 text start_table 0)
  ended_err A number fault result n e s = subst (λ (x : Result Parts LoadFault). TellsParts names x (model_from most_terms 1 text start_table 0)) (sym e) (go fault s)
    where
      go : (fault : LoadFault) → TellsEnd {A = A} number (Err fault) (next text at) → TellsParts names (Err fault) (model_from most_terms 1 text start_table 0)
      go (Refused clause byte c) s = sym ended ∙ ap (λ m. after (base_of names (contents_of p)) (by_token m (table_of p.ops) (next text at))) (sym n) ∙ ap (after (base_of names (contents_of p))) (s (table_of p.ops))
      go NoMemory s = absurd s

-- ---- the first token

-- where it is refused, the clause is, for its cause
pub clause-refused : (ops : Table) (text : List ℕ) (at : ℕ) (fault : LexFault) → IsUtf8 text → IsCharBoundary text at → next text at ≡ Err fault → clause_of ops text at ≡ Err (refused_token fault)
unfolding clause_of
clause-refused ops text at fault u b e = ap (clause_in ops (length text)) (tokens-next ToEnd text at None (Err fault) u b e)

first-refused : (text : List ℕ) (fault : LexFault) → IsUtf8 text → IsCharBoundary text 0 → next text 0 ≡ Err fault → (n : ℕ) → n ≡ most_terms → model_from n 1 text start_table 0 ≡ Err (refused_read 1 (refused_token fault))
first-refused text fault u b e zero is = absurd (omega (arith, most))
first-refused text fault u b e (suc more) is = model_from-more more 1 text start_table 0 ∙ ap (by_read (model_from more (1 + 1) text) 1 start_table) (clause-refused start_table text 0 fault u b e)

pub begun_err : (names : List Name) (text : List ℕ) (fault : LoadFault) (result : Result Parts LoadFault) → IsUtf8 text → IsCharBoundary text 0 → result ≡ Err fault → TellsBegin (Err fault) (next text 0) → TellsParts names result (model_from most_terms 1 text start_table 0)
begun_err names text fault result u b e told = subst (λ (x : Result Parts LoadFault). TellsParts names x (model_from most_terms 1 text start_table 0)) (sym e) (go fault told)
  where
    go : (fault : LoadFault) → TellsBegin (Err fault) (next text 0) → TellsParts names (Err fault) (model_from most_terms 1 text start_table 0)
    go (Refused clause byte c) told = first-refused text told.0 u b told.1 most_terms refl ∙ ap Err (sym told.2)
    go NoMemory told = tt

-- ---- want of memory

pub fault_same : (A B : Type 0) (f g : LoadFault) → ◌≡◌ {A = Result A LoadFault} (Err f) (Err g) → ◌≡◌ {A = Result B LoadFault} (Err f) (Err g)
fault_same A B f g e = let h : f ≡ g = cc in ap Err h

-- the definition comes to the first read term, where the first token isn't refused
pub first_asks : (text : List ℕ) → is_ok (next text 0) ≡ true → AsksMemory text
first_asks text ok = record { number = 1; ops = start_table; at = 0; comes = Begin; few = omega (arith, most); token = ok }

pub begun_memory : (text : List ℕ) (fault : LoadFault) → TellsBegin (Err fault) (next text 0) → ◌≡◌ {A = Result Parts LoadFault} (Err fault) (Err NoMemory) → AsksMemory text
begun_memory text (Refused clause byte c) told e = absurd (cc)
begun_memory text NoMemory told e = first_asks text told

pub loading_memory : (names : List Name) (text : List ℕ) (at before : ℕ) (p : Parts) → IsLoading names text at before p → before < most_terms → is_ok (next text at) ≡ true → AsksMemory text
loading_memory names text at before p h l ahead = record { number = before + 1; ops = table_of p.ops; at = at; comes = h.comes; few = omega arith; token = ahead }

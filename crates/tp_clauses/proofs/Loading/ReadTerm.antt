-- What is read from a byte on: it ends at a character's start, and its variables are below their number.
use Rattle.std.proofs.Common.{◌≡◌, ℕ, zero, suc, ◌+◌, ◌<◌, ◌≤◌, Bool, true, false, ◌||◌, List, [], ◌∷◌, ◌++◌, length, Option, Some, None, Result, Ok, Err, refl, sym, ap, subst, ◌∙◌, arith, if◌then◌else◌, append_assoc}
use Rattle.std.specs.Prelude.{codes}
use Rattle.std.specs.Result.{is_ok}
use Rattle.std.specs.Str.{IsUtf8, IsCharBoundary}
use Rattle.std.proofs.lemmas.Bool.{eqb-true}
use Rattle.tp_terms.specs.Term.{Name, names_eq, occurs, occurs_in}
use Rattle.tp_terms.specs.Shown.{shows}
use Rattle.tp_lex.specs.Next.{next}
use Rattle.tp_lex.specs.Tokens.{Lexed, Reach, ToEnd, lexed, with_token, stops_at, tokens_by_next, tokens_up_to, tokens_from, tokens}
use Rattle.tp_lex.specs.declared.token.Token.{Token}
use Rattle.tp_lex.specs.declared.token.LexFault.{LexFault}
use Rattle.tp_lex.proofs.TokensStand.Each.{given}
use Rattle.tp_parse.specs.Table.{Table}
use Rattle.tp_parse.specs.Ops.{table_of}
use Rattle.tp_parse.specs.Tree.{Tree, Variable, Integer, Atom, Compound, Trees, none, first_of}
use Rattle.tp_parse.specs.Reading.{Read, clause_reading}
use Rattle.tp_parse.specs.Numbers.{Numbers, no_numbers, number_in, number_of, known_number, numbered, all_numbered}
use Rattle.tp_parse.specs.Texts.{Found, clause_of, clause_in, clause_by, found, found_by, last_byte, is_ended, refused, refused_token}
use Rattle.tp_parse.specs.Texts as read
use Rattle.tp_parse.specs.Tells.{Tells}
use Rattle.tp_parse.specs.declared.read.ReadTerm.{ReadTerm}
use Rattle.tp_meaning.specs.Clauses.{Base}
use Rattle.tp_clauses.specs.Contents.{AreBelow, base_of}
use Rattle.tp_clauses.specs.Model.{Model, Refusal, Rest, Kind, Directive, OfClause, kind_of, by_kind, by_read, refusal, with_clause}
use Rattle.tp_clauses.specs.Loaded.{Comes, PastDirective, PastClause}
use Rattle.tp_clauses.specs.Parts.{contents_of}
use Rattle.tp_clauses.specs.Told.{outcome, after, Taken, TellsRead, Steps, TellsStep}
use Rattle.tp_clauses.specs.declared.parts.Parts.{Parts}
use Rattle.tp_clauses.specs.declared.fault.Cause.{Cause}
use Rattle.tp_clauses.specs.declared.fault.LoadFault.{LoadFault}
use Rattle.tp_clauses.specs.declared.fault.LoadFault.TheVariants.{Refused, NoMemory}
use Rattle.tp_clauses.proofs.Taking.Variables.{occurs-names}
use Rattle.tp_clauses.proofs.Loading.Text.{after-none, clause-refused}

-- ---- numbers of variables

-- every number that was given is below the number of variables
AreGiven : ℕ → List (Name × ℕ) → Type 0
AreGiven n [] = Unit {0}
AreGiven n (p ∷ ps) = (p.1 < n) × AreGiven n ps

given_later : (m n : ℕ) (ps : List (Name × ℕ)) → m ≤ n → AreGiven m ps → AreGiven n ps
unfolding AreGiven
given_later m n [] l h = tt
given_later m n (p ∷ ps) l h = (let x = h.0 in omega arith, given_later m n ps l h.1)

given_push : (n : ℕ) (ps : List (Name × ℕ)) (p : Name × ℕ) → AreGiven n ps → p.1 < n → AreGiven n (ps ++ p ∷ [])
unfolding AreGiven
given_push n [] p h k = (k, tt)
given_push n (q ∷ ps) p h k = (h.0, given_push n ps p h.1 k)

given_found : (n : ℕ) (ps : List (Name × ℕ)) (name : Name) (m : ℕ) → AreGiven n ps → number_in ps name ≡ Some m → m < n
unfolding AreGiven
given_found n [] name m h e = absurd (cc)
given_found n (p ∷ ps) name m h e = go (λ x. given_found n ps name m h.1 x) (names_eq name p.0) refl
  where
    go : (number_in ps name ≡ Some m → m < n) → (b : Bool) → names_eq name p.0 ≡ b → m < n
    go later true f = let s : p.1 ≡ m = (let x : Some p.1 ≡ Some m = sym (ap (λ c. if c then Some p.1 else number_in ps name) f) ∙ e in cc) in let l = h.0 in omega arith
    go later false f = later (sym (ap (λ c. if c then Some p.1 else number_in ps name) f) ∙ e)

-- behind these numbers the term's variables are below the number of all
record Fits (s r : Numbers) : Type 0 where
  pub more : s.vars ≤ r.vars
  pub given : AreGiven r.vars r.named

number_fits : (name : Name) (s : Numbers) → AreGiven s.vars s.named → Fits s (number_of name s).1 × ((number_of name s).0 < ((number_of name s).1).vars)
unfolding AreGiven
number_fits name s h = go (names_eq name (codes "_"))
  where
    known : (o : Option ℕ) → number_in s.named name ≡ o → Fits s (known_number name s o).1 × ((known_number name s o).0 < ((known_number name s o).1).vars)
    known None e = (record { more = omega arith; given = given_push (s.vars + 1) s.named (name, s.vars) (given_later s.vars (s.vars + 1) s.named (omega arith) h) (omega arith) }, omega arith)
    known (Some m) e = (record { more = omega arith; given = h }, given_found s.vars s.named name m h e)

    go : (b : Bool) → let r : ℕ × Numbers = (if b then (s.vars, record { named = s.named; vars = s.vars + 1 }) else known_number name s (number_in s.named name)) in Fits s r.1 × (r.0 < (r.1).vars)
    go true = (record { more = omega arith; given = given_later s.vars (s.vars + 1) s.named (omega arith) h }, omega arith)
    go false = known (number_in s.named name) refl

or_cases : (a b : Bool) (P : Type 0) → (a || b) ≡ true → (a ≡ true → P) → (b ≡ true → P) → P
or_cases true b P e f g = f refl
or_cases false b P e f g = g e

mutual
  tree_fits : (t : Tree) (s : Numbers) → AreGiven s.vars s.named → Fits s (numbered t s).1 × ((v : ℕ) → occurs v (numbered t s).0 ≡ true → v < ((numbered t s).1).vars)
  tree_fits (Variable x) s h = let n = number_fits x s h in (n.0, λ v e. let same : v ≡ (number_of x s).0 = eqb-true v (number_of x s).0 e in let l = n.1 in omega arith)
  tree_fits (Integer z) s h = (record { more = omega arith; given = h }, λ v e. absurd (cc))
  tree_fits (Atom a) s h = (record { more = omega arith; given = h }, λ v e. absurd (cc))
  tree_fits (Compound f ts) s h = trees_fit ts s h

  trees_fit : (ts : Trees) (s : Numbers) → AreGiven s.vars s.named → Fits s (all_numbered ts s).1 × ((v : ℕ) → occurs_in v (all_numbered ts s).0 ≡ true → v < ((all_numbered ts s).1).vars)
  trees_fit none s h = (record { more = omega arith; given = h }, λ v e. absurd (cc))
  trees_fit (first_of t ts) s h =
      let a = tree_fits t s h in
      let b = trees_fit ts (numbered t s).1 (a.0).given in (
        record { more = (let x = (a.0).more in let y = (b.0).more in omega arith); given = (b.0).given },
        λ v e. or_cases (occurs v (numbered t s).0) (occurs_in v (all_numbered ts (numbered t s).1).0) (v < ((all_numbered ts (numbered t s).1).1).vars) e
            (λ x. let l = a.1 v x in let y = (b.0).more in omega arith) (λ x. b.1 v x),
      )

-- ---- the clause of a byte

-- the first of its tokens, the others, and its tree
record Shape (ops : Table) (text : List ℕ) (at : ℕ) (f : Found) : Type 0 where
  pub token : Lexed
  pub others : List Lexed
  pub tree : Tree
  pub taken : tokens text at ≡ Ok (token ∷ others)
  pub is : f ≡ found token others tree

some_found : (f g : Found) → ◌≡◌ {A = Result (Option Found) read.Refusal} (Ok (Some f)) (Ok (Some g)) → f ≡ g
some_found f g e = cc

shape : (ops : Table) (text : List ℕ) (at : ℕ) (f : Found) → clause_of ops text at ≡ Ok (Some f) → Shape ops text at f
unfolding clause_of
shape ops text at f e = go (tokens text at) refl e
  where
    go : (r : Result (List Lexed) LexFault) → tokens text at ≡ r → clause_in ops (length text) r ≡ Ok (Some f) → Shape ops text at f
    go (Err fault) k x = absurd (cc)
    go (Ok []) k x = absurd (cc)
    go (Ok (t ∷ ts)) k x = ended (is_ended t ts) x
      where
        read_by : (r : Read Tree) → clause_by (length text) t ts r ≡ Ok (Some f) → Shape ops text at f
        read_by (Ok tree) y = record { token = t; others = ts; tree = tree; taken = k; is = some_found f (found t ts tree) (sym y) }
        read_by (Err s) y = absurd (cc)

        ended : (b : Bool) → (if b then clause_by (length text) t ts (clause_reading ops (t ∷ ts)) else Err (length text, Rattle.tp_parse.specs.declared.fault.ReadCause.TheVariants.Unfinished)) ≡ Ok (Some f) → Shape ops text at f
        ended true y = read_by (clause_reading ops (t ∷ ts)) y
        ended false y = absurd (cc)

-- its variables are below their number
pub vars_below : (ops : Table) (text : List ℕ) (at : ℕ) (f : Found) → clause_of ops text at ≡ Ok (Some f) → (v : ℕ) → occurs v f.term ≡ true → v < f.vars
unfolding AreGiven
vars_below ops text at f e v o =
    let s = shape ops text at f e in
    let h = (tree_fits s.tree no_numbers tt).1 v (ap (λ (g : Found). occurs v g.term) (sym s.is) ∙ o) in
    let same : f.vars ≡ ((numbered s.tree no_numbers).1).vars = ap (λ (g : Found). g.vars) s.is in
    omega arith

-- every token ends at a character's start
Ends : List ℕ → List Lexed → Type 0
Ends text [] = Unit {0}
Ends text (t ∷ ts) = IsCharBoundary text t.to × Ends text ts

last_ends : (text : List ℕ) (t : Lexed) (ts : List Lexed) → Ends text (t ∷ ts) → IsCharBoundary text (last_byte t ts)
unfolding Ends
last_ends text t [] h = h.0
last_ends text t (u ∷ us) h = last_ends text u us h.1

same_list : (k l : List Lexed) → ◌≡◌ {A = Result (List Lexed) LexFault} (Ok k) (Ok l) → k ≡ l
same_list k l e = cc

tokens_end : (reach : Reach) (n : ℕ) (text : List ℕ) (at : ℕ) (end : Option ℕ) → IsUtf8 text → IsCharBoundary text at → (l : List Lexed) → tokens_up_to reach n text at end ≡ Ok l → Ends text l
unfolding tokens_up_to Ends
tokens_end reach zero text at end u b l e = subst (Ends text) (same_list [] l e) tt
tokens_end reach (suc n) text at end u b l e = go (λ to last c k x. tokens_end reach n text to last u c k x) (next text at) refl e
  where
    go : ((to : ℕ) (last : Option ℕ) → IsCharBoundary text to → (k : List Lexed) → tokens_up_to reach n text to last ≡ Ok k → Ends text k) → (r : Result (Option Token) LexFault) → next text at ≡ r → tokens_by_next reach text end (tokens_up_to reach n text) r ≡ Ok l → Ends text l
    go more (Err fault) k x = absurd (cc)
    go more (Ok None) k x = subst (Ends text) (same_list [] l x) tt
    go more (Ok (Some token)) k x = by (stops_at reach token.kind) x
      where
        here : IsCharBoundary text token.to
        here = ((given text at token u b k).stands).next_place

        behind : (q : Result (List Lexed) LexFault) → tokens_up_to reach n text token.to (Some token.to) ≡ q → with_token (lexed text end token) q ≡ Ok l → Ends text l
        behind (Ok ts) z y = subst (Ends text) (same_list (lexed text end token ∷ ts) l y) (here, more token.to (Some token.to) here ts z)
        behind (Err fault) z y = absurd (cc)

        by : (s : Bool) → ◌≡◌ {A = Result (List Lexed) LexFault} (elim s [ true ↦ Ok (lexed text end token ∷ []) | false ↦ with_token (lexed text end token) (tokens_up_to reach n text token.to (Some token.to)) ]) (Ok l) → Ends text l
        by true y = subst (Ends text) (same_list (lexed text end token ∷ []) l y) (here, tt)
        by false y = behind (tokens_up_to reach n text token.to (Some token.to)) refl y

pub ends_at : (ops : Table) (text : List ℕ) (at : ℕ) (f : Found) → IsUtf8 text → IsCharBoundary text at → clause_of ops text at ≡ Ok (Some f) → IsCharBoundary text f.to
unfolding tokens_from
ends_at ops text at f u b e =
    let s = shape ops text at f e in
    subst (IsCharBoundary text) (sym (ap (λ (g : Found). g.to) s.is)) (last_ends text s.token s.others (tokens_end ToEnd (length text) text at None u b (s.token ∷ s.others) s.taken))

-- ---- what was read

pub reads_below : (ops : Table) (text : List ℕ) (at : ℕ) (names : List Name) (t : ReadTerm) (f : Found) → clause_of ops text at ≡ Ok (Some f) → Tells names t f → AreBelow t.cells.items t.vars t.root
reads_below ops text at names t f e tells v o =
    let l = vars_below ops text at f e v (ap (occurs v) (sym tells.term) ∙ occurs-names v names [] t.cells.items t.root.at ∙ o) in
    let same : t.vars ≡ f.vars = tells.vars in
    omega arith

by_outcome : Rest → ℕ → Found → Result (Table × Base) Cause → Result Model Refusal
by_outcome rest n f (Err c) = Err (refusal n f.from c)
by_outcome rest n f (Ok r) = after r.1 (rest r.0 f.to)

one_clause : (c : Rattle.tp_meaning.specs.Clauses.Clause) (r : Result Model Refusal) → with_clause c r ≡ after (c ∷ []) r
one_clause c (Ok m) = refl
one_clause c (Err r) = refl

kind_outcome : (rest : Rest) (n : ℕ) (ops : Table) (f : Found) (k : Kind) → by_kind rest n ops f k ≡ by_outcome rest n f (outcome ops k)
unfolding by_outcome
kind_outcome rest n ops f (Directive None) = refl
kind_outcome rest n ops f (Directive (Some t)) = sym (after-none (rest t f.to))
kind_outcome rest n ops f (OfClause (Err c)) = refl
kind_outcome rest n ops f (OfClause (Ok c)) = one_clause c (rest ops f.to)

after-after : (a b : Base) (r : Result Model Refusal) → after a (after b r) ≡ after (a ++ b) r
after-after a b (Ok m) = ap (λ c. let r : Result Model Refusal = Ok (record { clauses = c; table = m.table }) in r) (sym (append_assoc a b m.clauses))
after-after a b (Err r) = refl

same_table : (t u : Table) (k l : Base) → ◌≡◌ {A = Result (Table × Base) Cause} (Ok (t, k)) (Ok (u, l)) → t ≡ u
same_table t u k l e = let p : ◌≡◌ {A = Table × Base} (t, k) (u, l) = cc in ap (λ (q : Table × Base). q.0) p

-- the definition comes past a read term that is taken
come_on : (text : List ℕ) (n : ℕ) (ops changed : Table) (at : ℕ) (f : Found) (more : Base) → Comes text n ops at → clause_of ops text at ≡ Ok (Some f) → outcome ops (kind_of ops f.term f.vars) ≡ Ok (changed, more) → Comes text (n + 1) changed f.to
come_on text n ops changed at f more h e adds = go (kind_of ops f.term f.vars) refl adds
  where
    go : (k : Kind) → kind_of ops f.term f.vars ≡ k → outcome ops k ≡ Ok (changed, more) → Comes text (n + 1) changed f.to
    go (Directive None) k x = absurd (cc)
    go (Directive (Some t)) k x = let same : t ≡ changed = same_table t changed [] more x in subst (λ u. Comes text (n + 1) u f.to) same (PastDirective n ops at f t h e k)
    go (OfClause (Err c)) k x = absurd (cc)
    go (OfClause (Ok c)) k x = let same : ops ≡ changed = same_table ops changed (c ∷ []) more x in subst (λ u. Comes text (n + 1) u f.to) same (PastClause n ops at f c h e k)

-- where a clause stands, its first token isn't refused
pub token_ahead : (ops : Table) (text : List ℕ) (at : ℕ) (f : Found) → IsUtf8 text → IsCharBoundary text at → clause_of ops text at ≡ Ok (Some f) → is_ok (next text at) ≡ true
token_ahead ops text at f u b e = go (next text at) refl
  where
    go : (r : Result (Option Token) LexFault) → next text at ≡ r → is_ok (next text at) ≡ true
    go (Ok found) k = ap is_ok k
    go (Err fault) k = absurd (let x : Err (refused_token fault) ≡ Ok (Some f) = sym (clause-refused ops text at fault u b k) ∙ e in cc)

module _ (names : List Name) (old new : Parts) (text : List ℕ) (at number : ℕ) (t : ReadTerm) (f : Found) (e : clause_of (table_of old.ops) text at ≡ Ok (Some f)) (tells : Tells names t f) where
  o : Result (Table × Base) Cause
  o = outcome (table_of old.ops) (kind_of (table_of old.ops) (shows names t.cells.items t.root.at) t.vars)

  read_by : (rest : Rest) → by_read rest number (table_of old.ops) (clause_of (table_of old.ops) text at) ≡ by_outcome rest number f (outcome (table_of old.ops) (kind_of (table_of old.ops) (shows names t.cells.items t.root.at) t.vars))
  read_by rest =
      ap (by_read rest number (table_of old.ops)) e
      ∙ kind_outcome rest number (table_of old.ops) f (kind_of (table_of old.ops) f.term f.vars)
      ∙ ap (λ x. by_outcome rest number f (outcome (table_of old.ops) (kind_of (table_of old.ops) x f.vars))) (sym tells.term)
      ∙ ap (λ x. by_outcome rest number f (outcome (table_of old.ops) (kind_of (table_of old.ops) (shows names t.cells.items t.root.at) x))) (sym tells.vars)

  pub read_steps : IsUtf8 text → IsCharBoundary text at → Taken names old new (outcome (table_of old.ops) (kind_of (table_of old.ops) (shows names t.cells.items t.root.at) t.vars)) → Steps names old new text at number t.to
  unfolding by_outcome
  read_steps u b taken = record {
    place = subst (IsCharBoundary text) (sym tells.to) (ends_at (table_of old.ops) text at f u b e);
    parts = taken.parts;
    named = taken.named;
    comes = λ h. subst (λ n. Comes text (number + 1) (table_of new.ops) n) (sym tells.to)
        (come_on text number (table_of old.ops) (table_of new.ops) at f taken.more h e
        (ap (λ x. outcome (table_of old.ops) (kind_of (table_of old.ops) x f.vars)) (sym tells.term)
        ∙ ap (λ x. outcome (table_of old.ops) (kind_of (table_of old.ops) (shows names t.cells.items t.root.at) x)) (sym tells.vars) ∙ taken.adds));
    model = λ rest.
        ap (after (base_of names (contents_of old))) (read_by rest ∙ ap (by_outcome rest number f) taken.adds)
        ∙ after-after (base_of names (contents_of old)) taken.more (rest (table_of new.ops) f.to)
        ∙ ap (λ c. after c (rest (table_of new.ops) f.to)) (sym taken.clauses)
        ∙ ap (λ n. after (base_of names (contents_of new)) (rest (table_of new.ops) n)) (sym tells.to);
  }

  pub read_refused : (A : Type 0) (fault : LoadFault) → TellsRead {A = A} names old new number t.from (Err fault) (outcome (table_of old.ops) (kind_of (table_of old.ops) (shows names t.cells.items t.root.at) t.vars)) → TellsStep names old new text at number (Err fault)
  unfolding by_outcome
  read_refused A (Refused clause byte c) r = λ rest.
      read_by rest ∙ ap (by_outcome rest number f) r.2
      ∙ ap (λ n. let q : Result Model Refusal = Err (refusal n f.from c) in q) (sym r.0)
      ∙ ap (λ n. let q : Result Model Refusal = Err (refusal clause n c) in q) (sym tells.from ∙ sym r.1)
  read_refused A NoMemory r = tt

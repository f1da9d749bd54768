-- What holds of every term that is read: its variables are numbered within their count, and its bytes lie in the text.
use Rattle.std.proofs.Common.{◌≡◌, ◌≢◌, ℕ, zero, suc, ◌+◌, ◌<◌, ◌≤◌, Bool, true, false, ◌||◌, ◌⊎◌, inl, inr, List, [], ◌∷◌, ◌++◌, length, slice_get, Option, Some, None, Result, Ok, Err, codes, refl, sym, ap, subst, ◌∙◌, true≢false, arith, if◌then◌else◌}
use Rattle.std.specs.Str.{IsUtf8, IsCharBoundary}
use Rattle.std.proofs.lemmas.Bool.Decides.{Decides-eqb}
use Rattle.tp_terms.specs.Term.{Name, Term, Terms, names_eq, occurs, occurs_in}
use Rattle.tp_terms.proofs.Texts.Equal.{names_eq-false}
use Rattle.tp_terms.proofs.Naming.Tables.{slice_get-push}
use Rattle.tp_lex.specs.Next.{next}
use Rattle.tp_lex.specs.Tokens.{Lexed, Reach, ToEnd, lexed, with_token, stops_at, tokens_by_next, tokens_up_to, tokens_from, tokens, goal_tokens}
use Rattle.tp_lex.specs.declared.token.Token.{Token}
use Rattle.tp_lex.specs.declared.token.LexFault.{LexFault}
use Rattle.tp_lex.proofs.TokensStand.Each.{given}
use Rattle.tp_parse.specs.Tree.{Tree, Variable, Integer, Atom, Compound, Trees, none, first_of}
use Rattle.tp_parse.specs.Table.{Table}
use Rattle.tp_parse.specs.Reading.{Read, clause_reading, goal_reading}
use Rattle.tp_parse.specs.Numbers.{Numbers, no_numbers, number_in, new_number, known_number, number_of, numbered, all_numbered}
use Rattle.tp_parse.specs.Texts.{Found, found, found_by, last_byte, is_ended, clause_of, clause_in, clause_by, goal_of, goal_in, goal_by}
use Rattle.tp_parse.specs.Tells.{IsNumbered, AreWithin, IsPlaced}
use Rattle.tp_parse.specs.declared.fault.ReadCause.TheVariants as cause

-- ---- numbers

at-push : (named : List (Name × ℕ)) (n m : Name × ℕ) (i : ℕ) → slice_get (named ++ n ∷ []) i ≡ Some m → (slice_get named i ≡ Some m) ⊎ ((i ≡ length named) × (m ≡ n))
at-push named n m i e = slice_get-push named n i m e

-- a name that has a number stands with it
number-at : (named : List (Name × ℕ)) (name : Name) (n : ℕ) → number_in named name ≡ Some n → (i : ℕ) × (m : Name × ℕ) × (slice_get named i ≡ Some m) × (m.1 ≡ n)
number-at [] name n e = cc
number-at (x ∷ named) name n e = by (names_eq name x.0) e (number-at named name n)
  where
    by : (b : Bool) → (if b then Some x.1 else number_in named name) ≡ Some n → (number_in named name ≡ Some n → (i : ℕ) × (m : Name × ℕ) × (slice_get named i ≡ Some m) × (m.1 ≡ n)) → (i : ℕ) × (m : Name × ℕ) × (slice_get (x ∷ named) i ≡ Some m) × (m.1 ≡ n)
    by true f more = (0, x, refl, cc)
    by false f more = let r = more f in (suc r.0, r.1, r.2, r.3)

-- a name that has no number stands nowhere
number-absent : (named : List (Name × ℕ)) (name : Name) (i : ℕ) (m : Name × ℕ) → number_in named name ≡ None → slice_get named i ≡ Some m → m.0 ≢ name
number-absent [] name i m e f = cc
number-absent (x ∷ named) name i m e f = by (names_eq name x.0) refl e (λ j g. number-absent named name j m g)
  where
    by : (b : Bool) → names_eq name x.0 ≡ b → (if b then Some x.1 else number_in named name) ≡ None → ((j : ℕ) → number_in named name ≡ None → slice_get named j ≡ Some m → m.0 ≢ name) → m.0 ≢ name
    by true g h more = cc
    by false g h more = at i f
      where
        at : (k : ℕ) → slice_get (x ∷ named) k ≡ Some m → m.0 ≢ name
        at zero k = λ z. names_eq-false name x.0 g (sym z ∙ ap (λ (o : Name × ℕ). o.0) (let same : m ≡ x = cc in same))
        at (suc j) k = more j h k

within-start : AreWithin no_numbers
within-start = record { below = λ i n e. cc; distinct = λ i j n m e f g. cc; named = λ i n e. cc }

within-anonymous : (s : Numbers) → AreWithin s → AreWithin (record { named = s.named; vars = s.vars + 1 })
within-anonymous s w = record {
  below = λ i n e. let h = w.below i n e in omega arith;
  distinct = w.distinct;
  named = w.named;
}

within-new : (name : Name) (s : Numbers) → AreWithin s → number_in s.named name ≡ None → name ≢ codes "_" → AreWithin (new_number name s).1
within-new name s w e ne = record {
  below = λ i n f. elim (at-push s.named (name, s.vars) n i f) [
    | inl h ↦ let b = w.below i n h in omega arith
    | inr h ↦ let b : n.1 ≡ s.vars = ap (λ (o : Name × ℕ). o.1) h.1 in omega arith
  ];
  distinct = λ i j n m f g same. elim (at-push s.named (name, s.vars) n i f) [
    | inl h ↦ elim (at-push s.named (name, s.vars) m j g) [
      | inl k ↦ w.distinct i j n m h k same
      | inr k ↦ absurd (number-absent s.named name i n e h (same ∙ ap (λ (o : Name × ℕ). o.0) k.1))
    ]
    | inr h ↦ elim (at-push s.named (name, s.vars) m j g) [
      | inl k ↦ absurd (number-absent s.named name j m e k (sym same ∙ ap (λ (o : Name × ℕ). o.0) h.1))
      | inr k ↦ h.0 ∙ sym k.0
    ]
  ];
  named = λ i n f. elim (at-push s.named (name, s.vars) n i f) [
    | inl h ↦ w.named i n h
    | inr h ↦ λ z. ne (sym (ap (λ (o : Name × ℕ). o.0) h.1) ∙ z)
  ];
}

-- a variable is numbered within the count, which doesn't fall
abbrev Fits : Numbers → ℕ × Numbers → Type 0
Fits s r = AreWithin r.1 × (r.0 < (r.1).vars) × (s.vars ≤ (r.1).vars)

number-fits : (name : Name) (s : Numbers) → AreWithin s → Fits s (number_of name s)
number-fits name s w = by (names_eq name (codes "_")) refl
  where
    known : (o : Option ℕ) → number_in s.named name ≡ o → name ≢ codes "_" → Fits s (known_number name s o)
    known None e ne = (within-new name s w e ne, omega arith, omega arith)
    known (Some n) e ne =
        let r = number-at s.named name n e in
        let b = w.below r.0 r.1 r.2 in
        let same = r.3 in
        (w, omega arith, omega arith)

    by : (b : Bool) → names_eq name (codes "_") ≡ b → Fits s (if b then (s.vars, record { named = s.named; vars = s.vars + 1 }) else known_number name s (number_in s.named name))
    by true e = (within-anonymous s w, omega arith, omega arith)
    by false e = known (number_in s.named name) refl (names_eq-false name (codes "_") e)

abbrev TermFits : Numbers → Term × Numbers → Type 0
TermFits s r = AreWithin r.1 × (s.vars ≤ (r.1).vars) × ((v : ℕ) → occurs v r.0 ≡ true → v < (r.1).vars)

abbrev TermsFit : Numbers → Terms × Numbers → Type 0
TermsFit s r = AreWithin r.1 × (s.vars ≤ (r.1).vars) × ((v : ℕ) → occurs_in v r.0 ≡ true → v < (r.1).vars)

either : (a b : Bool) → (a || b) ≡ true → (a ≡ true) ⊎ (b ≡ true)
either true b e = inl refl
either false b e = inr e

mutual
  tree-fits : (t : Tree) (s : Numbers) → AreWithin s → TermFits s (numbered t s)
  tree-fits (Variable x) s w =
      let f = number-fits x s w in
      (f.0, f.2, λ v e. let same : v ≡ (number_of x s).0 = (Decides-eqb v (number_of x s).0).0 e in let l = f.1 in omega arith)
  tree-fits (Integer z) s w = (w, omega arith, λ v e. absurd (true≢false (sym e)))
  tree-fits (Atom a) s w = (w, omega arith, λ v e. absurd (true≢false (sym e)))
  tree-fits (Compound f ts) s w = trees-fit ts s w

  trees-fit : (ts : Trees) (s : Numbers) → AreWithin s → TermsFit s (all_numbered ts s)
  trees-fit none s w = (w, omega arith, λ v e. absurd (true≢false (sym e)))
  trees-fit (first_of t ts) s w =
      let a = tree-fits t s w in
      let b = trees-fit ts (numbered t s).1 a.0 in (
        b.0,
        let x = a.1 in let y = b.1 in omega arith,
        λ v e. elim (either (occurs v (numbered t s).0) (occurs_in v (all_numbered ts (numbered t s).1).0) e) [
          | inl h ↦ let x = a.2 v h in let y = b.1 in omega arith
          | inr h ↦ b.2 v h
        ],
      )

numbered-within : (from to : ℕ) (t : Tree) → IsNumbered (found_by from to (numbered t no_numbers))
numbered-within from to t =
    let f = tree-fits t no_numbers within-start in
    record { occurring = f.2; within = f.0 }

-- of a clause, and of a goal
pub clause-numbered : (ops : Table) (text : List ℕ) (at : ℕ) (f : Found) → clause_of ops text at ≡ Ok (Some f) → IsNumbered f
unfolding clause_of
clause-numbered ops text at f e = by (tokens text at) e
  where
    read : (t : Lexed) (ts : List Lexed) (r : Read Tree) → clause_by (length text) t ts r ≡ Ok (Some f) → IsNumbered f
    read t ts (Ok tree) h = let same : found t ts tree ≡ f = cc in subst IsNumbered same (numbered-within t.from (last_byte t ts) tree)
    read t ts (Err s) h = cc

    ended : (b : Bool) (t : Lexed) (ts : List Lexed) → (if b then clause_by (length text) t ts (clause_reading ops (t ∷ ts)) else Err (length text, cause.Unfinished)) ≡ Ok (Some f) → IsNumbered f
    ended true t ts h = read t ts (clause_reading ops (t ∷ ts)) h
    ended false t ts h = cc

    by : (r : Result (List Lexed) LexFault) → clause_in ops (length text) r ≡ Ok (Some f) → IsNumbered f
    by (Ok []) h = cc
    by (Ok (t ∷ ts)) h = ended (is_ended t ts) t ts h
    by (Err fault) h = cc

pub goal-numbered : (ops : Table) (text : List ℕ) (f : Found) → goal_of ops text ≡ Ok f → IsNumbered f
unfolding goal_of
goal-numbered ops text f e = by (goal_tokens text) e
  where
    read : (ts : List Lexed) (r : Read Tree) → goal_by (length text) ts r ≡ Ok f → IsNumbered f
    read [] (Ok tree) h = let same : found_by (length text) (length text) (numbered tree no_numbers) ≡ f = cc in subst IsNumbered same (numbered-within (length text) (length text) tree)
    read (t ∷ ts) (Ok tree) h = let same : found t ts tree ≡ f = cc in subst IsNumbered same (numbered-within t.from (last_byte t ts) tree)
    read [] (Err s) h = cc
    read (t ∷ ts) (Err s) h = cc

    by : (r : Result (List Lexed) LexFault) → goal_in ops (length text) r ≡ Ok f → IsNumbered f
    by (Ok ts) h = read ts (goal_reading ops ts) h
    by (Err fault) h = cc

-- ---- places

-- each token stands behind the one before, and the text may be read on from its end
abbrev ArePlaced : List ℕ → ℕ → List Lexed → Type 0
ArePlaced text at [] = Unit {0}
ArePlaced text at (t ∷ ts) = (at ≤ t.from) × (t.from < t.to) × IsCharBoundary text t.to × ArePlaced text t.to ts

abbrev Placed : List ℕ → ℕ → Result (List Lexed) LexFault → Type 0
Placed text at (Ok ts) = ArePlaced text at ts
Placed text at (Err fault) = Unit {0}

placed-token : (text : List ℕ) (at : ℕ) (t : Lexed) (r : Result (List Lexed) LexFault) → at ≤ t.from → t.from < t.to → IsCharBoundary text t.to → Placed text t.to r → Placed text at (with_token t r)
placed-token text at t (Ok ts) a b c h = (a, b, c, h)
placed-token text at t (Err fault) a b c h = tt

placed-up_to : (reach : Reach) (n : ℕ) (text : List ℕ) (at : ℕ) (end : Option ℕ) → IsUtf8 text → IsCharBoundary text at → Placed text at (tokens_up_to reach n text at end)
unfolding tokens_up_to
placed-up_to reach zero text at end u b = tt
placed-up_to reach (suc n) text at end u b = by (next text at) refl (λ to last c. placed-up_to reach n text to last u c)
  where
    choice : (x : Bool) (token : Token) → at ≤ token.from → token.from < token.to → IsCharBoundary text token.to → Placed text token.to (tokens_up_to reach n text token.to (Some token.to)) → Placed text at (elim x [ true ↦ Ok (lexed text end token ∷ []) | false ↦ with_token (lexed text end token) (tokens_up_to reach n text token.to (Some token.to)) ])
    choice true token a b c h = (a, b, c, tt)
    choice false token a b c h = placed-token text at (lexed text end token) _ a b c h

    by : (r : Result (Option Token) LexFault) → next text at ≡ r → ((to : ℕ) (last : Option ℕ) → IsCharBoundary text to → Placed text to (tokens_up_to reach n text to last)) → Placed text at (tokens_by_next reach text end (tokens_up_to reach n text) r)
    by (Ok None) e more = tt
    by (Ok (Some token)) e more =
        let s = (given text at token u b e).stands in
        choice (stops_at reach token.kind) token s.begins s.ends s.next_place (more token.to (Some token.to) s.next_place)
    by (Err fault) e more = tt

placed-last : (text : List ℕ) (at : ℕ) (t : Lexed) (ts : List Lexed) → ArePlaced text at (t ∷ ts) → (t.from < last_byte t ts) × IsCharBoundary text (last_byte t ts)
placed-last text at t [] h = (h.1, h.2)
placed-last text at t (v ∷ ts) h =
    let r = placed-last text t.to v ts h.3 in
    let a = h.1 in let b = (h.3).0 in let c = r.0 in
    (omega arith, r.1)

pub clause-placed : (ops : Table) (text : List ℕ) (at : ℕ) (f : Found) → IsUtf8 text → IsCharBoundary text at → clause_of ops text at ≡ Ok (Some f) → IsPlaced text at f
unfolding clause_of tokens_from
clause-placed ops text at f u b e = by (tokens text at) (placed-up_to ToEnd (length text) text at None u b) e
  where
    read : (t : Lexed) (ts : List Lexed) (r : Read Tree) → ArePlaced text at (t ∷ ts) → clause_by (length text) t ts r ≡ Ok (Some f) → IsPlaced text at f
    read t ts (Ok tree) p h =
        let same : found t ts tree ≡ f = cc in
        let l = placed-last text at t ts p in
        subst (IsPlaced text at) same (record { begins = p.0; ends = l.0; next_place = l.1 })
    read t ts (Err s) p h = cc

    ended : (x : Bool) (t : Lexed) (ts : List Lexed) → ArePlaced text at (t ∷ ts) → (if x then clause_by (length text) t ts (clause_reading ops (t ∷ ts)) else Err (length text, cause.Unfinished)) ≡ Ok (Some f) → IsPlaced text at f
    ended true t ts p h = read t ts (clause_reading ops (t ∷ ts)) p h
    ended false t ts p h = cc

    by : (r : Result (List Lexed) LexFault) → Placed text at r → clause_in ops (length text) r ≡ Ok (Some f) → IsPlaced text at f
    by (Ok []) p h = cc
    by (Ok (t ∷ ts)) p h = ended (is_ended t ts) t ts p h
    by (Err fault) p h = cc

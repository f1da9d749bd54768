-- What a read term is, by its cells.
use Rattle.std.proofs.Common.{map, append_assoc, ℤ, ◌≡◌, ℕ, zero, suc, ◌+◌, ◌<◌, nat_eq, Bool, true, false, ◌||◌, List, [], ◌∷◌, length, slice_get, Option, Some, None, Result, Ok, Err, refl, sym, ap, subst, ◌∙◌, arith, add-one, lit<, append-nil, length-append, if◌then◌else◌, ◌++◌, option_map, IfSome}
use Rattle.std.specs.Prelude.{codes}
use Rattle.std.proofs.lemmas.Bool.{eqb-true}
use Rattle.tp_terms.specs.declared.cells.Cell.{Cell}
use Rattle.tp_terms.specs.declared.cells.Cell.TheVariants as cell
use Rattle.tp_terms.specs.declared.cells.Ref.{Ref}
use Rattle.tp_terms.specs.declared.cells.AtomId.{AtomId}
use Rattle.tp_terms.specs.declared.symbols.TheConstants.{NECK, QUERY, GRAMMAR}
use Rattle.tp_terms.specs.Term.{Name, Term, Terms, Atom, Comp, NoMore, More, names_eq, count_of, occurs}
use Rattle.tp_terms.specs.Shown.{name_at, shows, shown_from, args_at, StandsBefore, IsNamed, AreNamed, AreBuilt}
use Rattle.tp_terms.proofs.Places.Shown.{shows-cell, shows-append, AreNamed-cell}
use Rattle.tp_terms.proofs.Naming.Tables.{slice_get-append}
use Rattle.tp_parse.specs.Table.{Table}
use Rattle.tp_parse.specs.Ops.{table_of}
use Rattle.tp_parse.specs.declared.table.Ops.{Ops}
use Rattle.tp_meaning.specs.Clauses.{Clause, Base}
use Rattle.tp_meaning.specs.Body.{body}
use Rattle.tp_meaning.specs.Goals.{is_reserved}
use Rattle.tp_clauses.specs.Directives.{directive}
use Rattle.tp_clauses.specs.Model.{Kind, Directive, OfClause, kind_of, with_head, with_body, rule}
use Rattle.tp_clauses.specs.Contents.{AreNameable, IsHead, ViewFits, AreBelow, clause_of, clause_by, base_of, HasNames}
use Rattle.tp_clauses.specs.Kinds.{is_atom, read_as, unary_read, binary_read, head_key, key_of, behind}
use Rattle.tp_clauses.specs.Bodies.{TellsBody}
use Rattle.tp_clauses.specs.Parts.{IsParts, AddsClause, Longer, contents_of}
use Rattle.tp_clauses.specs.Moved.{moved, moved_view}
use Rattle.tp_clauses.proofs.Clauses.Moved.{shows-moved, AreNamed-moved}
use Rattle.tp_clauses.proofs.Clauses.Added.{fits_moved, clause_moved, key_behind, longer_base}
use Rattle.std.proofs.lemmas.List.{length-map}
use Rattle.tp_terms.proofs.Places.Shown.{AreNamed-append}
use Rattle.tp_clauses.specs.Told.{outcome, Taken, TellsTerm, TellsDirective}
use Rattle.tp_clauses.specs.declared.base.ClauseView.{ClauseView}
use Rattle.tp_clauses.specs.declared.parts.Parts.{Parts}
use Rattle.tp_clauses.specs.declared.kind.Key.{Key}
use Rattle.tp_clauses.specs.declared.kind.ReadKind.{ReadKind}
use Rattle.tp_clauses.specs.declared.kind.ReadKind.TheVariants as read
use Rattle.tp_clauses.specs.declared.fault.Cause.{Cause}
use Rattle.tp_clauses.specs.declared.fault.Cause.TheVariants as cause
use Rattle.tp_clauses.specs.declared.directive.TermFault.{TermFault}
use Rattle.tp_clauses.specs.declared.directive.TermFault.TheVariants.{Refused, NoMemory}
use Rattle.tp_clauses.proofs.Taking.StartNames.{is_atom-named, neck, query, grammar}
use Rattle.tp_clauses.proofs.Taking.Variables.{occurs-names, occurs-body}
use Rattle.tp_clauses.proofs.Taking.Directives.{cell_at}

never : (n k : ℕ) → k < 3 → nat_eq (suc (suc (suc n))) k ≡ false
never n k l = go (nat_eq (suc (suc (suc n))) k) refl
  where
    go : (b : Bool) → nat_eq (suc (suc (suc n))) k ≡ b → nat_eq (suc (suc (suc n))) k ≡ false
    go true e = absurd (let h : suc (suc (suc n)) ≡ k = eqb-true (suc (suc (suc n))) k e in omega arith)
    go false e = e

-- ---- kinds

-- what the kind of a term is
abbrev pub KindIs : List Name → List Cell → Table → ℕ → Term → ReadKind → Type 0
KindIs names cells ops vars t (read.Directive goal) = kind_of ops t vars ≡ Directive (directive (shows names cells goal.at) ops)
KindIs names cells ops vars t read.Query = kind_of ops t vars ≡ Directive None
KindIs names cells ops vars t read.Grammar = kind_of ops t vars ≡ OfClause (Err cause.Grammar)
KindIs names cells ops vars t (read.Rule head b) = kind_of ops t vars ≡ OfClause (rule (shows names cells head.at) (shows names cells b.at) vars)
KindIs names cells ops vars t read.Fact = kind_of ops t vars ≡ OfClause (with_head t vars None)

-- where its parts stand, and that their variables are its own
abbrev pub PartsOf : List Cell → ℕ → ReadKind → Type 0
PartsOf cells root (read.Directive goal) = goal.at < length cells
PartsOf cells root (read.Rule head b) = (head.at < length cells) × (b.at < length cells) × ((v : ℕ) → occurs v (shows [] cells head.at) ≡ true → occurs v (shows [] cells root) ≡ true) × ((v : ℕ) → occurs v (shows [] cells b.at) ≡ true → occurs v (shows [] cells root) ≡ true)
PartsOf cells root k = Unit {0}

module _ (names : List Name) (cells : List Cell) (h : HasNames names cells) (ops : Table) (vars : ℕ) where
  unary : (name : AtomId) (first : Ref) → name.at < length names → KindIs names cells ops vars (Comp (name_at names name.at) (More (shows names cells first.at) NoMore)) (unary_read name first)
  unary name first n = go (is_atom name NECK) refl (is_atom name QUERY) refl
    where
      en : names_eq (name_at names name.at) (codes ":-") ≡ is_atom name NECK
      en = is_atom-named names h.table name NECK (codes ":-") n neck

      eq : names_eq (name_at names name.at) (codes "?-") ≡ is_atom name QUERY
      eq = is_atom-named names h.table name QUERY (codes "?-") n query

      k : Bool → Bool → Kind
      k a b = if a then Directive (directive (shows names cells first.at) ops) else if b then Directive None else OfClause (with_head (Comp (name_at names name.at) (More (shows names cells first.at) NoMore)) vars None)

      go : (a : Bool) → is_atom name NECK ≡ a → (b : Bool) → is_atom name QUERY ≡ b → KindIs names cells ops vars (Comp (name_at names name.at) (More (shows names cells first.at) NoMore)) (if a then read.Directive first else if b then read.Query else read.Fact)
      go true ea b eb = choose1 en ea
        where
          choose1 : names_eq (name_at names name.at) (codes ":-") ≡ is_atom name NECK → is_atom name NECK ≡ true → kind_of ops (Comp (name_at names name.at) (More (shows names cells first.at) NoMore)) vars ≡ Directive (directive (shows names cells first.at) ops)
          choose1 x y = ap (λ c. if c then Directive (directive (shows names cells first.at) ops) else if names_eq (name_at names name.at) (codes "?-") then Directive None else OfClause (with_head (Comp (name_at names name.at) (More (shows names cells first.at) NoMore)) vars None)) (x ∙ y)
      go false ea true eb =
          ap (λ c. if c then Directive (directive (shows names cells first.at) ops) else if names_eq (name_at names name.at) (codes "?-") then Directive None else OfClause (with_head (Comp (name_at names name.at) (More (shows names cells first.at) NoMore)) vars None)) (en ∙ ea)
          ∙ ap (λ c. if c then Directive None else OfClause (with_head (Comp (name_at names name.at) (More (shows names cells first.at) NoMore)) vars None)) (eq ∙ eb)
      go false ea false eb =
          ap (λ c. if c then Directive (directive (shows names cells first.at) ops) else if names_eq (name_at names name.at) (codes "?-") then Directive None else OfClause (with_head (Comp (name_at names name.at) (More (shows names cells first.at) NoMore)) vars None)) (en ∙ ea)
          ∙ ap (λ c. if c then Directive None else OfClause (with_head (Comp (name_at names name.at) (More (shows names cells first.at) NoMore)) vars None)) (eq ∙ eb)

  two : (name : AtomId) (first : Ref) → name.at < length names → KindIs names cells ops vars (Comp (name_at names name.at) (More (shows names cells first.at) (More (shows names cells (first.at + 1)) NoMore))) (binary_read name first (behind first 1))
  two name first n = go (is_atom name NECK) refl (is_atom name GRAMMAR) refl
    where
      en : names_eq (name_at names name.at) (codes ":-") ≡ is_atom name NECK
      en = is_atom-named names h.table name NECK (codes ":-") n neck

      eg : names_eq (name_at names name.at) (codes "-->") ≡ is_atom name GRAMMAR
      eg = is_atom-named names h.table name GRAMMAR (codes "-->") n grammar

      go : (a : Bool) → is_atom name NECK ≡ a → (b : Bool) → is_atom name GRAMMAR ≡ b → KindIs names cells ops vars (Comp (name_at names name.at) (More (shows names cells first.at) (More (shows names cells (first.at + 1)) NoMore))) (if a then read.Rule first (behind first 1) else if b then read.Grammar else read.Fact)
      go true ea b eb =
          ap (λ c. if c then OfClause (rule (shows names cells first.at) (shows names cells (first.at + 1)) vars) else if names_eq (name_at names name.at) (codes "-->") then OfClause (Err cause.Grammar) else OfClause (with_head (Comp (name_at names name.at) (More (shows names cells first.at) (More (shows names cells (first.at + 1)) NoMore))) vars None)) (en ∙ ea)
      go false ea true eb =
          ap (λ c. if c then OfClause (rule (shows names cells first.at) (shows names cells (first.at + 1)) vars) else if names_eq (name_at names name.at) (codes "-->") then OfClause (Err cause.Grammar) else OfClause (with_head (Comp (name_at names name.at) (More (shows names cells first.at) (More (shows names cells (first.at + 1)) NoMore))) vars None)) (en ∙ ea)
          ∙ ap (λ c. if c then OfClause (Err cause.Grammar) else OfClause (with_head (Comp (name_at names name.at) (More (shows names cells first.at) (More (shows names cells (first.at + 1)) NoMore))) vars None)) (eg ∙ eb)
      go false ea false eb =
          ap (λ c. if c then OfClause (rule (shows names cells first.at) (shows names cells (first.at + 1)) vars) else if names_eq (name_at names name.at) (codes "-->") then OfClause (Err cause.Grammar) else OfClause (with_head (Comp (name_at names name.at) (More (shows names cells first.at) (More (shows names cells (first.at + 1)) NoMore))) vars None)) (en ∙ ea)
          ∙ ap (λ c. if c then OfClause (Err cause.Grammar) else OfClause (with_head (Comp (name_at names name.at) (More (shows names cells first.at) (More (shows names cells (first.at + 1)) NoMore))) vars None)) (eg ∙ eb)

  pub kind_told : AreBuilt cells → (root : ℕ) → root < length cells → KindIs names cells ops vars (shows names cells root) (read_as (slice_get cells root))
  kind_told built root l =
      let c = cell_at cells root l in
      subst (λ o. KindIs names cells ops vars (shows names cells root) (read_as o)) (sym c.1)
      (subst (λ t. KindIs names cells ops vars t (read_as (Some c.0))) (sym (shows-cell names cells root c.0 c.1 (built root c.0 c.1))) (go c.0 (built root c.0 c.1) (AreNamed-cell (length names) cells root c.0 h.named c.1)))
    where
      go : (c : Cell) → StandsBefore root c → IsNamed (length names) c → KindIs names cells ops vars (shown_from names cells c) (read_as (Some c))
      go (cell.Var v) s n = refl
      go (cell.Int z) s n = refl
      go (cell.Atom a) s n = refl
      go (cell.Comp name first zero) s n = absurd (let x = s.0 in omega arith)
      go (cell.Comp name first (suc zero)) s n = unary name first n
      go (cell.Comp name first (suc (suc zero))) s n =
          subst (λ m. KindIs names cells ops vars (Comp (name_at names name.at) (More (shows names cells first.at) (More (shows names cells m) NoMore))) (binary_read name first (behind first 1))) (add-one first.at) (two name first n)
      go (cell.Comp name first (suc (suc (suc m)))) s n =
          subst (λ b. KindIs names cells ops vars (shown_from names cells (cell.Comp name first (suc (suc (suc m))))) (if b then unary_read name first else if nat_eq (suc (suc (suc m))) 2 then binary_read name first (behind first 1) else read.Fact)) (sym (never m 1 (lit< tt)))
          (subst (λ b. KindIs names cells ops vars (shown_from names cells (cell.Comp name first (suc (suc (suc m))))) (if b then binary_read name first (behind first 1) else read.Fact)) (sym (never m 2 (lit< tt))) refl)

or_left : (a b : Bool) → a ≡ true → (a || b) ≡ true
or_left a b e = ap (λ x. x || b) e

or_right : (a b : Bool) → b ≡ true → (a || b) ≡ true
or_right true b e = refl
or_right false b e = e

pub parts_told : (cells : List Cell) → AreBuilt cells → (root : ℕ) → root < length cells → PartsOf cells root (read_as (slice_get cells root))
parts_told cells built root l =
    let c = cell_at cells root l in
    subst (λ o. PartsOf cells root (read_as o)) (sym c.1) (go c.0 (built root c.0 c.1) (shows-cell [] cells root c.0 c.1 (built root c.0 c.1)))
  where
    one : (name : AtomId) (first : Ref) → first.at < length cells → PartsOf cells root (unary_read name first)
    one name first k = by (is_atom name NECK) (is_atom name QUERY)
      where
        by : (a b : Bool) → PartsOf cells root (if a then read.Directive first else if b then read.Query else read.Fact)
        by true b = k
        by false true = tt
        by false false = tt

    two : (name : AtomId) (first : Ref) → first.at + 1 < length cells → shows [] cells root ≡ shown_from [] cells (cell.Comp name first 2) → PartsOf cells root (binary_read name first (behind first 1))
    two name first k e = by (is_atom name NECK) (is_atom name GRAMMAR)
      where
        by : (a b : Bool) → PartsOf cells root (if a then read.Rule first (behind first 1) else if b then read.Grammar else read.Fact)
        by true b = (
          omega arith,
          k,
          λ v o. ap (occurs v) e ∙ or_left (occurs v (shows [] cells first.at)) (occurs v (shows [] cells (suc first.at)) || false) o,
          λ v o. ap (occurs v) e ∙ or_right (occurs v (shows [] cells first.at)) (occurs v (shows [] cells (suc first.at)) || false) (or_left (occurs v (shows [] cells (suc first.at))) false (ap (λ m. occurs v (shows [] cells m)) (sym (add-one first.at)) ∙ o)),
        )
        by false true = tt
        by false false = tt

    go : (c : Cell) → StandsBefore root c → shows [] cells root ≡ shown_from [] cells c → PartsOf cells root (read_as (Some c))
    go (cell.Var v) s e = tt
    go (cell.Int z) s e = tt
    go (cell.Atom a) s e = tt
    go (cell.Comp name first zero) s e = absurd (let x = s.0 in omega arith)
    go (cell.Comp name first (suc zero)) s e = one name first (let x = s.1 in omega arith)
    go (cell.Comp name first (suc (suc zero))) s e = two name first (let x = s.1 in omega arith) e
    go (cell.Comp name first (suc (suc (suc m)))) s e =
        subst (λ b. PartsOf cells root (if b then unary_read name first else if nat_eq (suc (suc (suc m))) 2 then binary_read name first (behind first 1) else read.Fact)) (sym (never m 1 (lit< tt)))
        (subst (λ b. PartsOf cells root (if b then binary_read name first (behind first 1) else read.Fact)) (sym (never m 2 (lit< tt))) tt)

-- ---- heads

abbrev pub HeadIs : List Name → List Cell → Term → Result Key Cause → Type 0
HeadIs names cells t (Err c) = (vars : ℕ) (b : Option Term) → with_head t vars b ≡ Err c
HeadIs names cells t (Ok key) = (vars : ℕ) (b : Option Term) → with_head t vars b ≡ Ok (clause_by t b vars)

pub head_told : (names : List Name) (cells : List Cell) → HasNames names cells → AreBuilt cells → (at : ℕ) → at < length cells → HeadIs names cells (shows names cells at) (head_key names (slice_get cells at))
head_told names cells h built at l =
    let c = cell_at cells at l in
    subst (λ o. HeadIs names cells (shows names cells at) (head_key names o)) (sym c.1)
    (subst (λ t. HeadIs names cells t (head_key names (Some c.0))) (sym (shows-cell names cells at c.0 c.1 (built at c.0 c.1))) (go c.0 (built at c.0 c.1) (AreNamed-cell (length names) cells at c.0 h.named c.1)))
  where
    count-args_at : (first n : ℕ) → count_of (args_at names cells first n) ≡ n
    count-args_at first zero = refl
    count-args_at first (suc n) = ap (λ m. 1 + m) (count-args_at (suc first) n) ∙ (let e : 1 + n ≡ suc n = omega arith in e)

    whole : Name → Terms → ℕ → Option Term → Bool → Result Clause Cause
    whole f ts vars d b = if b then Err cause.Builtin else Ok (record { name = f; args = ts; body = d; vars = vars })

    lone : (name : AtomId) (b : Bool) → is_reserved (name_at names name.at) 0 ≡ b → HeadIs names cells (Atom (name_at names name.at)) (if b then Err cause.Builtin else Ok (record { name = name; arity = 0 }))
    lone name true e = λ vars d. ap (whole (name_at names name.at) NoMore vars d) e
    lone name false e = λ vars d. ap (whole (name_at names name.at) NoMore vars d) e

    many : (name : AtomId) (n : ℕ) (ts : Terms) (b : Bool) → is_reserved (name_at names name.at) n ≡ b → count_of ts ≡ n → HeadIs names cells (Comp (name_at names name.at) ts) (if b then Err cause.Builtin else Ok (record { name = name; arity = n }))
    many name n ts true e k = λ vars d. ap (whole (name_at names name.at) ts vars d) (ap (is_reserved (name_at names name.at)) k ∙ e)
    many name n ts false e k = λ vars d. ap (whole (name_at names name.at) ts vars d) (ap (is_reserved (name_at names name.at)) k ∙ e)

    go : (c : Cell) → StandsBefore at c → IsNamed (length names) c → HeadIs names cells (shown_from names cells c) (head_key names (Some c))
    go (cell.Var v) s n = λ vars b. refl
    go (cell.Int z) s n = λ vars b. refl
    go (cell.Atom a) s n = lone a (is_reserved (name_at names a.at) 0) refl
    go (cell.Comp name first count) s n = many name count (args_at names cells first.at count) (is_reserved (name_at names name.at) count) refl (count-args_at first.at count)

pub head_named : (o : Option Cell) (key : Key) → key_of o ≡ Some key → IsHead o
head_named None key e = absurd (cc)
head_named (Some (cell.Var v)) key e = absurd (cc)
head_named (Some (cell.Int z)) key e = absurd (cc)
head_named (Some (cell.Atom a)) key e = tt
head_named (Some (cell.Comp f first k)) key e = tt

-- ---- clauses that are taken

-- a clause that was added behind further cells is what the term gives
pub clause_taken : (names : List Name) (old mid new : Parts) (more : List Cell) (v : ClauseView) (r : Result Clause Cause) → IsParts old → Longer old mid more → AddsClause mid new v → r ≡ Ok (clause_of names mid.store.cells v) → AreNamed (length names) mid.store.cells → Taken names old new (outcome (table_of old.ops) (OfClause r))
clause_taken names old mid new more v r ok l a e n = record {
  more = clause_of names mid.store.cells v ∷ [];
  adds = ap (λ x. outcome (table_of old.ops) (OfClause x)) e ∙ ap (λ o. let q : Result (Table × Base) Cause = Ok (table_of o, clause_of names mid.store.cells v ∷ []) in q) (sym (a.ops ∙ l.ops));
  clauses = a.clauses names ∙ ap (λ c. c ++ clause_of names mid.store.cells v ∷ []) (longer_base old mid more ok l names);
  parts = a.parts;
  named = subst (AreNamed (length names)) (sym a.cells) n;
}

-- cells behind others have their names
pub named_behind : (n : ℕ) (old mid : Parts) (cells : List Cell) → Longer old mid (map (moved (length old.store.cells)) cells) → AreNamed n cells → AreNamed n old.store.cells → AreNamed n mid.store.cells
named_behind n old mid cells l h k = subst (AreNamed n) (sym l.cells) (AreNamed-append n old.store.cells (map (moved (length old.store.cells)) cells) k (AreNamed-moved n (length old.store.cells) cells h))

-- one more step of longer cells
pub longer_both : (a b c : Parts) (xs ys : List Cell) → Longer a b xs → Longer b c ys → Longer a c (xs ++ ys)
longer_both a b c xs ys l m = record {
  parts = m.parts;
  cells = m.cells ∙ ap (λ cs. cs ++ ys) l.cells ∙ append_assoc a.store.cells xs ys;
  clauses = m.clauses ∙ l.clauses;
  ops = m.ops ∙ l.ops;
}

-- a head alone
module _ (old mid : Parts) (cells : List Cell) (head : Ref) (vars : ℕ) (key : Key) (l : Longer old mid (map (moved (length old.store.cells)) cells)) where
  abbrev fact_view : ClauseView
  fact_view = record { head = head; body = None; vars = vars }

  pub fact_fits : head.at < length cells → AreBelow cells vars head → key_of (slice_get cells head.at) ≡ Some key → ViewFits mid.store.cells (moved_view (length old.store.cells) fact_view)
  fact_fits within below e = subst (λ (cs : List Cell). ViewFits cs (moved_view (length old.store.cells) fact_view)) (sym l.cells)
      (fits_moved old.store.cells cells fact_view (record { head = within; named = head_named (slice_get cells head.at) key e; below = below; body = tt }))

  pub moved_key : key_of (slice_get cells head.at) ≡ Some key → key_of (slice_get mid.store.cells (head.at + length old.store.cells)) ≡ Some key
  moved_key e = ap (λ cs. key_of (slice_get cs (head.at + length old.store.cells))) l.cells ∙ key_behind old.store.cells cells head.at ∙ e

  pub fact_told : (names : List Name) → HasNames names cells → AreBuilt cells → head.at < length cells → head_key names (slice_get cells head.at) ≡ Ok key → with_head (shows names cells head.at) vars None ≡ Ok (clause_of names mid.store.cells (moved_view (length old.store.cells) fact_view))
  fact_told names h built within e =
      subst (HeadIs names cells (shows names cells head.at)) e (head_told names cells h built head.at within) vars None
      ∙ ap Ok (sym (ap (λ cs. clause_of names cs (moved_view (length old.store.cells) fact_view)) l.cells ∙ clause_moved names old.store.cells cells fact_view))

pub head_refused : (names : List Name) (cells : List Cell) (head : Ref) (c : Cause) → HasNames names cells → AreBuilt cells → head.at < length cells → head_key names (slice_get cells head.at) ≡ Err c → (vars : ℕ) (b : Option Term) → with_head (shows names cells head.at) vars b ≡ Err c
head_refused names cells head c h built l e = subst (HeadIs names cells (shows names cells head.at)) e (head_told names cells h built head.at l)

pub refused_rule : (head : Term) (t : Term) (vars : ℕ) (c : Cause) → with_head head vars (body t) ≡ Err c → rule head t vars ≡ Err c
refused_rule head t vars c e = ap (with_body (body t)) e

-- a head and a body, whose cells stand behind the others, and those of the body's conversion behind them
module _ (old mid new : Parts) (cells : List Cell) (head term : Ref) (vars : ℕ) (key : Key) (l : Longer old mid (map (moved (length old.store.cells)) cells)) (built : AreBuilt cells) (lh : head.at < length cells) (lt : term.at < length cells)
    (is : key_of (slice_get cells head.at) ≡ Some key) (free : (names : List Name) → HasNames names cells → head_key names (slice_get cells head.at) ≡ Ok key) where
  abbrev by : ℕ
  by = length old.store.cells

  abbrev pub rule_view : Ref → ClauseView
  rule_view place = record { head = record { at = head.at + by }; body = Some place; vars = vars }

  longer_mid : length mid.store.cells ≡ by + length cells
  longer_mid = ap length l.cells ∙ length-append old.store.cells (map (moved by) cells) ∙ ap (λ n. by + n) (length-map cells (moved by))

  pub term_within : term.at + by < length mid.store.cells
  term_within = omega (arith, longer_mid, lt)

  head_within : head.at + by < length mid.store.cells
  head_within = omega (arith, longer_mid, lh)

  shown_mid : (names : List Name) (at : ℕ) → shows names mid.store.cells (at + by) ≡ shows names cells at
  shown_mid names at = ap (λ cs. shows names cs (at + by)) l.cells ∙ shows-moved names old.store.cells cells at

  module _ (found : Option Ref) (t : TellsBody mid new (record { at = term.at + by }) found) where
    head_kept : slice_get new.store.cells (head.at + by) ≡ slice_get mid.store.cells (head.at + by)
    head_kept = ap (λ cs. slice_get cs (head.at + by)) (t.longer).cells ∙ slice_get-append mid.store.cells t.more (head.at + by) head_within

    shown_new : (names : List Name) → shows names new.store.cells (head.at + by) ≡ shows names cells head.at
    shown_new names = ap (λ cs. shows names cs (head.at + by)) (t.longer).cells ∙ shows-append names mid.store.cells t.more (head.at + by) head_within ∙ shown_mid names head.at

    pub rule_key : key_of (slice_get new.store.cells (head.at + by)) ≡ Some key
    rule_key = ap key_of head_kept ∙ ap (λ cs. key_of (slice_get cs (head.at + by))) l.cells ∙ key_behind old.store.cells cells head.at ∙ is

    body_is : (names : List Name) → HasNames names cells → AreNamed (length names) old.store.cells → body (shows names cells term.at) ≡ option_map (λ (p : Ref). shows names new.store.cells p.at) found
    body_is names h k = ap body (sym (shown_mid names term.at)) ∙ (t.shown names h.table (named_behind (length names) old mid cells l h.named k)).same

    pub rule_named : (names : List Name) → HasNames names cells → AreNamed (length names) old.store.cells → AreNamed (length names) new.store.cells
    rule_named names h k = (t.shown names h.table (named_behind (length names) old mid cells l h.named k)).named

    pub rule_fits : AreNameable old.store.cells cells → AreBelow cells vars head → AreBelow cells vars term → (place : Ref) → found ≡ Some place → ViewFits new.store.cells (rule_view place)
    rule_fits n bh bt place e = record {
      head = omega (arith, head_within, ap length (t.longer).cells, length-append mid.store.cells t.more);
      named = head_named (slice_get new.store.cells (head.at + by)) key rule_key;
      below = λ v o. bh v (ap (occurs v) (sym (shown_new [])) ∙ o);
      body = (
        subst (λ o. IfSome o (λ (p : Ref). p.at < length new.store.cells)) e t.within,
        λ v o.
            bt v (occurs-names v [] n.names cells term.at
            ∙ occurs-body v (shows n.names cells term.at) (shows n.names new.store.cells place.at)
            (body_is n.names n.has n.known ∙ ap (option_map (λ (p : Ref). shows n.names new.store.cells p.at)) e)
            (occurs-names v n.names [] new.store.cells place.at ∙ o)),
      );
    }

    pub rule_told : (names : List Name) → HasNames names cells → AreNamed (length names) old.store.cells → (place : Ref) → found ≡ Some place → rule (shows names cells head.at) (shows names cells term.at) vars ≡ Ok (clause_of names new.store.cells (rule_view place))
    rule_told names h k place e =
        ap (with_body (body (shows names cells term.at))) (subst (HeadIs names cells (shows names cells head.at)) (free names h) (head_told names cells h built head.at lh) vars (body (shows names cells term.at)))
        ∙ ap (λ o. with_body o (Ok (clause_by (shows names cells head.at) o vars))) (body_is names h k ∙ ap (option_map (λ (p : Ref). shows names new.store.cells p.at)) e)
        ∙ ap (λ x. let r : Result Clause Cause = Ok (clause_by x (Some (shows names new.store.cells place.at)) vars) in r) (sym (shown_new names))

    pub rule_bodiless : (names : List Name) → HasNames names cells → AreNamed (length names) old.store.cells → found ≡ None → rule (shows names cells head.at) (shows names cells term.at) vars ≡ Err cause.Body
    rule_bodiless names h k e =
        ap (with_body (body (shows names cells term.at))) (subst (HeadIs names cells (shows names cells head.at)) (free names h) (head_told names cells h built head.at lh) vars (body (shows names cells term.at)))
        ∙ ap (λ o. with_body o (Ok (clause_by (shows names cells head.at) o vars))) (body_is names h k ∙ ap (option_map (λ (p : Ref). shows names new.store.cells p.at)) e)

-- an integer is no body
pub rule_integer : (names : List Name) (cells : List Cell) (head term : Ref) (vars : ℕ) (key : Key) → HasNames names cells → AreBuilt cells → head.at < length cells → head_key names (slice_get cells head.at) ≡ Ok key → (n : ℤ) → slice_get cells term.at ≡ Some (cell.Int n) → rule (shows names cells head.at) (shows names cells term.at) vars ≡ Err cause.Body
rule_integer names cells head term vars key h built lh free n e =
    ap (λ t. rule (shows names cells head.at) t vars) (shows-cell names cells term.at (cell.Int n) e tt)
    ∙ ap (with_body None) (subst (HeadIs names cells (shows names cells head.at)) free (head_told names cells h built head.at lh) vars None)

-- ---- directives that are taken

-- the table alone was changed
pub directive_taken : {A : Type 0} (names : List Name) (old : Parts) (ops : Ops) (result : Result A TermFault) (r : Option Table) (k : Kind) → IsParts old → AreNamed (length names) old.store.cells → k ≡ Directive r → TellsDirective (table_of ops) result r
    → TellsTerm names old (record { store = old.store; clauses = old.clauses; ranks = old.ranks; index = old.index; ops = ops }) result (outcome (table_of old.ops) k)
directive_taken names old ops (Ok done) r k ok n e t = record {
  more = [];
  adds = ap (outcome (table_of old.ops)) (e ∙ ap Directive t);
  clauses = sym (append-nil (base_of names (contents_of old)));
  parts = record { base = record { built = (ok.base).built; clauses = (ok.base).clauses }; index = ok.index; ranks = record { count = ok.ranks.count; each = ok.ranks.each }; unbound = ok.unbound };
  named = n;
}
directive_taken names old ops (Err (Refused cause.Directive)) r k ok n e t = ap (outcome (table_of old.ops)) (e ∙ ap Directive t)
directive_taken names old ops (Err (Refused c)) r k ok n e t = absurd t
directive_taken names old ops (Err NoMemory) r k ok n e t = tt

-- What a base is: its places against the clauses of a predicate, and that every clause fits.
use Rattle.std.proofs.Common.{◌≡◌, ℕ, zero, suc, ◌+◌, ◌<◌, nat_eq, Bool, true, false, ◌&&◌, ◌||◌, codes, List, [], ◌∷◌, length, map, slice_get, Option, Some, None, option_map, IfSome, Result, Ok, Err, refl, sym, ap, subst, ◌∙◌, arith, if◌then◌else◌}
use Rattle.std.specs.List.{All, AllByRecursion}
use Rattle.std.specs.Str.{IsUtf8, is_utf8}
use Rattle.std.specs.Result.{is_ok}
use Rattle.std.specs.Str.Lossy.{utf8_valid_len}
use Rattle.std.proofs.lemmas.Str.{IsUtf8-from_is_utf8, is_utf8-from_IsUtf8}
use Rattle.tp_parse.specs.Ops.{table_of}
use Rattle.tp_clauses.specs.Parts.{contents_of}
use Rattle.tp_clauses.specs.Told.{Holds, TellsParts}
use Rattle.tp_clauses.proofs.Loading.Text.{fault_same, first_asks}
use Rattle.tp_clauses.specs.Loaded.{AsksMemory, HasBody, Has, Tells}
use Rattle.tp_clauses.specs.declared.parts.Parts.{Parts}
use Rattle.tp_clauses.specs.declared.fault.LoadFault.{LoadFault}
use Rattle.tp_clauses.specs.declared.fault.LoadFault.TheVariants.{Refused, NoMemory}
use Rattle.std.proofs.lemmas.List.Elements.{All-head, All-tail}
use Rattle.tp_terms.specs.declared.cells.Cell.{Cell}
use Rattle.tp_terms.specs.declared.cells.Cell.TheVariants as cell
use Rattle.tp_terms.specs.declared.cells.Ref.{Ref}
use Rattle.tp_terms.specs.declared.cells.AtomId.{AtomId}
use Rattle.tp_terms.specs.Term.{Name, Term, Terms, Var, Int, Atom, Comp, NoMore, More, names_eq, count_of, occurs, occurs_in}
use Rattle.tp_terms.specs.Names.{AreDistinct}
use Rattle.tp_terms.specs.Shown.{name_at, shows, shown_from, args_at, IsNamed, AreBuilt, AreNamed}
use Rattle.tp_terms.proofs.Places.Shown.{shows-cell, AreNamed-cell}
use Rattle.tp_terms.proofs.Naming.Tables.{names_eq-places}
use Rattle.tp_meaning.specs.Body.{body}
use Rattle.tp_meaning.proofs.Bodies.{body-own}
use Rattle.tp_meaning.specs.Clauses.{Base, Clause, predicate}
use Rattle.tp_meaning.specs.Valid.{Below, AllBelow, ClauseFits}
use Rattle.tp_parse.specs.Table.{Table, start_table}
use Rattle.tp_parse.specs.Texts.{Found, clause_of as read_clause_of}
use Rattle.tp_parse.specs.Texts as read
use Rattle.tp_lex.specs.Next.{next}
use Rattle.tp_lex.specs.declared.token.Token.{Token}
use Rattle.tp_lex.specs.declared.token.LexFault.{LexFault}
use Rattle.std.proofs.lemmas.Bool.{eq-eqb}
use Rattle.tp_clauses.specs.Directives.{directive}
use Rattle.tp_clauses.specs.declared.fault.Cause.TheVariants as cause
use Rattle.tp_meaning.specs.Goals.{is_reserved}
use Rattle.tp_clauses.specs.Model.{Model, Refusal, Rest, Directive, OfClause, model, model_from, most_terms, by_read, by_kind, by_token, kind_of, rule, with_head, headed, with_body, with_clause, refused_bytes}
use Rattle.tp_clauses.specs.Contents.{Contents, IsBase, ViewFits, IsHead, AreBelow, base_of, clause_of, head_name, head_args, is_of, is_of_by, places_from, places_of, clauses_at}
use Rattle.tp_clauses.specs.declared.base.ClauseId.{ClauseId}
use Rattle.tp_clauses.specs.declared.base.ClauseView.{ClauseView}
use Rattle.tp_clauses.specs.declared.fault.Cause.{Cause}
use Rattle.tp_clauses.proofs.Taking.Variables.{occurs-names}
use Rattle.tp_clauses.proofs.Taking.Directives.{cell_at}

-- ---- places

-- so many places show so many arguments
pub count-args_at : (names : List Name) (cells : List Cell) (first n : ℕ) → count_of (args_at names cells first n) ≡ n
count-args_at names cells first zero = refl
count-args_at names cells first (suc n) = ap (λ m. 1 + m) (count-args_at names cells (suc first) n) ∙ (let e : 1 + n ≡ suc n = omega arith in e)

module _ (names : List Name) (distinct : AreDistinct names) (cells : List Cell) (built : AreBuilt cells) (named : AreNamed (length names) cells) (name : AtomId) (l : name.at < length names) (arity : ℕ) where
  -- the test of a place is that of its clause
  is_of-named : (v : ClauseView) → ViewFits cells v → is_of name arity cells v ≡ (names_eq (name_at names name.at) (clause_of names cells v).name && nat_eq arity (count_of (clause_of names cells v).args))
  is_of-named v h =
      let c = cell_at cells v.head.at h.head in
      ap (is_of_by name arity) c.1 ∙ go c.0 (subst (λ o. IsHead o) c.1 h.named) (AreNamed-cell (length names) cells v.head.at c.0 named c.1)
      ∙ ap (λ t. names_eq (name_at names name.at) (head_name t) && nat_eq arity (count_of (head_args t))) (sym (shows-cell names cells v.head.at c.0 c.1 (built v.head.at c.0 c.1)))
    where
      go : (c : Cell) → IsHead (Some c) → IsNamed (length names) c → is_of_by name arity (Some c) ≡ (names_eq (name_at names name.at) (head_name (shown_from names cells c)) && nat_eq arity (count_of (head_args (shown_from names cells c))))
      go (cell.Var v) k n = absurd k
      go (cell.Int z) k n = absurd k
      go (cell.Atom a) k n = ap (λ b. b && nat_eq arity 0) (sym (names_eq-places names distinct name.at a.at l n))
      go (cell.Comp f first count) k n =
          ap (λ b. b && nat_eq arity count) (sym (names_eq-places names distinct name.at f.at l n))
          ∙ ap (λ m. names_eq (name_at names name.at) (name_at names f.at) && nat_eq arity m) (sym (count-args_at names cells first.at count))

  abbrev found_at : (ℕ → Option ClauseView) → ClauseId → Option Clause
  found_at look id = option_map (clause_of names cells) (look id.at)

  places_found : (look : ℕ → Option ClauseView) (at : ℕ) (vs : List ClauseView) → ((k : ℕ) → look (at + k) ≡ slice_get vs k) → All (ViewFits cells) vs
      → map (λ id. option_map (clause_of names cells) (look id.at)) (places_from name arity cells at vs) ≡ map Some (predicate (map (clause_of names cells) vs) (name_at names name.at) arity)
  places_found look at [] e h = refl
  places_found look at (v ∷ vs) e h =
      go (is_of name arity cells v) (is_of-named v (All-head (ViewFits cells) v vs h))
      (ap look (let z : at ≡ at + 0 = omega arith in z) ∙ e 0)
      (places_found look (suc at) vs (λ k. ap look (let z : suc at + k ≡ at + suc k = omega arith in z) ∙ e (suc k)) (All-tail (ViewFits cells) v vs h))
    where
      at_id : ClauseId → Option Clause
      at_id id = option_map (clause_of names cells) (look id.at)

      go : (b : Bool) → b ≡ (names_eq (name_at names name.at) (clause_of names cells v).name && nat_eq arity (count_of (clause_of names cells v).args)) → look at ≡ Some v
          → map (λ id. option_map (clause_of names cells) (look id.at)) (places_from name arity cells (suc at) vs) ≡ map Some (predicate (map (clause_of names cells) vs) (name_at names name.at) arity)
          → map (λ (id : ClauseId). option_map (clause_of names cells) (look id.at)) (if b then (record { at = at }) ∷ places_from name arity cells (suc at) vs else places_from name arity cells (suc at) vs) ≡ map Some (predicate (clause_of names cells v ∷ map (clause_of names cells) vs) (name_at names name.at) arity)
      go true q here rest =
          ap (λ o. option_map (clause_of names cells) o ∷ map (λ id. option_map (clause_of names cells) (look id.at)) (places_from name arity cells (suc at) vs)) here
          ∙ ap (λ l. Some (clause_of names cells v) ∷ l) rest
          ∙ ap (λ b. map Some (if b then clause_of names cells v ∷ predicate (map (clause_of names cells) vs) (name_at names name.at) arity else predicate (map (clause_of names cells) vs) (name_at names name.at) arity)) q
      go false q here rest = rest ∙ ap (λ b. map Some (if b then clause_of names cells v ∷ predicate (map (clause_of names cells) vs) (name_at names name.at) arity else predicate (map (clause_of names cells) vs) (name_at names name.at) arity)) q

-- the clauses at the places of a name and a number of arguments are those of the predicate
pub predicate_at : (names : List Name) (c : Contents) (name : AtomId) (arity : ℕ) → IsBase c → AreDistinct names → AreNamed (length names) c.cells → name.at < length names → clauses_at names c (places_of name arity c) ≡ map Some (predicate (base_of names c) (name_at names name.at) arity)
predicate_at names c name arity b d n l = places_found names d c.cells b.built n name l arity (slice_get c.clauses) 0 c.clauses (λ k. ap (slice_get c.clauses) (let e : 0 + k ≡ k = omega arith in e)) b.clauses

-- ---- every clause fits

or_left : (a b : Bool) → a ≡ true → (a || b) ≡ true
or_left a b e = ap (λ x. x || b) e

or_right : (a b : Bool) → b ≡ true → (a || b) ≡ true
or_right true b e = refl
or_right false b e = e

mutual
  Below-occurs : (n : ℕ) (t : Term) → ((v : ℕ) → occurs v t ≡ true → v < n) → Below n t
  Below-occurs n (Var v) h = h v (eq-eqb v v refl)
  Below-occurs n (Int z) h = tt
  Below-occurs n (Atom a) h = tt
  Below-occurs n (Comp f ts) h = AllBelow-occurs n ts h

  AllBelow-occurs : (n : ℕ) (ts : Terms) → ((v : ℕ) → occurs_in v ts ≡ true → v < n) → AllBelow n ts
  AllBelow-occurs n NoMore h = tt
  AllBelow-occurs n (More t ts) h = (Below-occurs n t (λ v e. h v (or_left (occurs v t) (occurs_in v ts) e)), AllBelow-occurs n ts (λ v e. h v (or_right (occurs v t) (occurs_in v ts) e)))

head_below : (n : ℕ) (t : Term) → Below n t → AllBelow n (head_args t)
head_below n (Var v) h = tt
head_below n (Int z) h = tt
head_below n (Atom a) h = tt
head_below n (Comp f ts) h = h

place_below : (names : List Name) (cells : List Cell) (n : ℕ) (place : Ref) → AreBelow cells n place → Below n (shows names cells place.at)
place_below names cells n place h = Below-occurs n (shows names cells place.at) (λ v e. h v (occurs-names v [] names cells place.at ∙ e))

view_fits : (names : List Name) (cells : List Cell) (v : ClauseView) → ViewFits cells v → ClauseFits (clause_of names cells v)
view_fits names cells v h = record { head = head_below v.vars (shows names cells v.head.at) (place_below names cells v.vars v.head h.below); body = go v.body h.body }
  where
    go : (o : Option Ref) → IfSome o (λ place. (place.at < length cells) × AreBelow cells v.vars place) → IfSome (option_map (λ place. shows names cells place.at) o) (Below v.vars)
    go None k = tt
    go (Some place) k = place_below names cells v.vars place k.1

views_fit : (names : List Name) (cells : List Cell) (vs : List ClauseView) → All (ViewFits cells) vs → AllByRecursion ClauseFits (map (clause_of names cells) vs)
views_fit names cells [] h = tt
views_fit names cells (v ∷ vs) h = (view_fits names cells v (All-head (ViewFits cells) v vs h), views_fit names cells vs (All-tail (ViewFits cells) v vs h))

-- the variables of every clause are below their number
pub clauses_fit : (names : List Name) (c : Contents) → IsBase c → AllByRecursion ClauseFits (base_of names c)
clauses_fit names c b = views_fit names c.cells c.clauses b.clauses

-- ---- every body is a body

abbrev AreBodied : Result Model Refusal → Type 0
AreBodied (Ok m) = AllByRecursion HasBody m.clauses
AreBodied (Err r) = Unit {0}

abbrev IsBodied : Result Clause Cause → Type 0
IsBodied (Ok c) = HasBody c
IsBodied (Err c) = Unit {0}

headed_bodied : (f : Name) (ts : Terms) (vars : ℕ) (o : Option Term) → IfSome o (λ b. body b ≡ Some b) → IsBodied (headed f ts vars o)
headed_bodied f ts vars o h = go (is_reserved f (count_of ts))
  where
    go : (b : Bool) → IsBodied (if b then Err cause.Builtin else Ok (record { name = f; args = ts; body = o; vars = vars }))
    go true = tt
    go false = h

head_bodied : (t : Term) (vars : ℕ) (o : Option Term) → IfSome o (λ b. body b ≡ Some b) → IsBodied (with_head t vars o)
head_bodied (Var v) vars o h = tt
head_bodied (Int z) vars o h = tt
head_bodied (Atom a) vars o h = headed_bodied a NoMore vars o h
head_bodied (Comp f ts) vars o h = headed_bodied f ts vars o h

wanted_bodied : (o : Option Term) (r : Result Clause Cause) → IsBodied r → IsBodied (with_body o r)
wanted_bodied o (Err c) h = h
wanted_bodied None (Ok c) h = tt
wanted_bodied (Some b) (Ok c) h = h

rule_bodied : (head t : Term) (vars : ℕ) → IsBodied (rule head t vars)
rule_bodied head t vars = wanted_bodied (body t) (with_head head vars (body t)) (head_bodied head vars (body t) (body-own t))

clause_bodied : (rest : Rest) → ((t : Table) (at : ℕ) → AreBodied (rest t at)) → (n : ℕ) (ops : Table) (f : Found) (r : Result Clause Cause) → IsBodied r → AreBodied (by_kind rest n ops f (OfClause r))
clause_bodied rest h n ops f (Err c) k = tt
clause_bodied rest h n ops f (Ok c) k = go (rest ops f.to) (h ops f.to)
  where
    go : (r : Result Model Refusal) → AreBodied r → AreBodied (with_clause c r)
    go (Ok m) b = (k, b)
    go (Err r) b = tt

directive_bodied : (rest : Rest) → ((t : Table) (at : ℕ) → AreBodied (rest t at)) → (n : ℕ) (ops : Table) (f : Found) (o : Option Table) → AreBodied (by_kind rest n ops f (Directive o))
directive_bodied rest h n ops f None = tt
directive_bodied rest h n ops f (Some t) = h t f.to

kind_bodied : (rest : Rest) → ((t : Table) (at : ℕ) → AreBodied (rest t at)) → (n : ℕ) (ops : Table) (f : Found) (t : Term) (vars : ℕ) → AreBodied (by_kind rest n ops f (kind_of ops t vars))
kind_bodied rest h n ops f (Comp g (More t NoMore)) vars = go (names_eq g (codes ":-")) (names_eq g (codes "?-"))
  where
    go : (a b : Bool) → AreBodied (by_kind rest n ops f (if a then Directive (directive t ops) else if b then Directive None else OfClause (with_head (Comp g (More t NoMore)) vars None)))
    go true b = directive_bodied rest h n ops f (directive t ops)
    go false true = tt
    go false false = clause_bodied rest h n ops f (with_head (Comp g (More t NoMore)) vars None) (head_bodied (Comp g (More t NoMore)) vars None tt)
kind_bodied rest h n ops f (Comp g (More t (More u NoMore))) vars = go (names_eq g (codes ":-")) (names_eq g (codes "-->"))
  where
    go : (a b : Bool) → AreBodied (by_kind rest n ops f (if a then OfClause (rule t u vars) else if b then OfClause (Err cause.Grammar) else OfClause (with_head (Comp g (More t (More u NoMore))) vars None)))
    go true b = clause_bodied rest h n ops f (rule t u vars) (rule_bodied t u vars)
    go false true = tt
    go false false = clause_bodied rest h n ops f (with_head (Comp g (More t (More u NoMore))) vars None) (head_bodied (Comp g (More t (More u NoMore))) vars None tt)
kind_bodied rest h n ops f t vars = clause_bodied rest h n ops f (with_head t vars None) (head_bodied t vars None tt)

read_bodied : (rest : Rest) → ((t : Table) (at : ℕ) → AreBodied (rest t at)) → (n : ℕ) (ops : Table) (r : Result (Option Found) read.Refusal) → AreBodied (by_read rest n ops r)
read_bodied rest h n ops (Err r) = tt
read_bodied rest h n ops (Ok None) = tt
read_bodied rest h n ops (Ok (Some f)) = kind_bodied rest h n ops f f.term f.vars

token_bodied : (n : ℕ) (ops : Table) (r : Result (Option Token) LexFault) → AreBodied (by_token n ops r)
token_bodied n ops (Err fault) = tt
token_bodied n ops (Ok None) = tt
token_bodied n ops (Ok (Some token)) = tt

from_bodied : (most n : ℕ) (text : List ℕ) (ops : Table) (at : ℕ) → AreBodied (model_from most n text ops at)
unfolding model_from
from_bodied zero n text ops at = token_bodied n ops (next text at)
from_bodied (suc more) n text ops at = read_bodied (model_from more (n + 1) text) (λ t to. from_bodied more (n + 1) text t to) n ops (read_clause_of ops text at)

-- the body of every clause of a model is its own body
pub bodies_are : (text : List ℕ) (m : Model) → model text ≡ Ok m → AllByRecursion HasBody m.clauses
unfolding model
bodies_are text m e = subst AreBodied e (go (is_utf8 text))
  where
    go : (b : Bool) → AreBodied (if b then model_from most_terms 1 text start_table 0 else Err (refused_bytes text))
    go true = from_bodied most_terms 1 text start_table 0
    go false = tt

-- ---- the base of a text

pub model_utf8 : (bytes text : List ℕ) → text ≡ bytes → IsUtf8 bytes → model bytes ≡ model_from most_terms 1 text start_table 0
unfolding model
model_utf8 bytes text e u =
    ap (λ b. if b then model_from most_terms 1 bytes start_table 0 else Err (refused_bytes bytes)) (is_utf8-from_IsUtf8 bytes u)
    ∙ ap (λ t. model_from most_terms 1 t start_table 0) (sym e)

pub model_bytes : (bytes : List ℕ) (byte : ℕ) → (IsUtf8 bytes → ⊥) → byte ≡ utf8_valid_len bytes → ◌≡◌ {A = Result Model Refusal} (model bytes) (Err (record { clause = 0; byte = byte; cause = cause.Utf8 }))
unfolding model
model_bytes bytes byte not e = go (is_utf8 bytes) refl
  where
    go : (b : Bool) → is_utf8 bytes ≡ b → ◌≡◌ {A = Result Model Refusal} (if is_utf8 bytes then model_from most_terms 1 bytes start_table 0 else Err (refused_bytes bytes)) (Err (record { clause = 0; byte = byte; cause = cause.Utf8 }))
    go true x = absurd (not (IsUtf8-from_is_utf8 bytes x))
    go false x =
        ap (λ b. if b then model_from most_terms 1 bytes start_table 0 else Err (refused_bytes bytes)) x
        ∙ ap (λ n. let r : Result Model Refusal = Err (record { clause = 0; byte = n; cause = cause.Utf8 }) in r) (sym e)

pub base_told : (names : List Name) (bytes text : List ℕ) (p : Parts) → text ≡ bytes → IsUtf8 bytes → Holds names p (model_from most_terms 1 text start_table 0) → (m : Model) × ((model bytes ≡ Ok m) × Has names (contents_of p) m)
base_told names bytes text p e u h =
    (record { clauses = base_of names (contents_of p); table = table_of p.ops }, (model_utf8 bytes text e u ∙ h.model, record { clauses = refl; table = refl; named = h.named }))

pub fault_told : (names : List Name) (bytes text : List ℕ) (fault : LoadFault) → text ≡ bytes → IsUtf8 bytes → TellsParts names (Err fault) (model_from most_terms 1 text start_table 0) → Tells names (Err fault) (model bytes)
fault_told names bytes text (Refused clause byte c) e u h = model_utf8 bytes text e u ∙ h
fault_told names bytes text NoMemory e u h = tt

-- want of memory for a text that is UTF-8
pub memory_told : (A B : Type 0) (bytes text : List ℕ) (fault : LoadFault) → text ≡ bytes → IsUtf8 bytes → (◌≡◌ {A = Result A LoadFault} (Err fault) (Err NoMemory) → AsksMemory text) → ◌≡◌ {A = Result B LoadFault} (Err fault) (Err NoMemory) → (is_utf8 bytes ≡ true) × AsksMemory bytes
memory_told A B bytes text fault e u asks w = (is_utf8-from_IsUtf8 bytes u, subst AsksMemory e (asks (fault_same B A fault NoMemory w)))

-- want of memory for the lists by first argument
pub lists_memory : (bytes text : List ℕ) → text ≡ bytes → IsUtf8 bytes → is_ok (next text 0) ≡ true → (is_utf8 bytes ≡ true) × AsksMemory bytes
lists_memory bytes text e u ok = (is_utf8-from_IsUtf8 bytes u, subst AsksMemory e (first_asks text ok))

-- the same of the clauses of a base that has a model
pub bodies_told : (names : List Name) (text : List ℕ) (c : Contents) → (m : Model) → model text ≡ Ok m → Has names c m → AllByRecursion HasBody (base_of names c)
bodies_told names text c m e h = subst (λ (b : Base). AllByRecursion HasBody b) (sym h.clauses) (bodies_are text m e)

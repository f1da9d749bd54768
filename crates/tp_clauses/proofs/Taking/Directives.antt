-- Directives, by their cells.
use Rattle.std.proofs.Common.{◌≡◌, ℕ, zero, suc, ◌+◌, ◌<◌, ◌≤◌, nat_eq, Bool, true, false, ◌&&◌, List, [], ◌∷◌, length, slice_get, get_or, Option, Some, None, Result, Ok, Err, ℤ, refl, sym, ap, subst, ◌∙◌, arith, add-one, if◌then◌else◌}
use Rattle.std.specs.Prelude.{codes}
use Rattle.std.proofs.lemmas.Bool.{eqb-true, eqb-false}
use Rattle.std.proofs.lemmas.Option.{slice_get-get_or}
use Rattle.tp_terms.specs.declared.cells.Cell.{Cell}
use Rattle.tp_terms.specs.declared.cells.Cell.TheVariants as cell
use Rattle.tp_terms.specs.declared.cells.Ref.{Ref}
use Rattle.tp_terms.specs.declared.cells.AtomId.{AtomId}
use Rattle.tp_terms.specs.declared.symbols.TheConstants.{OP, LIST_CELL, EMPTY_LIST}
use Rattle.tp_terms.specs.Term.{Name, Term, Terms, Int, Atom, Comp, NoMore, More, names_eq, count_of}
use Rattle.tp_terms.specs.Shown.{name_at, shows, shown_from, args_at, StandsBefore, IsNamed, AreBuilt}
use Rattle.tp_terms.proofs.Places.Shown.{shows-cell, AreNamed-cell}
use Rattle.tp_parse.specs.Table.{Table, add_op}
use Rattle.tp_parse.specs.declared.table.OpFault.{OpFault}
use Rattle.tp_clauses.specs.Kinds.{is_atom}
use Rattle.tp_clauses.specs.Contents.{HasNames}
use Rattle.tp_clauses.specs.Directives.{directive, listed_names, op_names, add_each, add_names, with_first, allows}
use Rattle.tp_clauses.specs.declared.fault.Cause.TheVariants as cause
use Rattle.tp_clauses.specs.declared.directive.TermFault.{TermFault}
use Rattle.tp_clauses.specs.declared.directive.TermFault.TheVariants.{Refused, NoMemory}
use Rattle.tp_clauses.specs.Told.{TellsDirective, added_or_none, each_added, lone_name, list_part, element_part, operators_at, typed}
use Rattle.tp_clauses.specs.declared.directive.Operators.{Operators}
use Rattle.tp_clauses.specs.declared.directive.ListPart.{ListPart}
use Rattle.tp_clauses.specs.declared.directive.ListPart.TheVariants as part
use Rattle.tp_clauses.proofs.Taking.StartNames.{is_atom-named, op, list_cell, empty_list}

-- there is a cell at each place
pub cell_at : (cells : List Cell) (at : ℕ) → at < length cells → (c : Cell) × (slice_get cells at ≡ Some c)
cell_at cells at l = (get_or cells at (cell.Var 0), slice_get-get_or cells at (cell.Var 0) l)

both_true : (a b : Bool) → (a && b) ≡ true → (a ≡ true) × (b ≡ true)
both_true true b e = (refl, e)
both_true false b e = absurd (cc)

differ : (a b : ℕ) → nat_eq a b ≡ false → a ≡ b → ⊥
differ a b e = eqb-false a b e

-- ---- what a directive adds

none_either : (b : Bool) → ◌≡◌ {A = Option Table} None (if b then None else None)
none_either true = refl
none_either false = refl

-- the table after `op` with these arguments
abbrev op_directive : Term → Term → Term → Table → Option Table
op_directive (Int p) (Atom kind) names t = add_names p kind (op_names names) t
op_directive p kind names t = None

three : (f : Name) (p k n : Term) (t : Table) → directive (Comp f (More p (More k (More n NoMore)))) t ≡ (if names_eq f (codes "op") then op_directive p k n t else None)
three f (Int z) (Atom a) n t = refl
three f p k n t = none_either (names_eq f (codes "op"))

not_three : (f : Name) (ts : Terms) (t : Table) → (count_of ts ≡ 3 → ⊥) → directive (Comp f ts) t ≡ None
not_three f (More (Int p) (More (Atom k) (More n NoMore))) t h = absurd (h refl)
not_three f ts t h = refl

count-args_at : (names : List Name) (cells : List Cell) (first n : ℕ) → count_of (args_at names cells first n) ≡ n
count-args_at names cells first zero = refl
count-args_at names cells first (suc n) = ap (λ m. 1 + m) (count-args_at names cells (suc first) n) ∙ (let e : 1 + n ≡ suc n = omega arith in e)

-- what operators a term adds
abbrev pub Runs : List Name → List Cell → Term → Option Operators → Type 0
Runs names cells term None = (t : Table) → directive term t ≡ None
Runs names cells term (Some o) = ((t : Table) → directive term t ≡ add_names o.priority (name_at names o.kind.at) (op_names (shows names cells o.names.at)) t) × (o.names.at < length cells) × (o.kind.at < length names)

module _ (names : List Name) (cells : List Cell) (h : HasNames names cells) (built : AreBuilt cells) where
  at_place : (at : ℕ) (c : Cell) → slice_get cells at ≡ Some c → shows names cells at ≡ shown_from names cells c
  at_place at c e = shows-cell names cells at c e (built at c e)

  named_at : (at : ℕ) (c : Cell) → slice_get cells at ≡ Some c → IsNamed (length names) c
  named_at at c e = AreNamed-cell (length names) cells at c h.named e

  typed_runs : (f : Name) (first : Ref) (p k : Cell) → first.at + 3 ≤ length cells → names_eq f (codes "op") ≡ true → slice_get cells first.at ≡ Some p → slice_get cells (first.at + 1) ≡ Some k → Runs names cells (Comp f (args_at names cells first.at 3)) (typed (record { at = first.at + 2 }) (Some p) (Some k))
  typed_runs f first p k l is ep ek =
      let sp = at_place first.at p ep in
      let sk : shows names cells (suc first.at) ≡ shown_from names cells k = ap (shows names cells) (sym (add-one first.at)) ∙ at_place (first.at + 1) k ek in
      let sn : suc (suc first.at) ≡ first.at + 2 = omega arith in
      let term : (t : Table) → directive (Comp f (args_at names cells first.at 3)) t ≡ op_directive (shown_from names cells p) (shown_from names cells k) (shows names cells (first.at + 2)) t = λ t.
      three f (shows names cells first.at) (shows names cells (suc first.at)) (shows names cells (suc (suc first.at))) t
      ∙ ap (λ b. if b then op_directive (shows names cells first.at) (shows names cells (suc first.at)) (shows names cells (suc (suc first.at))) t else None) is
      ∙ ap (λ x. op_directive x (shows names cells (suc first.at)) (shows names cells (suc (suc first.at))) t) sp
      ∙ ap (λ x. op_directive (shown_from names cells p) x (shows names cells (suc (suc first.at))) t) sk
      ∙ ap (λ m. op_directive (shown_from names cells p) (shown_from names cells k) (shows names cells m) t) sn in
      go p k term (named_at (first.at + 1) k ek)
    where
      go : (p k : Cell) → ((t : Table) → directive (Comp f (args_at names cells first.at 3)) t ≡ op_directive (shown_from names cells p) (shown_from names cells k) (shows names cells (first.at + 2)) t) → IsNamed (length names) k → Runs names cells (Comp f (args_at names cells first.at 3)) (typed (record { at = first.at + 2 }) (Some p) (Some k))
      go (cell.Int z) (cell.Atom a) e n = (e, omega arith, n)
      go p k e n = e

  pub operators_run : (at : ℕ) → at < length cells → Runs names cells (shows names cells at) (operators_at (slice_get cells) (slice_get cells at))
  operators_run at l =
      let c = cell_at cells at l in
      subst (λ o. Runs names cells (shows names cells at) (operators_at (slice_get cells) o)) (sym c.1)
      (subst (λ x. Runs names cells x (operators_at (slice_get cells) (Some c.0))) (sym (at_place at c.0 c.1)) (go c.0 (built at c.0 c.1) (named_at at c.0 c.1)))
    where
      tests : (name : AtomId) (first : Ref) (count : ℕ) (b : Bool) → (is_atom name OP && nat_eq count 3) ≡ b → StandsBefore at (cell.Comp name first count) → name.at < length names → Runs names cells (Comp (name_at names name.at) (args_at names cells first.at count)) (if b then typed (record { at = first.at + 2 }) (slice_get cells first.at) (slice_get cells (first.at + 1)) else None)
      tests name first count true e s n =
          let t = both_true (is_atom name OP) (nat_eq count 3) e in
          let three_args : count ≡ 3 = eqb-true count 3 t.1 in
          let is : names_eq (name_at names name.at) (codes "op") ≡ true = is_atom-named names h.table name OP (codes "op") n op ∙ t.0 in
          let room : first.at + 3 ≤ length cells = let x = s.1 in omega arith in
          let p = cell_at cells first.at (omega arith) in
          let k = cell_at cells (first.at + 1) (omega arith) in
          subst (λ m. Runs names cells (Comp (name_at names name.at) (args_at names cells first.at m)) (typed (record { at = first.at + 2 }) (slice_get cells first.at) (slice_get cells (first.at + 1)))) (sym three_args)
          (subst (λ x. Runs names cells (Comp (name_at names name.at) (args_at names cells first.at 3)) (typed (record { at = first.at + 2 }) x (slice_get cells (first.at + 1)))) (sym p.1)
          (subst (λ y. Runs names cells (Comp (name_at names name.at) (args_at names cells first.at 3)) (typed (record { at = first.at + 2 }) (Some p.0) y)) (sym k.1)
          (typed_runs (name_at names name.at) first p.0 k.0 room is p.1 k.1)))
      tests name first count false e s n = λ t. other t (is_atom name OP) refl (nat_eq count 3) refl
        where
          f : Name
          f = name_at names name.at

          other : (t : Table) (a : Bool) → is_atom name OP ≡ a → (b : Bool) → nat_eq count 3 ≡ b → directive (Comp (name_at names name.at) (args_at names cells first.at count)) t ≡ None
          other t a ea false eb = not_three (name_at names name.at) (args_at names cells first.at count) t (λ x. differ count 3 eb (sym (count-args_at names cells first.at count) ∙ x))
          other t true ea true eb = absurd (let x : (is_atom name OP && nat_eq count 3) ≡ true = ap (λ c. c && nat_eq count 3) ea ∙ eb in let y : true ≡ false = sym x ∙ e in cc)
          other t false ea true eb =
              subst (λ m. directive (Comp (name_at names name.at) (args_at names cells first.at m)) t ≡ None) (sym (eqb-true count 3 eb))
              (three (name_at names name.at) (shows names cells first.at) (shows names cells (suc first.at)) (shows names cells (suc (suc first.at))) t
              ∙ ap (λ b. if b then op_directive (shows names cells first.at) (shows names cells (suc first.at)) (shows names cells (suc (suc first.at))) t else None) (is_atom-named names h.table name OP (codes "op") n op ∙ ea))

      go : (c : Cell) → StandsBefore at c → IsNamed (length names) c → Runs names cells (shown_from names cells c) (operators_at (slice_get cells) (Some c))
      go (cell.Comp name first count) s n = tests name first count (is_atom name OP && nat_eq count 3) refl s n
      go (cell.Var v) s n = λ t. refl
      go (cell.Int z) s n = λ t. refl
      go (cell.Atom a) s n = λ t. refl

-- ---- lists of names

-- what a place is as a list of names
abbrev pub Listed : List Name → List Cell → ℕ → ListPart → Type 0
Listed names cells at part.End = listed_names (shows names cells at) ≡ Some []
Listed names cells at (part.Name name rest) = (listed_names (shows names cells at) ≡ with_first (name_at names name.at) (listed_names (shows names cells rest.at))) × (rest.at < at) × (name.at < length names)
Listed names cells at part.Other = listed_names (shows names cells at) ≡ None

abbrev ListedTerm : List Name → List Cell → ℕ → Term → ListPart → Type 0
ListedTerm names cells at t part.End = listed_names t ≡ Some []
ListedTerm names cells at t (part.Name name rest) = (listed_names t ≡ with_first (name_at names name.at) (listed_names (shows names cells rest.at))) × (rest.at < at) × (name.at < length names)
ListedTerm names cells at t part.Other = listed_names t ≡ None

from_term : (names : List Name) (cells : List Cell) (at : ℕ) (p : ListPart) → ListedTerm names cells at (shows names cells at) p → Listed names cells at p
from_term names cells at part.End h = h
from_term names cells at (part.Name name rest) h = h
from_term names cells at part.Other h = h

none_names : (b : Bool) → ◌≡◌ {A = Option (List Name)} (if b then None else None) None
none_names true = refl
none_names false = refl

-- a first element and the names behind it
abbrev first_listed : Term → Option (List Name) → Option (List Name)
first_listed (Atom a) rest = with_first a rest
first_listed t rest = None

two_listed : (f : Name) (a t : Term) → listed_names (Comp f (More a (More t NoMore))) ≡ (if names_eq f (codes ".") then first_listed a (listed_names t) else None)
two_listed f (Atom a) t = refl
two_listed f a t = sym (none_names (names_eq f (codes ".")))

not_two : (f : Name) (ts : Terms) → (count_of ts ≡ 2 → ⊥) → listed_names (Comp f ts) ≡ None
not_two f (More (Atom a) (More t NoMore)) h = absurd (h refl)
not_two f ts h = refl

module _ (names : List Name) (cells : List Cell) (h : HasNames names cells) (built : AreBuilt cells) where
  pub listed : (at : ℕ) → at < length cells → Listed names cells at (list_part (slice_get cells) (slice_get cells at))
  listed at l =
      let c = cell_at cells at l in
      from_term names cells at (list_part (slice_get cells) (slice_get cells at))
      (subst (λ o. ListedTerm names cells at (shows names cells at) (list_part (slice_get cells) o)) (sym c.1)
      (subst (λ x. ListedTerm names cells at x (list_part (slice_get cells) (Some c.0))) (sym (shows-cell names cells at c.0 c.1 (built at c.0 c.1))) (go c.0 (built at c.0 c.1) (AreNamed-cell (length names) cells at c.0 h.named c.1))))
    where
      element : (f : Name) (first : Ref) (e : Cell) → first.at + 2 ≤ at → names_eq f (codes ".") ≡ true → slice_get cells first.at ≡ Some e → IsNamed (length names) e → ListedTerm names cells at (Comp f (args_at names cells first.at 2)) (element_part (record { at = first.at + 1 }) (Some e))
      element f first e room is here n =
          by e n (two_listed f (shows names cells first.at) (shows names cells (suc first.at)) ∙ ap (λ b. if b then first_listed (shows names cells first.at) (listed_names (shows names cells (suc first.at))) else None) is
          ∙ ap (λ x. first_listed x (listed_names (shows names cells (suc first.at)))) (shows-cell names cells first.at e here (built first.at e here))
          ∙ ap (λ m. first_listed (shown_from names cells e) (listed_names (shows names cells m))) (sym (add-one first.at)))
        where
          by : (e : Cell) → IsNamed (length names) e → listed_names (Comp f (args_at names cells first.at 2)) ≡ first_listed (shown_from names cells e) (listed_names (shows names cells (first.at + 1))) → ListedTerm names cells at (Comp f (args_at names cells first.at 2)) (element_part (record { at = first.at + 1 }) (Some e))
          by (cell.Atom a) n q = (q, omega arith, n)
          by (cell.Var v) n q = q
          by (cell.Int z) n q = q
          by (cell.Comp g ps k) n q = q

      tests : (name : AtomId) (first : Ref) (count : ℕ) (b : Bool) → (is_atom name LIST_CELL && nat_eq count 2) ≡ b → StandsBefore at (cell.Comp name first count) → name.at < length names → ListedTerm names cells at (Comp (name_at names name.at) (args_at names cells first.at count)) (if b then element_part (record { at = first.at + 1 }) (slice_get cells first.at) else part.Other)
      tests name first count true e s n =
          let t = both_true (is_atom name LIST_CELL) (nat_eq count 2) e in
          let two_args : count ≡ 2 = eqb-true count 2 t.1 in
          let is : names_eq (name_at names name.at) (codes ".") ≡ true = is_atom-named names h.table name LIST_CELL (codes ".") n list_cell ∙ t.0 in
          let room : first.at + 2 ≤ at = let x = s.1 in omega arith in
          let p = cell_at cells first.at (omega arith) in
          subst (λ m. ListedTerm names cells at (Comp (name_at names name.at) (args_at names cells first.at m)) (element_part (record { at = first.at + 1 }) (slice_get cells first.at))) (sym two_args)
          (subst (λ x. ListedTerm names cells at (Comp (name_at names name.at) (args_at names cells first.at 2)) (element_part (record { at = first.at + 1 }) x)) (sym p.1)
          (element (name_at names name.at) first p.0 room is p.1 (AreNamed-cell (length names) cells first.at p.0 h.named p.1)))
      tests name first count false e s n = other (is_atom name LIST_CELL) refl (nat_eq count 2) refl
        where
          other : (a : Bool) → is_atom name LIST_CELL ≡ a → (b : Bool) → nat_eq count 2 ≡ b → listed_names (Comp (name_at names name.at) (args_at names cells first.at count)) ≡ None
          other a ea false eb = not_two (name_at names name.at) (args_at names cells first.at count) (λ x. differ count 2 eb (sym (count-args_at names cells first.at count) ∙ x))
          other true ea true eb = absurd (let x : (is_atom name LIST_CELL && nat_eq count 2) ≡ true = ap (λ c. c && nat_eq count 2) ea ∙ eb in let y : true ≡ false = sym x ∙ e in cc)
          other false ea true eb =
              subst (λ m. listed_names (Comp (name_at names name.at) (args_at names cells first.at m)) ≡ None) (sym (eqb-true count 2 eb))
              (two_listed (name_at names name.at) (shows names cells first.at) (shows names cells (suc first.at))
              ∙ ap (λ b. if b then first_listed (shows names cells first.at) (listed_names (shows names cells (suc first.at))) else None) (is_atom-named names h.table name LIST_CELL (codes ".") n list_cell ∙ ea))

      lone : (name : AtomId) (b : Bool) → is_atom name EMPTY_LIST ≡ b → name.at < length names → ListedTerm names cells at (Atom (name_at names name.at)) (if b then part.End else part.Other)
      lone name true e n = ap (λ b. if b then Some [] else None) (is_atom-named names h.table name EMPTY_LIST (codes "[]") n empty_list ∙ e)
      lone name false e n = ap (λ b. if b then Some [] else None) (is_atom-named names h.table name EMPTY_LIST (codes "[]") n empty_list ∙ e)

      go : (c : Cell) → StandsBefore at c → IsNamed (length names) c → ListedTerm names cells at (shown_from names cells c) (list_part (slice_get cells) (Some c))
      go (cell.Comp name first count) s n = tests name first count (is_atom name LIST_CELL && nat_eq count 2) refl s n
      go (cell.Atom name) s n = lone name (is_atom name EMPTY_LIST) refl n
      go (cell.Var v) s n = refl
      go (cell.Int z) s n = refl

  -- a name alone, or a list
  pub op_names-lone : (at : ℕ) (c : Cell) → slice_get cells at ≡ Some c → op_names (shows names cells at) ≡ elim (lone_name c) [ None ↦ listed_names (shows names cells at) | Some name ↦ Some (name_at names name.at ∷ []) ]
  op_names-lone at c e =
      let shown : shows names cells at ≡ shown_from names cells c = shows-cell names cells at c e (built at c e) in
      ap op_names shown ∙ go c (AreNamed-cell (length names) cells at c h.named e) ∙ ap (λ x. elim (lone_name c) [ None ↦ listed_names x | Some name ↦ Some (name_at names name.at ∷ []) ]) (sym shown)
    where
      atom : (name : AtomId) (b : Bool) → is_atom name EMPTY_LIST ≡ b → name.at < length names → op_names (Atom (name_at names name.at)) ≡ elim (if b then None else Some name) [ None ↦ listed_names (Atom (name_at names name.at)) | Some x ↦ Some (name_at names x.at ∷ []) ]
      atom name true e n =
          let is : names_eq (name_at names name.at) (codes "[]") ≡ true = is_atom-named names h.table name EMPTY_LIST (codes "[]") n empty_list ∙ e in
          ap (λ b. if b then Some [] else Some (name_at names name.at ∷ [])) is ∙ sym (ap (λ b. if b then Some [] else None) is)
      atom name false e n =
          let is : names_eq (name_at names name.at) (codes "[]") ≡ false = is_atom-named names h.table name EMPTY_LIST (codes "[]") n empty_list ∙ e in
          ap (λ b. if b then Some [] else Some (name_at names name.at ∷ [])) is

      go : (c : Cell) → IsNamed (length names) c → op_names (shown_from names cells c) ≡ elim (lone_name c) [ None ↦ listed_names (shown_from names cells c) | Some name ↦ Some (name_at names name.at ∷ []) ]
      go (cell.Atom name) n = atom name (is_atom name EMPTY_LIST) refl n
      go (cell.Var v) n = refl
      go (cell.Int z) n = refl
      go (cell.Comp name first count) n = refl

-- one name added, and then the others
pub each_step : (p : ℤ) (kind name : Name) (rest : Option (List Name)) (t u : Table) → added_or_none (add_op p kind name t) ≡ Some u → each_added p kind (with_first name rest) t ≡ each_added p kind rest u
each_step p kind name None t u e = refl
each_step p kind name (Some names) t u e = go (add_op p kind name t) refl e
  where
    go : (r : Result Table OpFault) → add_op p kind name t ≡ r → added_or_none r ≡ Some u → each_added p kind (Some (name ∷ names)) t ≡ add_each p kind names u
    go (Ok v) is same = ap (λ r. elim r [ Ok u ↦ add_each p kind names u | Err fault ↦ None ]) is ∙ (let x : v ≡ u = cc in ap (add_each p kind names) x)
    go (Err f) is same = absurd (cc)

pub each_stops : (p : ℤ) (kind name : Name) (rest : Option (List Name)) (t : Table) → added_or_none (add_op p kind name t) ≡ None → each_added p kind (with_first name rest) t ≡ None
each_stops p kind name None t e = refl
each_stops p kind name (Some names) t e = go (add_op p kind name t) refl e
  where
    go : (r : Result Table OpFault) → add_op p kind name t ≡ r → added_or_none r ≡ None → each_added p kind (Some (name ∷ names)) t ≡ None
    go (Ok v) is same = absurd (cc)
    go (Err f) is same = ap (λ r. elim r [ Ok u ↦ add_each p kind names u | Err fault ↦ None ]) is

-- a priority and a type that are allowed leave the names
pub names_allowed : (p : ℤ) (kind : Name) (ns : Option (List Name)) (t : Table) → allows p kind ≡ true → add_names p kind ns t ≡ each_added p kind ns t
names_allowed p kind None t e = refl
names_allowed p kind (Some ns) t e = ap (λ b. if b then add_each p kind ns t else None) e

pub names_refused : (p : ℤ) (kind : Name) (ns : Option (List Name)) (t : Table) → allows p kind ≡ false → add_names p kind ns t ≡ None
names_refused p kind None t e = refl
names_refused p kind (Some ns) t e = ap (λ b. if b then add_each p kind ns t else None) e

-- one name
pub one_added : (p : ℤ) (kind name : Name) (t : Table) → each_added p kind (Some (name ∷ [])) t ≡ added_or_none (add_op p kind name t)
one_added p kind name t = go (add_op p kind name t) refl
  where
    go : (r : Result Table OpFault) → add_op p kind name t ≡ r → each_added p kind (Some (name ∷ [])) t ≡ added_or_none (add_op p kind name t)
    go (Ok v) is = ap (λ r. elim r [ Ok u ↦ add_each p kind [] u | Err fault ↦ None ]) is ∙ sym (ap added_or_none is)
    go (Err f) is = ap (λ r. elim r [ Ok u ↦ add_each p kind [] u | Err fault ↦ None ]) is ∙ sym (ap added_or_none is)

-- ---- what is answered

-- a refusal's cause, and what it says
pub told_err : {A : Type 0} (new : Table) (r s : Option Table) (result : Result A TermFault) (f : TermFault) → result ≡ Err f → (r ≡ None → s ≡ None) → TellsDirective {A = A} new (Err f) r → TellsDirective new result s
told_err {A} new r s result f e stops h = subst (λ (x : Result A TermFault). TellsDirective new x s) (sym e) (go f h)
  where
    go : (f : TermFault) → TellsDirective {A = A} new (Err f) r → TellsDirective {A = A} new (Err f) s
    go NoMemory h = tt
    go (Refused cause.Directive) h = stops h
    go (Refused c) h = h

pub lone-named : (names : List Name) (cells : List Cell) → HasNames names cells → (at : ℕ) (c : Cell) (name : AtomId) → slice_get cells at ≡ Some c → lone_name c ≡ Some name → name.at < length names
lone-named names cells h at c name here is = go c is (AreNamed-cell (length names) cells at c h.named here)
  where
    go : (c : Cell) → lone_name c ≡ Some name → IsNamed (length names) c → name.at < length names
    go (cell.Atom a) e n = by (is_atom a EMPTY_LIST) e
      where
        by : (b : Bool) → ◌≡◌ {A = Option AtomId} (if b then None else Some a) (Some name) → name.at < length names
        by true e = absurd (cc)
        by false e = let x : a ≡ name = cc in subst (λ (y : AtomId). y.at < length names) x n
    go (cell.Var v) e n = absurd (cc)
    go (cell.Int z) e n = absurd (cc)
    go (cell.Comp g first k) e n = absurd (cc)

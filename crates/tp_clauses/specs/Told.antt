-- What taking a read term answers, against the definition.
use Rattle.std.specs.Prelude.{◌≡◌, ℕ, ◌+◌, Bool, nat_eq, nat_le, ◌&&◌, ◌||◌, List, [], ◌∷◌, ◌++◌}
use Rattle.std.specs.Prelude.{length, true, slice_get, Option, Some, None, Result, Ok, Err, ℤ, pos}
use Rattle.std.specs.Prelude.{negsuc, if◌then◌else◌, false}
use Rattle.tp_terms.specs.declared.cells.Cell.{Cell}
use Rattle.tp_terms.specs.declared.cells.Cell.TheVariants as cell
use Rattle.tp_terms.specs.declared.cells.Ref.{Ref}
use Rattle.tp_terms.specs.declared.cells.AtomId.{AtomId}
use Rattle.tp_terms.specs.declared.symbols.TheConstants.{OP, XFX, XFY, YFX, FY, FX, LIST_CELL}
use Rattle.tp_terms.specs.declared.symbols.TheConstants.{EMPTY_LIST}
use Rattle.std.specs.Result.{is_ok}
use Rattle.std.specs.Str.{IsCharBoundary}
use Rattle.tp_terms.specs.Term.{Name}
use Rattle.tp_terms.specs.Shown.{AreNamed}
use Rattle.tp_lex.specs.declared.token.Token.{Token}
use Rattle.tp_lex.specs.declared.token.LexFault.{LexFault}
use Rattle.tp_parse.specs.Ops.{table_of}
use Rattle.tp_parse.specs.Texts.{clause_of, refused_token}
use Rattle.tp_parse.specs.Table.{Table}
use Rattle.tp_parse.specs.declared.table.OpFault.{OpFault}
use Rattle.tp_meaning.specs.Clauses.{Base}
use Rattle.tp_clauses.specs.Kinds.{is_atom, head_key}
use Rattle.tp_clauses.specs.Loaded.{Comes}
use Rattle.tp_clauses.specs.Contents.{HasNames}
use Rattle.tp_clauses.specs.declared.kind.Key.{Key}
use Rattle.tp_clauses.specs.declared.kind.ReadKind.{ReadKind}
use Rattle.tp_clauses.specs.declared.kind.ReadKind.TheVariants as kind
use Rattle.tp_clauses.specs.Directives.{add_each}
use Rattle.tp_clauses.specs.Model.{Kind, Directive, OfClause, Model, Refusal, Rest, by_read}
use Rattle.tp_clauses.specs.Model.{by_token, refusal, refused_read}
use Rattle.tp_clauses.specs.Contents.{base_of}
use Rattle.tp_clauses.specs.Parts.{IsEmpty, IsParts, contents_of}
use Rattle.tp_clauses.specs.declared.parts.Parts.{Parts}
use Rattle.tp_clauses.specs.declared.fault.LoadFault.{LoadFault}
use Rattle.tp_clauses.specs.declared.fault.LoadFault.TheVariants as load
use Rattle.tp_clauses.specs.declared.fault.Cause.{Cause}
use Rattle.tp_clauses.specs.declared.fault.Cause.TheVariants as cause
use Rattle.tp_clauses.specs.declared.directive.Operators.{Operators}
use Rattle.tp_clauses.specs.declared.directive.TermFault.{TermFault}
use Rattle.tp_clauses.specs.declared.directive.TermFault.TheVariants.{Refused, NoMemory}
use Rattle.tp_clauses.specs.declared.directive.ListPart.{ListPart}
use Rattle.tp_clauses.specs.declared.directive.ListPart.TheVariants as part

-- ---- directives

-- what a directive answers, with this table afterwards, where memory wasn't refused
abbrev pub TellsDirective : {A : Type 0} → Table → Result A TermFault → Option Table → Type 0
TellsDirective new (Ok done) r = r ≡ Some new
TellsDirective new (Err (Refused cause.Directive)) r = r ≡ None
TellsDirective new (Err (Refused c)) r = ⊥
TellsDirective new (Err NoMemory) r = Unit {0}

-- the table with an operator added, or none
abbrev pub added_or_none : Result Table OpFault → Option Table
added_or_none (Ok t) = Some t
added_or_none (Err fault) = None

-- the types, by the atoms of the start
abbrev pub is_type_atom : AtomId → Bool
is_type_atom kind =
    (((is_atom kind XFX || is_atom kind XFY) || is_atom kind YFX) || is_atom kind FY)
    || is_atom kind FX

abbrev pub allows_atom : ℤ → AtomId → Bool
allows_atom (negsuc n) kind = false
allows_atom (pos p) kind = nat_le p 1200 && is_type_atom kind

-- what the cell of a place is as a list of names; the first element's cell is given by its place
abbrev pub element_part : Ref → Option Cell → ListPart
element_part rest (Some (cell.Atom name)) = part.Name name rest
element_part rest c = part.Other

abbrev pub list_part : (ℕ → Option Cell) → Option Cell → ListPart
list_part at (Some (cell.Atom name)) = if is_atom name EMPTY_LIST then part.End else part.Other
list_part at (Some (cell.Comp name first count)) =
    if is_atom name LIST_CELL && nat_eq count 2
    then element_part (record { at = first.at + 1 }) (at first.at)
    else part.Other
list_part at c = part.Other

-- a name alone that is no list
abbrev pub lone_name : Cell → Option AtomId
lone_name (cell.Atom name) = if is_atom name EMPTY_LIST then None else Some name
lone_name c = None

-- the table with each of some names added
abbrev pub each_added : ℤ → Name → Option (List Name) → Table → Option Table
each_added p kind None t = None
each_added p kind (Some names) t = add_each p kind names t

-- operators of a priority and a type, by the cells of these
abbrev pub typed : Ref → Option Cell → Option Cell → Option Operators
typed names (Some (cell.Int p)) (Some (cell.Atom kind)) =
    Some (record { priority = p; kind = kind; names = names })
typed names p kind = None

-- what a cell adds, where it is `op` with a priority and a type
abbrev pub operators_at : (ℕ → Option Cell) → Option Cell → Option Operators
operators_at at (Some (cell.Comp name first count)) =
    if is_atom name OP && nat_eq count 3
    then typed (record { at = first.at + 2 }) (at first.at) (at (first.at + 1))
    else None
operators_at at c = None

-- memory may be wanted for a directive: it gives operators a priority and a type that they may have
abbrev pub MayAdd : Option Operators → Type 0
MayAdd None = ⊥
MayAdd (Some o) = allows_atom o.priority o.kind ≡ true

-- ---- read terms

-- the table and the clauses that a read term adds, or why it is refused
abbrev pub outcome : Table → Kind → Result (Table × Base) Cause
outcome ops (Directive None) = Err cause.Directive
outcome ops (Directive (Some after)) = Ok (after, [])
outcome ops (OfClause (Err c)) = Err c
outcome ops (OfClause (Ok c)) = Ok (ops, c ∷ [])

-- the clauses and the table of parts, with what a read term adds
pub record Taken (names : List Name) (old new : Parts)
    (r : Result (Table × Base) Cause) : Type 0 where
  pub more : Base
  pub adds : r ≡ Ok (table_of new.ops, more)
  pub clauses : base_of names (contents_of new) ≡ base_of names (contents_of old) ++ more
  pub parts : IsParts new
  pub named : AreNamed (length names) new.store.cells

-- what taking a term answers, where memory wasn't refused
abbrev pub TellsTerm : {A : Type 0} → List Name → Parts → Parts → Result A TermFault →
    Result (Table × Base) Cause → Type 0
TellsTerm names old new (Ok done) r = Taken names old new r
TellsTerm names old new (Err (Refused c)) r = r ≡ Err c
TellsTerm names old new (Err NoMemory) r = Unit {0}

-- a clause may have this head
abbrev pub MayDefine : List Cell → Ref → Type 0
MayDefine cells head =
    (key : Key) ×
    ((names : List Name) → HasNames names cells →
    head_key names (slice_get cells head.at) ≡ Ok key)

-- no integer, which is no goal
abbrev pub IsNoInteger : Option Cell → Type 0
IsNoInteger (Some (cell.Int n)) = ⊥
IsNoInteger c = Unit {0}

-- Memory may be wanted to take a read term: what is refused without looking into a body or a list
-- of names is refused before.
abbrev pub MayTake : List Cell → Ref → ReadKind → Type 0
MayTake cells root (kind.Directive goal) =
    MayAdd (operators_at (slice_get cells) (slice_get cells goal.at))
MayTake cells root kind.Query = ⊥
MayTake cells root kind.Grammar = ⊥
MayTake cells root (kind.Rule head body) =
    MayDefine cells head × IsNoInteger (slice_get cells body.at)
MayTake cells root kind.Fact = MayDefine cells root

-- the same with the number of the read term and its first byte
abbrev pub TellsRead : {A : Type 0} → List Name → Parts → Parts → ℕ → ℕ → Result A LoadFault →
    Result (Table × Base) Cause → Type 0
TellsRead names old new number from (Ok done) r = Taken names old new r
TellsRead names old new number from (Err (load.Refused clause byte c)) r =
    (clause ≡ number) × (byte ≡ from) × (r ≡ Err c)
TellsRead names old new number from (Err load.NoMemory) r = Unit {0}

-- ---- texts

-- a model with clauses before its own
abbrev pub after : Base → Result Model Refusal → Result Model Refusal
after cs (Err r) = Err r
after cs (Ok m) = Ok (record { clauses = cs ++ m.clauses; table = m.table })

-- one read term further: what stood and what remains is the same model
pub record Steps (names : List Name) (old new : Parts) (text : List ℕ)
    (at number to : ℕ) : Type 0 where
  pub place : IsCharBoundary text to
  pub parts : IsParts new
  pub named : AreNamed (length names) new.store.cells
  pub comes : Comes text number (table_of old.ops) at →
      Comes text (number + 1) (table_of new.ops) to
  pub model : (rest : Rest) →
      after (base_of names (contents_of old))
      (by_read rest number (table_of old.ops) (clause_of (table_of old.ops) text at))
      ≡ after (base_of names (contents_of new)) (rest (table_of new.ops) to)

abbrev pub TellsStep : List Name → Parts → Parts → List ℕ → ℕ → ℕ → Result (Option ℕ) LoadFault →
    Type 0
TellsStep names old new text at number (Ok None) =
    (clause_of (table_of old.ops) text at ≡ Ok None) × (new ≡ old)
TellsStep names old new text at number (Ok (Some to)) = Steps names old new text at number to
TellsStep names old new text at number (Err (load.Refused clause byte c)) =
    (rest : Rest) →
    by_read rest number (table_of old.ops) (clause_of (table_of old.ops) text at)
    ≡ Err (refusal clause byte c)
TellsStep names old new text at number (Err load.NoMemory) = Unit {0}

-- what looking at the next token answers: it takes no memory
abbrev pub TellsToken : ℕ → Result (Option Token) LoadFault → Result (Option Token) LexFault →
    Type 0
TellsToken number (Ok found) r = r ≡ Ok found
TellsToken number (Err (load.Refused clause byte c)) r =
    (fault : LexFault) × (r ≡ Err fault) ×
    (refusal clause byte c ≡ refused_read number (refused_token fault))
TellsToken number (Err load.NoMemory) r = ⊥

-- what seeing the end answers: it takes no memory
abbrev pub TellsEnd : {A : Type 0} → ℕ → Result A LoadFault → Result (Option Token) LexFault →
    Type 0
TellsEnd number (Ok done) r = r ≡ Ok None
TellsEnd number (Err (load.Refused clause byte c)) r =
    (ops : Table) → by_token number ops r ≡ Err (refusal clause byte c)
TellsEnd number (Err load.NoMemory) r = ⊥

-- what is begun with: no clause yet, where the first token isn't refused
abbrev pub TellsBegin : Result Parts LoadFault → Result (Option Token) LexFault → Type 0
TellsBegin (Ok p) r = IsEmpty p
TellsBegin (Err (load.Refused clause byte c)) r =
    (fault : LexFault) × (r ≡ Err fault) ×
    (refusal clause byte c ≡ refused_read 1 (refused_token fault))
TellsBegin (Err load.NoMemory) r = is_ok r ≡ true

-- the parts of a model under a table of names
pub record Holds (names : List Name) (p : Parts) (r : Result Model Refusal) : Type 0 where
  pub model : r ≡ Ok (record { clauses = base_of names (contents_of p); table = table_of p.ops })
  pub named : AreNamed (length names) p.store.cells

abbrev pub TellsParts : List Name → Result Parts LoadFault → Result Model Refusal → Type 0
TellsParts names (Ok p) r = Holds names p r
TellsParts names (Err (load.Refused clause byte c)) r = r ≡ Err (refusal clause byte c)
TellsParts names (Err load.NoMemory) r = Unit {0}

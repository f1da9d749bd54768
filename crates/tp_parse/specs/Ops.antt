-- Operators, as contracts see the table that is kept.
use Rattle.std.specs.Prelude.{◌≡◌, ◌≤◌, ℕ, List, length, [], ◌∷◌, map, Option, None, Result, Ok}
use Rattle.std.specs.Prelude.{Err, if◌then◌else◌, chars, string_bytes}
use Rattle.std.specs.declared.alloc.Global.{Global}
use Rattle.std.specs.declared.string.String.{String}
use Rattle.tp_terms.specs.Term.{Name, names_eq}
use Rattle.tp_parse.specs.declared.table.OpFault.{OpFault}
use Rattle.tp_parse.specs.declared.table.OpFault.TheVariants as fault
use Rattle.tp_parse.specs.Table.{Op, Table}

-- the entries of each class, each name once; a name whose entry was taken out has none
pub record Entries : Type 0 where
  pub prefixes : List (List ℕ × Option Op)
  pub infixes : List (List ℕ × Option Op)

abbrev pub found_in : List (Name × Option Op) → Name → Option Op
found_in [] n = None
found_in (e ∷ es) n = if names_eq n e.0 then e.1 else found_in es n

-- the table that the entries stand for
abbrev pub table_of : Entries → Table
table_of e = record { prefixes = found_in e.prefixes; infixes = found_in e.infixes }

-- the entries of some texts, by their characters
abbrev pub entries_of : List (String Global × Option Op) → List (Name × Option Op)
entries_of = map (λ e. (chars (string_bytes e.0), e.1))

-- no name of these texts has more bytes than so many
abbrev pub AreWithin : ℕ → List (String Global × Option Op) → Type 0
AreWithin n [] = Unit {0}
AreWithin n (e ∷ es) = (length (string_bytes e.0) ≤ n) × AreWithin n es

-- what adding an operator answers, with this table afterwards, where memory wasn't refused
abbrev pub TellsAdd : {A : Type 0} → Table → Result A OpFault → Result Table OpFault → Type 0
TellsAdd new (Ok done) r = r ≡ Ok new
TellsAdd new (Err fault.NoMemory) r = (t : Table) × (r ≡ Ok t)
TellsAdd new (Err why) r = r ≡ Err why

-- What the parts of a base hold.
use Rattle.std.specs.Prelude.{◌≡◌, ℕ, List, [], ◌∷◌, ◌++◌}
use Rattle.tp_terms.specs.declared.cells.Cell.{Cell}
use Rattle.tp_terms.specs.declared.cells.AtomId.{AtomId}
use Rattle.tp_terms.specs.Term.{Name}
use Rattle.tp_parse.specs.Ops.{table_of}
use Rattle.tp_parse.specs.Table.{start_table}
use Rattle.tp_clauses.specs.Contents.{Contents, IsBase, base_of, clause_of, places_of}
use Rattle.tp_clauses.specs.Indexed.{ids_in, same_key}
use Rattle.tp_clauses.specs.Ranks.{AreRanks}
use Rattle.tp_clauses.specs.declared.base.ClauseView.{ClauseView}
use Rattle.tp_clauses.specs.declared.parts.Parts.{Parts}

abbrev pub contents_of : Parts → Contents
contents_of p = record { cells = p.store.cells; clauses = p.clauses.items; ops = p.ops }

-- the clauses are a base, the index has the places of each name and number of arguments, each
-- clause has its rank, and no variable is bound
pub record IsParts (p : Parts) : Type 0 where
  pub base : IsBase (contents_of p)
  pub index : (name : AtomId) (arity : ℕ) →
      ids_in same_key p.index (record { name = name; arity = arity })
      ≡ places_of name arity (contents_of p)
  pub ranks : AreRanks (contents_of p) p.ranks.items
  pub unbound : p.store.pairs ≡ []

-- no clause, and the operators of the start
pub record IsEmpty (p : Parts) : Type 0 where
  pub parts : IsParts p
  pub cells : p.store.cells ≡ []
  pub clauses : p.clauses.items ≡ []
  pub ops : table_of p.ops ≡ start_table

-- further cells stand behind the others
pub record Longer (old new : Parts) (more : List Cell) : Type 0 where
  pub parts : IsParts new
  pub cells : new.store.cells ≡ old.store.cells ++ more
  pub clauses : new.clauses.items ≡ old.clauses.items
  pub ops : new.ops ≡ old.ops

-- a clause stands behind the others
pub record AddsClause (old new : Parts) (v : ClauseView) : Type 0 where
  pub parts : IsParts new
  pub cells : new.store.cells ≡ old.store.cells
  pub ops : new.ops ≡ old.ops
  pub clauses : (names : List Name) →
      base_of names (contents_of new) ≡ base_of names (contents_of old)
      ++ clause_of names old.store.cells v ∷ []

-- The laws of reading.
use Rattle.std.specs.Prelude.{◌≡◌, ℕ, List, ◌++◌, Some, Ok, Err, ◌↔◌, ◌⊎◌}
use Rattle.std.specs.Str.{IsUtf8, IsCharBoundary}
use Rattle.tp_lex.specs.Tokens.{Lexed}
use Rattle.tp_parse.specs.Tree.{Tree}
use Rattle.tp_parse.specs.Table.{Table}
use Rattle.tp_parse.specs.Reading.{reading, clause_reading, goal_reading}
use Rattle.tp_parse.specs.Texts.{Found, clause_of, goal_of}
use Rattle.tp_parse.specs.Tells.{IsNumbered, IsPlaced}
use Rattle.tp_parse.specs.Grammar.{Reads, ReadsClause, ReadsGoal}
use Rattle.tp_parse.specs.Stopping.{Stops, StopsClause, StopsGoal}
use Rattle.tp_parse.specs.declared.fault.ReadCause.{ReadCause}

-- Of these tokens there is exactly one reading or exactly one stop, and not both: a reading is a
-- tree, and a stop is a cause and the last tokens, from the place of the stop on.
pub record HasOneOutcome (tokens : List Lexed) (Reading : Tree → Type 0)
    (Stop : ReadCause → List Lexed → Type 0) : Type 0 where
  pub exists : ((x : Tree) × Reading x) ⊎ ((c : ReadCause) × (left : List Lexed) × Stop c left)
  pub not_both : (x : Tree) (c : ReadCause) (left : List Lexed) → Reading x → Stop c left → ⊥
  pub only_reading : (x y : Tree) → Reading x → Reading y → x ≡ y
  pub only_stop : (c d : ReadCause) (left other : List Lexed) → Stop c left → Stop d other →
      (c ≡ d) × (left ≡ other)
  pub stop_has_place : (c : ReadCause) (left : List Lexed) → Stop c left →
      (before : List Lexed) × (tokens ≡ before ++ left)

-- every list of tokens, read as a clause or as a goal
abbrev pub EachHasOneOutcome : Type 0
EachHasOneOutcome =
    (ops : Table) (ts : List Lexed) →
    HasOneOutcome ts (ReadsClause ops ts) (StopsClause ops ts)
    × HasOneOutcome ts (ReadsGoal ops ts) (StopsGoal ops ts)

-- the function of reading answers Ok exactly where there is a reading, and Err exactly where there
-- is a stop
pub record ReadingFollowsGrammar : Type 0 where
  pub reads : (ops : Table) (m p : ℕ) (ts : List Lexed) (x : Tree) (q : ℕ) (rest : List Lexed) →
      reading ops m p ts ≡ Ok (x, q, rest) ↔ Reads ops m p ts x q rest
  pub stops : (ops : Table) (m p : ℕ) (ts : List Lexed) (c : ReadCause) (left : List Lexed) →
      reading ops m p ts ≡ Err (c, left) ↔ Stops ops m p ts c left
  pub reads_clause : (ops : Table) (ts : List Lexed) (x : Tree) →
      clause_reading ops ts ≡ Ok x ↔ ReadsClause ops ts x
  pub stops_clause : (ops : Table) (ts : List Lexed) (c : ReadCause) (left : List Lexed) →
      clause_reading ops ts ≡ Err (c, left) ↔ StopsClause ops ts c left
  pub reads_goal : (ops : Table) (ts : List Lexed) (x : Tree) →
      goal_reading ops ts ≡ Ok x ↔ ReadsGoal ops ts x
  pub stops_goal : (ops : Table) (ts : List Lexed) (c : ReadCause) (left : List Lexed) →
      goal_reading ops ts ≡ Err (c, left) ↔ StopsGoal ops ts c left

-- what holds of every term that is read: its variables are numbered within their count, and a
-- clause stands behind the byte from which it is read
pub record EachTermIsNumbered : Type 0 where
  pub clauses : (ops : Table) (text : List ℕ) (at : ℕ) (f : Found) →
      clause_of ops text at ≡ Ok (Some f) → IsNumbered f
  pub goals : (ops : Table) (text : List ℕ) (f : Found) → goal_of ops text ≡ Ok f → IsNumbered f

abbrev pub EachClauseIsPlaced : Type 0
EachClauseIsPlaced =
    (ops : Table) (text : List ℕ) (at : ℕ) (f : Found) → IsUtf8 text → IsCharBoundary text at →
    clause_of ops text at ≡ Ok (Some f) → IsPlaced text at f

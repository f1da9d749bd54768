-- The goal of a text: a term that is a goal, or the one refusal.
use Rattle.std.specs.Prelude.{ℕ, Option, Some, None, Result, Ok, Err, List}
use Rattle.tp_terms.specs.Term.{Term}
use Rattle.tp_meaning.specs.Body.{body}
use Rattle.tp_parse.specs.Table.{Table}
use Rattle.tp_parse.specs.Texts as read
use Rattle.tp_parse.specs.Texts.{Found}
use Rattle.tp_clauses.specs.Model.{cause_of}
use Rattle.tp_clauses.specs.declared.fault.Cause.{Cause}
use Rattle.tp_clauses.specs.declared.fault.Cause.TheVariants as cause

-- the byte and the cause
abbrev pub Refusal : Type 0
Refusal = ℕ × Cause

abbrev pub with_body : Found → Option Term → Result Found Refusal
with_body f None = Err (f.from, cause.Body)
with_body f (Some b) = Ok f

abbrev pub goal_by : Result Found read.Refusal → Result Found Refusal
goal_by (Err r) = Err (r.0, cause_of r.1)
goal_by (Ok f) = with_body f (body f.term)

-- what the whole text is under a table of operators
unfoldable pub goal_of : Table → List ℕ → Result Found Refusal
goal_of ops text = goal_by (read.goal_of ops text)

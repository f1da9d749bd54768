-- Which goals clauses may define.
use Rattle.std.specs.Prelude.{◌≡◌, ◌↔◌, ℕ, IsTrue, []}
use Rattle.tp_terms.specs.Term.{Name, Terms, term_of, count_of}
use Rattle.tp_meaning.specs.Goals.{is_reserved}
use Rattle.tp_meaning.specs.Turn.{Turn}
use Rattle.tp_meaning.specs.Clauses.{Base}
use Rattle.tp_meaning.specs.Step.{goal_step}

-- The law of reserved names: a name is reserved for a number of arguments exactly where no clause
-- of any model changes what a step of such a goal gives.
abbrev pub ReservedAreOwn : Type 0
ReservedAreOwn =
    (name : Name) (args : Terms) →
    IsTrue (is_reserved name (count_of args))
    ↔ ((base : Base) (t : Turn) (b : ℕ) →
    goal_step base t b (term_of name args) ≡ goal_step [] t b (term_of name args))

-- Variables by their numbers, in order of first occurrence from the left; each `_` has a number of
-- its own.
use Rattle.std.specs.Prelude.{ℕ, ◌+◌, List, [], ◌∷◌, ◌++◌, Option, Some, None, codes, if◌then◌else◌}
use Rattle.tp_terms.specs.Term as term
use Rattle.tp_terms.specs.Term.{Name, Term, Terms, names_eq}
use Rattle.tp_parse.specs.Tree.{Tree, Variable, Integer, Atom, Compound, Trees, none, first_of}

-- the variables other than `_` with their numbers, in order of first occurrence, and the number of
-- all variables
pub record Numbers : Type 0 where
  pub named : List (List ℕ × ℕ)
  pub vars : ℕ

abbrev pub no_numbers : Numbers
no_numbers = record { named = []; vars = 0 }

abbrev pub number_in : List (Name × ℕ) → Name → Option ℕ
number_in [] name = None
number_in (n ∷ ns) name = if names_eq name n.0 then Some n.1 else number_in ns name

abbrev pub new_number : Name → Numbers → ℕ × Numbers
new_number name s = (s.vars, record { named = s.named ++ (name, s.vars) ∷ []; vars = s.vars + 1 })

abbrev pub known_number : Name → Numbers → Option ℕ → ℕ × Numbers
known_number name s None = new_number name s
known_number name s (Some n) = (n, s)

-- the number of a variable, and the numbers with it
abbrev pub number_of : Name → Numbers → ℕ × Numbers
number_of name s =
    if names_eq name (codes "_") then (s.vars, record { named = s.named; vars = s.vars + 1 })
    else known_number name s (number_in s.named name)

-- the term of a tree behind these numbers, and the numbers with its variables
abbrev mutual
  pub numbered : Tree → Numbers → Term × Numbers
  numbered (Variable x) s = let r = number_of x s in (term.Var r.0, r.1)
  numbered (Integer z) s = (term.Int z, s)
  numbered (Atom a) s = (term.Atom a, s)
  numbered (Compound f ts) s = let r = all_numbered ts s in (term.Comp f r.0, r.1)

  pub all_numbered : Trees → Numbers → Terms × Numbers
  all_numbered none s = (term.NoMore, s)
  all_numbered (first_of t ts) s =
      let r = numbered t s in
      let q = all_numbered ts r.1 in
      (term.More r.0 q.0, q.1)

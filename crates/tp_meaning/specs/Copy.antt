-- Copies of terms with new variables.
use Rattle.std.specs.Prelude.{ℕ, suc, ◌+◌, nat_eq, if◌then◌else◌, List, [], ◌∷◌, ◌++◌, length}
use Rattle.std.specs.List.{list_any}
use Rattle.tp_terms.specs.Term.{Term, Terms, Var, Int, Atom, Comp, NoMore, More, replaced}

-- the variables of a term after those of a list, in order of first occurrence
abbrev pub with_variable : List ℕ → ℕ → List ℕ
with_variable vs v = if list_any (nat_eq v) vs then vs else vs ++ v ∷ []

abbrev mutual
  pub variables_after : List ℕ → Term → List ℕ
  variables_after vs (Var v) = with_variable vs v
  variables_after vs (Int z) = vs
  variables_after vs (Atom a) = vs
  variables_after vs (Comp f ts) = all_variables_after vs ts

  pub all_variables_after : List ℕ → Terms → List ℕ
  all_variables_after vs NoMore = vs
  all_variables_after vs (More t ts) = all_variables_after (variables_after vs t) ts

-- the place of a variable in a list, counted from 0
abbrev pub place_in : List ℕ → ℕ → ℕ
place_in [] v = 0
place_in (w ∷ ws) v = if nat_eq v w then 0 else suc (place_in ws v)

-- a term with new variables, which are numbered by first occurrence, and how many they are
unfoldable pub copy_of : ℕ → Term → Term × ℕ
copy_of next t =
    let vs = variables_after [] t in
    (replaced (λ v. Var (next + place_in vs v)) t, length vs)

-- The term of a place under bindings.
use Rattle.std.specs.Prelude.{ℕ, zero, suc, List, length, Option, Some, None}
use Rattle.tp_terms.specs.declared.cells.Cell.{Cell}
use Rattle.tp_terms.specs.declared.cells.Ref.{Ref}
use Rattle.tp_terms.specs.Term.{Name, Term, Var, replaced}
use Rattle.tp_terms.specs.Shown.{shows}
use Rattle.tp_terms.specs.Binds.{Bindings, bound_in}

-- what a variable stands for by its own binding
abbrev pub step_of : List Name → List Cell → ℕ → Option Ref → Term
step_of names cells v None = Var v
step_of names cells v (Some place) = shows names cells place.at

-- each variable replaced by what its own binding tells
abbrev pub stepped : List Name → Bindings → List Cell → Term → Term
stepped names bindings cells = replaced (λ v. step_of names cells v (bound_in bindings v))

-- replaced so many times
unfoldable pub followed : List Name → Bindings → List Cell → ℕ → Term → Term
followed names bindings cells zero t = t
followed names bindings cells (suc n) t =
    followed names bindings cells n (stepped names bindings cells t)

-- The term of a place with all bindings followed. Where no variable leads back to itself, no chain
-- of bindings is longer than there are bindings.
unfoldable pub under : List Name → Bindings → List Cell → ℕ → Term
under names bindings cells at =
    followed names bindings cells (length bindings) (shows names cells at)

-- The running process at its first item, and what a step gives there.
use Rattle.std.specs.Prelude.{ℕ, List, [], ◌∷◌, Some, None, Ok, Err}
use Rattle.tp_terms.specs.Term.{Term}
use Rattle.tp_meaning.specs.Checks.{Checked, error}
use Rattle.tp_meaning.specs.Subst.{mgu}
use Rattle.tp_meaning.specs.World.{World, Item, with_items, stamped, name_at, world_under}
use Rattle.tp_meaning.specs.Search.{Step, Failed, Dead, Raise, Branch}

-- what a step of a world gives
abbrev pub Gives : Type 0
Gives = Step World Term

-- the items behind the first are its rest
pub record Turn : Type 0 where
  pub world : World
  pub process : ℕ
  pub rest : List Item

-- the world in which the running process has these items
abbrev pub going : Turn → List Item → World
going t items = with_items t.process items (stamped t.world)

-- the world that goes on under the most general unifier of two terms, where there is one
abbrev pub unified : Turn → Term → Term → List World
unified t x y = elim (mgu t.world.subst x y) [
  | None ↦ []
  | Some u ↦ world_under u (going t t.rest) ∷ []
]

-- one world, and a first and a second
abbrev pub one : World → Gives
one w = Branch w []

abbrev pub two : World → World → Gives
two v w = Branch v (w ∷ [])

-- worlds in order, which fail where there are none
abbrev pub some : List World → Gives
some [] = Dead Failed
some (w ∷ ws) = Branch w ws

-- an error is raised with the name of the running process
abbrev pub raised_at : World → ℕ → Checked Gives → Gives
raised_at w p (Ok g) = g
raised_at w p (Err kind) = Raise (error kind (name_at w.processes p))

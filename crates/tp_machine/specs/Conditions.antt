-- Items that control goals put in front of the rest.
use Rattle.std.specs.Prelude.{ℕ, ◌+◌, List, [], ◌∷◌}
use Rattle.tp_terms.specs.declared.cells.Ref.{Ref}
use Rattle.tp_control.specs.declared.frames.Item.{Item}
use Rattle.tp_control.specs.declared.frames.Item.TheVariants.{Goal, Commit}
use Rattle.tp_state.specs.Plain.{Plain}
use Rattle.tp_state.specs.Acts.{pushed}

-- the running process has these items in front of its own
abbrev pub pushes : List Item → Plain → Plain
pushes [] p = p
pushes (i ∷ is) p = pushed i (pushes is p)

-- a condition, a commit to its first solution at this stamp, and a goal
abbrev pub conditional : ℕ → Ref → Ref → ℕ → List Item
conditional stamp condition goal barrier =
    Goal condition (stamp + 1) ∷ Commit stamp ∷ Goal goal barrier ∷ []

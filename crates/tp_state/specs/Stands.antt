-- All places and names that contents speak of are there.
use Rattle.std.specs.Prelude.{ℕ, ◌<◌, List, length, IfSome}
use Rattle.std.specs.List.{AllByRecursion}
use Rattle.tp_terms.specs.declared.cells.Ref.{Ref}
use Rattle.tp_terms.specs.declared.world.Proc.{Proc}
use Rattle.tp_terms.specs.Term.{Name}
use Rattle.tp_terms.specs.Shown.{AreNamed}
use Rattle.tp_terms.specs.Events.{EventStands}
use Rattle.tp_store.specs.Contents.{IsStore}
use Rattle.tp_control.specs.declared.frames.Item.{Item}
use Rattle.tp_control.specs.declared.frames.Item.TheVariants.{Goal, Commit, Retry}
use Rattle.tp_state.specs.Plain.{Plain}

-- the place of an item's goal, where it has one, is one of so many cells
abbrev pub ItemStands : ℕ → Item → Type 0
ItemStands cells (Goal goal barrier) = goal.at < cells
ItemStands cells (Commit stamp) = Unit {0}
ItemStands cells (Retry goal) = goal.at < cells

-- so are the goals of a list of items
abbrev pub ItemsStand : ℕ → List Item → Type 0
ItemsStand cells = AllByRecursion (ItemStands cells)

-- and those of each list
abbrev pub ListsStand : ℕ → List (List Item) → Type 0
ListsStand cells = AllByRecursion (ItemsStand cells)

-- a process's name is one of so many, and the place of its items, where it has any, too
pub record ProcStands (names frames : ℕ) (q : Proc) : Type 0 where
  pub name : q.name.at < names
  pub items : IfSome q.items (λ i. i.at < frames)

-- the messages of a box are places of so many cells
abbrev pub BoxStands : ℕ → List Ref → Type 0
BoxStands cells = AllByRecursion (λ r. r.at < cells)

-- contents whose places are all there, and whose atoms are of a table of names
pub record PlainStands (names : List Name) (p : Plain) : Type 0 where
  pub store : IsStore p.store
  pub atoms : AreNamed (length names) p.store.cells
  pub lists : ListsStand (length p.store.cells) p.frames
  pub items : IfSome p.items (λ i. i.at < length p.frames)
  pub procs : AllByRecursion (ProcStands (length names) (length p.frames)) p.procs
  pub boxes : AllByRecursion (BoxStands (length p.store.cells)) p.boxes
  pub events : AllByRecursion
      (EventStands (length names) (length p.store.cells) (length p.procs))
      p.events

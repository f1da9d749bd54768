-- How heaps show what a built-in goal answers.
use Rattle.std.specs.Prelude.{◌≡◌, ◌<◌, ◌≤◌, ◌++◌, ℕ, List, length, Ok, Err}
use Rattle.tp_terms.specs.declared.cells.Cell.{Cell}
use Rattle.tp_terms.specs.Term.{Terms, all_replaced}
use Rattle.tp_terms.specs.Names.{Grows}
use Rattle.tp_terms.specs.Shown.{args_at}
use Rattle.tp_meaning.specs.Subst.{value_at}
use Rattle.tp_meaning.specs.Checks.{Checked}
use Rattle.tp_meaning.specs.Trail.{TrailGrows}
use Rattle.tp_meaning.specs.Heap.{Heap, seen}
pub use Rattle.tp_meaning.specs.Answers.{Answer, Yes, No, unifies}
use Rattle.tp_build.specs.declared.outcome.Outcome.{Outcome}
use Rattle.tp_build.specs.declared.outcome.Outcome.TheVariants as outcome

-- What a built-in answers where its row gives this: Yes, and the new heap has that substitution and
-- next variable; No, and nothing is bound; or the place of the error's kind, and nothing is bound
-- or in use.
abbrev pub Does : Heap → Heap → Checked Answer → Outcome → Type 0
Does old new gives outcome.Yes = gives ≡ Ok (Yes new.subst new.next)
Does old new gives outcome.No = (gives ≡ Ok No) × (new.subst ≡ old.subst)
Does old new gives (outcome.Raise at) =
    (at.at < length new.cells) × (gives ≡ Err (seen new at.at))
    × (new.subst ≡ old.subst) × (new.next ≡ old.next)

-- Cells and names were only added behind those that stood, no number of a variable is given back,
-- and the log has exactly the entries of further bindings more. What stood shows what it showed,
-- bindings aside.
pub record HeapGrows (old new : Heap) : Type 0 where
  pub more : List Cell
  pub cells : new.cells ≡ old.cells ++ more
  pub names : Grows old.names new.names
  pub next : old.next ≤ new.next
  pub trail : TrailGrows old.trail new.trail

-- the terms of so many places side by side, under the substitution
abbrev pub args_seen : Heap → ℕ → ℕ → Terms
args_seen h first count = all_replaced (value_at h.subst) (args_at h.names h.cells first count)

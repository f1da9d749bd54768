-- A tree over the places of a list. Below the place n are the places 2 n + 1 and 2 n + 2. A node
-- has the best of its own process and of all below it, so that the first node has the best of all.
use Rattle.std.specs.Prelude.{◌≡◌, ◌≢◌, ℕ, ◌+◌, ◌*◌, nat_lt, if◌then◌else◌, List, length, Option}
use Rattle.std.specs.Prelude.{Some, None, slice_get, slice_index_or, count_by}
use Rattle.tp_terms.specs.declared.world.Proc.{Proc}
use Rattle.tp_procs.specs.declared.tree.Node.{Node}
use Rattle.tp_procs.specs.Processes.{is_live, is_marked, end_of, sooner, names_of, AreDistinct}

-- the lower of two places
abbrev pub lower : Option ℕ → Option ℕ → Option ℕ
lower None b = b
lower (Some x) None = Some x
lower (Some x) (Some y) = if nat_lt y x then Some y else Some x

-- no process
abbrev pub nothing : Node
nothing = record { marked = None; end = None }

-- the best of two
abbrev pub joined : Node → Node → Node
joined a b = record { marked = lower a.marked b.marked; end = sooner a.end b.end }

-- a process alone
abbrev pub own_of : ℕ → Proc → Node
own_of pid p = record { marked = if is_marked p then Some pid else None; end = end_of p }

-- the node of a place, where there is one
abbrev pub node_at : List Node → ℕ → Node
node_at ns i = slice_index_or ns i nothing

-- what the node of a process is to be
abbrev pub whole_of : ℕ → Proc → List Node → Node
whole_of i p ns = joined (own_of i p) (joined (node_at ns (2 * i + 1)) (node_at ns (2 * i + 2)))

-- the node of a place is what it is to be
abbrev pub IsRight : List Proc → List Node → ℕ → Type 0
IsRight ps ns i = (p : Proc) → slice_get ps i ≡ Some p → node_at ns i ≡ whole_of i p ns

-- each node is
pub record IsTree (ps : List Proc) (ns : List Node) : Type 0 where
  pub long : length ns ≡ length ps
  pub right : (i : ℕ) → IsRight ps ns i

-- each node is, but maybe this one
pub record IsTreeBut (ps : List Proc) (ns : List Node) (k : ℕ) : Type 0 where
  pub long : length ns ≡ length ps
  pub right : (i : ℕ) → i ≢ k → IsRight ps ns i

-- what is kept beside a list of processes
pub record IsIndexed (ps : List Proc) (names : List ℕ) (ns : List Node) (live : ℕ) : Type 0 where
  pub named : names ≡ names_of ps
  pub distinct : AreDistinct (names_of ps)
  pub tree : IsTree ps ns
  pub count : live ≡ count_by is_live ps

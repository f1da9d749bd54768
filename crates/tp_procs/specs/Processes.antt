-- What a scheduler asks of a list of processes.
use Rattle.std.specs.Prelude.{◌≡◌, ℕ, Bool, true, false, nat_eq, int_lt, if◌then◌else◌, List, []}
use Rattle.std.specs.Prelude.{◌∷◌, map, position, Option, Some, None, ℤ}
use Rattle.std.specs.List.{AllByRecursion}
use Rattle.tp_terms.specs.declared.Limit.TheVariants.{At, Inf}
use Rattle.tp_terms.specs.declared.ProcStatus.TheVariants.{Scheduled, Running, AwaitsMail, Ended}
use Rattle.tp_terms.specs.declared.ProcStatus.TheVariants.{Parked}
use Rattle.tp_terms.specs.declared.cells.AtomId.{AtomId}
use Rattle.tp_terms.specs.declared.world.Proc.{Proc}

-- the process hasn't ended
abbrev pub is_live : Proc → Bool
is_live p = elim (p.status) [
  | Scheduled ↦ true
  | Running ↦ true
  | AwaitsMail ↦ true
  | Ended ↦ false
  | Parked m ↦ true
]

-- the process waits for its condition and is to try it again
abbrev pub is_marked : Proc → Bool
is_marked p = elim (p.status) [
  | Scheduled ↦ false
  | Running ↦ false
  | AwaitsMail ↦ false
  | Ended ↦ false
  | Parked m ↦ m
]

-- the end time of a live process, where it has one
abbrev pub end_of : Proc → Option ℤ
end_of p = if is_live p then elim (p.end) [ At e ↦ Some e | Inf ↦ None ] else None

-- the sooner of two times
abbrev pub sooner : Option ℤ → Option ℤ → Option ℤ
sooner None b = b
sooner (Some x) None = Some x
sooner (Some x) (Some y) = if int_lt y x then Some y else Some x

-- the least end time of live processes
abbrev pub earliest : List Proc → Option ℤ
earliest [] = None
earliest (p ∷ ps) = sooner (end_of p) (earliest ps)

-- the process of a name, by its place in the list
abbrev pub named : AtomId → List Proc → Option ℕ
named name ps = position (λ (p : Proc). nat_eq name.at p.name.at) ps

-- the places of the names of processes
abbrev pub names_of : List Proc → List ℕ
names_of ps = map (λ (p : Proc). p.name.at) ps

-- no number stands twice in a list
abbrev pub AreDistinct : List ℕ → Type 0
AreDistinct [] = Unit {0}
AreDistinct (n ∷ ns) = AllByRecursion (λ m. nat_eq n m ≡ false) ns × AreDistinct ns

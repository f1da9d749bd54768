-- The lists of candidates that a base keeps.
use Rattle.std.specs.Prelude.{◌≡◌, ◌≤◌, Bool, true, false, nat_eq, nat_le, nat_lt, ◌&&◌, ◌||◌, List}
use Rattle.std.specs.Prelude.{[], ◌∷◌, length, filter, slice_range, Option, Some, None, IfSome}
use Rattle.std.specs.Prelude.{if◌then◌else◌}
use Rattle.std.specs.Option.{option_map}
use Rattle.std.specs.Map.{lookup}
use Rattle.tp_clauses.specs.Contents.{Contents, places_of}
use Rattle.tp_clauses.specs.First.{first_arg, is_indexed, most_any, same_first, with_first}
use Rattle.tp_clauses.specs.Indexed.{ids_in, same_key}
use Rattle.tp_clauses.specs.declared.base.ClauseId.{ClauseId}
use Rattle.tp_clauses.specs.declared.candidates.Candidates.{Candidates}
use Rattle.tp_clauses.specs.declared.candidates.Span.{Span}
use Rattle.tp_clauses.specs.declared.first.FirstArg.{FirstArg}
use Rattle.tp_clauses.specs.declared.first.FirstArg.TheVariants.{Any}
use Rattle.tp_clauses.specs.declared.first.FirstKey.{FirstKey}
use Rattle.tp_clauses.specs.declared.index.Index.{Index}

abbrev pub same_first_key : FirstKey → FirstKey → Bool
same_first_key j k = same_key j.key k.key && same_first j.first k.first

-- ---- what is kept

abbrev pub in_span : List ClauseId → Span → List ClauseId
in_span ids s = slice_range ids s.from s.to

-- the list of a key
unfoldable pub listed_in : Candidates → FirstKey → Option (List ClauseId)
listed_in c k =
    option_map (in_span c.ids.items) (lookup (same_first_key k) c.spans.entries)

-- every list lies within the one that has them all
abbrev pub AreWithin : Candidates → Type 0
AreWithin c = (k : FirstKey) → IfSome (lookup (same_first_key k) c.spans.entries)
    (λ s. (s.from ≤ s.to) × (s.to ≤ length c.ids.items))

-- ---- two lists as one

-- the next of two lists is the first list's
abbrev pub comes_first : Option ClauseId → Option ClauseId → Bool
comes_first None b = false
comes_first (Some a) None = true
comes_first (Some a) (Some b) = nat_lt a.at b.at

abbrev pub merged_before : ClauseId → (List ClauseId → List ClauseId) → List ClauseId →
    List ClauseId
merged_before a more [] = a ∷ more []
merged_before a more (b ∷ bs) =
    if nat_lt a.at b.at then a ∷ more (b ∷ bs) else b ∷ merged_before a more bs

-- two lists of places in text order, as one
abbrev pub merged : List ClauseId → List ClauseId → List ClauseId
merged [] bs = bs
merged (a ∷ xs) bs = merged_before a (merged xs) bs

-- ---- which lists are kept

-- none or all of some clauses are among others
abbrev pub none_or_all : List ClauseId → List ClauseId → Bool
none_or_all own all = nat_eq (length own) 0 || nat_eq (length own) (length all)

-- The list for a first argument, by the clauses that have it, those with a variable, and all of the
-- predicate.
abbrev pub list_by : Bool → FirstArg → List ClauseId → List ClauseId → List ClauseId →
    Option (List ClauseId)
list_by true Any own others all = Some (merged own [])
list_by true f own others all = Some (merged own others)
list_by false Any own others all = Some (merged all [])
list_by false f own others all = None

abbrev pub list_for : FirstArg → List ClauseId → List ClauseId → List ClauseId →
    Option (List ClauseId)
list_for f own others all =
    if none_or_all own all then None else list_by (nat_le (length others) most_any) f own others all

-- the list of a key, where this list was added or none was
abbrev pub with_list : Option (List ClauseId) → Bool → Option (List ClauseId) →
    Option (List ClauseId)
with_list None same old = old
with_list (Some l) same old = if same then Some l else old

-- a clause of the second first argument is in the list of the first
abbrev pub belongs : FirstArg → FirstArg → Bool
belongs f clause = same_first clause Any || same_first f clause

abbrev pub list_of : FirstKey → Contents → Option (List ClauseId)
list_of k c =
    if is_indexed k.key.name k.key.arity c
    then Some (filter (λ id. belongs k.first (first_arg c id)) (places_of k.key.name k.key.arity c))
    else if same_first k.first Any then Some (places_of k.key.name k.key.arity c)
    else None

-- The list that is kept for a key, where some but not all clauses of the predicate have its first
-- argument: of an indexed predicate the clauses with that first argument and those with a variable,
-- of another all, and only for any.
abbrev pub kept_for : FirstKey → Contents → Option (List ClauseId)
kept_for k c =
    if none_or_all (with_first k.key.name k.key.arity k.first c)
    (places_of k.key.name k.key.arity c)
    then None else list_of k c

-- the clauses of a base by key and first argument
abbrev pub IsGrouped : Contents → Index FirstKey → Type 0
IsGrouped c groups = (k : FirstKey) →
    ids_in same_first_key groups k ≡ with_first k.key.name k.key.arity k.first c

-- the lists of a base
pub record HasLists (c : Contents) (lists : Candidates) : Type 0 where
  pub within : AreWithin lists
  pub kept : (k : FirstKey) → listed_in lists k ≡ kept_for k c

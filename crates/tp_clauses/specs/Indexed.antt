-- What an index of clauses has for a key.
use Rattle.std.specs.Prelude.{Bool, nat_eq, ◌&&◌, List, []}
use Rattle.std.specs.Option.{option_map_or}
use Rattle.std.specs.Map.{lookup, keys_of}
use Rattle.tp_clauses.specs.declared.base.ClauseId.{ClauseId}
use Rattle.tp_clauses.specs.declared.kind.Key.{Key}
use Rattle.tp_clauses.specs.declared.index.Index.{Index}

abbrev pub same_key : Key → Key → Bool
same_key j k = nat_eq j.name.at k.name.at && nat_eq j.arity k.arity

-- the places that an index has for a key
unfoldable pub ids_in : {K : Type 0} → (K → K → Bool) → Index K → K → List ClauseId
ids_in same index k = option_map_or (λ ids. ids.items) (lookup (same k) index.places.entries) []

-- the keys of an index, in the order in which they came
abbrev pub keys_in : {K : Type 0} → Index K → List K
keys_in index = keys_of index.places.entries

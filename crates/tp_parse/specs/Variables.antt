-- Variables with their numbers, as the texts that are kept.
use Rattle.std.specs.Prelude.{ℕ, List, map, chars, string_bytes}
use Rattle.std.specs.declared.alloc.Global.{Global}
use Rattle.std.specs.declared.string.String.{String}
use Rattle.tp_terms.specs.Term.{Name}

abbrev pub numbers_of : List (String Global × ℕ) → List (Name × ℕ)
numbers_of = map (λ e. (chars (string_bytes e.0), e.1))

-- Bindings in the order in which they were made, and the log that takes them back.
use Rattle.std.specs.Prelude.{◌≡◌, List, ◌++◌, map, reverse}
use Rattle.tp_terms.specs.Binds.{Bindings}
use Rattle.tp_log.specs.declared.entry.Entry.{Entry}
use Rattle.tp_log.specs.declared.entry.Entry.TheVariants.{Bind}

-- the entries of bindings, oldest first, of pairs whose newest comes first
abbrev pub bindings_logged : Bindings → List Entry
bindings_logged pairs = map (λ p. Bind p.0) (reverse pairs)

-- the bindings, the newest of which comes first, and a log
pub record Trail : Type 0 where
  pub pairs : Bindings
  pub log : List Entry

-- There are further bindings, and the log has exactly their entries more.
pub record TrailGrows (old new : Trail) : Type 0 where
  pub bound : Bindings
  pub pairs : new.pairs ≡ bound ++ old.pairs
  pub log : new.log ≡ old.log ++ bindings_logged bound

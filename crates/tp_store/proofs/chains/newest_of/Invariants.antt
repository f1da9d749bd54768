use Rattle.std.proofs.Common.{◌+◌, ◌<◌, length}
use Rattle.tp_store.proofs.Logging.Search.{IsBefore}
use Rattle.tp_store.proofs.chains.newest_of.Given as goal

abbrev pub invariant-search : goal.invariant-search
invariant-search l = record { within : l.at < length l.trail.pairs; before : IsBefore l.trail.pairs l.number (l.at + 1) }

abbrev pub decreases-search : goal.decreases-search
decreases-search l = l.at

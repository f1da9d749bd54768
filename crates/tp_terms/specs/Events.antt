-- What an event speaks of is there.
use Rattle.std.specs.Prelude.{ℕ, ◌<◌}
use Rattle.tp_terms.specs.declared.world.Event.{Event}
use Rattle.tp_terms.specs.declared.world.EventKind.{EventKind}
use Rattle.tp_terms.specs.declared.world.EventKind.TheVariants as kind

-- What a kind of event speaks of is there: its names, cells and processes are of so many.
abbrev pub KindStands : ℕ → ℕ → ℕ → EventKind → Type 0
KindStands names cells processes (kind.New name start end) = name.at < names
KindStands names cells processes kind.Start = Unit {0}
KindStands names cells processes (kind.Hold duration) = Unit {0}
KindStands names cells processes (kind.Send message to) = (message.at < cells) × (to < processes)
KindStands names cells processes (kind.Take message) = message.at < cells
KindStands names cells processes (kind.Note term) = term.at < cells
KindStands names cells processes kind.End = Unit {0}

-- What an event speaks of is there, its process too.
pub record EventStands (names cells processes : ℕ) (e : Event) : Type 0 where
  pub process : e.pid < processes
  pub kind : KindStands names cells processes e.kind

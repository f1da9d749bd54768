-- What a state of the code holds.
use Rattle.tp_state.specs.declared.state.State.{State}
use Rattle.tp_state.specs.Plain.{Plain}
use Rattle.tp_state.specs.Going.{Held}

-- the contents of the world that a state stands at
abbrev pub plain_of : State → Plain
plain_of s = record {
  store = s.store;
  frames = s.frames;
  procs = s.procs;
  slots = s.calendar.slots;
  boxes = s.boxes.boxes;
  events = s.events;
  clock = s.clock;
  insertion = s.insertion;
  running = s.running;
  items = s.items;
}

-- the contents with the log and the memory that is kept, as going back needs them
abbrev pub held_of : State → Held
held_of s = record {
  plain = plain_of s;
  log = s.log;
  rooms = record { slots = s.calendar.room; boxes = s.boxes.rooms };
}

-- The contents at the start of a goal.
use Rattle.std.specs.Prelude.{false, [], ◌∷◌, Some, None, pos}
use Rattle.tp_terms.specs.declared.Limit.TheVariants as limit
use Rattle.tp_terms.specs.declared.ProcStatus.TheVariants as status
use Rattle.tp_terms.specs.declared.cells.Ref.{Ref}
use Rattle.tp_terms.specs.declared.symbols.TheConstants.{MAIN}
use Rattle.tp_terms.specs.declared.world.ItemId.{ItemId}
use Rattle.tp_terms.specs.declared.world.Proc.{Proc}
use Rattle.tp_store.specs.Contents.{Contents}
use Rattle.tp_control.specs.declared.frames.Item.TheVariants.{Goal}
use Rattle.tp_state.specs.Plain.{Plain}

-- the process `main`, which waits for its start with these items
abbrev pub main_with : ItemId → Proc
main_with items = record {
  name = MAIN;
  end = limit.Inf;
  started = false;
  status = status.Scheduled;
  items = Some items;
}

-- contents in which `main` waits for its start with a goal
abbrev pub waiting_at : Contents → Ref → Plain
waiting_at c goal = record {
  store = c;
  frames = (Goal goal 0 ∷ []) ∷ [];
  procs = main_with (record { at = 0 }) ∷ [];
  slots = record { time = pos 0; number = 0; pid = 0 } ∷ [];
  boxes = [] ∷ [];
  events = [];
  clock = pos 0;
  insertion = 1;
  running = None;
  items = None;
}

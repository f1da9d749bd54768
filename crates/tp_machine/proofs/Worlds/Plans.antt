-- Entries of the calendar that are added.
use Rattle.std.proofs.Common.{◌≡◌, ℕ, zero, suc, ◌+◌, ◌<◌, ◌≤◌, Bool, true, false, ◌&&◌, List, [], ◌∷◌, map, ℤ, if◌then◌else◌, refl, ap, ◌∙◌, arith}
use Rattle.std.specs.Ordering.{int_eq}
use Rattle.std.specs.List.{AllByRecursion}
use Rattle.std.proofs.lemmas.Bool.{ne_eqb}
use Rattle.tp_terms.specs.declared.ProcStatus.{ProcStatus}
use Rattle.tp_terms.specs.declared.ProcStatus.TheVariants.{Scheduled, Running, AwaitsMail, Ended, Parked}
use Rattle.tp_terms.specs.declared.world.Slot.{Slot}
use Rattle.tp_terms.specs.Term.{Name}
use Rattle.tp_calendar.specs.Order.{IsFree, goes_before, put_slot}
use Rattle.tp_meaning.specs.World as world
use Rattle.tp_meaning.specs.World.{with_slot, status_at}
use Rattle.tp_meaning.specs.Valid.{SlotFits, busy, is_running, waits_or_runs}
use Rattle.tp_state.specs.Acts.{planned, slot_at}
use Rattle.tp_state.specs.Plain.{Plain, slot_of, world_of}
use Rattle.tp_state.specs.Stands.{PlainStands}

put-rows : (e : Slot) (fs : List Slot) → map slot_of (put_slot e fs) ≡ world.put_slot (slot_of e) (map slot_of fs)
put-rows e [] = refl
put-rows e (f ∷ fs) = go (goes_before e f) (put-rows e fs)
  where
    go : (b : Bool) → map slot_of (put_slot e fs) ≡ world.put_slot (slot_of e) (map slot_of fs) → map slot_of (if b then e ∷ f ∷ fs else f ∷ put_slot e fs) ≡ (if b then slot_of e ∷ slot_of f ∷ map slot_of fs else slot_of f ∷ world.put_slot (slot_of e) (map slot_of fs))
    go true h = refl
    go false h = ap (λ es. slot_of f ∷ es) h

pub planned-world : (names : List Name) (p : Plain) (pid n : ℕ) (time : ℤ) → world_of names (planned pid time p) n ≡ with_slot pid time (world_of names p n)
planned-world names p pid n time = ap (λ es. record (world_of names p n) { insertion = p.insertion + 1; calendar = es }) (put-rows (slot_at pid time p) p.slots)

pub planned-stands : (names : List Name) (p : Plain) (pid : ℕ) (time : ℤ) → PlainStands names p → PlainStands names (planned pid time p)
planned-stands names p pid time s = record { store = s.store; atoms = s.atoms; lists = s.lists; items = s.items; procs = s.procs; boxes = s.boxes; events = s.events }

-- no entry has the next insertion number
pub free-slot : (count insertion pid : ℕ) (clock time : ℤ) (fs : List Slot) → AllByRecursion (SlotFits count clock insertion) (map slot_of fs) → IsFree (record { time = time; number = insertion; pid = pid }) fs
free-slot count insertion pid clock time [] h = tt
free-slot count insertion pid clock time (f ∷ fs) h =
    (ap (λ b. int_eq time f.time && b) (ne_eqb insertion f.number (λ e. let lt : f.number < insertion = h.0.2 in let z : insertion ≡ f.number = e in omega arith)) ∙ last (int_eq time f.time), free-slot count insertion pid clock time fs h.1)
  where
    last : (b : Bool) → (b && false) ≡ false
    last true = refl
    last false = refl

-- a process that runs is busy
pub busy-some : (ps : List world.Process) (r : ℕ) → is_running (status_at ps r) ≡ true → 1 ≤ busy ps
busy-some [] r e = absurd (cc)
busy-some (q ∷ qs) zero e = go q.status e
  where
    go : (s : ProcStatus) → is_running s ≡ true → 1 ≤ waits_or_runs s + busy qs
    go Scheduled h = absurd (cc)
    go Running h = omega arith
    go AwaitsMail h = absurd (cc)
    go Ended h = absurd (cc)
    go (Parked m) h = absurd (cc)
busy-some (q ∷ qs) (suc r) e = let le = busy-some qs r e in omega arith

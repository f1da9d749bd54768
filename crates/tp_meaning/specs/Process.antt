-- The goals of processes.
use Rattle.std.specs.Prelude.{ℕ, ◌+◌, Bool, true, false, is_some, List, [], ◌∷◌, ◌++◌, length}
use Rattle.std.specs.Prelude.{remove, fold, None, Some, Ok, Err, ℤ, ◌+ℤ◌, int_lt, codes}
use Rattle.std.specs.Prelude.{if◌then◌else◌}
use Rattle.tp_terms.specs.Term.{Name, Term, Terms, Var, Int, Atom, Comp, NoMore, More, names_eq}
use Rattle.tp_terms.specs.Term.{comp}
use Rattle.tp_meaning.specs.declared.goals.ProcessGoal.{ProcessGoal}
use Rattle.tp_meaning.specs.declared.goals.ProcessGoal.TheVariants as goal
use Rattle.tp_meaning.specs.Subst.{mgu}
use Rattle.tp_meaning.specs.Arith.{value, greatest}
use Rattle.tp_meaning.specs.Checks.{Checked, ◌>>=◌, ◌>>◌, ◌if◌, unbound, type_error, domain_error}
use Rattle.tp_meaning.specs.Checks.{evaluation_error, existence_error, permission_error, bound}
use Rattle.tp_meaning.specs.Checks.{name_in, callable, natural}
use Rattle.tp_meaning.specs.Body.{enter}
use Rattle.tp_meaning.specs.World.{World, Limit, At, Inf, ProcStatus, Scheduled, AwaitsMail, Parked}
use Rattle.tp_meaning.specs.World.{Goal, Commit, Retry, New, Hold, Send, Take, Note, world_under}
use Rattle.tp_meaning.specs.World.{with_event, with_slot, with_status, with_box, let_go, stamped}
use Rattle.tp_meaning.specs.World.{number_of, name_at, status_at, box_at}
use Rattle.tp_meaning.specs.Turn.{Turn, Gives, going, one, two, some, unified}
use Rattle.tp_meaning.specs.Control.{arg}

-- ---- new

-- no process has the name `[]`
abbrev pub not_empty_list : Name → Checked (Unit {0})
not_empty_list n = domain_error "process_name" (Atom n) if names_eq n (codes "[]")

-- a name for a new process, which none has
abbrev pub new_name : World → Term → Checked Name
new_name w t = do
  bound t
  n ← name_in t
  not_empty_list n
  permission_error "create" "process" t if is_some (number_of n w.processes)
  Ok n

-- an end time of a process that starts at a time
abbrev pub end_from : World → ℤ → Term → Checked Limit
end_from w s t = do
  e ← value w.subst t
  domain_error "end_time" (Int e) if int_lt e s
  Ok (At e)

abbrev pub is_inf : Term → Bool
is_inf (Atom a) = names_eq a (codes "inf")
is_inf t = false

-- an end time, or none where it is `inf`
abbrev pub end_of : World → ℤ → Term → Checked Limit
end_of w s t = if is_inf t then Ok Inf else end_from w s t

-- a process more, at the end of the list, with an empty box
abbrev pub with_new : Term → Name → Limit → World → World
with_new g n l w = record w {
  processes =
      w.processes
      ++ record {
        name = n;
        limit = l;
        started = false;
        status = Scheduled;
        items = Goal (comp "call" (g ∷ [])) 0 ∷ [];
      } ∷ [];
  boxes = w.boxes ++ [] ∷ [];
}

-- the world that goes on with a process more, which starts at a time
abbrev pub created : Turn → Term → Name → ℤ → Limit → World
created t g n s l =
    with_event t.process (New n s l)
    (with_slot (length t.world.processes) s (with_new g n l (going t t.rest)))

-- what `new(G,N,S,E)` gives
abbrev pub create : Turn → Term → Term → Term → Term → Checked Gives
create t g name start limit = do
  bound g
  callable g
  n ← new_name t.world name
  s ← value t.world.subst start
  domain_error "start_time" (Int s) if int_lt s t.world.clock
  l ← end_of t.world s limit
  Ok (one (created t g n s l))

-- ---- hold

-- the world in which the process holds until a time, and lets go
abbrev pub held : Turn → ℤ → World
held t d =
    let_go t.process
    (with_status t.process Scheduled
    (with_slot t.process (t.world.clock +ℤ d) (with_event t.process (Hold d) (going t t.rest))))

-- what `hold(T)` gives
abbrev pub hold : Turn → Term → Checked Gives
hold t duration = do
  d ← value t.world.subst duration
  k ← natural d
  evaluation_error "int_overflow" if int_lt greatest (t.world.clock +ℤ d)
  Ok (one (held t d))

-- ---- send

-- the process of a name
abbrev pub receiver : World → Term → Checked ℕ
receiver w t = do
  bound t
  n ← name_in t
  not_empty_list n
  elim (number_of n w.processes) [ None ↦ Err (existence_error "process" t) | Some p ↦ Ok p ]

-- The processes of a list of names. The first term is the whole list, which is the culprit where
-- the second, a part of it, is no list.
abbrev pub receivers_in : World → Term → Term → Checked (List ℕ)
receivers_in w whole (Comp f (More h (More t NoMore))) =
    if names_eq f (codes ".") then (do
      p ← receiver w h
      ps ← receivers_in w whole t
      Ok (p ∷ ps))
    else Err (type_error "list" whole)
receivers_in w whole (Var v) = Err unbound
receivers_in w whole (Atom a) =
    if names_eq a (codes "[]") then Ok [] else Err (type_error "list" whole)
receivers_in w whole t = Err (type_error "list" whole)

abbrev pub one_receiver : World → Term → Checked (List ℕ)
one_receiver w t = do
  p ← receiver w t
  Ok (p ∷ [])

-- the process of one name, or those of a list of names
abbrev pub receivers : World → Term → Checked (List ℕ)
receivers w (Atom a) = if names_eq a (codes "[]") then Ok [] else one_receiver w (Atom a)
receivers w t = receivers_in w t t

-- a process that awaits mail is woken
abbrev pub woken : ℕ → ProcStatus → World → World
woken p AwaitsMail w = with_slot p w.clock (with_status p Scheduled w)
woken p s w = w

-- the world with a message sent from one process to another
abbrev pub sent : ℕ → Term → World → ℕ → World
sent from m w p =
    woken p (status_at w.processes p)
    (with_event from (Send m p) (with_box p (λ b. b ++ m ∷ []) w))

-- what `send(M,D)` gives
abbrev pub send : Turn → Term → Term → Checked Gives
send t m to = do
  ps ← receivers t.world to
  Ok (one (fold (sent t.process m) (going t t.rest) ps))

-- ---- wait_for

-- the world in which the message at a place of the box is taken
abbrev pub taken : Turn → ℕ → Term → World
taken t i m =
    with_event t.process (Take m) (with_box t.process (λ b. remove b i) (going t t.rest))

-- one world for each message that unifies, the messages standing from a place on
abbrev pub takes : Turn → Term → ℕ → List Term → List World
takes t x i [] = []
takes t x i (m ∷ ms) = elim (mgu t.world.subst m x) [
  | None ↦ takes t x (i + 1) ms
  | Some u ↦ world_under u (taken t i m) ∷ takes t x (i + 1) ms
]

-- where none unifies, the process keeps its items and awaits mail
abbrev pub received : Turn → List World → Gives
received t [] = one (let_go t.process (with_status t.process AwaitsMail (stamped t.world)))
received t (w ∷ ws) = some (w ∷ ws)

-- what `wait_for(P)` gives
abbrev pub wait_for : Turn → Term → Gives
wait_for t x = received t (takes t x 0 (box_at t.world.boxes t.process))

-- ---- wait

-- the process is parked with its condition
abbrev pub parked : Turn → Term → World
parked t g = with_status t.process (Parked false) (going t (Retry g ∷ t.rest))

-- the condition is tried
abbrev pub tried : Turn → Term → World
tried t g = let d = t.world.stamp in going t (Goal g (d + 1) ∷ Commit d ∷ t.rest)

-- the first try, which marks the other parked processes where it lets go
abbrev pub await : Turn → Term → Gives
await t g = two (tried t g) (let_go t.process (parked t g))

-- another try, which marks no process where it lets go
abbrev pub await_again : Turn → Term → Gives
await_again t g = two (tried t g) (record (parked t g) { running = None })

-- what `wait(G)` gives
abbrev pub wait : Turn → Term → Checked Gives
wait t g = do
  g' ← enter g
  Ok (await t g')

-- ---- now, self and note

-- what `now(T)` gives
abbrev pub now : Turn → Term → Gives
now t x = some (unified t x (Int t.world.clock))

-- what `self(N)` gives
abbrev pub own_name : Turn → Term → Gives
own_name t x = some (unified t x (Atom (name_at t.world.processes t.process)))

-- what `note(X)` gives
abbrev pub note : Turn → Term → Gives
note t x = one (with_event t.process (Note x) (going t t.rest))

-- ---- the table

-- What a process goal with its name and its arguments gives.
abbrev pub act : Turn → ProcessGoal → Name → Terms → Checked Gives
act t goal.New f ts = create t (arg 0 ts) (arg 1 ts) (arg 2 ts) (arg 3 ts)
act t goal.Hold f ts = hold t (arg 0 ts)
act t goal.Send f ts = send t (arg 0 ts) (arg 1 ts)
act t goal.WaitFor f ts = Ok (wait_for t (arg 0 ts))
act t goal.Wait f ts = wait t (arg 0 ts)
act t goal.Now f ts = Ok (now t (arg 0 ts))
act t goal.OwnName f ts = Ok (own_name t (arg 0 ts))
act t goal.Note f ts = Ok (note t (arg 0 ts))

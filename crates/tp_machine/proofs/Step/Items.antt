-- Steps of the other items: the end of a process, a commit, and a condition that is tried again.
use Rattle.std.proofs.Common.{◌≡◌, ℕ, zero, suc, false, ◌+◌, ◌<◌, List, [], ◌∷◌, map, length, take, Option, Some, None, slice_get, IfSome, refl, ap, sym, subst, ◌∙◌, arith}
use Rattle.std.proofs.lemmas.List.{length-set}
use Rattle.tp_terms.specs.declared.ProcStatus.TheVariants.{Ended, Parked}
use Rattle.tp_terms.specs.declared.cells.Ref.{Ref}
use Rattle.tp_terms.specs.declared.world.ItemId.{ItemId}
use Rattle.tp_terms.specs.declared.world.Proc.{Proc}
use Rattle.tp_terms.specs.declared.world.EventKind.TheVariants as event
use Rattle.tp_terms.proofs.Naming.Tables.{Grows-same}
use Rattle.tp_terms.specs.Names.{IsTable}
use Rattle.tp_terms.specs.Term.{Name}
use Rattle.tp_meaning.specs.World as world
use Rattle.tp_meaning.specs.World.{World, with_status, stamped, at_place}
use Rattle.tp_meaning.specs.Turn.{going, one}
use Rattle.tp_meaning.specs.Process.{tried, parked, await_again}
use Rattle.tp_meaning.specs.Search as search
use Rattle.tp_meaning.specs.Step.{step, item_step}
use Rattle.tp_meaning.specs.Machine.{cut_from}
use Rattle.tp_store.specs.Contents.{seen}
use Rattle.tp_control.specs.declared.frames.Item.TheVariants.{Goal, Commit, Retry}
use Rattle.tp_control.specs.declared.choices.Alt.TheVariants.{Second}
use Rattle.tp_machine.specs.declared.machine.Machine.{Machine}
use Rattle.tp_state.specs.declared.state.State.{State}
use Rattle.tp_machine.specs.declared.stepped.Stepped.TheVariants as answer
use Rattle.tp_state.specs.Going as going
use Rattle.tp_state.specs.State.{plain_of, held_of}
use Rattle.tp_control.specs.Lists.{items_at}
use Rattle.tp_state.specs.Plain.{Plain, item_of, items_of, world_of}
use Rattle.tp_state.specs.Stands.{PlainStands}
use Rattle.tp_state.specs.Acts.{pushed, resting, noted, left, mark_others}
use Rattle.tp_state.proofs.GoingBack.Logs.{covers-same}
use Rattle.tp_state.proofs.GoingBack.Follows.{adds, prolongs-same}
use Rattle.tp_machine.specs.Untried.{untried_by, second_of}
use Rattle.tp_machine.specs.Machine.{IsMachine, Steps, Resumes, base_in, world_in, choices_in, choices_of, IsAgain, again}
use Rattle.tp_machine.specs.Meets.{Runs, HasFirst}
use Rattle.tp_machine.specs.Goes.{Goes, MayKeep, IsKept, Returns, untried_in}
use Rattle.tp_machine.proofs.Worlds.Items.{OtherItems, other-stands, other-rest, other-push, pushed-items}
use Rattle.tp_machine.proofs.Worlds.Procs.{left-stands, left-world, noted-stands, noted-world, marked-stands, marked-world}
use Rattle.tp_machine.proofs.Step.First.{standing, first-step, item-step, process_there, there, rest_in, turn_in, items-there}
use Rattle.tp_machine.proofs.Step.Parts.{to_one, to_branch, to_commit, resumes}
use Rattle.tp_machine.proofs.Step.Control.{other-to}
use Rattle.tp_machine.proofs.Step.Newest.{newest_below}

-- ---- the end

-- other items of the running process
pub rest-follows : (s : State) (rest : Option ItemId) → going.Follows (held_of s) (held_of (record s { items = rest }))
rest-follows s rest = adds (held_of s) (held_of (record s { items = rest })) refl refl (covers-same (held_of s).rooms) (prolongs-same s.store.cells) (omega arith) (prolongs-same s.frames) (prolongs-same s.events)

pub ends : (m : Machine) (r : ℕ) (s1 s2 s3 : State) → Runs m r → m.state.items ≡ None
    → ((q : Proc) → slice_get m.state.procs r ≡ Some q → plain_of s1 ≡ left r q Ended (plain_of m.state))
    → plain_of s2 ≡ noted r event.End (plain_of s1) → plain_of s3 ≡ record (plain_of s2) { procs = mark_others r (plain_of s2).procs } → going.Follows (held_of m.state) (held_of s3)
    → Steps m (record m { state = s3; stamp = m.stamp + 1 }) answer.Went
ends m r s1 s2 s3 h none e1 e2 e3 f =
    let is = h.machine in
    let names = m.atoms in
    let p = plain_of m.state in
    let lt = process_there m r (standing m is) h.running in
    let q = there r m.state.procs lt in
    let p1 = left r q.0 Ended p in
    let is1 : plain_of s1 ≡ left r q.0 Ended (plain_of m.state) = e1 q.0 q.1 in
    let is2 : plain_of s2 ≡ noted r event.End (left r q.0 Ended (plain_of m.state)) = e2 ∙ ap (noted r event.End) is1 in
    let is3 : plain_of s3 ≡ record (noted r event.End (left r q.0 Ended (plain_of m.state))) { procs = mark_others r (left r q.0 Ended (plain_of m.state)).procs } = e3 ∙ ap (λ (x : Plain). record x { procs = mark_others r x.procs }) is2 in
    let st1 = left-stands names p r q.0 Ended is.stands q.1 in
    let y : Proc = record q.0 { status = Ended; items = p.items } in
    let st2 = noted-stands names p1 r event.End st1 (omega (arith, lt, length-set m.state.procs r y)) tt in
    let st3 = marked-stands names (noted r event.End p1) r st2 in
    let w = world_in m in
    to_one m (record m { state = s3; stamp = m.stamp + 1 }) is
    (record { same = refl; names = Grows-same names; table = is.program.table; stands = subst (PlainStands names) (sym is3) st3; follows = f; stamp = refl })
    (first-step m r (standing m is) h.running
    ∙ ap (λ o. item_step (base_in m) w r (items_of names p o)) none
    ∙ ap one (sym (
    ap (λ (x : Plain). world_of names x (m.stamp + 1)) is3
    ∙ marked-world names (noted r event.End p1) r (m.stamp + 1) refl
    ∙ ap (λ (v : World). record v { processes = world.mark_others r v.processes }) (noted-world names p1 r (m.stamp + 1) event.End)
    ∙ ap (λ (v : World). record (world.with_event r world.End v) { processes = world.mark_others r v.processes }) (left-world names p r (m.stamp + 1) q.0 Ended h.running q.1)
    )))

-- ---- a commit

pub commits : (m new : Machine) (r c n : ℕ) (rest : Option ItemId) → IsMachine m → HasFirst m r (Commit c) rest → new ≡ record m { state = new.state; choices = new.choices; stamp = new.stamp } → new.stamp ≡ m.stamp + 1 → plain_of new.state ≡ resting rest (plain_of m.state) → going.Follows (held_of m.state) (held_of new.state)
    → choices_of m.atoms (base_in m) (held_of m.state) new.choices ≡ cut_from c (choices_in m) → new.choices ≡ take n m.choices → Steps m new answer.Went
commits m new r c n rest is h same stamp e f cut first =
    let p = plain_of m.state in
    let o = subst (OtherItems m.atoms p) (sym e) (other-rest m.atoms p rest h.rest) in
    to_commit m new c n is same stamp (other-stands m.atoms p (plain_of new.state) is.stands o) f cut first
    (item-step m r (Commit c) rest h
    ∙ ap (search.Commit c) (sym (other-to m new.state new.stamp r (items_at m.state.frames rest) is o stamp h.running (ap (λ (q : Plain). items_at q.frames q.items) e))))

-- ---- another try

module _ (m : Machine) (r : ℕ) (g : Ref) (rest : Option ItemId) (is : IsMachine m) (h : HasFirst m r (Retry g) rest) where
  again-step : step (base_in m) (world_in m) ≡ await_again (turn_in m r rest) (seen m.atoms m.state.store g.at)
  again-step = item-step m r (Retry g) rest h

  items-are : world.items_at (world_in m).processes r ≡ world.Retry (seen m.atoms m.state.store g.at) ∷ rest_in m rest
  items-are = items-there m.atoms (plain_of m.state) r (process_there m r h.standing h.running) h.running ∙ ap (map (item_of m.atoms m.state.store)) h.list

  -- what is next is the second world
  pub second-left : untried_in m Second ≡ second_of (await_again (turn_in m r rest) (seen m.atoms m.state.store g.at))
  second-left =
      ap (λ o. elim o as (λ _. List World) [ None ↦ [] | Some p ↦ untried_by (base_in m) (world_in m) p (world.items_at (world_in m).processes p) Second ]) h.running
      ∙ ap (λ is. untried_by (base_in m) (world_in m) r is Second) items-are

  pub may_again : MayKeep m Second
  may_again = record {
    stands = is.stands;
    goes_on = again (record { process = r; running = h.running; goal = g; rest = items_at m.state.frames rest; list = h.list });
    safe = is.safe;
    choices = is.choices;
    below = newest_below m is;
    left = omega (arith, ap length second-left);
  }

  -- the condition is tried, and a choice was kept
  tries_at : (mid : Machine) (s1 s2 : State) (d : ℕ) → d ≡ m.stamp → IsKept m Second mid → plain_of s1 ≡ pushed (Commit d) (resting rest (plain_of mid.state)) → plain_of s2 ≡ pushed (Goal g (d + 1)) (plain_of s1) → going.Follows (held_of mid.state) (held_of s2) → Steps m (record mid { state = s2; stamp = d + 1 }) answer.Went
  tries_at mid s1 s2 d ed k e1 e2 f =
      let p = plain_of m.state in
      let q = resting rest p in
      let o1 = other-rest m.atoms p rest h.rest in
      let o2 = other-push m.atoms p q (Commit d) is.stands o1 tt in
      let o3 = other-push m.atoms p (pushed (Commit d) q) (Goal g (d + 1)) is.stands o2 h.stands in
      let e3 : plain_of s2 ≡ pushed (Goal g (d + 1)) (pushed (Commit d) (resting rest (plain_of m.state))) = e2 ∙ ap (pushed (Goal g (d + 1))) e1 ∙ ap (λ (x : Plain). pushed (Goal g (d + 1)) (pushed (Commit d) (resting rest x))) (ap (λ (y : Machine). plain_of y.state) k.same) in
      let o = subst (OtherItems m.atoms p) (sym e3) o3 in
      let items = Goal g (d + 1) ∷ Commit d ∷ items_at m.state.frames rest in
      let listed : items_at (plain_of s2).frames (plain_of s2).items ≡ items =
      ap (λ (x : Plain). items_at x.frames x.items) e3
      ∙ pushed-items (Goal g (d + 1)) (pushed (Commit d) q)
      ∙ ap (λ l. Goal g (d + 1) ∷ l) (pushed-items (Commit d) q) in
      let atoms : mid.atoms ≡ m.atoms = ap (λ (x : Machine). x.atoms) k.same in
      let x = seen m.atoms m.state.store g.at in
      let t = turn_in m r rest in
      to_branch m mid (record mid { state = s2; stamp = d + 1 }) Second is k
      (record {
        same = refl;
        names = Grows-same mid.atoms;
        table = subst IsTable (sym atoms) is.program.table;
        stands = subst (λ (ns : List Name). PlainStands ns (plain_of s2)) (sym atoms) (other-stands m.atoms p (plain_of s2) is.stands o);
        follows = f;
        stamp = ap (λ n. n + 1) ed ∙ ap (λ (y : Machine). y.stamp + 1) (sym k.same);
      })
      (again-step
      ∙ ap (λ ws. search.Branch (tried t x) ws) (sym second-left)
      ∙ ap (λ n. search.Branch (going t (world.Goal x (n + 1) ∷ world.Commit n ∷ rest_in m rest)) (untried_in m Second)) (sym ed)
      ∙ ap (λ v. search.Branch v (untried_in m Second)) (sym (
      ap (λ (ns : List Name). world_of ns (plain_of s2) (d + 1)) atoms
      ∙ other-to m s2 (d + 1) r items is o (ap (λ n. n + 1) ed) h.running listed)))

  pub tries : (mid : Machine) (s1 s2 : State) → IsKept m Second mid → plain_of s1 ≡ pushed (Commit mid.stamp) (resting rest (plain_of mid.state)) → plain_of s2 ≡ pushed (Goal g (mid.stamp + 1)) (plain_of s1) → going.Follows (held_of mid.state) (held_of s2) → Steps m (record mid { state = s2; stamp = mid.stamp + 1 }) answer.Went
  tries mid s1 s2 k e1 e2 f = tries_at mid s1 s2 mid.stamp (ap (λ (y : Machine). y.stamp) k.same) k e1 e2 f

  -- the items behind it are there
  pub rest_there : (mid : Machine) → IsKept m Second mid → IfSome rest (λ i. i.at < length mid.state.frames)
  rest_there mid k = subst (λ (x : Plain). IfSome rest (λ i. i.at < length x.frames)) (sym (ap (λ (y : Machine). plain_of y.state) k.same)) h.rest

-- the process goes on waiting
pub waits_again : (m : Machine) (s : State) (a : IsAgain (plain_of m.state)) → IsMachine m
    → ((q : Proc) → slice_get m.state.procs a.process ≡ Some q → plain_of s ≡ left a.process q (Parked false) (plain_of m.state)) → going.Follows (held_of m.state) (held_of s)
    → Goes m (record m { state = s; stamp = m.stamp + 1 }) × (untried_in m Second ≡ world_in (record m { state = s; stamp = m.stamp + 1 }) ∷ [])
waits_again m s a is e f =
    let names = m.atoms in
    let p = plain_of m.state in
    let r = a.process in
    let lt = process_there m r (standing m is) a.running in
    let q = there r m.state.procs lt in
    let here = e q.0 q.1 in
    let t : Rattle.tp_meaning.specs.Turn.Turn = record { world = world_in m; process = r; rest = map (item_of names m.state.store) a.rest } in
    let g = seen names m.state.store a.goal.at in
    let items : world.items_at (world_in m).processes r ≡ world.Retry g ∷ map (item_of names m.state.store) a.rest = items-there names p r lt a.running ∙ ap (map (item_of names m.state.store)) a.list in
    let next : untried_in m Second ≡ record (parked t g) { running = None } ∷ [] =
    ap (λ o. elim o as (λ _. List World) [ None ↦ [] | Some k ↦ untried_by (base_in m) (world_in m) k (world.items_at (world_in m).processes k) Second ]) a.running
    ∙ ap (λ l. untried_by (base_in m) (world_in m) r l Second) items in (
      record { same = refl; names = Grows-same names; table = is.program.table; stands = subst (PlainStands names) (sym here) (left-stands names p r q.0 (Parked false) is.stands q.1); follows = f; stamp = refl },
      next ∙ ap (λ v. v ∷ []) (sym (
          ap (λ (x : Plain). world_of names x (m.stamp + 1)) here
          ∙ left-world names p r (m.stamp + 1) q.0 (Parked false) a.running q.1
          ∙ ap (λ ps. record (with_status r (Parked false) (stamped (record (world_in m) { processes = ps }))) { running = None }) (sym (kept_items (world_in m).processes r (world.Retry g ∷ map (item_of names m.state.store) a.rest) items))
          )),
    )
  where
    kept_items : (ps : List world.Process) (r : ℕ) (is : List world.Item) → world.items_at ps r ≡ is → at_place r (λ (x : world.Process). record x { items = is }) ps ≡ ps
    kept_items [] r is e = refl
    kept_items (x ∷ xs) zero is e = ap (λ l. record x { items = l } ∷ xs) (sym e)
    kept_items (x ∷ xs) (suc r) is e = ap (λ ys. x ∷ ys) (kept_items xs r is e)

-- the machine goes on so
pub goes_on_waiting : (m : Machine) (s : State) (r : ℕ) → Returns m Second → IsAgain (plain_of m.state) → m.state.running ≡ Some r
    → ((q : Proc) → slice_get m.state.procs r ≡ Some q → plain_of s ≡ left r q (Parked false) (plain_of m.state)) → going.Follows (held_of m.state) (held_of s) → Resumes (record m { waiting = Some Second }) (record m { state = s; stamp = m.stamp + 1 })
goes_on_waiting m s r back a run e f =
    let same : r ≡ a.process = (let z : Some r ≡ Some a.process = sym run ∙ a.running in cc) in
    let w = waits_again m s a back.machine (subst (λ n. (q : Proc) → slice_get m.state.procs n ≡ Some q → plain_of s ≡ left n q (Parked false) (plain_of m.state)) same e) f in
    resumes m m (record m { state = s; stamp = m.stamp + 1 }) Second [] back (record { same = refl; fits = back.machine.choices; kept = refl }) w.0 w.1

-- Each world of a step of a valid world is valid, with the stamp plus 1.
use Rattle.std.proofs.Common.{◌≡◌, ℕ, zero, suc, ◌+◌, ◌≤◌, Bool, true, false, ◌&&◌, nat_eq, List, [], ◌∷◌, ◌++◌, length, Option, Some, None, Ok, Err, IfOk, IfSome, refl, ap, arith, if◌then◌else◌}
use Rattle.std.specs.List.{AllByRecursion}
use Rattle.std.proofs.lemmas.Bool.{ne_eqb}
use Rattle.tp_terms.specs.Term.{Name, Term, Terms, Var, Int, Atom, Comp, NoMore, More, all_replaced, names_eq, count_of, term_of}
use Rattle.tp_meaning.specs.Subst.{Subst, mgu}
use Rattle.tp_meaning.specs.Checks.{Checked, unknown}
use Rattle.tp_meaning.specs.Body.{body}
use Rattle.tp_meaning.specs.World.{World, Process, Item, Goal, Commit, Retry, start, status_at, items_at, world_under}
use Rattle.tp_meaning.specs.Turn.{Turn, Gives, going, some, raised_at}
use Rattle.tp_meaning.specs.Goals.{GoalKind, goal_kind}
use Rattle.tp_meaning.specs.Goals as kind
use Rattle.tp_meaning.specs.Clauses.{Clause, Base, predicate, renamed, head_of, body_items, by_clause, try_clause, worlds_of, user_goal}
use Rattle.tp_meaning.specs.Scheduler.{choose}
use Rattle.tp_meaning.specs.Answers.{Answer, Yes, No}
use Rattle.tp_meaning.specs.Builtin.{of_args}
use Rattle.tp_meaning.specs.declared.goals.BuiltId.{BuiltId}
use Rattle.tp_meaning.specs.Step.{answered, built_in, goal_by, goal_step, item_step, step}
use Rattle.tp_meaning.specs.Valid.{slots_of, due, is_running, Below, AllBelow, ItemsFit, EventFits, KindFits, Valid, Follows, EachFollows, ClauseFits, StampsRise}
use Rattle.tp_meaning.proofs.ValidWorlds.Places.{all-weaker, all-append}
use Rattle.tp_meaning.proofs.ValidWorlds.Keeps.{keeps, items-later, going-follows, after-ok, some-follow, body-below, term_of-below, control-follows}
use Rattle.tp_meaning.proofs.ValidWorlds.Acts.{choose-follows}
use Rattle.tp_meaning.proofs.Unification.Under.{Unifies, mgu-unifies, under-valid, replaced-below, all_replaced-below, below-more, bound-more}
use Rattle.tp_meaning.proofs.ValidWorlds.BuiltIns.{AnswerFits, of_args-fits}
use Rattle.tp_meaning.proofs.ValidWorlds.Goes.{TurnFits, later, goes, ended-valid, await_again-follows}
use Rattle.tp_meaning.proofs.ProcessGoals.Acts.{act-follows}

-- ---- user goals

-- the next variable moved on
next-valid : (w : World) (n : ℕ) → Valid w → w.next ≤ n → Valid (record w { next = n })
next-valid w n v le = record {
  distinct = v.distinct;
  box_each = v.box_each;
  entries = v.entries;
  in_order = v.in_order;
  placed = v.placed;
  one_runs = v.one_runs;
  from_zero = v.from_zero;
  none_late = v.none_late;
  events = all-weaker (EventFits (length w.processes) w.next w.clock) (EventFits (length w.processes) n w.clock) (λ e h. record { known = h.known; fits = kind_more e.kind h.fits; past = h.past }) w.history v.events;
  todo = all-weaker _ (λ q. ItemsFit n w.stamp q.items) (λ q h. items_more q.items h) w.processes v.todo;
  mail = all-weaker (AllByRecursion (Below w.next)) (AllByRecursion (Below n)) (λ b h. all-weaker (Below w.next) (Below n) (λ t x. below-more w.next n t le x) b h) w.boxes v.mail;
  bindings = bound-more w.next n w.subst le v.bindings;
  is_subst = v.is_subst;
  insertions = v.insertions;
}
  where
    items_more : (is : List Item) → ItemsFit w.next w.stamp is → ItemsFit n w.stamp is
    items_more [] h = tt
    items_more (Goal g b ∷ is) h = ((below-more w.next n g le h.0.0, h.0.1), items_more is h.1)
    items_more (Commit k ∷ is) h = (h.0, items_more is h.1)
    items_more (Retry g ∷ is) h = (below-more w.next n g le h.0, items_more is h.1)

    kind_more : (k : Rattle.tp_meaning.specs.World.EventKind) → KindFits (length w.processes) w.next k → KindFits (length w.processes) n k
    kind_more (Rattle.tp_meaning.specs.World.New a s l) h = h
    kind_more Rattle.tp_meaning.specs.World.Start h = h
    kind_more Rattle.tp_meaning.specs.World.End h = h
    kind_more (Rattle.tp_meaning.specs.World.Hold d) h = h
    kind_more (Rattle.tp_meaning.specs.World.Send m q) h = (below-more w.next n m le h.0, h.1)
    kind_more (Rattle.tp_meaning.specs.World.Take m) h = below-more w.next n m le h
    kind_more (Rattle.tp_meaning.specs.World.Note m) h = below-more w.next n m le h

renamed-below : (n k : ℕ) (x : Term) → Below k x → Below (n + k) (renamed n x)
renamed-below n k x h = replaced-below k (n + k) (λ v. Var (v + n)) x (λ v l. omega arith) h

all_renamed-below : (n k : ℕ) (xs : Terms) → AllBelow k xs → AllBelow (n + k) (all_replaced (λ v. Var (v + n)) xs)
all_renamed-below n k xs h = all_replaced-below k (n + k) (λ v. Var (v + n)) xs (λ v l. omega arith) h

head-below : (n : ℕ) (d : Clause) → ClauseFits d → Below (n + d.vars) (renamed n (head_of d))
head-below n d h = go d.args h.head
  where
    go : (ts : Terms) → AllBelow d.vars ts → Below (n + d.vars) (renamed n (term_of d.name ts))
    go NoMore k = tt
    go (More t ts) k = all_renamed-below n d.vars (More t ts) k

try-follows : (t : Turn) (g : Term) (d : Clause) → TurnFits t → Below t.world.next g → ClauseFits d → IfSome (try_clause t g d) (Follows t.world)
try-follows t g d f bg k =
    go (mgu t.world.subst g (renamed t.world.next (head_of d)))
    (mgu-unifies n t.world.subst g (renamed t.world.next (head_of d)) (below-more t.world.next n g (omega arith) bg) (head-below t.world.next d k) (bound-more t.world.next n t.world.subst (omega arith) f.valid.bindings) f.valid.is_subst)
  where
    n : ℕ
    n = t.world.next + d.vars

    items : ItemsFit n (t.world.stamp + 1) (body_items d t.world)
    items = of_body d.body k.body
      where
        of_body : (o : Option Term) → IfSome o (Below d.vars) → ItemsFit n (t.world.stamp + 1) (elim o [ None ↦ [] | Some b ↦ Goal (renamed t.world.next b) t.world.stamp ∷ [] ])
        of_body None h = tt
        of_body (Some b) h = ((renamed-below t.world.next d.vars b h, omega arith), tt)

    rest : ItemsFit n (t.world.stamp + 1) t.rest
    rest = more t.rest (later t f)
      where
        more : (is : List Item) → ItemsFit t.world.next (t.world.stamp + 1) is → ItemsFit n (t.world.stamp + 1) is
        more [] h = tt
        more (Goal x b ∷ is) h = ((below-more t.world.next n x (omega arith) h.0.0, h.0.1), more is h.1)
        more (Commit s ∷ is) h = (h.0, more is h.1)
        more (Retry x ∷ is) h = (below-more t.world.next n x (omega arith) h.0, more is h.1)

    made : Valid (by_clause t d)
    made = (keeps (record t.world { next = n }) t.process (body_items d t.world ++ t.rest) (next-valid t.world n f.valid (omega arith)) (all-append _ (body_items d t.world) t.rest items rest)).valid

    go : (o : Option Subst) → IfSome o (Unifies n) → IfSome (elim o [ None ↦ None | Some u ↦ Some (world_under u (by_clause t d)) ]) (Follows t.world)
    go None h = tt
    go (Some u) h = record { valid = under-valid u (by_clause t d) h made; stamp = refl; next = omega arith }

worlds-follow : (t : Turn) (g : Term) (ds : Base) → TurnFits t → Below t.world.next g → AllByRecursion ClauseFits ds → AllByRecursion (Follows t.world) (worlds_of t g ds)
worlds-follow t g [] f bg k = tt
worlds-follow t g (d ∷ ds) f bg k = go (try_clause t g d) (try-follows t g d f bg k.0) (worlds-follow t g ds f bg k.1)
  where
    go : (o : Option World) → IfSome o (Follows t.world) → AllByRecursion (Follows t.world) (worlds_of t g ds) → AllByRecursion (Follows t.world) (Rattle.std.specs.List.cons_option o (worlds_of t g ds))
    go None h r = r
    go (Some w) h r = (h, r)

predicate-fits : (base : Base) (f : Name) (n : ℕ) → AllByRecursion ClauseFits base → AllByRecursion ClauseFits (predicate base f n)
predicate-fits [] f n a = tt
predicate-fits (d ∷ ds) f n a = go (names_eq f d.name && nat_eq n (count_of d.args)) (predicate-fits ds f n a.1)
  where
    go : (b : Bool) → AllByRecursion ClauseFits (predicate ds f n) → AllByRecursion ClauseFits (if b then d ∷ predicate ds f n else predicate ds f n)
    go true r = (a.0, r)
    go false r = r

user-follows : (base : Base) (t : Turn) (f : Name) (ts : Terms) → AllByRecursion ClauseFits base → TurnFits t → AllBelow t.world.next ts → IfOk (user_goal base t f ts) (EachFollows t.world)
user-follows base t f ts a k h = go (predicate base f (count_of ts)) (predicate-fits base f (count_of ts) a)
  where
    go : (ds : Base) → AllByRecursion ClauseFits ds → IfOk (elim ds [ [] ↦ Err (unknown f (count_of ts)) | d ∷ ds ↦ Ok (some (worlds_of t (term_of f ts) (d ∷ ds))) ]) (EachFollows t.world)
    go [] x = tt
    go (d ∷ ds) x = some-follow t.world (worlds_of t (term_of f ts) (d ∷ ds)) (worlds-follow t (term_of f ts) (d ∷ ds) k (term_of-below t.world.next f ts h) x)

-- ---- a step

answered-follows : (t : Turn) (a : Answer) → TurnFits t → AnswerFits t.world.next a → EachFollows t.world (answered t a)
answered-follows t No f h = tt
answered-follows t (Yes u n) f h = (record { valid = under-valid u (record (going t t.rest) { next = n }) h.1 (next-valid (going t t.rest) n (goes t t.rest f (later t f)) h.0); stamp = refl; next = h.0 }, tt)

built_in-follows : (t : Turn) (k : BuiltId) (ts : Terms) → TurnFits t → AllBelow t.world.next ts → IfOk (built_in t k ts) (EachFollows t.world)
built_in-follows t k ts f h =
    after-ok (AnswerFits t.world.next) (EachFollows t.world) (of_args k t.world.subst t.world.next ts) _ (of_args-fits k t.world.subst t.world.next ts (record { bound = f.valid.bindings; is_subst = f.valid.is_subst }) h) (λ a k. answered-follows t a f k)

goal_by-follows : (base : Base) (t : Turn) (b : ℕ) (f : Name) (ts : Terms) (o : Option GoalKind) → AllByRecursion ClauseFits base → TurnFits t → b ≤ t.world.stamp → AllBelow t.world.next ts → IfOk (goal_by base t b f ts o) (EachFollows t.world)
goal_by-follows base t b f ts (Some (kind.Control k)) a fit le h = control-follows t b k f ts fit.valid le h fit.rest
goal_by-follows base t b f ts (Some (kind.Process k)) a fit le h = act-follows t k f ts fit h
goal_by-follows base t b f ts (Some (kind.BuiltIn k)) a fit le h = built_in-follows t k ts fit h
goal_by-follows base t b f ts None a fit le h = user-follows base t f ts a fit h

goal_step-follows : (base : Base) (t : Turn) (b : ℕ) (g : Term) → AllByRecursion ClauseFits base → TurnFits t → b ≤ t.world.stamp → Below t.world.next g → IfOk (goal_step base t b g) (EachFollows t.world)
goal_step-follows base t b (Var v) a k le h = tt
goal_step-follows base t b (Int z) a k le h = tt
goal_step-follows base t b (Atom f) a k le h = goal_by-follows base t b f NoMore (goal_kind f 0) a k le tt
goal_step-follows base t b (Comp f ts) a k le h = goal_by-follows base t b f ts (goal_kind f (count_of ts)) a k le h

raised-follows : (w : World) (q : ℕ) (r : Checked Gives) → IfOk r (EachFollows w) → EachFollows w (raised_at w q r)
raised-follows w q (Ok g) h = h
raised-follows w q (Err e) h = tt

items-fit : (n d : ℕ) (ps : List Process) (q : ℕ) → AllByRecursion (λ q. ItemsFit n d q.items) ps → ItemsFit n d (items_at ps q)
items-fit n d [] q a = tt
items-fit n d (x ∷ xs) zero a = a.0
items-fit n d (x ∷ xs) (suc q) a = items-fit n d xs q a.1

item-follows : (base : Base) (w : World) (q : ℕ) (is : List Item) → AllByRecursion ClauseFits base → Valid w → w.running ≡ Some q → ItemsFit w.next w.stamp is → EachFollows w (item_step base w q is)
item-follows base w q [] a v r h = (record { valid = ended-valid w q v r; stamp = refl; next = omega arith }, tt)
item-follows base w q (Goal g b ∷ rest) a v r h = raised-follows w q _ (goal_step-follows base (record { world = w; process = q; rest = rest }) b g a (record { valid = v; running = r; rest = h.1 }) h.0.1 h.0.0)
item-follows base w q (Commit k ∷ rest) a v r h = going-follows (record { world = w; process = q; rest = rest }) rest v (items-later w.next w.stamp rest h.1)
item-follows base w q (Retry g ∷ rest) a v r h = await_again-follows (record { world = w; process = q; rest = rest }) g (record { valid = v; running = r; rest = h.1 }) h.0

pub stamps_rise : StampsRise
unfolding step
stamps_rise base w a v = go w.running refl
  where
    go : (o : Option ℕ) → w.running ≡ o → EachFollows w (elim o [ None ↦ choose w | Some q ↦ item_step base w q (items_at w.processes q) ])
    go None e = choose-follows w v e
    go (Some q) e = item-follows base w q (items_at w.processes q) a v e (items-fit w.next w.stamp w.processes q v.todo)

-- ---- the start

first_items-fit : (vars : ℕ) (o : Option Term) → IfSome o (Below vars) → ItemsFit vars 0 (elim o [ None ↦ [] | Some b ↦ Goal b 0 ∷ [] ])
first_items-fit vars None h = tt
first_items-fit vars (Some b) h = ((h, omega arith), tt)

-- the start is valid
pub start-valid : (g : Term) (vars : ℕ) → Below vars g → Valid (start g vars)
start-valid g vars h = record {
  distinct = (tt, tt);
  box_each = refl;
  entries = ((omega arith, refl, omega arith), tt);
  in_order = (tt, tt);
  placed = placed;
  one_runs = runs;
  from_zero = refl;
  none_late = (refl, tt);
  events = tt;
  todo = (first_items-fit vars (body g) (body-below vars g h), tt);
  mail = (tt, tt);
  bindings = tt;
  is_subst = record { sorted = tt; idem = record { free = λ x w e. refl } };
  insertions = omega arith;
}
  where
    placed : (r : ℕ) → slots_of r (start g vars).calendar ≡ due (status_at (start g vars).processes r)
    placed zero = refl
    placed (suc r) = ap (λ b. (if b then 1 else 0) + 0) (ne_eqb (suc r) 0 (λ e. absurd (omega arith)))

    runs : (r : ℕ) → is_running (status_at (start g vars).processes r) ≡ false
    runs zero = refl
    runs (suc r) = refl

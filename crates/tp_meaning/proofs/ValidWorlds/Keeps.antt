-- Worlds that a running process goes on to are valid.
use Rattle.std.proofs.Common.{◌≡◌, ℕ, zero, suc, ◌+◌, ◌≤◌, Bool, true, false, nat_eq, List, [], ◌∷◌, length, Option, Some, None, Ok, Err, IfOk, IfSome, refl, ap, ◌∙◌, sym, arith, if◌then◌else◌, codes, ◌&&◌, ◌++◌, ℤ, pos, ◌+ℤ◌, int_lt, int_le}
use Rattle.std.specs.Ordering.{int_eq}
use Rattle.std.specs.List.{AllByRecursion}
use Rattle.tp_terms.specs.Term.{Name, Term, Terms, Var, Int, Atom, Comp, NoMore, More, names_eq, count_of, args_of, with_args, joined, term_of, atom}
use Rattle.tp_meaning.specs.Subst.{Subst, mgu}
use Rattle.tp_meaning.specs.Checks.{Checked, ◌>>=◌, ◌>>◌, bound, callable, arity_fits, integer_given}
use Rattle.tp_meaning.specs.Body.{body, joins_goals, pair_body, enter, entered_as}
use Rattle.tp_meaning.specs.Search.{Failed, Dead}
use Rattle.tp_meaning.specs.World.{World, Process, Item, Goal, Commit, Retry, at_place, with_items, stamped, status_at, world_under}
use Rattle.tp_meaning.specs.Valid.{Below, AllBelow, ItemFits, ItemsFit, busy, waits_or_runs, Valid, Follows, EachFollows, is_running, due}
use Rattle.tp_meaning.specs.Turn.{Turn, Gives, going, one, some, unified}
use Rattle.tp_meaning.specs.declared.goals.ControlGoal.{ControlGoal}
use Rattle.tp_meaning.specs.declared.goals.ControlGoal.TheVariants as c
use Rattle.tp_meaning.specs.Control.{control, arg, behind_first, if_then, first_of, not_provable, called, called_with, called_once, from_next, numbered, counted, between_of}
use Rattle.tp_meaning.proofs.ValidWorlds.Places.{map-at_place, length-at_place, all-at_place, all-weaker, all-append}
use Rattle.tp_meaning.proofs.Unification.Under.{Unifies, mgu-unifies, under-valid}

pub status-same : (f : Process → Process) → ((q : Process) → (f q).status ≡ q.status) → (n : ℕ) (ps : List Process) (q : ℕ) → status_at (at_place n f ps) q ≡ status_at ps q
status-same f h n [] q = refl
status-same f h zero (x ∷ xs) zero = h x
status-same f h zero (x ∷ xs) (suc q) = refl
status-same f h (suc n) (x ∷ xs) zero = refl
status-same f h (suc n) (x ∷ xs) (suc q) = status-same f h n xs q

pub busy-same : (f : Process → Process) → ((q : Process) → (f q).status ≡ q.status) → (n : ℕ) (ps : List Process) → busy (at_place n f ps) ≡ busy ps
busy-same f h n [] = refl
busy-same f h zero (x ∷ xs) = ap (λ s. waits_or_runs s + busy xs) (h x)
busy-same f h (suc n) (x ∷ xs) = ap (λ k. waits_or_runs x.status + k) (busy-same f h n xs)

-- a later stamp
pub item-later : (n d : ℕ) (i : Item) → ItemFits n d i → ItemFits n (d + 1) i
item-later n d (Goal g b) h = (h.0, omega arith)
item-later n d (Commit c) h = omega arith
item-later n d (Retry g) h = h

pub items-later : (n d : ℕ) (is : List Item) → ItemsFit n d is → ItemsFit n (d + 1) is
items-later n d is h = all-weaker (ItemFits n d) (ItemFits n (d + 1)) (item-later n d) is h

-- the process has other items
pub keeps : (w : World) (p : ℕ) (items : List Item) → Valid w → ItemsFit w.next (w.stamp + 1) items → Follows w (with_items p items (stamped w))
keeps w p items v fit =
    let f : Process → Process = λ q. record q { items = items } in
    let len : length (at_place p f w.processes) ≡ length w.processes = length-at_place f p w.processes in
    record {
      valid = record {
        distinct = rw (map-at_place (λ q. q.name) f (λ q. refl) p w.processes) v.distinct;
        box_each = v.box_each ∙ sym len;
        entries = rw len v.entries;
        in_order = v.in_order;
        placed = λ q. v.placed q ∙ ap due (sym (status-same f (λ x. refl) p w.processes q));
        one_runs = λ q. ap is_running (status-same f (λ x. refl) p w.processes q) ∙ v.one_runs q;
        from_zero = v.from_zero;
        none_late = all-at_place _ f (λ q h. h) p w.processes v.none_late;
        events = rw len v.events;
        todo = all-at_place _ f (λ q h. fit) p w.processes (all-weaker _ (λ q. ItemsFit w.next (w.stamp + 1) q.items) (λ q h. items-later w.next w.stamp q.items h) w.processes v.todo);
        mail = v.mail;
        bindings = v.bindings;
        is_subst = v.is_subst;
        insertions = let h : w.insertion + busy w.processes ≤ w.stamp + 1 = v.insertions in rw (busy-same f (λ x. refl) p w.processes) (omega arith);
      };
      stamp = refl;
      next = omega arith;
    }

pub going-follows : (t : Turn) (items : List Item) → Valid t.world → ItemsFit t.world.next (t.world.stamp + 1) items → Follows t.world (going t items)
going-follows t items v fit = keeps t.world t.process items v fit

-- ---- bodies

pair_body-below : (n : ℕ) (f : List ℕ) (a b : Option Term) → IfSome a (Below n) → IfSome b (Below n) → IfSome (pair_body f a b) (Below n)
pair_body-below n f None None x y = tt
pair_body-below n f None (Some b) x y = tt
pair_body-below n f (Some a) None x y = tt
pair_body-below n f (Some a) (Some b) x y = (x, (y, tt))

pub body-below : (n : ℕ) (g : Term) → Below n g → IfSome (body g) (Below n)
body-below n (Var v) h = (h, tt)
body-below n (Int z) h = tt
body-below n (Atom a) h = tt
body-below n (Comp f (More a (More b NoMore))) h = go (joins_goals f) (pair_body-below n f (body a) (body b) (body-below n a h.0) (body-below n b h.1.0))
  where
    go : (b' : Bool) → IfSome (pair_body f (body a) (body b)) (Below n) → IfSome (if b' then pair_body f (body a) (body b) else Some (Comp f (More a (More b NoMore)))) (Below n)
    go true x = x
    go false x = h
body-below n (Comp f ts) h = h

-- ---- goals that are entered

entered_as-below : (n : ℕ) (g : Term) (o : Option Term) → IfSome o (Below n) → IfOk (entered_as g o) (Below n)
entered_as-below n g None h = tt
entered_as-below n g (Some b) h = h

pub enter-below : (n : ℕ) (g : Term) → Below n g → IfOk (enter g) (Below n)
enter-below n (Var v) h = tt
enter-below n (Int z) h = tt
enter-below n (Atom a) h = tt
enter-below n (Comp f ts) h = entered_as-below n (Comp f ts) (body (Comp f ts)) (body-below n (Comp f ts) h)

-- a second step, where the first gives a value
pub after-ok : {A B : Type 0} (P : A → Type 0) (Q : B → Type 0) (r : Checked A) (f : A → Checked B) → IfOk r P → ((x : A) → P x → IfOk (f x) Q) → IfOk (r >>= f) Q
after-ok P Q (Ok x) f h k = k x h
after-ok P Q (Err e) f h k = tt

-- a check before a second step
pub after-check : {B : Type 0} (Q : B → Type 0) (c : Checked (Unit {0})) (r : Checked B) → IfOk r Q → IfOk (c >> r) Q
after-check Q (Ok x) r h = h
after-check Q (Err e) r h = tt

-- ---- worlds that are tried in order

pub some-follow : (v : World) (ws : List World) → AllByRecursion (Follows v) ws → EachFollows v (some ws)
some-follow v [] h = tt
some-follow v (w ∷ ws) h = h

-- the world that goes on under the unifier of two terms follows, where there is one
pub unified-follows : (t : Turn) (x y : Term) → Valid t.world → Below t.world.next x → Below t.world.next y → ItemsFit t.world.next (t.world.stamp + 1) t.rest → AllByRecursion (Follows t.world) (unified t x y)
unified-follows t x y v hx hy rest = go (mgu t.world.subst x y) (mgu-unifies t.world.next t.world.subst x y hx hy v.bindings v.is_subst)
  where
    go : (o : Option Subst) → IfSome o (Unifies t.world.next) → AllByRecursion (Follows t.world) (elim o [ None ↦ [] | Some u ↦ world_under u (going t t.rest) ∷ [] ])
    go None h = tt
    go (Some u) h = (record { valid = under-valid u (going t t.rest) h (going-follows t t.rest v rest).valid; stamp = refl; next = omega arith }, tt)

-- ---- control goals

pub arg-below : (n k : ℕ) (ts : Terms) → AllBelow n ts → Below n (arg k ts)
arg-below n k NoMore h = tt
arg-below n zero (More t ts) h = h.0
arg-below n (suc k) (More t ts) h = arg-below n k ts h.1

pub term_of-below : (n : ℕ) (f : Name) (ts : Terms) → AllBelow n ts → Below n (term_of f ts)
term_of-below n f NoMore h = tt
term_of-below n f (More t ts) h = h

behind-below : (n : ℕ) (ts : Terms) → AllBelow n ts → AllBelow n (behind_first ts)
behind-below n NoMore h = tt
behind-below n (More t ts) h = h.1

joined-below : (n : ℕ) (ts us : Terms) → AllBelow n ts → AllBelow n us → AllBelow n (joined ts us)
joined-below n NoMore us a b = b
joined-below n (More t ts) us a b = (a.0, joined-below n ts us a.1 b)

with_args-below : (n : ℕ) (g : Term) (us : Terms) → Below n g → AllBelow n us → Below n (with_args g us)
with_args-below n (Var v) us a b = a
with_args-below n (Int z) us a b = tt
with_args-below n (Atom f) us a b = term_of-below n f us b
with_args-below n (Comp f ts) us a b = joined-below n ts us a b

-- items that fit the world one step on
abbrev Fits : Turn → List Item → Type 0
Fits t = ItemsFit t.world.next (t.world.stamp + 1)

if_then-fit : (t : Turn) (b : ℕ) (x g : Term) → b ≤ t.world.stamp → Below t.world.next x → Below t.world.next g → Fits t t.rest → Fits t (if_then t b x g)
if_then-fit t b x g le x' g' rest = ((x', omega arith), (omega arith, ((g', omega arith), rest)))

first_of-fit : (t : Turn) (b : ℕ) (g : Term) → b ≤ t.world.stamp → Below t.world.next g → Fits t t.rest → Fits t (first_of t b g)
first_of-fit t b (Var v) le g' rest = ((g', omega arith), rest)
first_of-fit t b (Int z) le g' rest = ((g', omega arith), rest)
first_of-fit t b (Atom a) le g' rest = ((g', omega arith), rest)
first_of-fit t b (Comp f NoMore) le g' rest = ((g', omega arith), rest)
first_of-fit t b (Comp f (More x NoMore)) le g' rest = ((g', omega arith), rest)
first_of-fit t b (Comp f (More x (More y NoMore))) le g' rest = go (names_eq f (codes "->"))
  where
    go : (b' : Bool) → Fits t (elim (if◌then◌else◌ {A = Option (Term × Term)} b' (Some (x, y)) None) [ None ↦ Goal (Comp f (More x (More y NoMore))) b ∷ t.rest | Some p ↦ if_then t b p.0 p.1 ])
    go true = if_then-fit t b x y le g'.0 g'.1.0 rest
    go false = ((g', omega arith), rest)
first_of-fit t b (Comp f (More x (More y (More z ts)))) le g' rest = ((g', omega arith), rest)

-- what a goal that is called gives
called-follows : (t : Turn) (g : Term) → Valid t.world → Below t.world.next g → Fits t t.rest → IfOk (called t g) (EachFollows t.world)
called-follows t g v fit rest = after-ok (Below t.world.next) (EachFollows t.world) (enter g) _ (enter-below t.world.next g fit) (λ g' h. (going-follows t (Goal g' (t.world.stamp + 1) ∷ t.rest) v ((h, omega arith), rest), tt))

called_with-follows : (t : Turn) (g : Term) (us : Terms) → Valid t.world → Below t.world.next g → AllBelow t.world.next us → Fits t t.rest → IfOk (called_with t g us) (EachFollows t.world)
called_with-follows t g us v fit more rest =
    after-check (EachFollows t.world) (bound g) _ (after-check (EachFollows t.world) (callable g) _ (after-check (EachFollows t.world) (arity_fits (count_of (args_of g) + count_of us)) _ (called-follows t (with_args g us) v (with_args-below t.world.next g us fit more) rest)))

-- the worlds in which a term is a number follow
numbered-follow : (t : Turn) (b : ℕ) (f : Name) (l h : ℤ) (x : Term) → Valid t.world → b ≤ t.world.stamp → Below t.world.next x → Fits t t.rest → AllByRecursion (Follows t.world) (numbered t b f l h x)
numbered-follow t b f l h x v le fit rest = go (int_lt h l) (int_eq l h)
  where
    first : AllByRecursion (Follows t.world) (unified t x (Int l))
    first = unified-follows t x (Int l) v fit tt rest

    second : Follows t.world (from_next t b f l h x)
    second = going-follows t (Goal (Comp f (More (Int (l +ℤ pos 1)) (More (Int h) (More x NoMore)))) b ∷ t.rest) v (((tt, (tt, (fit, tt))), omega arith), rest)

    go : (c d : Bool) → AllByRecursion (Follows t.world) (if c then [] else if d then unified t x (Int l) else unified t x (Int l) ++ from_next t b f l h x ∷ [])
    go true d = tt
    go false true = first
    go false false = all-append (Follows t.world) (unified t x (Int l)) (from_next t b f l h x ∷ []) first (second, tt)

counted-follows : (t : Turn) (b : ℕ) (f : Name) (l h : ℤ) (x : Term) → Valid t.world → b ≤ t.world.stamp → Below t.world.next x → Fits t t.rest → IfOk (counted t b f l h x) (EachFollows t.world)
counted-follows t b f l h (Var x) v le fit rest = some-follow t.world (numbered t b f l h (Var x)) (numbered-follow t b f l h (Var x) v le fit rest)
counted-follows t b f l h (Int x) v le fit rest = go (int_le l x && int_le x h)
  where
    go : (c : Bool) → EachFollows t.world (if c then one (going t t.rest) else Dead Failed)
    go true = (going-follows t t.rest v rest, tt)
    go false = tt
counted-follows t b f l h (Atom a) v le fit rest = tt
counted-follows t b f l h (Comp a ts) v le fit rest = tt

between-follows : (t : Turn) (b : ℕ) (f : Name) (ts : Terms) → Valid t.world → b ≤ t.world.stamp → AllBelow t.world.next ts → Fits t t.rest → IfOk (between_of t b f ts) (EachFollows t.world)
between-follows t b f ts v le fit rest =
    after-ok (λ l. Unit {0}) (EachFollows t.world) (integer_given (arg 0 ts)) _ (always (integer_given (arg 0 ts))) (λ l u. after-ok (λ h. Unit {0}) (EachFollows t.world) (integer_given (arg 1 ts)) _ (always (integer_given (arg 1 ts))) (λ h u'. counted-follows t b f l h (arg 2 ts) v le (arg-below t.world.next 2 ts fit) rest))
  where
    always : (r : Checked ℤ) → IfOk r (λ z. Unit {0})
    always (Ok z) = tt
    always (Err e) = tt

-- a control goal, whose arguments have variables below the next one
pub control-follows : (t : Turn) (b : ℕ) (k : ControlGoal) (f : Name) (ts : Terms) → Valid t.world → b ≤ t.world.stamp → AllBelow t.world.next ts → ItemsFit t.world.next t.world.stamp t.rest → IfOk (control t b k f ts) (EachFollows t.world)
control-follows t b k f ts v le fit now = go k
  where
    rest : Fits t t.rest
    rest = items-later t.world.next t.world.stamp t.rest now

    to : (items : List Item) → Fits t items → Follows t.world (going t items)
    to items h = going-follows t items v h

    below : (n : ℕ) → Below t.world.next (arg n ts)
    below n = arg-below t.world.next n ts fit

    argument : (n : ℕ) → ItemFits t.world.next (t.world.stamp + 1) (Goal (arg n ts) b)
    argument n = (below n, omega arith)

    entered : (k : Term → Checked Gives) → ((g : Term) → Below t.world.next g → IfOk (k g) (EachFollows t.world)) → IfOk (enter (arg 0 ts) >>= k) (EachFollows t.world)
    entered k h = after-ok (Below t.world.next) (EachFollows t.world) (enter (arg 0 ts)) k (enter-below t.world.next (arg 0 ts) (below 0)) h

    denied : IfOk (not_provable t b (arg 0 ts)) (EachFollows t.world)
    denied = entered _ (λ g h. (to (if_then t b g (atom "fail")) (if_then-fit t b g (atom "fail") le h tt rest), (to t.rest rest, tt)))

    call : (o : Bool) → IfOk (if o then called t (arg 0 ts) else called_with t (arg 0 ts) (behind_first ts)) (EachFollows t.world)
    call true = called-follows t (arg 0 ts) v (below 0) rest
    call false = called_with-follows t (arg 0 ts) (behind_first ts) v (below 0) (behind-below t.world.next ts fit) rest

    call_once : IfOk (called_once t (arg 0 ts)) (EachFollows t.world)
    call_once = entered _ (λ g h. (to (Goal g (t.world.stamp + 1) ∷ Commit t.world.stamp ∷ t.rest) ((h, omega arith), (omega arith, rest)), tt))

    go : (k : ControlGoal) → IfOk (control t b k f ts) (EachFollows t.world)
    go c.True = (to t.rest rest, tt)
    go c.Fail = tt
    go c.Conjunction = (to (Goal (arg 0 ts) b ∷ Goal (arg 1 ts) b ∷ t.rest) (argument 0, (argument 1, rest)), tt)
    go c.Cut = to t.rest rest
    go c.Disjunction = (to (first_of t b (arg 0 ts)) (first_of-fit t b (arg 0 ts) le (below 0) rest), (to (Goal (arg 1 ts) b ∷ t.rest) (argument 1, rest), tt))
    go c.IfThen = (to (if_then t b (arg 0 ts) (arg 1 ts)) (if_then-fit t b (arg 0 ts) (arg 1 ts) le (below 0) (below 1) rest), tt)
    go c.NotProvable = denied
    go c.Call = call (nat_eq (count_of ts) 1)
    go c.Once = call_once
    go c.Repeat = (to t.rest rest, (to (Goal (term_of f ts) b ∷ t.rest) ((term_of-below t.world.next f ts fit, omega arith), rest), tt))
    go c.Between = between-follows t b f ts v le fit rest

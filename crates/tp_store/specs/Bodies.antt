-- Bodies of goals: what is left to do, and what that makes.
use Rattle.std.specs.Prelude.{◌≡◌, ℕ, suc, ◌+◌, ◌<◌, Bool, true, false, nat_eq, ◌&&◌, ◌||◌}
use Rattle.std.specs.Prelude.{if◌then◌else◌, List, [], ◌∷◌, length, map, Option, Some, None}
use Rattle.std.specs.Prelude.{option_map, IfSome}
use Rattle.tp_terms.specs.declared.cells.AtomId.{AtomId}
use Rattle.tp_terms.specs.declared.cells.Cell.{Cell}
use Rattle.tp_terms.specs.declared.cells.Cell.TheVariants as cell
use Rattle.tp_terms.specs.declared.cells.Ref.{Ref}
use Rattle.tp_terms.specs.declared.symbols.TheConstants.{CONJUNCTION, DISJUNCTION, IF_THEN, CALL}
use Rattle.tp_terms.specs.Names.{IsTable}
use Rattle.tp_terms.specs.Shown.{name_at, AreNamed}
use Rattle.tp_terms.specs.Term.{Name, Term, Var, Comp, NoMore, More, term_size}
use Rattle.tp_meaning.specs.Body.{body, joins_goals}
use Rattle.tp_store.specs.declared.body.Form.{Form}
use Rattle.tp_store.specs.declared.body.Form.TheVariants.{Integer, Variable, Pair, Plain}
use Rattle.tp_store.specs.declared.body.Job.{Job}
use Rattle.tp_store.specs.declared.body.Job.TheVariants.{Convert, Join}
use Rattle.tp_store.specs.Contents.{Contents, AddsCells, seen}
use Rattle.tp_store.specs.Work.{AreIn}

-- the atoms of control goals that are made of two goals
abbrev pub joins : AtomId → Bool
joins name =
    (nat_eq name.at CONJUNCTION.at || nat_eq name.at DISJUNCTION.at) || nat_eq name.at IF_THEN.at

-- what a compound is as a goal
abbrev pub compound_form : AtomId → Ref → ℕ → Form
compound_form name first count = if nat_eq count 2 && joins name then Pair name first else Plain

-- what a cell is as a goal
abbrev pub form_of : Cell → Form
form_of (cell.Var v) = Variable
form_of (cell.Int value) = Integer
form_of (cell.Atom name) = Plain
form_of (cell.Comp name first count) = compound_form name first count

-- Whether memory may be taken to find a term's body: a variable is called, and of two goals that
-- are joined both bodies are found.
abbrev pub asks_memory : Term → Bool
asks_memory (Var v) = true
asks_memory (Comp f (More a (More b NoMore))) = joins_goals f
asks_memory t = false

-- the compound of a name and two terms
abbrev pub pair_of : Name → Term → Term → Term
pair_of f a b = Comp f (More a (More b NoMore))

-- The place that was found shows the body of a goal, and none was found where it has none. Names
-- are compared by their places, so this holds under each table of names that has every atom of the
-- cells.
abbrev pub FindsBody : Contents → Contents → Ref → Option Ref → Type 0
FindsBody old new goal found =
    (names : List Name) → IsTable names → AreNamed (length names) old.cells →
    option_map (λ at. seen names new at.at) found ≡ body (seen names old goal.at)

-- what was found is a place of the cells
abbrev pub IsWithin : Contents → Option Ref → Type 0
IsWithin c found = IfSome found (λ at. at.at < length c.cells)

-- a table of names that has an atom and every atom of the old cells has every atom of the new ones
abbrev pub KeepsNames : AtomId → Contents → Contents → Type 0
KeepsNames name old new = (n : ℕ) → name.at < n → AreNamed n old.cells → AreNamed n new.cells

-- a place shows a call of what another shows
abbrev pub ShowsCall : Contents → Contents → Ref → Ref → Type 0
ShowsCall old new place at =
    (names : List Name) →
    seen names new at.at ≡ Comp (name_at names CALL.at) (More (seen names old place.at) NoMore)

-- a place shows two goals, joined by a name
abbrev pub ShowsPair : Contents → Contents → AtomId → Ref → Ref → Ref → Type 0
ShowsPair old new name left right at =
    (names : List Name) →
    seen names new at.at ≡ pair_of (name_at names name.at) (seen names old left.at)
    (seen names old right.at)

-- a goal's own place was found, and nothing was added
pub record IsOwn (old new : Contents) (goal : Ref) (found : Option Ref) : Type 0 where
  pub place : found ≡ Some goal
  pub same : new ≡ old

-- a goal that is its own body is found at its own place, and nothing was added
abbrev pub KeepsOwn : Contents → Contents → Ref → Option Ref → Type 0
KeepsOwn old new goal found =
    (names : List Name) → IsTable names → AreNamed (length names) old.cells →
    body (seen names old goal.at) ≡ Some (seen names old goal.at) → IsOwn old new goal found

-- want of memory comes only where memory may be taken to find the goal's body
abbrev pub AsksMemory : Contents → Ref → Type 0
AsksMemory c goal = (names : List Name) → IsTable names → AreNamed (length names) c.cells →
    asks_memory (seen names c goal.at) ≡ true

-- a place shows, under the bindings, the compound of what these two places show
pub record IsPair (c : Contents) (at : ℕ) (name : AtomId) (left right : ℕ) : Type 0 where
  pub within : at < length c.cells
  pub first : left < length c.cells
  pub second : right < length c.cells
  pub joined : (names : List Name) →
      seen names c at ≡ pair_of (name_at names name.at) (seen names c left) (seen names c right)

-- a term handed on, where there is one
abbrev pub onward : Option Term → (Term → Option (List Term)) → Option (List Term)
onward None f = None
onward (Some t) f = f t

-- What jobs make behind the bodies that are made already, the newest of both first, and none where
-- a goal has no body. Two goals are joined from the two newest bodies, the second goal's being the
-- newest.
abbrev pub bodies_by : List Name → Contents → List Job → List Term → Option (List Term)
bodies_by names c [] ts = Some ts
bodies_by names c (Convert at ∷ jobs) ts =
    onward (body (seen names c at.at)) (λ t. bodies_by names c jobs (t ∷ ts))
bodies_by names c (Join at name left right ∷ jobs) [] = None
bodies_by names c (Join at name left right ∷ jobs) (b ∷ []) = None
bodies_by names c (Join at name left right ∷ jobs) (b ∷ a ∷ ts) =
    bodies_by names c jobs (pair_of (name_at names name.at) a b ∷ ts)

-- the terms of places, under the bindings
abbrev pub seen_each : List Name → Contents → List Ref → List Term
seen_each names c rs = map (λ r. seen names c r.at) rs

-- the jobs can be done with so many bodies made, and one body is left
abbrev pub AreJobs : Contents → List Job → ℕ → Type 0
AreJobs c [] made = made ≡ 1
AreJobs c (Convert at ∷ jobs) made = (at.at < length c.cells) × AreJobs c jobs (suc made)
AreJobs c (Join at name left right ∷ jobs) made = IsPair c at.at name left.at right.at ×
    ((rest : ℕ) × (made ≡ suc (suc rest)) × AreJobs c jobs (suc rest))

-- the names of compounds that are to be made are among so many
abbrev pub AreJobsNamed : ℕ → List Job → Type 0
AreJobsNamed n [] = Unit {0}
AreJobsNamed n (Convert at ∷ jobs) = AreJobsNamed n jobs
AreJobsNamed n (Join at name left right ∷ jobs) = (name.at < n) × AreJobsNamed n jobs

-- Each goal of the jobs is its own body, and when two are joined, the newest bodies are the goals'
-- own places: then the root's own place is left.
abbrev pub AreOwn : List Name → Contents → Ref → List Job → List Ref → Type 0
AreOwn names c root [] made = made ≡ root ∷ []
AreOwn names c root (Convert at ∷ jobs) made =
    (body (seen names c at.at) ≡ Some (seen names c at.at)) × AreOwn names c root jobs (at ∷ made)
AreOwn names c root (Join at name left right ∷ jobs) made =
    (rest : List Ref) × (made ≡ right ∷ left ∷ rest) × AreOwn names c root jobs (at ∷ rest)

-- how much is left to do
abbrev pub jobs_size : Contents → List Job → ℕ
jobs_size c [] = 0
jobs_size c (Convert at ∷ jobs) =
    term_size (seen [] c at.at) + term_size (seen [] c at.at) + jobs_size c jobs
jobs_size c (Join at name left right ∷ jobs) = 1 + jobs_size c jobs

-- from some jobs and bodies on others were come to, which make the same
pub record Goes (c : Contents) (jobs : List Job) (made : List Ref) (c' : Contents)
    (jobs' : List Job) (made' : List Ref) : Type 0 where
  pub adds : AddsCells c c'
  pub can : AreJobs c' jobs' (length made')
  pub within : AreIn c'.cells made'
  pub named : (n : ℕ) → CALL.at < n → AreNamed n c.cells → AreJobsNamed n jobs →
      AreNamed n c'.cells × AreJobsNamed n jobs'
  pub same : (names : List Name) → IsTable names → AreNamed (length names) c.cells →
      AreJobsNamed (length names) jobs →
      bodies_by names c' jobs' (seen_each names c' made') ≡ bodies_by names c jobs
      (seen_each names c made)
  pub own : (names : List Name) → IsTable names → AreNamed (length names) c.cells → (root : Ref) →
      AreOwn names c root jobs made → (c' ≡ c) × AreOwn names c' root jobs' made'

-- a goal was looked at: it has no body, or less is left to do
abbrev pub Looked : Bool → Contents → Ref → List Job → List Ref → Contents → List Job → List Ref →
    Type 0
Looked false c at jobs made c' jobs' made' = (names : List Name) → IsTable names →
    AreNamed (length names) c.cells → body (seen names c at.at) ≡ None
Looked true c at jobs made c' jobs' made' = Goes c (Convert at ∷ jobs) made c' jobs' made' ×
    (jobs_size c' jobs' < jobs_size c (Convert at ∷ jobs))

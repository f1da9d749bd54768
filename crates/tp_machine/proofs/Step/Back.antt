-- On with a clause, after going back.
use Rattle.std.proofs.Common.{◌≡◌, ℕ, true, length, IfSome, ◌+◌, ◌<◌, List, ◌∷◌, drop, Some, None, refl, ap, sym, subst, ◌∙◌}
use Rattle.tp_terms.specs.declared.cells.Ref.{Ref}
use Rattle.tp_terms.specs.Term.{Name, Terms, NoMore, More, term_of, count_of}
use Rattle.tp_terms.specs.Shown.{name_at}
use Rattle.tp_meaning.specs.Goals.{goal_kind}
use Rattle.tp_meaning.specs.Clauses.{predicate}
use Rattle.tp_meaning.specs.Valid.{Valid}
use Rattle.tp_store.specs.Contents.{seen, args_seen}
use Rattle.tp_store.proofs.Standing.Facts.{count-seen}
use Rattle.tp_clauses.specs.Contents.{base_of}
use Rattle.tp_control.specs.declared.frames.Item.{Item}
use Rattle.tp_control.specs.declared.frames.Item.TheVariants.{Goal}
use Rattle.tp_control.specs.declared.choices.Alt.TheVariants as alt
use Rattle.tp_machine.specs.declared.machine.Machine.{Machine}
use Rattle.tp_state.specs.declared.state.State.{State}
use Rattle.tp_machine.specs.declared.task.Task.{Task}
use Rattle.tp_machine.specs.declared.task.Call.{Call}
use Rattle.tp_control.specs.declared.choices.Choice.{Choice}
use Rattle.tp_state.specs.State.{plain_of}
use Rattle.tp_state.specs.Plain.{Plain, world_of}
use Rattle.tp_state.specs.Stands.{PlainStands}
use Rattle.tp_machine.specs.Untried.{untried}
use Rattle.tp_control.specs.Lists.{items_at}
use Rattle.tp_machine.specs.Heads.{hits}
use Rattle.tp_machine.specs.Machine.{IsHit, Resumes, base_in, world_in}
use Rattle.tp_machine.specs.Meets.{Calls, Hits, HasCurrent, IsCall, Meets, clauses_of}
use Rattle.tp_machine.specs.Goes.{IsKept, Enters, Returns, untried_in}
use Rattle.tp_machine.proofs.Step.First.{standing}
use Rattle.tp_machine.proofs.Step.Parts.{resumes}

-- a goal's name and arguments are its own
pub name-same : (f g : Name) (ts us : Terms) → term_of f ts ≡ term_of g us → f ≡ g
name-same f g NoMore NoMore e = cc
name-same f g NoMore (More u us) e = absurd (cc)
name-same f g (More t ts) NoMore e = absurd (cc)
name-same f g (More t ts) (More u us) e = cc

pub args-same : (f g : Name) (ts us : Terms) → term_of f ts ≡ term_of g us → ts ≡ us
args-same f g NoMore NoMore e = refl
args-same f g NoMore (More u us) e = absurd (cc)
args-same f g (More t ts) NoMore e = absurd (cc)
args-same f g (More t ts) (More u us) e = cc

module _ (m : Machine) (place : ℕ) (back : Returns m (alt.Clause place)) (t : Task) (c : Call) (at : HasCurrent m t c) where
  hit : IsHit m.atoms (base_in m) (plain_of m.state) place
  hit = back.goes_on

  goal-same : hit.goal ≡ t.goal
  goal-same = first hit.goal t.goal hit.barrier t.barrier hit.rest (items_at m.state.frames t.rest) (sym hit.list ∙ at.list)
    where
      first : (a b : Ref) (x y : ℕ) (xs ys : List Item) → Goal a x ∷ xs ≡ Goal b y ∷ ys → a ≡ b
      first a b x y xs ys e = cc

  same : term_of hit.name hit.args ≡ term_of (name_at m.atoms c.name.at) (args_seen m.atoms m.state.store c.first.at c.count)
  same = sym hit.is ∙ ap (λ (r : Ref). seen m.atoms m.state.store r.at) goal-same ∙ at.call.is

  named : hit.name ≡ name_at m.atoms c.name.at
  named = name-same hit.name (name_at m.atoms c.name.at) hit.args (args_seen m.atoms m.state.store c.first.at c.count) same

  counted : count_of hit.args ≡ c.count
  counted = ap count_of (args-same hit.name (name_at m.atoms c.name.at) hit.args (args_seen m.atoms m.state.store c.first.at c.count) same) ∙ count-seen m.atoms m.state.store c.first.at c.count

  pub calls_back : Calls m t c None
  calls_back = record {
    meets = record { standing = standing m back.machine; running = at.running; few = back.few; list = at.list; stands = at.goal; rest = at.rest };
    call = at.call;
    kind = ap (λ f. goal_kind f c.count) (sym named) ∙ ap (goal_kind hit.name) (sym counted) ∙ hit.kind;
  }

  pub hits_back : Hits m t c place
  hits_back = record {
    calls = calls_back;
    clause = hit.clause;
    more = hit.more;
    here = ap (λ f. drop place (predicate (base_in m) f c.count)) (sym named) ∙ ap (λ n. drop place (predicate (base_in m) hit.name n)) (sym counted) ∙ hit.here;
    hit = ap (λ (r : Ref). hits m.atoms m.state.store r.at hit.clause) (sym goal-same) ∙ hit.hit;
  }

-- what was kept doesn't change what is entered
module _ (m mid : Machine) (next : _) (k : IsKept m next mid) where
  plain-same : plain_of mid.state ≡ plain_of m.state
  plain-same = ap (λ (x : Machine). plain_of x.state) k.same

  pub untried-same : (n : _) → untried_in mid n ≡ untried_in m n
  untried-same n =
      ap (λ (x : Machine). untried (base_of x.atoms x.base.now) (world_of x.atoms (plain_of x.state) x.stamp) n) k.same

  -- the running process meets the same goal
  pub meets_kept : (t : Task) → Meets m t → Meets mid t
  meets_kept t f = subst (λ (x : Machine). Meets x t) (sym k.same) (at_state m.state mid.choices refl)
    where
      at_state : (s : State) (cs : List Choice) → plain_of s ≡ plain_of m.state → Meets (record m { state = s; choices = cs }) t
      at_state s cs e = record {
        standing = record {
          program = record { table = f.standing.program.table; base = f.standing.program.base; named = f.standing.program.named; goal = f.standing.program.goal };
          stands = subst (PlainStands m.atoms) (sym e) f.standing.stands;
          valid = subst (λ (p : Plain). Valid (world_of m.atoms p m.stamp)) (sym e) f.standing.valid;
        };
        running = ap (λ (p : Plain). p.running) e ∙ f.running;
        few = f.few;
        list = subst (λ (p : Plain). items_at p.frames p.items ≡ Goal t.goal t.barrier ∷ items_at p.frames t.rest) (sym e) f.list;
        stands = subst (λ (p : Plain). t.goal.at < length p.store.cells) (sym e) f.stands;
        rest = subst (λ (p : Plain). IfSome t.rest (λ i. i.at < length p.frames)) (sym e) f.rest;
      }

  pub hits_kept : (t : Task) (c : Call) (place : ℕ) → Hits m t c place → Hits mid t c place
  hits_kept t c place h = record {
    calls = record {
      meets = meets_kept t h.calls.meets;
      call = subst (λ (x : Machine). IsCall x.atoms x.state.store t.goal c) (sym k.same) h.calls.call;
      kind = subst (λ (x : Machine). goal_kind (name_at x.atoms c.name.at) c.count ≡ None) (sym k.same) h.calls.kind;
    };
    clause = h.clause;
    more = h.more;
    here = subst (λ (x : Machine). drop place (clauses_of x c) ≡ h.clause ∷ h.more) (sym k.same) h.here;
    hit = subst (λ (x : Machine). hits x.atoms x.state.store t.goal.at h.clause ≡ true) (sym k.same) h.hit;
  }

pub resumes_clause : (m mid new : Machine) (place : ℕ) → Returns m (alt.Clause place) → IsKept m (alt.Clause (place + 1)) mid → Enters mid place new → Resumes (record m { waiting = Some (alt.Clause place) }) new
resumes_clause m mid new place back k e =
    resumes m mid new (alt.Clause place) (untried_in m (alt.Clause (place + 1))) back k e.goes
    (sym (untried-same m mid (alt.Clause (place + 1)) k (alt.Clause place)) ∙ e.world ∙ ap (λ ws. world_in new ∷ ws) (untried-same m mid (alt.Clause (place + 1)) k (alt.Clause (place + 1))))

-- Times that goals give, on a machine whose store grew.
use Rattle.std.proofs.Common.{◌≡◌, ℕ, ◌<◌, Bool, true, false, nat_lt, if◌then◌else◌, length, Option, Ok, Err, ℤ, pos, negsuc, int_le, int_lt, refl, ap, sym, subst, ◌∙◌, arith}
use Rattle.std.specs.Prelude.{FitsSigned, OnErr, Result, ◌+ℤ◌}
use Rattle.std.specs.Int.{w64}
use Rattle.std.proofs.lemmas.Bool.{le-leb}
use Rattle.std.proofs.lemmas.Bool.Decides.{nat_tests}
use Rattle.tp_terms.specs.Term.{Term, Int}
use Rattle.tp_terms.specs.declared.cells.Ref.{Ref}
use Rattle.tp_terms.specs.Names.{Grows}
use Rattle.tp_terms.specs.Shown.{shows}
use Rattle.tp_terms.proofs.Naming.Tables.{Grows-same}
use Rattle.tp_meaning.specs.declared.goals.GoalKind.{GoalKind}
use Rattle.tp_meaning.specs.Arith.{evaluated, greatest, value}
use Rattle.tp_meaning.specs.Checks.{◌>>◌, ◌if◌}
use Rattle.tp_meaning.proofs.Unification.Applied.{apply-twice}
use Rattle.tp_store.specs.Contents.{seen, subst_of}
use Rattle.tp_store.proofs.Standing.Facts.{IsSubst-store}
use Rattle.tp_machine.specs.declared.errors.Cause.TheVariants.{OutOfDomain, Kind}
use Rattle.tp_machine.specs.declared.errors.Domain.{Domain}
use Rattle.tp_machine.specs.declared.values.Given.{Given}
use Rattle.tp_machine.specs.declared.values.Given.TheVariants.{Time, Refused}
use Rattle.tp_machine.specs.declared.machine.Machine.{Machine}
use Rattle.tp_machine.specs.declared.task.Task.{Task}
use Rattle.tp_machine.specs.declared.task.Call.{Call}
use Rattle.tp_machine.specs.BuiltIns.{Grew}
use Rattle.tp_machine.specs.Causes.{domain_word, wrong_domain}
use Rattle.tp_machine.specs.Enters.{Rests}
use Rattle.tp_machine.specs.Machine.{IsMachine, SameProgram}
use Rattle.tp_machine.specs.Meets.{Calls}
use Rattle.tp_machine.specs.Times.{IsTime, in_domain, timely}
use Rattle.tp_machine.proofs.Grows.Grown.{calls_still, rests, seen_still}

-- ---- cells were added to the machine's store

module _ (old new : Machine) (is : IsMachine old) (g : Grew old new) where
  -- it stands where it stood
  pub grew_rests : Rests old new
  grew_rests = subst (Rests old) (sym g.same) (rests old new.state.store is g.adds g.keeps g.store g.named)

  pub grew_program : SameProgram old new
  grew_program = record {
    base = ap (λ (q : Machine). q.base.now) g.same;
    goal = ap (λ (q : Machine). q.goal.now) g.same;
    names = subst (λ (q : Machine). Grows old.atoms q.atoms) (sym g.same) (Grows-same old.atoms);
  }

  -- the running process stands at the same goal
  pub grew_calls : (t : Task) (c : Call) (k : Option GoalKind) → Calls old t c k → Calls new t c k
  grew_calls t c k h = subst (λ (q : Machine). Calls q t c k) (sym g.same) (calls_still old new.state.store is g.adds g.keeps g.store g.named t c k h)

  -- what was there is seen as before
  pub grew_seen : (at : ℕ) → at < length old.state.store.cells → seen new.atoms new.state.store at ≡ seen old.atoms old.state.store at
  grew_seen at lt = ap (λ (q : Machine). seen q.atoms new.state.store at) g.same ∙ seen_still old new.state.store is g.adds g.keeps g.store g.named at lt

  -- the value of a place's term is that of the term under the bindings
  pub grew_value : (at : ℕ) → at < length old.state.store.cells → value (subst_of new.atoms new.state.store) (seen new.atoms new.state.store at) ≡ evaluated (seen old.atoms old.state.store at)
  grew_value at lt =
      ap evaluated (apply-twice (subst_of new.atoms new.state.store) (shows new.atoms new.state.store.cells at) (IsSubst-store new.atoms new.state.store g.store).idem)
      ∙ ap evaluated (grew_seen at lt)

-- what holds anyway holds on an error
pub on_err : {A E : Type 0} (P : Type 0) → P → (r : Result A E) → OnErr r P
on_err P p (Ok x) = tt
on_err P p (Err e) = p

-- numbers that were read back
pub same_timely : (domain : Domain) (time time' least least' : ℤ) (r : Given) → time' ≡ time → least' ≡ least → r ≡ timely domain time' least' → r ≡ timely domain time least
same_timely domain time time' least least' r e f h = h ∙ ap (λ z. timely domain z least') e ∙ ap (timely domain time) f

pub same_sum : (a a' b b' : ℤ) → a' ≡ a → b' ≡ b → a' +ℤ b' ≡ a +ℤ b
same_sum a a' b b' e f = ap (λ z. z +ℤ b') e ∙ ap (λ z. a +ℤ z) f

-- ---- a time in its domain

module _ (m : Machine) (x : Term) (domain : Domain) (least : ℤ) where
  pub time_is : (time : ℤ) → evaluated x ≡ Ok time → IsTime m x domain least (timely domain time least)
  time_is time e = go (int_lt time least) refl
    where
      go : (b : Bool) → int_lt time least ≡ b → IsTime m x domain least (if b then Refused (OutOfDomain domain time) else Time time)
      go true f = (tt, tt, ap (in_domain domain least) e ∙ ap (λ b. (wrong_domain (domain_word domain) (Int time) if b) >> Ok time) f)
      go false f = (e, f)

  pub none_is : (kind : Ref) → (kind.at < length m.state.store.cells) × (evaluated x ≡ Err (seen m.atoms m.state.store kind.at)) → IsTime m x domain least (Refused (Kind kind))
  none_is kind h = (h.0, tt, ap (in_domain domain least) h.1)

-- ---- numbers from 0

pub from_zero : (d : ℤ) → int_lt d (pos 0) ≡ false → int_le (pos 0) d ≡ true
from_zero (pos n) e = le-leb 0 n (omega arith)
from_zero (negsuc n) e = absurd (cc)

-- a number past 64 bits
pub past_bits : (n : ℕ) → ¬ (FitsSigned w64 (pos n)) → int_lt greatest (pos n) ≡ true
past_bits n f = go (nat_lt 9223372036854775807 n) refl
  where
    go : (b : Bool) → nat_lt 9223372036854775807 n ≡ b → nat_lt 9223372036854775807 n ≡ true
    go true e = e
    go false e = absurd (f (record { sfits = let l : n < 9223372036854775808 = grind (arith, nat_tests) in l }))

-- and one within
pub within_bits : (z : ℤ) → FitsSigned w64 z → int_lt greatest z ≡ false
within_bits (pos n) f = let l : nat_lt 9223372036854775807 n ≡ false = grind (arith, nat_tests) in l
within_bits (negsuc n) f = refl

-- Times that goals give.
use Rattle.std.specs.Prelude.{◌≡◌, false, true, if◌then◌else◌, Some, Ok, ℤ, pos, int_le, int_lt}
use Rattle.tp_terms.specs.Term.{Term, Int}
use Rattle.tp_meaning.specs.declared.goals.GoalKind.TheVariants.{Process}
use Rattle.tp_meaning.specs.declared.goals.ProcessGoal.TheVariants.{Hold}
use Rattle.tp_meaning.specs.Arith.{evaluated, value}
use Rattle.tp_meaning.specs.Checks.{Checked, ◌>>=◌, ◌>>◌, ◌if◌}
use Rattle.tp_store.specs.Contents.{seen, subst_of}
use Rattle.tp_machine.specs.declared.errors.Cause.TheVariants.{OutOfDomain}
use Rattle.tp_machine.specs.declared.errors.Domain.{Domain}
use Rattle.tp_machine.specs.declared.values.Given.{Given}
use Rattle.tp_machine.specs.declared.values.Given.TheVariants.{Time, Refused}
use Rattle.tp_machine.specs.declared.machine.Machine.{Machine}
use Rattle.tp_machine.specs.declared.task.Task.{Task}
use Rattle.tp_machine.specs.declared.task.Call.{Call}
use Rattle.tp_machine.specs.Causes.{domain_word, wrong_domain}
use Rattle.tp_machine.specs.Meets.{Calls, Fails, IsCause, Meets}

-- a time, where it is no less than the least of its domain
abbrev pub timely : Domain → ℤ → ℤ → Given
timely domain time least =
    if int_lt time least then Refused (OutOfDomain domain time) else Time time

-- the same, where checks gave a time
abbrev pub in_domain : Domain → ℤ → Checked ℤ → Checked ℤ
in_domain domain least checks = do
  time ← checks
  wrong_domain (domain_word domain) (Int time) if int_lt time least
  Ok time

-- the value of a term as a time of a domain, or why there is none
abbrev pub IsTime : Machine → Term → Domain → ℤ → Given → Type 0
IsTime m x domain least (Time time) = (evaluated x ≡ Ok time) × (int_lt time least ≡ false)
IsTime m x domain least (Refused why) = Fails m (in_domain domain least (evaluated x)) why

-- ---- hold

-- the running process is to hold for so long
pub record Lasts (m : Machine) (t : Task) (c : Call) (duration : ℤ) : Type 0 where
  pub calls : Calls m t c (Some (Process Hold))
  pub lasts : value (subst_of m.atoms m.state.store) (seen m.atoms m.state.store c.first.at)
      ≡ Ok duration
  pub forward : int_le (pos 0) duration ≡ true

-- or its `hold` raises an error
abbrev pub IsDuration : Machine → Task → Call → Given → Type 0
IsDuration m t c (Time duration) = Lasts m t c duration
IsDuration m t c (Refused why) = Meets m t × IsCause m t why

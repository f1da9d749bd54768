use Rattle.std.proofs.Common.{ℕ, None, OnOk, subst}
use Rattle.tp_control.specs.declared.choices.Alt.TheVariants.{Clause}
use Rattle.tp_machine.specs.declared.machine.Machine.{Machine}
use Rattle.tp_machine.specs.declared.task.Call.{Call}
use Rattle.tp_machine.specs.Meets.{Calls}
use Rattle.tp_machine.specs.Goes.{IsKept}
use Rattle.tp_machine.specs.Trying.{AreTried}
use Rattle.tp_machine.proofs.Trying.Found.{still-clauses}
use Rattle.tp_machine.proofs.machine.Machine.keep_clauses.Goals as goal

pub next_match-requires-clause-clauses : goal.next_match-requires-clause-clauses
next_match-requires-clause-clauses c = still-clauses c.args.self.now c.args.task c.args.ids.now c.requires.tries

pub returns-clause-done : goal.returns-clause-done
returns-clause-done c =
    let ids = c.args.ids.now in
    let t = c.args.task in
    let new = c.keep_found.new.self in
    subst (λ (x : Machine). OnOk c.keep_found.result ((call : Call) (from : ℕ) → Calls x t call None → AreTried x t call from ids → IsKept x (Clause from) new)) c.in_ok-next.ensures.same c.keep_found.ensures.done

use Rattle.std.proofs.Common.{◌≡◌, [], IfSome, refl, subst}
use Rattle.tp_state.specs.declared.state.State.{State}
use Rattle.tp_terms.specs.Names.{IsTable}
use Rattle.tp_machine.proofs.Enters.Begun.{begun, start_at, start_none}
use Rattle.tp_machine.proofs.machine.Machine.start.Goals as goal

pub returns-in_default-clause-none : goal.returns-in_default-clause-none
returns-in_default-clause-none c =
    start_none c.args.atoms c.args.goal.now _ c.in_default.is (c.in_ok-state.ensures.start c.args.atoms (subst IsTable c.atoms.view_is c.atoms.invariant.0) c.requires.goal.atoms)

pub returns-clause-begun : goal.returns-clause-begun
returns-clause-begun c =
    let table = subst IsTable c.atoms.view_is c.atoms.invariant.0 in
    begun _ refl c.new.ensures (subst (λ o. IfSome o (λ (s : State). s.log ≡ [])) c.in-Some.is c.in_ok-state.ensures.log) refl
    (record { table = table; base = c.cells-cells.ensures.base; named = c.requires.base; goal = c.requires.goal })
    (start_at c.args.atoms c.args.goal.now _ c.in-Some.state c.in-Some.is (c.in_ok-state.ensures.start c.args.atoms table c.requires.goal.atoms))

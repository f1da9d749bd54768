-- Acts that change neither base nor goal.
use Rattle.std.proofs.Common.{◌≡◌, ◌∙◌}
use Rattle.tp_terms.proofs.Naming.Tables.{Grows-same, Grows-trans}
use Rattle.std.proofs.Common.{sym, subst}
use Rattle.tp_terms.specs.Names.{Grows}
use Rattle.tp_machine.specs.declared.machine.Machine.{Machine}
use Rattle.tp_machine.specs.Machine.{SameProgram}

-- base, goal and names are the same
pub same_program : (old new : Machine) → new.base.now ≡ old.base.now → new.goal.now ≡ old.goal.now → new.atoms ≡ old.atoms → SameProgram old new
same_program old new b g a = record { base = b; goal = g; names = subst (λ ns. Grows old.atoms ns) (sym a) (Grows-same old.atoms) }

-- by way of a third machine
pub same_trans : (a b c : Machine) → SameProgram a b → SameProgram b c → SameProgram a c
same_trans a b c x y = record { base = y.base ∙ x.base; goal = y.goal ∙ x.goal; names = Grows-trans a.atoms b.atoms c.atoms x.names y.names }

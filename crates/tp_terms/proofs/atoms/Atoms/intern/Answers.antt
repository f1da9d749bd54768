use Rattle.std.proofs.Common.{slice_get, ap, ◌∙◌}
use Rattle.std.proofs.lemmas.Str.{scalars-chars}
use Rattle.tp_terms.proofs.Naming.Tables.{IsTable-with_name, Grows-with_name, Grows-keeps, known_place, with_name-present}
use Rattle.tp_terms.proofs.atoms.Atoms.intern.Goals as goal

pub invariant_of-self-2 : goal.invariant_of-self-2
invariant_of-self-2 c = (rw c.in_ok-atom.ensures.names (IsTable-with_name _ _ c.self.invariant.0 (scalars-chars _ c.utf8.name)), c.find_or_add.ensures.few)

pub returns-clause-keeps : goal.returns-clause-keeps
returns-clause-keeps c = rw (c.in_ok-atom.ensures.names, c.self.view_is) (Grows-keeps _ _ (Grows-with_name _ _))

pub returns-clause-table : goal.returns-clause-table
returns-clause-table c = rw c.in_ok-atom.ensures.names (IsTable-with_name _ _ c.self.invariant.0 (scalars-chars _ c.utf8.name))

pub returns-clause-known : goal.returns-clause-known
returns-clause-known c at e =
    let there = ap (λ names. slice_get names at) c.self.view_is ∙ e in
    known_place _ _ _ c.self.invariant.0.distinct c.in_ok-atom.ensures.names _ at c.in_ok-atom.ensures.place there

pub returns-clause-stays : goal.returns-clause-stays
returns-clause-stays c at e =
    let there = ap (λ names. slice_get names at) c.self.view_is ∙ e in
    c.in_ok-atom.ensures.names ∙ with_name-present _ at _ there ∙ c.self.view_is

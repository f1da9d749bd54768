use Rattle.std.proofs.Common.{ℕ, ap, sym, ◌∙◌, refl, SFits, w64, rules}
use Rattle.std.proofs.lemmas.Int.{to_z-of_z}
use Rattle.std.proofs.lemmas.Option.{slice_get_within}
use Rattle.tp_terms.specs.Term.{Var, Int, Atom}
use Rattle.tp_terms.proofs.Naming.Tables.{name_at-slice_get}
use Rattle.tp_terms.proofs.Naming.Start.{start-place}
use Rattle.tp_terms.proofs.Naming.Constants.{start-list_cell}
use Rattle.tp_parse.specs.Numbers.{Numbers, number_of}
use Rattle.tp_parse.specs.Steps.{label_name}
use Rattle.tp_parse.proofs.Numbered.NewNames.{AddsOnly-same, names-atom, names-compound}
use Rattle.tp_parse.proofs.Numbered.Cells.{made-leaf, made-grows, made-gather}
use Rattle.tp_parse.proofs.build.take_step.Goals as goal

pub returns-in_ok-push-in-Variable-clause-made : goal.returns-in_ok-push-in-Variable-clause-made
returns-in_ok-push-in-Variable-clause-made c = λ trees h.
    rw c.in-Variable.is (made-leaf c.args.atoms.now c.args.making.now _ trees _ _ h refl c.in_ok-push-in-Variable.ensures.items
    (ap (λ (r : ℕ × Numbers). (Var r.0, r.1)) (ap (λ x. number_of x c.args.making.now.variables) (sym c.plain_name.ensures) ∙ c.in_ok-number-in-Variable.ensures)) tt tt)

pub returns-in_ok-push-in-Integer-clause-made : goal.returns-in_ok-push-in-Integer-clause-made
returns-in_ok-push-in-Integer-clause-made c = λ trees h.
    let fits : SFits w64 c.in-Integer.value = search rules in
    rw c.in-Integer.is (made-leaf c.args.atoms.now c.args.making.now _ trees _ _ h refl c.in_ok-push-in-Integer.ensures.items
    (ap (λ z. (Int z, c.args.making.now.variables)) (sym (to_z-of_z w64 c.in-Integer.value fits))) tt tt)

pub returns-in_ok-push-in-Atom-clause-made : goal.returns-in_ok-push-in-Atom-clause-made
returns-in_ok-push-in-Atom-clause-made c = λ trees h.
    let place = c.in_ok-name-in-Atom.ensures.place in
    rw c.in-Atom.is (made-leaf c.intern.new.atoms c.args.making.now _ trees _ _ (made-grows c.args.atoms.now c.intern.new.atoms c.args.making.now trees c.in_ok-name-in-Atom.ensures.grows h) refl c.in_ok-push-in-Atom.ensures.items
    (ap (λ a. (Atom a, c.args.making.now.variables)) (sym (name_at-slice_get c.intern.new.atoms c.in_ok-name-in-Atom.name.at _ place))) tt (slice_get_within c.intern.new.atoms c.in_ok-name-in-Atom.name.at _ place))

pub returns-in_ok-gather-in-Compound-clause-made : goal.returns-in_ok-gather-in-Compound-clause-made
returns-in_ok-gather-in-Compound-clause-made c = λ trees h.
    let place = c.in_ok-name-in-Compound.ensures.place in
    let ready = rw c.in-Compound.is at c.requires.ready in
    rw c.in-Compound.is (made-gather c.intern-in-Compound.new.atoms c.args.making.now c.gather.new.making trees c.in_ok-name-in-Compound.name (label_name c.args.text.now c.in-Compound.label) c.in-Compound.count
    (made-grows c.args.atoms.now c.intern-in-Compound.new.atoms c.args.making.now trees c.in_ok-name-in-Compound.ensures.grows h) c.in_ok-gather-in-Compound.ensures ready.1 ready.2 place
    (slice_get_within c.intern-in-Compound.new.atoms c.in_ok-name-in-Compound.name.at _ place))

pub returns-in_ok-push-in-Variable-clause-names : goal.returns-in_ok-push-in-Variable-clause-names
returns-in_ok-push-in-Variable-clause-names c = λ trees. AddsOnly-same _ _

pub returns-in_ok-push-in-Integer-clause-names : goal.returns-in_ok-push-in-Integer-clause-names
returns-in_ok-push-in-Integer-clause-names c = λ trees. AddsOnly-same _ _

pub returns-in_ok-push-in-Atom-clause-names : goal.returns-in_ok-push-in-Atom-clause-names
returns-in_ok-push-in-Atom-clause-names c = λ trees. rw c.in-Atom.is (names-atom c.args.text.now c.in-Atom.label trees _ _ c.in_ok-name-in-Atom.ensures.names)

pub returns-in_ok-gather-in-Compound-clause-names : goal.returns-in_ok-gather-in-Compound-clause-names
returns-in_ok-gather-in-Compound-clause-names c = λ trees. rw c.in-Compound.is (names-compound c.args.text.now c.in-Compound.label c.in-Compound.count trees _ _ c.in_ok-name-in-Compound.ensures.names)

pub returns-in_ok-link-in-List-clause-made : goal.returns-in_ok-link-in-List-clause-made
returns-in_ok-link-in-List-clause-made c = λ trees h.
    let there = start-place c.args.atoms.now c.start_atom.ensures.table _ _ start-list_cell in
    rw c.in-List.is (c.in_ok-link-in-List.ensures.made c.args.atoms.now trees (rw c.start_atom.ensures.same there) h)

pub returns-in_ok-link-in-List-clause-names : goal.returns-in_ok-link-in-List-clause-names
returns-in_ok-link-in-List-clause-names c = λ trees. AddsOnly-same _ _

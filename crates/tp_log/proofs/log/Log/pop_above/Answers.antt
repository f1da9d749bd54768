use Rattle.std.proofs.Common.{[], ◌∷◌, length, sym, ap, ◌∙◌, arith, length-append}
use Rattle.tp_log.specs.Entries.{entries, bindings_before}
use Rattle.tp_log.proofs.EntryAdded.{entries-bind, entries-other, bindings_before-append}
use Rattle.tp_log.proofs.log.Log.pop_above.Goals as goal

pub invariant_of-self-then-self-eq0 : goal.invariant_of-self-then-self-eq0
invariant_of-self-then-self-eq0 c =
    let whole = c.in_ok-other.ensures.items in
    let counted = ap bindings_before whole ∙ bindings_before-append c.pop.new.self.items c.in_ok-other.other in
    omega (arith, counted, c.self.invariant)

pub returns-then-self-eq0-clause-taken : goal.returns-then-self-eq0-clause-taken
returns-then-self-eq0-clause-taken c =
    let ns = c.self.inside.numbers.items in
    let whole = c.in_ok-other.ensures.items in
    let counted = ap bindings_before whole ∙ bindings_before-append c.pop.new.self.items c.in_ok-other.other in
    sym c.self.view_is ∙ ap (λ l. entries ns l) whole
    ∙ entries-other ns c.pop.new.self.items c.in_ok-other.other (omega (arith, counted, c.self.invariant))

pub returns-clause-taken : goal.returns-clause-taken
returns-clause-taken c =
    let os = c.self.inside.others.items in
    let whole = c.in_ok-number.ensures.items in
    sym c.self.view_is ∙ ap (λ l. entries l os) whole
    ∙ entries-bind c.pop-2.new.self.items os c.in_ok-number.number
    (omega (arith, c.self.invariant, ap length whole, length-append c.pop-2.new.self.items (c.in_ok-number.number ∷ [])))

use Rattle.std.proofs.Common.{[], ◌∷◌, ◌++◌, sym, ap, ◌∙◌, arith}
use Rattle.tp_log.specs.Entries.{entries}
use Rattle.tp_log.specs.declared.log.Other.{Other}
use Rattle.tp_log.specs.declared.entry.Entry.{Entry}
use Rattle.tp_log.specs.declared.entry.Entry.TheVariants.{Bind}
use Rattle.tp_log.proofs.EntryAdded.{entries-bind, entries-other, bindings_before-append}
use Rattle.tp_log.proofs.log.Log.push.Goals as goal

pub returns-in-Bind-clause-added : goal.returns-in-Bind-clause-added
returns-in-Bind-clause-added c =
    let ns = c.self.inside.numbers.items in
    let os = c.self.inside.others.items in
    ap (λ l. entries l os) c.in_ok-push.ensures.items
    ∙ entries-bind ns os c.in-Bind.number (omega (arith, c.self.invariant))
    ∙ ap (λ l. l ++ Bind c.in-Bind.number ∷ []) c.self.view_is
    ∙ ap (λ (e : Entry). c.args.self.now ++ e ∷ []) (sym c.in-Bind.is)

pub invariant_of-self-2 : goal.invariant_of-self-2
invariant_of-self-2 c = rw (c.in_ok-push-2.ensures.items, bindings_before-append) (omega (arith, c.self.invariant))

pub returns-clause-added : goal.returns-clause-added
returns-clause-added c =
    let ns = c.self.inside.numbers.items in
    let os = c.self.inside.others.items in
    let o : Other = record { bindings = c.self.inside.newest; entry = c.args.entry } in
    ap (λ l. entries ns l) c.in_ok-push-2.ensures.items
    ∙ entries-other ns os o c.self.invariant
    ∙ ap (λ l. l ++ c.args.entry ∷ []) c.self.view_is

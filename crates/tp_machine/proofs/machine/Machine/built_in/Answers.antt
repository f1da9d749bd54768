use Rattle.std.proofs.Common.{◌<◌, slice_get, length, ap, subst, sym, ◌∙◌}
use Rattle.std.specs.Prelude.{List}
use Rattle.tp_store.specs.Contents.{Contents}
use Rattle.tp_terms.specs.declared.world.Proc.{Proc}
use Rattle.tp_machine.specs.declared.stepped.Stepped.TheVariants as answer
use Rattle.tp_meaning.specs.declared.DeadCause.TheVariants.{Failed}
use Rattle.tp_machine.specs.Machine.{Steps}
use Rattle.tp_machine.proofs.Step.First.{process_there}
use Rattle.tp_machine.proofs.Step.BuiltIns.{succeeds, fails, may_go_back, raises_with, unbound_by, unbound_too, within_by, claimed_by, procs_are}
use Rattle.tp_machine.proofs.machine.Machine.built_in.Goals as goal

pub back_to-requires : goal.back_to-requires
back_to-requires c =
    let m = c.args.self.now in
    let r = c.in_ok-run_built_in.ensures.ran in
    may_go_back m c.run_built_in.new.self c.args.task c.args.call c.args.id c.in_ok-run_built_in.field-0 r (unbound_by m c.run_built_in.new.self c.args.task c.args.call c.args.id c.in_ok-run_built_in.field-0 r c.in-No.is) c.mark-mark.result c.mark-mark.ensures.cells c.mark-mark.ensures.vars

pub name_of-process-requires : goal.name_of-process-requires
name_of-process-requires c =
    let m = c.args.self.now in
    let n = c.run_built_in.new.self in
    subst (λ (ps : List Proc). c.args.task.process < length ps) (sym (procs_are m n c.args.task c.args.call c.args.id c.in_ok-run_built_in.field-0 c.in_ok-run_built_in.ensures.ran))
    (process_there m c.args.task.process c.requires.call.meets.standing c.requires.call.meets.running)

pub raised_kind-requires : goal.raised_kind-requires
raised_kind-requires c =
    within_by c.args.self.now c.run_built_in.new.self c.args.task c.args.call c.args.id c.in_ok-run_built_in.field-0 c.in_ok-run_built_in.ensures.ran c.in-Raise.kind c.in-Raise.is

pub returns-in-Yes-clause-done : goal.returns-in-Yes-clause-done
returns-in-Yes-clause-done c =
    succeeds c.args.self.now c.run_built_in.new.self c.args.task c.args.call c.args.id c.in_ok-run_built_in.field-0 c.in_ok-run_built_in.ensures.ran c.in-Yes.is

pub returns-in-No-clause-done : goal.returns-in-No-clause-done
returns-in-No-clause-done c =
    let m = c.args.self.now in
    let n = c.run_built_in.new.self in
    let o = c.in_ok-run_built_in.field-0 in
    let r = c.in_ok-run_built_in.ensures.ran in
    subst (λ (d : Contents). Steps m (record n { state = record n.state { store = d } }) (answer.Dead Failed)) (sym c.back_to.ensures.value)
    (fails m n c.args.task c.args.call c.args.id o r (unbound_by m n c.args.task c.args.call c.args.id o r c.in-No.is) c.mark-mark.result c.mark-mark.ensures.cells c.mark-mark.ensures.vars c.in-No.is)

pub returns-in_ok-place-in-Raise-clause-done : goal.returns-in_ok-place-in-Raise-clause-done
returns-in_ok-place-in-Raise-clause-done c =
    let m = c.args.self.now in
    let n = c.run_built_in.new.self in
    let o = c.in_ok-run_built_in.field-0 in
    let r = c.in_ok-run_built_in.ensures.ran in
    let k = c.in-Raise.kind in
    let e = c.in-Raise.is in
    raises_with m n c.args.task c.args.call c.args.id o r (unbound_too m n c.args.task c.args.call c.args.id o r k e) (claimed_by m n c.args.task c.args.call c.args.id o r k e) k (within_by m n c.args.task c.args.call c.args.id o r k e)
    c.raised_kind.new.store c.in_ok-place-in-Raise.place c.name_of-process.result
    (λ q there. c.name_of-process.ensures q (ap (λ ps. slice_get ps c.args.task.process) (procs_are m n c.args.task c.args.call c.args.id o r) ∙ there))
    c.in_ok-place-in-Raise.ensures e

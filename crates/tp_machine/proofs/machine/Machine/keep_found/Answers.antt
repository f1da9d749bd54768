use Rattle.std.proofs.Common.{◌<◌, ◌∙◌, IfSome, length, slice_index_or, sym, subst}
use Rattle.std.proofs.lemmas.Option.{slice_get-get_or}
use Rattle.tp_machine.proofs.Trying.Found.{still-clauses}
use Rattle.tp_machine.proofs.Trying.Runs.{none-kept, one-may, one-kept}
use Rattle.tp_machine.proofs.machine.Machine.keep_found.Goals as goal

pub place-place-requires : goal.place-place-requires
place-place-requires c =
    let ids = c.args.ids.now in
    let next = c.in-Some.next in
    let id = slice_index_or ids next (record { at = 0 }) in
    still-clauses c.args.self.now c.args.task ids c.requires.tries next id (slice_get-get_or ids next (record { at = 0 }) (subst (λ o. IfSome o (λ k. k < length ids)) c.in-Some.is c.requires.within))

pub keep-requires : goal.keep-requires
keep-requires c =
    let m = c.args.self.now in
    let ids = c.args.ids.now in
    let next = c.in-Some.next in
    let id = slice_index_or ids next (record { at = 0 }) in
    let tries = c.requires.tries in
    one-may m c.args.task tries.call tries.calls c.requires.machine tries.from ids tries.rest next (sym c.requires.found ∙ c.in-Some.is) id (slice_get-get_or ids next (record { at = 0 }) (subst (λ o. IfSome o (λ k. k < length ids)) c.in-Some.is c.requires.within)) c.place-place.result
    c.place-place.ensures.rank c.place-place.ensures.few

pub returns-in_ok-keep-clause-done : goal.returns-in_ok-keep-clause-done
returns-in_ok-keep-clause-done c call from calls rest =
    let ids = c.args.ids.now in
    let next = c.in-Some.next in
    let id = slice_index_or ids next (record { at = 0 }) in
    one-kept c.args.self.now c.args.task call calls c.requires.machine from ids rest next (sym c.requires.found ∙ c.in-Some.is) id (slice_get-get_or ids next (record { at = 0 }) (subst (λ o. IfSome o (λ k. k < length ids)) c.in-Some.is c.requires.within)) c.place-place.result
    c.place-place.ensures.rank c.keep.new.self c.in_ok-keep.ensures.done

pub returns-in_default-clause-done : goal.returns-in_default-clause-done
returns-in_default-clause-done c call from calls rest =
    none-kept c.args.self.now c.args.task call calls c.requires.machine from c.args.ids.now rest (sym c.requires.found ∙ c.in_default.is)

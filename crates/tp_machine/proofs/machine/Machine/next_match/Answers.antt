use Rattle.std.specs.List.{position_from}
use Rattle.std.proofs.Common.{◌≡◌, ◌+◌, suc, drop, slice_index_or, ap, sym, subst, ◌∙◌, arith}
use Rattle.std.proofs.lemmas.Option.{slice_get-get_or}
use Rattle.tp_machine.specs.declared.machine.Machine.{Machine}
use Rattle.tp_store.specs.Contents.{Contents}
use Rattle.tp_machine.specs.Trying.{hits_at}
use Rattle.tp_machine.specs.Machine.{IsStanding}
use Rattle.tp_machine.proofs.Meets.HeadsMet.{hit_here, hit_later}
use Rattle.tp_machine.proofs.Step.First.{standing}
use Rattle.tp_machine.proofs.Trying.Lists.{drop-here}
use Rattle.tp_machine.proofs.Trying.Runs.{hit-at}
use Rattle.tp_machine.proofs.machine.Machine.next_match.Goals as goal

pub returns-then-branch-clause-found : goal.returns-then-branch-clause-found
returns-then-branch-clause-found c =
    let l = c.loop-k.self in
    let m = c.args.self.now in
    let g = c.args.goal in
    let k = c.loop-k.k in
    let ids = c.args.ids.now in
    let id = slice_index_or ids k (record { at = 0 }) in
    let is = subst IsStanding (sym c.loop-k.invariant.same) (standing m c.requires.machine) in
    let hit = hit-at l g is id c.clause-clause.result c.clause-clause.ensures.view c.clause-clause.ensures.fits _ c.in_ok-meets.field-0 c.cells.ensures.cells c.in_ok-meets.ensures.met in
    sym (hit_here (hits_at m g) k (drop k ids) id (drop (suc k) ids) (drop-here k ids id (slice_get-get_or ids k (record { at = 0 }) (omega (arith, c.loop-k-test.true))))
    (ap (λ (x : Machine). hits_at x g id) (sym c.loop-k.invariant.same) ∙ hit ∙ c.if-branch.true))
    ∙ c.loop-k.invariant.found

pub loop-k-preserved : goal.loop-k-preserved
loop-k-preserved c =
    let l = c.loop-k.self in
    let m = c.args.self.now in
    let g = c.args.goal in
    let k = c.loop-k.k in
    let ids = c.args.ids.now in
    let id = slice_index_or ids k (record { at = 0 }) in
    let is = subst IsStanding (sym c.loop-k.invariant.same) (standing m c.requires.machine) in
    let hit = hit-at l g is id c.clause-clause.result c.clause-clause.ensures.view c.clause-clause.ensures.fits _ c.in_ok-meets.field-0 c.cells.ensures.cells c.in_ok-meets.ensures.met in
    record {
      same = ap (λ (s : Contents). record l { state = record l.state { store = s } }) c.in_ok-meets.ensures.same ∙ c.loop-k.invariant.same;
      found = ap (λ n. position_from (hits_at m g) (k + 1) (drop n ids)) (let z : k + 1 ≡ suc k = omega arith in z)
          ∙ sym (hit_later (hits_at m g) k (drop k ids) id (drop (suc k) ids) (drop-here k ids id (slice_get-get_or ids k (record { at = 0 }) (omega (arith, c.loop-k-test.true))))
          (ap (λ (x : Machine). hits_at x g id) (sym c.loop-k.invariant.same) ∙ hit ∙ c.if-branch.false))
          ∙ c.loop-k.invariant.found;
    }

use Rattle.std.proofs.Common.{slice_set, ap, sym, ◌∙◌}
use Rattle.std.proofs.lemmas.Option.{same_Some}
use Rattle.tp_state.specs.Acts.{is_unmarked}
use Rattle.tp_state.specs.State.{plain_of}
use Rattle.tp_state.proofs.Changes.{mark-none, set-same}
use Rattle.tp_state.proofs.state.State.mark.Goals as goal

pub returns-else-is_unmarked-clause-plain : goal.returns-else-is_unmarked-clause-plain
returns-else-is_unmarked-clause-plain c q e =
    let same = same_Some q c.get-proc.result (sym e ∙ c.get-proc.ensures) in
    let un = ap is_unmarked same ∙ sym c.is_unmarked.ensures ∙ c.if-is_unmarked.false in
    ap (λ ps. record (plain_of c.args.self.now) { procs = ps })
    (sym (ap (slice_set c.args.self.now.procs c.args.pid) (mark-none q un) ∙ set-same c.args.self.now.procs c.args.pid q e))

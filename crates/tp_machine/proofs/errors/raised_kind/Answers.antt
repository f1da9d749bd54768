use Rattle.tp_terms.specs.Shown.{shows}
use Rattle.tp_machine.proofs.Gives.Raised.{built_trans}
use Rattle.tp_machine.proofs.errors.raised_kind.Goals as goal

pub returns : goal.returns
returns c names table named within =
    let s = c.args.store.now in
    let first = c.in_ok-last.ensures.built names table named in
    built_trans names s c.placed_again.new.store c.error.new.store c.in_ok-last.last.at c.in_ok-place.place.at c.args.process (shows names s.cells c.args.kind.at) first (c.in_ok-place.ensures names table first.named within)

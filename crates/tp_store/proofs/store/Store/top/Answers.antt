use Rattle.std.proofs.Common.{◌≡◌, Some, slice_get, subst}
use Rattle.tp_terms.proofs.Places.Shown.{AreNamed-cell}
use Rattle.tp_store.specs.Contents.{Contents}
use Rattle.tp_store.proofs.store.Store.top.Goals as goal

pub returns-clause-named : goal.returns-clause-named
returns-clause-named c n h =
    AreNamed-cell n c.args.self.now.cells c.end.result.place.at c.end.result.cell h
    (subst (λ (s : Contents). slice_get s.cells c.end.result.place.at ≡ Some c.end.result.cell) c.self.view_is c.end.ensures.end.cell)

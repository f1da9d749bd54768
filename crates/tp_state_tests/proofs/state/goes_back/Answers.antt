use Rattle.std.proofs.Common.{◌≡◌, ap, sym, subst, ◌∙◌}
use Rattle.tp_store.specs.Contents.{IsStore}
use Rattle.tp_state.specs.Plain.{Plain}
use Rattle.tp_state.specs.Going.{marks_of, rewound}
use Rattle.tp_state.specs.State.{held_of}
use Rattle.tp_state.proofs.GoingBack.Follows.{rewound-later, rewound-now, within-now}
use Rattle.tp_state_tests.proofs.state.goes_back.Goals as goal

pub rewind-requires-clause-store : goal.rewind-requires-clause-store
rewind-requires-clause-store c =
    let h = held_of c.args.state.now in
    let g = held_of c.goes_on.new.state in
    let same : rewound g c.marks-marks.result ≡ h.plain =
    ap (rewound g) c.marks-marks.ensures
    ∙ rewound-later h g (marks_of h) c.in_ok-goes_on.ensures (within-now h)
    ∙ rewound-now h in
    subst IsStore (sym (ap (λ (p : Plain). p.store) same)) c.cells.ensures.store

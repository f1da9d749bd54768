use Rattle.std.proofs.Common.{◌∙◌, ap, sym, subst, arith}
use Rattle.tp_terms.specs.Shown.{AreNamed}
use Rattle.tp_store.specs.Contents.{Contents}
use Rattle.tp_store.specs.Chain.{contents_of}
use Rattle.tp_store.proofs.Copies.Fresh.{claimed_below, added_terms, copied_root, adds_nothing}
use Rattle.tp_store.proofs.Standing.Facts.{can_go_back, went_back}
use Rattle.tp_store.proofs.rename.copy.Goals as goal

pub copy_renamed-requires-clause-known : goal.copy_renamed-requires-clause-known
copy_renamed-requires-clause-known c =
    claimed_below (contents_of c.args.chains.now) (contents_of c.claim.new.self) c.args.root c.len-2.result c.in_ok-base.base c.in_ok-variables.variables.keys
    c.in_ok-base.ensures.value c.in_ok-base.ensures.first c.len-2.ensures.len c.in_ok-variables.ensures

pub returns-in-Ok-clause-copied : goal.returns-in-Ok-clause-copied
returns-in-Ok-clause-copied c =
    copied_root (contents_of c.args.chains.now) (contents_of c.claim.new.self) c.args.root c.len-2.result c.in_ok-base.base c.in_ok-variables.variables.keys
    c.in_ok-base.ensures.value c.in_ok-base.ensures.first c.len-2.ensures.len c.in_ok-variables.ensures
    (contents_of c.copy_renamed.new.chains) c.requires.chains.store c.copy_renamed.ensures.chains.store c.copy_renamed.ensures.adds c.in-Ok.at c.in-Ok.ensures.shown

pub returns-in-Ok-clause-named : goal.returns-in-Ok-clause-named
returns-in-Ok-clause-named c n h =
    c.in-Ok.ensures.named n (subst (AreNamed n) (sym (ap (λ (x : Contents). x.cells) c.in_ok-base.ensures.value)) h)

pub back_to-requires-clause-can : goal.back_to-requires-clause-can
back_to-requires-clause-can c =
    let old = contents_of c.args.chains.now in
    let new = contents_of c.copy_renamed.new.chains in
    let a = added_terms old (contents_of c.claim.new.self) c.args.root c.len-2.result c.in_ok-base.base c.in_ok-variables.variables.keys
    c.in_ok-base.ensures.value c.in_ok-base.ensures.first c.len-2.ensures.len c.in_ok-variables.ensures
    new c.requires.chains.store c.copy_renamed.ensures.chains.store c.copy_renamed.ensures.adds in
    can_go_back old new _ a.more c.requires.chains.store a.cells a.pairs a.vars (omega arith) (omega arith)

pub returns-clause-adds : goal.returns-clause-adds
returns-clause-adds c =
    let old = contents_of c.args.chains.now in
    let new = contents_of c.copy_renamed.new.chains in
    let a = added_terms old (contents_of c.claim.new.self) c.args.root c.len-2.result c.in_ok-base.base c.in_ok-variables.variables.keys
    c.in_ok-base.ensures.value c.in_ok-base.ensures.first c.len-2.ensures.len c.in_ok-variables.ensures
    new c.requires.chains.store c.copy_renamed.ensures.chains.store c.copy_renamed.ensures.adds in
    adds_nothing old (contents_of c.back_to.new.self) (c.back_to.ensures.value ∙ went_back old new _ a.more c.requires.chains.store a.cells a.pairs a.vars (omega arith) (omega arith))

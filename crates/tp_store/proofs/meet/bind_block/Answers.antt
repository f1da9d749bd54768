use Rattle.std.proofs.Common.{refl}
use Rattle.tp_terms.specs.Shown.{shows}
use Rattle.tp_meaning.specs.Subst.{value_at}
use Rattle.tp_store.specs.Chain.{contents_of}
use Rattle.tp_store.specs.Contents.{subst_of}
use Rattle.tp_store.proofs.Blocks.Cells.{plain_replaced}
use Rattle.tp_store.proofs.Unifier.General.{AddsPairs-same}
use Rattle.tp_store.proofs.Unifier.Solutions.{may_add, AddsPairs-bind}
use Rattle.tp_store.proofs.HeadsMeet.Binding.{bind_meets}
use Rattle.tp_store.proofs.meet.bind_block.Goals as goal

pub bind-requires-clause-adds : goal.bind-requires-clause-adds
bind-requires-clause-adds c =
    let old = contents_of c.args.chains.now in
    λ names. may_add old c.args.number c.args.copy.place c.requires.chains.store c.requires.may names
    (plain_replaced (value_at (subst_of names old)) c.args.number (shows names old.cells c.args.copy.place.at) (λ v. c.requires.plain c.if-copy.false v names))

pub returns-clause-adds : goal.returns-clause-adds
returns-clause-adds c =
    let old = contents_of c.args.chains.now in
    AddsPairs-bind old old (contents_of c.bind.new.self) c.args.number c.args.copy.place (AddsPairs-same old old refl) c.in_ok-bind.ensures.value

pub returns-clause-found : goal.returns-clause-found
returns-clause-found c =
    let old = contents_of c.args.chains.now in
    bind_meets old (contents_of c.bind.new.self) c.args.number c.args.copy.place c.requires.chains.store c.requires.may
    (λ names. plain_replaced (value_at (subst_of names old)) c.args.number (shows names old.cells c.args.copy.place.at) (λ v. c.requires.plain c.if-copy.false v names)) c.in_ok-bind.ensures.value

use Rattle.std.proofs.Common.{sym, refl, ◌∙◌}
use Rattle.tp_store.specs.Chain.{contents_of}
use Rattle.tp_store.proofs.Unifier.General.{AddsPairs-same}
use Rattle.tp_store.proofs.Unifier.Solutions.{never, AddsPairs-bind}
use Rattle.tp_store.proofs.HeadsMeet.Binding.{bind_meets}
use Rattle.tp_store.proofs.meet.bind_apart.Goals as goal

pub returns-then-branch-clause-found : goal.returns-then-branch-clause-found
returns-then-branch-clause-found c = λ names tables other f e same.
    never (contents_of c.args.chains.now) c.args.number c.args.place c.requires.chains.store c.requires.may names (sym (c.in_ok-occurs.ensures names) ∙ c.if-branch.true) f e same

pub returns-clause-adds : goal.returns-clause-adds
returns-clause-adds c =
    let old = contents_of c.args.chains.now in
    AddsPairs-bind old old (contents_of c.bind.new.self) c.args.number c.args.place (AddsPairs-same old old refl) c.in_ok-bind.ensures.value

pub returns-clause-found : goal.returns-clause-found
returns-clause-found c =
    bind_meets (contents_of c.args.chains.now) (contents_of c.bind.new.self) c.args.number c.args.place c.requires.chains.store c.requires.may (λ names. sym (c.in_ok-occurs.ensures names) ∙ c.if-branch.false) c.in_ok-bind.ensures.value

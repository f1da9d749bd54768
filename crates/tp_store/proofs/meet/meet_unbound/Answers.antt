use Rattle.std.proofs.Common.{refl, sym, subst}
use Rattle.tp_terms.specs.declared.cells.Cell.TheVariants.{Var as Variable}
use Rattle.tp_terms.specs.Term.{Var}
use Rattle.tp_terms.specs.Shown.{shows, AreNamed}
use Rattle.tp_store.specs.Contents.{IsNumbered, IsUnbound}
use Rattle.tp_store.specs.Chain.{contents_of}
use Rattle.tp_store.proofs.Bodies.Converted.{named_more}
use Rattle.tp_store.proofs.HeadsMeet.Binding.{both_same, both_pairs, same_meets, placed_may, placed_meets, flipped}
use Rattle.tp_store.proofs.meet.meet_unbound.Goals as goal

pub returns-then-number-other-clause-adds : goal.returns-then-number-other-clause-adds
returns-then-number-other-clause-adds c = both_same (contents_of c.args.chains.now) (contents_of c.args.chains.now) refl

pub returns-then-number-other-clause-found : goal.returns-then-number-other-clause-found
returns-then-number-other-clause-found c = same_meets (contents_of c.args.chains.now) c.args.end c.args.number c.in-Var.other c.requires.chains.store c.requires.end c.in-Var.is c.if-number-other.true

pub returns-in_err-at-clause-adds : goal.returns-in_err-at-clause-adds
returns-in_err-at-clause-adds c = both_same (contents_of c.args.chains.now) (contents_of c.place.new.self) c.in_err-at.ensures.err

pub bind_apart-requires-clause-may : goal.bind_apart-requires-clause-may
bind_apart-requires-clause-may c =
    let old = contents_of c.args.chains.now in
    placed_may old (contents_of c.place.new.self) c.args.number c.in_ok-at.at c.requires.chains.store c.in_ok-at.ensures.value c.in_ok-at.ensures.place c.in-Var.other c.requires.claimed c.if-number-other-2.true
    (subst (IsNumbered old.vars) c.in-Var.is c.requires.end.numbered) c.requires.unbound (subst (IsUnbound old.pairs) c.in-Var.is c.requires.end.unbound)

pub returns-then-number-other-2-clause-named : goal.returns-then-number-other-2-clause-named
returns-then-number-other-2-clause-named c n named =
    subst (AreNamed n) (sym c.bind_apart.ensures.adds.cells) (named_more n (contents_of c.args.chains.now) (contents_of c.place.new.self) (Variable c.args.number) c.in_ok-at.ensures.value named tt)

pub returns-then-number-other-2-clause-found : goal.returns-then-number-other-2-clause-found
returns-then-number-other-2-clause-found c =
    placed_meets (contents_of c.args.chains.now) (contents_of c.place.new.self) c.args.number c.in_ok-at.at c.requires.chains.store c.in_ok-at.ensures.value c.in_ok-at.ensures.place c.bind_apart.result (contents_of c.bind_apart.new.chains) c.args.end c.in-Var.other
    c.requires.end c.in-Var.is c.bind_apart.ensures.found

pub returns-clause-adds : goal.returns-clause-adds
returns-clause-adds c = both_pairs (contents_of c.args.chains.now) (contents_of c.bind_apart-2.new.chains) c.bind_apart-2.ensures.adds

pub returns-clause-found : goal.returns-clause-found
returns-clause-found c =
    flipped c.bind_apart-2.result (contents_of c.args.chains.now) (contents_of c.bind_apart-2.new.chains) (λ names. Var c.args.number) (λ names. shows names c.args.chains.now.cells.items c.args.end.place.at) c.bind_apart-2.ensures.found

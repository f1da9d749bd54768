use Rattle.tp_store.specs.Chain.{contents_of}
use Rattle.tp_store.proofs.Bodies.Converted.{joined_shown, joined_named}
use Rattle.tp_store.proofs.body.joined.Goals as goal

pub returns-clause-shown : goal.returns-clause-shown
returns-clause-shown c =
    joined_shown (contents_of c.args.chains.now) (contents_of c.place.new.self) (contents_of c.place-2.new.self) c.requires.chains.store c.in_ok-first.ensures.chains.store c.in_ok-place.ensures.chains.store
    c.args.left.at c.args.right.at c.get-left.result c.get-right.result c.args.name c.in_ok-first.first c.get-left.ensures.value c.get-left.ensures.before c.get-right.ensures.value c.get-right.ensures.before
    c.in_ok-first.ensures.value c.in_ok-place.ensures.value c.in_ok-first.ensures.place c.place-3.result (contents_of c.place-3.new.self) c.place-3.ensures.place c.place-3.ensures.value

pub returns-clause-named : goal.returns-clause-named
returns-clause-named c =
    joined_named (contents_of c.args.chains.now) (contents_of c.place.new.self) (contents_of c.place-2.new.self) c.requires.chains.store c.in_ok-first.ensures.chains.store c.in_ok-place.ensures.chains.store
    c.args.left.at c.args.right.at c.get-left.result c.get-right.result c.args.name c.in_ok-first.first c.get-left.ensures.value c.get-left.ensures.before c.get-right.ensures.value c.get-right.ensures.before
    c.in_ok-first.ensures.value c.in_ok-place.ensures.value c.in_ok-first.ensures.place c.place-3.result (contents_of c.place-3.new.self) c.place-3.ensures.value

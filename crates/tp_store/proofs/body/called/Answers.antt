use Rattle.tp_store.specs.Chain.{contents_of}
use Rattle.tp_store.proofs.Bodies.Converted.{called_shown, called_named}
use Rattle.tp_store.proofs.body.called.Goals as goal

pub returns-clause-shown : goal.returns-clause-shown
returns-clause-shown c = called_shown c.place.result (contents_of c.args.chains.now) (contents_of c.place.new.self) c.args.place c.requires.chains.store c.place.ensures.place c.place.ensures.value

pub returns-clause-named : goal.returns-clause-named
returns-clause-named c = called_named c.place.result (contents_of c.args.chains.now) (contents_of c.place.new.self) c.args.place c.place.ensures.value

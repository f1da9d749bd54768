use Rattle.std.proofs.Common.{[], sym, subst}
use Rattle.tp_terms.specs.Shown.{shows, AreNamed}
use Rattle.tp_store.specs.Chain.{contents_of}
use Rattle.tp_store.proofs.HeadsMeet.Binding.{copied_may, copied_meets}
use Rattle.tp_store.proofs.meet.bind_copy.Goals as goal

pub bind_block-requires-clause-may : goal.bind_block-requires-clause-may
bind_block-requires-clause-may c =
    copied_may (contents_of c.args.chains.now) (contents_of c.copy_block.new.chains) c.args.number c.in_ok-copy.copy.place (shows [] c.args.from.now.items c.args.head.at) c.args.base c.in_ok-copy.ensures.chains.store c.in_ok-copy.ensures.adds
    c.requires.number c.requires.unbound c.in_ok-copy.ensures.place (c.in_ok-copy.ensures.shown []) (λ w e. c.requires.other w [] e)

pub returns-clause-named : goal.returns-clause-named
returns-clause-named c n from old = subst (AreNamed n) (sym c.bind_block.ensures.adds.cells) (c.in_ok-copy.ensures.named n from old)

pub returns-clause-found : goal.returns-clause-found
returns-clause-found c =
    copied_meets c.bind_block.result (contents_of c.args.chains.now) (contents_of c.copy_block.new.chains) (contents_of c.bind_block.new.chains) c.args.number c.in_ok-copy.copy.place c.args.head c.args.from.now.items c.args.base
    c.requires.chains.store c.in_ok-copy.ensures.adds c.in_ok-copy.ensures.shown c.in_ok-copy.ensures.named c.bind_block.ensures.found

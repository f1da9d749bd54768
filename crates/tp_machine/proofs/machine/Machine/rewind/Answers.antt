use Rattle.std.proofs.Common.{◌≡◌, ◌++◌, ◌∷◌, [], IfSome, IfNone, subst}
use Rattle.tp_control.specs.declared.choices.Choice.{Choice}
use Rattle.tp_machine.proofs.GoesBack.Rewound.{known, stays, goes_back}
use Rattle.tp_machine.proofs.machine.Machine.rewind.Goals as goal

pub returns-in-None : goal.returns-in-None
returns-in-None c =
    stays c.args.self.now c.pop.new.self c.requires
    (subst (λ o. IfNone o (c.args.self.now.choices ≡ [])) c.in-None.is c.pop.ensures.none)
    (subst (λ o. IfNone o (c.pop.new.self ≡ [])) c.in-None.is c.pop.ensures.stays)

pub rewind-requires-clause-within : goal.rewind-requires-clause-within
rewind-requires-clause-within c = (known c.args.self.now c.pop.new.self c.in-Some.choice c.requires (subst (λ o. IfSome o (λ (x : Choice). c.args.self.now.choices ≡ c.pop.new.self ++ x ∷ [])) c.in-Some.is c.pop.ensures.taken)).newest.within

pub rewind-requires-clause-store : goal.rewind-requires-clause-store
rewind-requires-clause-store c = (known c.args.self.now c.pop.new.self c.in-Some.choice c.requires (subst (λ o. IfSome o (λ (x : Choice). c.args.self.now.choices ≡ c.pop.new.self ++ x ∷ [])) c.in-Some.is c.pop.ensures.taken)).newest.stands.store

pub returns-in-Some : goal.returns-in-Some
returns-in-Some c =
    goes_back c.args.self.now c.pop.new.self c.in-Some.choice c.requires
    (subst (λ o. IfSome o (λ (x : Choice). c.args.self.now.choices ≡ c.pop.new.self ++ x ∷ [])) c.in-Some.is c.pop.ensures.taken)
    c.rewind.new.self c.rewind.ensures.plain c.rewind.ensures.log c.rewind.ensures.safe

use Rattle.std.proofs.Common.{◌∙◌, ap, sym, arith}
use Rattle.std.proofs.lemmas.Bool.{not-true}
use Rattle.tp_terms.specs.Term.{occurs}
use Rattle.tp_store.specs.Chain.{contents_of}
use Rattle.tp_store.proofs.Substitution.Closed.{closed-apart}
use Rattle.tp_store.proofs.Unifier.Work.{other_variable}
use Rattle.tp_store.proofs.pairs.is_apart.Goals as goal

pub returns-then-place-chains : goal.returns-then-place-chains
returns-then-place-chains c = λ _ names.
    closed-apart names (contents_of c.args.chains.now) c.args.chains.now.closed c.requires.chains.store c.requires.chains.closed c.args.number c.args.place.at (omega arith) (omega arith) c.requires.place

pub returns-in-Var : goal.returns-in-Var
returns-in-Var c = λ other names.
    ap (occurs c.args.number) (sym (c.end.ensures.same names))
    ∙ other_variable (contents_of c.args.chains.now) c.args.number c.end.result c.in-Var.other c.requires.chains.store c.end.ensures.end c.in-Var.is (not-true _ other) names

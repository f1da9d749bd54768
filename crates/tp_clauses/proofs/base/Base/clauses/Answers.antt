use Rattle.std.proofs.Common.{subst}
use Rattle.tp_clauses.specs.Contents.{IsBase}
use Rattle.tp_clauses.proofs.Loading.Whole.{predicate_at}
use Rattle.tp_clauses.proofs.base.Base.clauses.Goals as goal

pub returns-then-is_empty-clause-predicate : goal.returns-then-is_empty-clause-predicate
returns-then-is_empty-clause-predicate c = λ names d n l. predicate_at names c.args.self.now c.args.name c.args.arity (subst IsBase c.self.view_is c.self.invariant.0.base) d n l

pub returns-else-is_empty-clause-predicate : goal.returns-else-is_empty-clause-predicate
returns-else-is_empty-clause-predicate c = λ names d n l. predicate_at names c.args.self.now c.args.name c.args.arity (subst IsBase c.self.view_is c.self.invariant.0.base) d n l

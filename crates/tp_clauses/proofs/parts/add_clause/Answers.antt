use Rattle.std.proofs.Common.{◌≡◌, ◌++◌, ◌∷◌, [], length, ap, ◌∙◌, arith, refl, if◌then◌else◌}
use Rattle.tp_clauses.specs.Indexed.{ids_in, same_key}
use Rattle.tp_clauses.proofs.Clauses.Added.{clause_added, id_at}
use Rattle.tp_clauses.proofs.parts.add_clause.Goals as goal

pub returns : goal.returns
returns c =
    let count : c.len.result ≡ length c.args.parts.now.clauses.items = omega (arith, c.len.ensures, c.args.parts.now.clauses.ok.0) in
    clause_added c.args.parts.now (record { store = c.args.parts.now.store; clauses = c.push-2.new.self; ranks = c.push.new.self; index = c.add.new.self; ops = c.args.parts.now.ops }) c.args.view c.args.key
    c.requires.parts c.requires.fits c.requires.key refl c.in_ok-push-2.ensures.items
    (λ k. c.in_ok-rank.ensures.added k ∙ ap (λ n. if same_key c.args.key k then ids_in same_key c.args.parts.now.index k ++ id_at n ∷ [] else ids_in same_key c.args.parts.now.index k) count)
    c.in_ok-rank.rank c.in_ok-rank.ensures.count c.in_ok-push.ensures.items refl

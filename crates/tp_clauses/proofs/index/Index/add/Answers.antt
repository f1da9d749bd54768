use Rattle.std.proofs.Common.{arith, length, ◌≡◌, sym, ap, ◌∙◌, ◌++◌, ◌∷◌, [], is_some, cond, Some}
use Rattle.std.specs.Map.{lookup}
use Rattle.tp_clauses.specs.Indexed.{ids_in}
use Rattle.tp_clauses.proofs.Clauses.Places.{found_ids, id_added}
use Rattle.tp_clauses.proofs.index.Index.add.Goals as goal

pub returns-in_ok-push-in-Some-clause-added : goal.returns-in_ok-push-in-Some-clause-added
unfolding ids_in
returns-in_ok-push-in-Some-clause-added g c = λ k.
    let found = c.in-Some.ensures.value in
    let writes = c.get_mut.follows.holds c.push.new.self in
    id_added g.K.PartialEq.eq g.met.K.Eq.laws c.args.key k c.args.id c.args.self.now.places.entries _ c.push.new.self
    (c.in_ok-push-in-Some.ensures.items ∙ ap (λ o. found_ids o ++ c.args.id ∷ []) found)
    ((writes.3 (ap is_some (sym found))).0 k)

pub returns-in_ok-insert-in-None-clause-added : goal.returns-in_ok-insert-in-None-clause-added
unfolding ids_in
returns-in_ok-insert-in-None-clause-added g c = λ k.
    let found = c.in-None.ensures.value in
    let updates = c.in_ok-insert-in-None.ensures.updates in
    id_added g.K.PartialEq.eq g.met.K.Eq.laws c.args.key k c.args.id c.args.self.now.places.entries _ _
    (c.in_ok-push-in-None.ensures.items ∙ ap (λ xs. xs ++ c.args.id ∷ []) c.new-first.ensures.items ∙ ap (λ o. found_ids o ++ c.args.id ∷ []) found)
    (updates.0 k
    ∙ ap (λ m. cond (g.K.PartialEq.eq c.args.key k) (Some c.push-in-None.new.self) (lookup (g.K.PartialEq.eq k) m.entries)) c.get_mut.follows.holds-at-none)

pub returns-in_ok-push-in-Some-clause-count : goal.returns-in_ok-push-in-Some-clause-count
unfolding ids_in
returns-in_ok-push-in-Some-clause-count g c =
    let counted : c.len-count.result ≡ length c.in-Some.ids.now.items = omega (arith, c.len-count.ensures, c.in-Some.ids.now.ok.0) in
    counted ∙ ap (λ o. length (found_ids o)) c.in-Some.ensures.value

pub returns-in_ok-insert-in-None-clause-count : goal.returns-in_ok-insert-in-None-clause-count
unfolding ids_in
returns-in_ok-insert-in-None-clause-count g c = ap (λ o. length (found_ids o)) c.in-None.ensures.value

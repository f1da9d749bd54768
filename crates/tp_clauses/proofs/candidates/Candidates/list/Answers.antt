use Rattle.std.proofs.Common.{◌≤◌, List, length, sym, subst, ◌∙◌}
use Rattle.tp_clauses.proofs.Lists.Keys.{lookup-keys}
use Rattle.tp_clauses.proofs.Lists.Spans.{span_within}
use Rattle.tp_clauses.specs.declared.base.ClauseId.{ClauseId}
use Rattle.std.specs.Map.{lookup}
use Rattle.tp_clauses.specs.Candidates.{same_first_key}
use Rattle.tp_clauses.proofs.candidates.Candidates.list.Goals as goal

pub part-requires-clause-order : goal.part-requires-clause-order
part-requires-clause-order c =
    let h = span_within c.args.self.now (lookup (same_first_key c.args.key) c.args.self.now.spans.entries) c.in_ok-span.span.now (c.requires c.args.key) (c.in_ok-span.ensures.value ∙ lookup-keys c.args.key c.args.self.now.spans.entries) in
    h.0

pub part-requires-clause-within : goal.part-requires-clause-within
part-requires-clause-within c =
    let h = span_within c.args.self.now (lookup (same_first_key c.args.key) c.args.self.now.spans.entries) c.in_ok-span.span.now (c.requires c.args.key) (c.in_ok-span.ensures.value ∙ lookup-keys c.args.key c.args.self.now.spans.entries) in
    subst (λ (l : List ClauseId). c.in_ok-span.span.now.to ≤ length l) (sym c.deref.ensures.value) h.1

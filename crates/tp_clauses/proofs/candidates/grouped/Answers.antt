use Rattle.std.proofs.Common.{List, ◌≡◌, Some, slice_get, arith, sym, ap, ◌∙◌}
use Rattle.std.proofs.lemmas.Option.{slice_get-get_or}
use Rattle.tp_terms.specs.declared.cells.Cell.{Cell}
use Rattle.tp_clauses.specs.First.{first_of_head}
use Rattle.tp_clauses.specs.Kinds.{key_of}
use Rattle.tp_clauses.specs.Parts.{contents_of}
use Rattle.tp_clauses.proofs.Lists.Keys.{ids_in-keys}
use Rattle.tp_clauses.proofs.Lists.Turns.{group_turn}
use Rattle.tp_clauses.proofs.candidates.grouped.Goals as goal

pub loop-at-init : goal.loop-at-init
loop-at-init c = record { groups = λ k. sym (ids_in-keys c.new-groups.result k) ∙ c.new-groups.ensures k }

pub loop-at-preserved : goal.loop-at-preserved
loop-at-preserved c =
    let here : slice_get c.args.parts.now.clauses.items c.loop-at.at ≡ Some c.index.result.now = slice_get-get_or c.args.parts.now.clauses.items c.loop-at.at c.index.result.now (omega (arith, c.loop-at-test.true, c.args.parts.now.clauses.ok.0)) ∙ ap Some (sym c.index.ensures) in
    record {
      groups = group_turn (contents_of c.args.parts.now) c.loop-at.at c.index.result.now c.first_key-key.result here
          (ap (λ (l : List Cell). key_of (slice_get l c.index.result.now.head.at)) (sym c.cells.ensures.cells) ∙ c.first_key-key.ensures.key)
          (c.first_key-key.ensures.first ∙ ap (λ (l : List Cell). first_of_head l (slice_get l c.index.result.now.head.at)) c.cells.ensures.cells)
          c.loop-at.groups c.add.new.self c.in_ok-add.ensures.added c.loop-at.invariant.groups;
    }

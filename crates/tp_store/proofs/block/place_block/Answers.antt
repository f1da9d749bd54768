use Rattle.std.proofs.Common.{◌≡◌, ◌||◌, refl, ap, sym, ◌∙◌, arith}
use Rattle.tp_store.specs.declared.block.Moving.{Moving}
use Rattle.tp_store.specs.Chain.{contents_of}
use Rattle.tp_store.proofs.Blocks.Moved.{last_shown, last_plain, cells_named}
use Rattle.tp_store.proofs.block.place_block.Goals as goal
use Rattle.tp_store.proofs.block.place_block.Goals.{then-varies, else-varies}

pub returns-clause-shown : goal.returns-clause-shown
returns-clause-shown c =
    let moving : Moving = record { low = c.span-low.result.0; to = c.len.result; base = c.args.base; room = c.saturating_sub.result } in
    let s = c.span-low.ensures in
    last_shown c.args.from.now.items moving (contents_of c.args.chains.now) (contents_of c.place_each.new.chains) (contents_of c.place.new.chains) c.span-low.result.1 c.args.root.at c.in_ok-varies.varies c.in_ok-last.last.varies c.get-cell.result
    c.in_ok-varies.ensures.moved (omega arith) s.order c.get-cell.ensures.value c.get-cell.ensures.before s.first s.before c.in_ok-last.ensures.value c.in_ok-last.ensures.plain c.args.root c.in_ok-last.last.place refl c.in_ok-last.ensures.place c.requires.claimed

pub returns-clause-named : goal.returns-clause-named
returns-clause-named c =
    let moving : Moving = record { low = c.span-low.result.0; to = c.len.result; base = c.args.base; room = c.saturating_sub.result } in
    let s = c.span-low.ensures in
    cells_named c.args.from.now.items moving (contents_of c.args.chains.now) (contents_of c.place_each.new.chains) (contents_of c.place.new.chains) c.span-low.result.1 c.args.root.at c.in_ok-varies.varies c.in_ok-last.last.varies c.get-cell.result
    c.in_ok-varies.ensures.moved (omega arith) s.order c.get-cell.ensures.value c.get-cell.ensures.before s.first s.before c.in_ok-last.ensures.value c.in_ok-last.ensures.plain

pub returns-clause-plain : goal.returns-clause-plain
returns-clause-plain c = λ none.
    let both : (c.in_ok-varies.varies || c.in_ok-last.last.varies) ≡ c.if-varies.varies =
    elim c.if-varies.branch [
      | then-varies w ↦ ap (λ t. t || c.in_ok-last.last.varies) w.if-varies.true ∙ sym w.if-varies.true ∙ sym w.varies-is
      | else-varies w ↦ ap (λ t. t || c.in_ok-last.last.varies) w.if-varies.false ∙ sym w.varies-is
    ] in
    let moving : Moving = record { low = c.span-low.result.0; to = c.len.result; base = c.args.base; room = c.saturating_sub.result } in
    let s = c.span-low.ensures in
    last_plain c.args.from.now.items moving (contents_of c.args.chains.now) (contents_of c.place_each.new.chains) (contents_of c.place.new.chains) c.span-low.result.1 c.args.root.at c.in_ok-varies.varies c.in_ok-last.last.varies c.get-cell.result
    c.in_ok-varies.ensures.moved (omega arith) s.order c.get-cell.ensures.value c.get-cell.ensures.before s.first s.before c.in_ok-last.ensures.value c.in_ok-last.ensures.plain c.in_ok-last.last.place.at c.in_ok-last.ensures.place (both ∙ none)

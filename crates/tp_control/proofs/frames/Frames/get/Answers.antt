use Rattle.std.proofs.Common.{◌≡◌, ℕ, List, ◌∷◌, ◌<◌, length, Some, slice_get, ap, subst, arith, rules}
use Rattle.tp_control.specs.declared.frames.Frame.{Frame}
use Rattle.tp_control.specs.declared.frames.Item.{Item}
use Rattle.tp_control.specs.Lists.{items_at, lists}
use Rattle.tp_control.proofs.ListsStay.{length-lists, items_at-frame, next_within}
use Rattle.tp_control.proofs.frames.Frames.get.Goals as goal

within : (fs : List Frame) (ls : List (List Item)) (at : ℕ) → lists fs ≡ ls → at < length ls → at < length fs
within fs ls at e h = omega (arith, length-lists fs, ap length e)

pub get-frame-requires : goal.get-frame-requires
get-frame-requires c =
    let h = within c.self.inside.frames c.args.self.now c.args.at.at c.self.view_is c.requires in
    search (rules, h)

pub returns-clause-list : goal.returns-clause-list
returns-clause-list c =
    let fs = c.self.inside.frames in
    let f = c.get-frame.result in
    let here : slice_get fs c.args.at.at ≡ Some f = c.get-frame.ensures in
    subst (λ ls. items_at ls (Some c.args.at) ≡ f.item ∷ items_at ls f.next) c.self.view_is
    (items_at-frame fs c.args.at.at f here (c.self.invariant c.args.at.at f here))

pub returns-clause-next : goal.returns-clause-next
returns-clause-next c =
    let fs = c.self.inside.frames in
    let f = c.get-frame.result in
    let here : slice_get fs c.args.at.at ≡ Some f = c.get-frame.ensures in
    next_within f.next c.args.at.at (length c.args.self.now) c.requires (c.self.invariant c.args.at.at f here)

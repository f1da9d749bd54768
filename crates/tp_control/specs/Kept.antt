-- Frames as they are kept.
use Rattle.std.specs.Prelude.{ℕ, zero, suc, ◌+◌, ◌<◌, ◌^◌, Option, Some, None, IfSome}
use Rattle.tp_terms.specs.declared.world.ItemId.{ItemId}
use Rattle.tp_control.specs.declared.frames.Item.TheVariants as item
use Rattle.tp_control.specs.declared.frames.Frame.{Frame}
use Rattle.tp_control.specs.declared.kept.Kept.{Kept}
use Rattle.tp_control.specs.declared.kept.Kept.TheVariants as kept

-- the place that a number stands for: places are counted from 1, and 0 is none
abbrev pub place_of : ℕ → Option ItemId
place_of zero = None
place_of (suc n) = Some (record { at = n })

-- the frame that is kept
abbrev pub frame_of : Kept → Frame
frame_of (kept.Goal next goal barrier) =
    record { item = item.Goal goal barrier; next = place_of next }
frame_of (kept.Commit next stamp) = record { item = item.Commit stamp; next = place_of next }
frame_of (kept.Retry next goal) = record { item = item.Retry goal; next = place_of next }

-- the place behind an item can be kept
abbrev pub IsNear : Option ItemId → Type 0
IsNear next = IfSome next (λ i. i.at + 1 < 2 ^ 32)

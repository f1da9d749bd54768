-- Meters that count a history, in a list of boxes, and their lines.
pub mod Histories
pub mod Boxes
pub mod Counted

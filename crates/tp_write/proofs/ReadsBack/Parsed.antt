-- From tokens to the tree: what may stand before and behind a term, its parts, its forms, the table of the start, and the
-- whole.
pub mod Ends
pub mod Parts
pub mod Forms
pub mod Start
pub mod Whole

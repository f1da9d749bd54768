-- The reader's functions read what the definition reads: words as tokens, steps as trees, each exit, each loop, and the
-- whole of a clause or a goal.
pub mod Words
pub mod Steps
pub mod Exits
pub mod Loops
pub mod Whole

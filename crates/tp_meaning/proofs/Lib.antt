pub mod ProcessGoals
pub mod Bodies
pub mod OwnGoals
pub mod Unification
pub mod Searching
pub mod ValidWorlds
pub mod WorkedRows
pub mod HeapsGrow

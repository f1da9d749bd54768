-- A machine with a stack of choices finds what the search finds.
pub mod Loop
pub mod Stack
pub mod Turns
pub mod Rules

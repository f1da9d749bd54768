-- Choices, what a cut takes away, and the way back to the newest.
pub mod Choices
pub mod Cut
pub mod Rewound
pub mod Forgotten

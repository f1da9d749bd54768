-- Every list of tokens has exactly one reading or exactly one stop: the function of reading follows the grammar both ways.
pub mod Tokens
pub mod Complete
pub mod Sound
pub mod StopsComplete
pub mod StopsSound
pub mod Places
pub mod Outcomes
mod Examples

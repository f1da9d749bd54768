-- Each form of a token, one character at a time.
pub mod Numerals
pub mod Gaps
pub mod Meant
pub mod Quoted

-- Where the characters of a text begin, and what follows a part of them.
pub mod Bytes
pub mod Suffixes

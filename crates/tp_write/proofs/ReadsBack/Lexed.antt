-- From characters to tokens: the characters that a term is written with, each kind of token, all tokens, what the pieces
-- spell, and the whole.
pub mod Characters
pub mod Words
pub mod Numbers
pub mod Quoted
pub mod Tokens
pub mod Spelled
pub mod Whole

-- What is written reads back: the pieces of a term and their shape, from characters to tokens, from tokens to the tree,
-- its variables renumbered, and the whole.
pub mod Pieces
pub mod Shape
pub mod Lexed
pub mod Parsed
pub mod Renumbered
pub mod Whole

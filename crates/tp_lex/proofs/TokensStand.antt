-- The tokens of a text, one after another, stand where their bytes say.
pub mod Each
pub mod Listed

-- The base of a text has the model of the text.
pub mod Text
pub mod ReadTerm
pub mod Whole

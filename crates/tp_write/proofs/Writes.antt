-- What is added is the written form: of names, of forms and parentheses by cells, of pieces, which have less to do each
-- time, and of each step of the work.
pub mod Names
pub mod Forms
pub mod Pieces
pub mod Weights
pub mod Steps

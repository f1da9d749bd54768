-- names and terms as they are written
pub mod Examples
-- following bindings comes to an end
pub mod BindingsEnd
-- what is added is the written form
pub mod Writes
-- what is written reads back
mod ReadsBack

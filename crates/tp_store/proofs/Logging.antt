-- Bindings with a log: the entries of further pairs, and the pair that is taken back.
pub mod Numbers
pub mod Entries
pub mod Search
pub mod Head

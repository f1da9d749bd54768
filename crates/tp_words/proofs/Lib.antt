pub mod ReadsWords

-- every list of tokens has one reading or one stop
pub mod OneReading
-- the table of operators
pub mod Operators
-- the reader's functions read what the definition reads
pub mod ReadsTerms
-- the cells show the tree with its variables numbered
pub mod Numbered
-- what holds of every term that is read
pub mod WhatIsRead

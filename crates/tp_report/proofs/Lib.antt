pub mod Parts
pub mod AnswerLines
pub mod LastLine
pub mod WorldLines

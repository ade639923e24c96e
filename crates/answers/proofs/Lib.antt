pub mod Cells
pub mod Answers

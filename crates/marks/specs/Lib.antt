pub mod Marks
pub mod briefs

pub mod Whole
pub mod Contents
pub mod Planning

pub mod Firsts
pub mod Goals
pub mod Stepping
pub mod Searching

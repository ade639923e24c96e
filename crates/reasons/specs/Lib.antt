pub mod Searching
pub mod leading
pub mod missing

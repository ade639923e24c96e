pub mod Hashing
pub mod Chaining

pub mod Bits
pub mod Marking
pub mod Uniting

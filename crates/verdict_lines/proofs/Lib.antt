pub mod Examples
pub mod Numerals
pub mod Putting
pub mod Wanted

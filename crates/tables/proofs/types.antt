pub mod Filling
pub mod Records
pub mod Meaning
pub mod Kept
pub mod Bindings

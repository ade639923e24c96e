pub mod Pairs
pub mod Targets

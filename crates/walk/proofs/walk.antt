pub mod Chains
pub mod Known
pub mod Turns

pub mod Index
pub mod Chains
pub mod Codes
pub mod Tests
pub mod Known

pub mod Resting
pub mod tested
pub mod dropping
pub mod shrinking

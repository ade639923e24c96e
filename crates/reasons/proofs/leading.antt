pub mod Bound
pub mod Given

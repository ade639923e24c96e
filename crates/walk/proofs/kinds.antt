pub mod Dispatch
pub mod States
pub mod Taking

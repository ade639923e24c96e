pub mod Running
pub mod Paths

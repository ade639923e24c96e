pub mod Worlds
pub mod notes
pub mod heads
pub mod masks

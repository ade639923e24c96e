pub mod closures
pub mod fronts
pub mod heads

pub mod Rows
pub mod Arrows
pub mod Filling

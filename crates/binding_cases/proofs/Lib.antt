pub mod Parts
pub mod Starting
pub mod Tables

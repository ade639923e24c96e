pub mod Counting
pub mod Flagged
pub mod Going
pub mod Leaving
pub mod Turning

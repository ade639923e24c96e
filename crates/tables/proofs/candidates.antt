pub mod Walking
pub mod Entering
pub mod Leaving

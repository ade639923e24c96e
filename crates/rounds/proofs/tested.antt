pub mod Clearing
pub mod Placing
pub mod Testing
pub mod Retesting

pub mod Earlier
pub mod Stays

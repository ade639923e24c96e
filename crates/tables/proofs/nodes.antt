pub mod Filling
pub mod Places
pub mod Meaning

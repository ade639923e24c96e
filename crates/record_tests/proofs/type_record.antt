pub mod Numbers
pub mod Codes

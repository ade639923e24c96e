pub mod Codes
pub mod Taking

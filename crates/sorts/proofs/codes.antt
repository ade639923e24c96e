pub mod Codes
pub mod FileSorts

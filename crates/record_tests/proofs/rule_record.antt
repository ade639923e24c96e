pub mod Cells
pub mod Codes

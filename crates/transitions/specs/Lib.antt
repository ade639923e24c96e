pub mod table
pub mod places
pub mod rows

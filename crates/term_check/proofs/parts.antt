pub mod Parting
pub mod Noting

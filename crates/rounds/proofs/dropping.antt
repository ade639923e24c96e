pub mod Joining
pub mod Gone
pub mod LentParts

pub mod Judging
pub mod Refused
pub mod Room

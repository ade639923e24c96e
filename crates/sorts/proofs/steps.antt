pub mod Parameters
pub mod Offs

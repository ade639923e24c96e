pub mod Offs

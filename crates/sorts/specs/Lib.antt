pub mod codes

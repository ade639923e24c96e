pub mod Nodes
pub mod Closures
pub mod Promises

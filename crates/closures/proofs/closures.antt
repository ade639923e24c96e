pub mod Trees
pub mod Nodes
pub mod Closures
pub mod Measuring
pub mod Capping
pub mod Spreading

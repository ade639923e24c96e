pub mod Loop
pub mod Nodes
pub mod Backward
pub mod Scanning
pub mod Deciding

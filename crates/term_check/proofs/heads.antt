pub mod Sets
pub mod Candidates
pub mod Matching
pub mod Building
pub mod Looking
pub mod Wanting
pub mod Next

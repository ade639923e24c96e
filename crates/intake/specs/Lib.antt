pub mod plan
pub mod evidence
pub mod intake

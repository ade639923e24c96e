pub mod Goals
pub mod Rules
pub mod Places

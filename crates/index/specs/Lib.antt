pub mod layout
pub mod entries
pub mod lookup
pub mod repeats
pub mod chains
pub mod enter
pub mod Wholes

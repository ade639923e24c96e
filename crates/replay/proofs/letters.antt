pub mod Bodies
pub mod Arguments
pub mod Letters

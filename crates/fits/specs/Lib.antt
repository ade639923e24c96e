pub mod masks
pub mod fits
pub mod misfits

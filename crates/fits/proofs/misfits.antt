pub mod Misfits
pub mod Offers

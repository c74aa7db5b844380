pub mod Fits
pub mod Turns

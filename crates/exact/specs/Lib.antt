pub mod Numbers
pub mod Enclosures
pub mod Laws

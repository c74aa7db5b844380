pub mod Layout
pub mod Letters
pub mod Refusals
pub mod Records
pub mod Files
pub mod Numbers
pub mod Lists
pub mod Laws

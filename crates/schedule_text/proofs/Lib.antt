pub mod Good
pub mod Told
pub mod Lines

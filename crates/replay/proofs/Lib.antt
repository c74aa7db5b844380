pub mod Along
pub mod Steps
pub mod Loops
pub mod Opens

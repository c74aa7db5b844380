pub mod Watches
pub mod Channels
pub mod References
pub mod Theorem
pub mod Running
pub mod Opening

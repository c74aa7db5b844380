pub mod Log
pub mod Theorem
pub mod Replaying
